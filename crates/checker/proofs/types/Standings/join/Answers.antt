use Rattle.std.proofs.Common.{arith}
use Rattle.checker.proofs.Tables.{both_all}
use Rattle.checker.proofs.types.Standings.join.Goals as goal

pub returns : goal.returns
returns c = both_all c.args.self.now.of c.loop-name.s-items c.args.with.now.of _ c.loop-name.invariant (omega (arith, c.loop-name.invariant.long))
