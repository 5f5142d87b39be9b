use Rattle.std.proofs.Common.{arith}
use Rattle.checker.proofs.Tables.{older_all}
use Rattle.checker.proofs.types.Standings.age.Goals as goal

pub returns : goal.returns
returns c = older_all c.args.self.now.of c.loop-s.s-items _ c.loop-s.invariant (omega (arith, c.loop-s.invariant.long))
