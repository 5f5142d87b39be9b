use Rattle.std.proofs.Common.{refl}
use Rattle.checker.proofs.Stacks.{popped}
use Rattle.checker.proofs.types.Check.close.Goals as goal

pub returns : goal.returns
returns c = popped c.args.self.now _ c.pop.result (λ all. refl) c.pop.ensures.said c.pop.ensures.list
