use Rattle.std.proofs.Common.{drop}
use Rattle.checker.specs.States.{state_of}
use Rattle.checker.proofs.Stacks.{entered}
use Rattle.checker.proofs.types.Check.enter.Goals as goal

pub returns : goal.returns
returns c = λ all.
    let r = c.rise-self.ensures in
    entered (state_of all c.args.self.now) (state_of all c.open.new.self) _ _ (drop c.args.from all) _ (c.open.ensures all) (r.moves all) r.value c.rise-self.result.long c.open.new.self.table.long c.min-self.ensures
