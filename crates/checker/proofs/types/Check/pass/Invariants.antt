use Rattle.std.proofs.Common.{◌≡◌, drop}
use Rattle.checker.specs.Machine.{run}
use Rattle.checker.specs.States.{state_of}
use Rattle.checker.proofs.types.Check.pass.Given as goal

abbrev pub invariant-loop-at : goal.invariant-loop-at
invariant-loop-at l = run (drop l.at l.rows) (state_of l.rows l.self) ≡ run l.rows (state_of l.rows l.initial.self)
