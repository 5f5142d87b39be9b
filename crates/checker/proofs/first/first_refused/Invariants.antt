use Rattle.checker.specs.States.{tables}
use Rattle.checker.proofs.Whole.{Going}
use Rattle.checker.proofs.first.first_refused.Given as goal

abbrev pub invariant-loop-turn : goal.invariant-loop-turn
invariant-loop-turn l = Going l.rows l._turn (tables l.check.entries)
