use Rattle.parser.proofs.Depth.{Counted}
use Rattle.parser.proofs.nest.nesting.Given as goal

abbrev pub invariant-loop-t : goal.invariant-loop-t
invariant-loop-t l = Counted l.toks l.«open» l.t-index
