use Rattle.std.proofs.Common.{◌≡◌, drop}
use Rattle.script.specs.Sizes.{first_where, too_long}
use Rattle.lexer.proofs.sizes.first_too_long.Given as goal

-- what is left to ask decides the answer
abbrev pub invariant-loop-t : goal.invariant-loop-t
invariant-loop-t l = first_where too_long (drop l.t-index l.toks) ≡ first_where too_long l.toks
