use Rattle.std.proofs.Common.{◌≡◌, ℤ, ◌∙◌, w32, rules}
use Rattle.std.specs.Int.{int_wrap as wrapped_at}
use Rattle.std.proofs.lemmas.Int.{wrapping_mul_is}
use Rattle.script.specs.Values.{wrapped}
use Rattle.evaluate.proofs.arithmetic.multiply.Goals as goal

at_32 : (z : ℤ) → wrapped_at w32 z ≡ wrapped z
unfolding wrapped_at
at_32 z = search rules

pub returns : goal.returns
returns c = wrapping_mul_is w32 c.args.a c.args.b c.ranges.a c.ranges.b ∙ at_32 _
