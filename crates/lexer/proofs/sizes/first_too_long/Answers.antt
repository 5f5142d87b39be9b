use Rattle.std.proofs.Common.{sym, ◌∙◌}
use Rattle.script.specs.Sizes.{too_long}
use Rattle.lexer.proofs.First.{first_yes, first_no, first_none}
use Rattle.lexer.proofs.sizes.first_too_long.Goals as goal

pub loop-t-preserved : goal.loop-t-preserved
loop-t-preserved c = sym (first_no too_long c.args.toks.now c.loop-t.t-index _ c.loop-t-test.true (sym c.if-is_too_long.ensures)) ∙ c.loop-t.invariant

pub returns-then-is_too_long : goal.returns-then-is_too_long
returns-then-is_too_long c =
    sym (first_yes too_long c.args.toks.now c.loop-t.t-index _ c.loop-t-test.true (sym c.if-is_too_long.ensures)) ∙ c.loop-t.invariant

pub returns : goal.returns
returns c = sym (first_none too_long c.args.toks.now c.loop-t.t-index c.loop-t-test.false) ∙ c.loop-t.invariant
