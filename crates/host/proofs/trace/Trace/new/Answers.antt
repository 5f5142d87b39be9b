use Rattle.std.proofs.Common.{arith, ◌∙◌, ap, subst, sym, Ok, length}
use Rattle.std.proofs.lemmas.List.{take_all}
use Rattle.host.proofs.Samples.{in_order, right, answered}
use Rattle.host.specs.Order.{InOrder}
use Rattle.host.proofs.trace.Trace.new.Goals as goal

pub invariant_of-result : goal.invariant_of-result
invariant_of-result c =
    let rows = c.args.rows.now in
    let all = c.of.ensures ∙ take_all 1024 rows (omega arith) in
    record { few = omega (arith, ap length all); ordered = subst InOrder (sym all) (in_order 0 0 rows (sym c.fall_row.ensures ∙ answered 33 c.fall_row.result c.in_ok-answer-2.ensures)) }

pub returns : goal.returns
returns c =
    let rows = c.args.rows.now in
    ap Ok (c.of.ensures ∙ take_all 1024 rows (omega arith))
    ∙ right rows c.if-rows-gt-MAX_SAMPLES.false (sym c.outside_row.ensures ∙ answered 32 c.outside_row.result c.in_ok-answer.ensures) (sym c.fall_row.ensures ∙ answered 33 c.fall_row.result c.in_ok-answer-2.ensures)
