use Rattle.std.proofs.Common.{length, sym, ap, ◌∙◌, rules}
use Rattle.std.proofs.lemmas.Result.{err_from_is_err_and}
use Rattle.reader.proofs.Asked.{stop_12, more_names}
use Rattle.reader.proofs.Built.{read_script}
use Rattle.reader.proofs.read.build.Goals as goal

pub returns-in_err-total : goal.returns-in_err-total
returns-in_err-total c =
    let p = err_from_is_err_and c.from_residual-in_err-total.result c.from_residual-in_err-total.ensures.1 in
    let e = c.in_err-total.ensures in
    rw (p.1, p.2) (stop_12 c.args.text.now c.args.rows.now c.requires c.in_ok-ask_names.ensures _ e.0 e.1)

pub overflow_sub-result : goal.overflow_sub-result
overflow_sub-result c =
    more_names c.args.text.now c.args.rows.now c.requires c.in_ok-ask_names.ensures c.len.result c.len-cells.result c.names_of-names.result.list.items
    c.names_of-names.ensures.list (sym c.len.ensures) (c.len-cells.ensures ∙ ap length c.cells_of.ensures.list)

pub invariant_of-result : goal.invariant_of-result
invariant_of-result c =
    let b = read_script c.args.text.now c.args.rows.now c.requires c.in_ok-ask_names.ensures _ _ _ _ _ _ _ _ c.in_ok-total.ensures c.get.ensures c.get-2.ensures
    c.names_of-names.ensures.list c.len.ensures (c.len-cells.ensures ∙ ap length c.cells_of.ensures.list) c.names_of-names.ensures.text c.number_all.ensures in
    record { long = search rules; short = c.requires.few; whole = b.whole; nested = b.nested; fits = b.fits; repeats = b.repeats; small = b.small; cells_are = b.cells_are; locals_are = b.locals_are; steps_are = b.steps_are; readings_are = b.readings_are; few_cells = b.few_cells; few_locals = b.few_locals; few_steps = b.few_steps; few_readings = b.few_readings }

pub returns : goal.returns
returns c =
    let b = read_script c.args.text.now c.args.rows.now c.requires c.in_ok-ask_names.ensures _ _ _ _ _ _ _ _ c.in_ok-total.ensures c.get.ensures c.get-2.ensures
    c.names_of-names.ensures.list c.len.ensures (c.len-cells.ensures ∙ ap length c.cells_of.ensures.list) c.names_of-names.ensures.text c.number_all.ensures in
    b.holds
