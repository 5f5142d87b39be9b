use Rattle.std.proofs.Common.{◌≡◌, ◌+◌, slice_index_or, sym, ap, ◌∙◌, subst}
use Rattle.script.specs.declared.row.Row.{Row}
use Rattle.script.specs.declared.row.Role.TheVariants as role
use Rattle.script.specs.Names.{among}
use Rattle.reader.specs.declared.names.table.Names.{Names}
use Rattle.reader.proofs.Loops.{Once, once_past, once_more}
use Rattle.reader.proofs.names.ask.once.Goals as goal
use Rattle.reader.proofs.names.ask.once.Goals.{then-declares_name+else-has, else-declares_name}

pub loop-row-preserved : goal.loop-row-preserved
loop-row-preserved c =
    let text = c.args.text.now in
    let rs = c.args.rows.now in
    let i = c.loop-row.row-index in
    let of = c.loop-row.invariant.0 in
    let so = c.loop-row.invariant.1 in
    let P : Names → Type 0 = λ s. (s.text.now ≡ text) × Once text rs s.list.items (i + 1) in
    elim c.if-declares_name.branch [
      | then-declares_name+else-has w ↦
          let r : Row = slice_index_or rs i (record { role = role.CellWord; place = 0; len = 0; value = 0 }) in
          let new = w.if-has.ensures ∙ ap (λ t. among t r c.loop-row.seen.list.items) of in
          subst P (sym w.seen-is) (w.push.ensures.text ∙ of, once_more text rs _ i so c.loop-row-test.true _ _ w.if-declares_name.ensures new w.push.ensures.list)
      | else-declares_name w ↦ subst P (sym w.seen-is) (of, once_past text rs _ i so c.loop-row-test.true _ w.if-declares_name.ensures)
    ]
