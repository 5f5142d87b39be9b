use Rattle.std.proofs.Common.{◌≡◌, ◌+◌, ◌≤◌, true, false, ℤ, length, slice_index_or, sym, ◌∙◌, subst, w32, SFits, rules}
use Rattle.std.proofs.lemmas.Int.{to_z-of_z}
use Rattle.list.specs.Fixed.{Held}
use Rattle.script.specs.declared.row.Row.{Row}
use Rattle.script.specs.declared.row.Role.TheVariants as role
use Rattle.script.specs.Roles.{is}
use Rattle.reader.proofs.Listing.{pushed, pushed_few}
use Rattle.reader.proofs.Numbers.{cell_fits, Found, found_main, found_past, found_one, found_all}
use Rattle.reader.proofs.cells.numbers_of.Goals as goal
use Rattle.reader.proofs.cells.numbers_of.Goals.{then-eq-2, else-eq-2}

pub signed-requires : goal.signed-requires
signed-requires c =
    let r : Row = slice_index_or c.args.rows.now c.loop-row.row-index (record { role = role.CellWord; place = 0; len = 0; value = 0 }) in
    let e : is r.role role.CellNumber ≡ true = search rules in
    cell_fits c.args.rows.now c.loop-row.row-index _ c.requires c.loop-row-test.true e

pub returns-then-eq : goal.returns-then-eq
returns-then-eq c =
    let r : Row = slice_index_or c.args.rows.now c.loop-row.row-index (record { role = role.CellWord; place = 0; len = 0; value = 0 }) in
    let e : true ≡ is r.role role.MainWord = search rules in
    found_main c.args.rows.now c.loop-row.values.items c.loop-row.minus c.loop-row.row-index c.loop-row.invariant.1 c.loop-row-test.true _ c.loop-row.invariant.0 e

pub loop-row-preserved : goal.loop-row-preserved
loop-row-preserved c =
    let rs = c.args.rows.now in
    let i = c.loop-row.row-index in
    let r : Row = slice_index_or rs i (record { role = role.CellWord; place = 0; len = 0; value = 0 }) in
    let before = c.loop-row.values.items in
    let few = c.loop-row.invariant.0 in
    let so = c.loop-row.invariant.1 in
    let main : false ≡ is r.role role.MainWord = search rules in
    let minus : c.eq-minus.result ≡ is r.role role.CellMinus = search rules in
    let P : Held ℤ → Type 0 = λ h. (length h.items ≤ 64) × Found rs h.items c.eq-minus.result (i + 1) in
    elim c.if-eq-2.branch [
      | then-eq-2 w ↦
          let here : true ≡ is r.role role.CellNumber = search rules in
          let f : SFits w32 w.signed.result = search rules in
          let p = pushed 64 before _ _ few w.push.ensures.list in
          subst P (sym w.values-is) (pushed_few 64 before _ _ few w.push.ensures.list, found_one rs before c.loop-row.minus i so c.loop-row-test.true _ _ _ _ main here minus (to_z-of_z w32 _ f ∙ w.signed.ensures) p)
      | else-eq-2 w ↦
          let past : false ≡ is r.role role.CellNumber = search rules in
          subst P (sym w.values-is) (few, found_past rs before c.loop-row.minus i so c.loop-row-test.true _ _ main past minus)
    ]

pub returns-after-loop-row : goal.returns-after-loop-row
returns-after-loop-row c = found_all c.args.rows.now c.loop-row.values.items c.loop-row.minus c.loop-row.row-index c.loop-row.invariant.1 c.loop-row.invariant.0 c.loop-row-test.false
