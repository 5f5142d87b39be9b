use Rattle.std.proofs.Common.{◌≡◌, ◌+◌, sym, ◌∙◌, subst}
use Rattle.reader.specs.declared.names.table.Names.{Names}
use Rattle.reader.proofs.Listing.{Added, added_past, added_one, added_all}
use Rattle.reader.proofs.names.table.Names.add.Goals as goal
use Rattle.reader.proofs.names.table.Names.add.Goals.{then-wanted, else-wanted}

pub loop-row-preserved : goal.loop-row-preserved
loop-row-preserved g c = (
  let T : Names → Type 0 = λ s. s.text.now ≡ c.args.self.now.text.now in
      elim c.if-wanted.branch [
        | then-wanted w ↦ subst T (sym w.self-is) (w.push.ensures.text ∙ c.loop-row.invariant.0)
        | else-wanted w ↦ subst T (sym w.self-is) c.loop-row.invariant.0
      ],
  λ test is.
      let rs = c.args.rows.now in
      let i = c.loop-row.row-index in
      let so = c.loop-row.invariant.1 test is in
      let told = is _ c.wanted.result c.wanted.ensures in
      let P : Names → Type 0 = λ s. Added test rs c.args.self.now.list.items s.list.items (i + 1) in
      elim c.if-wanted.branch [
        | then-wanted w ↦ subst P (sym w.self-is) (added_one test rs _ _ i so c.loop-row-test.true _ _ (sym w.if-wanted.true ∙ told) w.push.ensures.list)
        | else-wanted w ↦ subst P (sym w.self-is) (added_past test rs _ _ i so c.loop-row-test.true _ (sym w.if-wanted.false ∙ told))
      ],
)

pub returns-clause-list : goal.returns-clause-list
returns-clause-list g c = λ test is. added_all test c.args.rows.now _ _ _ (c.loop-row.invariant.1 test is) c.loop-row-test.false c.loop-row.self.short
