use Rattle.std.proofs.Common.{[], ◌∷◌, ◌++◌, map, take, sym, ap, ◌∙◌, arith, length-set}
use Rattle.std.proofs.lemmas.List.{take_more_set, map_more}
use Rattle.script.specs.Names.{numbered}
use Rattle.reader.proofs.names.table.Names.number_all.Goals as goal

pub loop-i-preserved : goal.loop-i-preserved
loop-i-preserved c =
    let f = numbered c.args.self.now.text.now c.args.self.now.list.items in
    let i = c.loop-i.invariant in (
      length-set c.loop-i.table c.loop-i.i _ ∙ i.0,
      take_more_set c.loop-i.table c.loop-i.i _ (omega (arith, i.0, c.loop-i-test.true, c.requires))
          ∙ ap (λ j. j ++ c.number.result ∷ []) i.1 ∙ ap (λ r. map f (take c.loop-i.i c.args.rows.now) ++ r ∷ []) c.number.ensures
          ∙ sym (map_more f c.args.rows.now c.loop-i.i _ c.loop-i-test.true),
    )
