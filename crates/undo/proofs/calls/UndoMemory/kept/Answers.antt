use Rattle.std.proofs.Common.{ℤ, Ok, sym, ap, ◌∙◌, w32, SFits, rules}
use Rattle.std.proofs.lemmas.Int.{to_z-of_z}
use Rattle.undo.specs.Works.{kept_is, kept_not}
use Rattle.undo.proofs.calls.UndoMemory.kept.Goals as goal

pub returns-in_err-check_cell : goal.returns-in_err-check_cell
returns-in_err-check_cell c =
    let q = kept_not c.args.self.now.words c.args.self.now.fine c.args.i c.in_err-check_cell.ensures.there in
    search (rules, q)

pub returns : goal.returns
returns c =
    let f : SFits w32 c.old_value.result = search rules in
    ap (λ (y : ℤ). Ok y) (to_z-of_z w32 c.old_value.result f ∙ c.old_value.ensures) ∙ sym (kept_is c.args.self.now.words c.args.self.now.fine c.args.i c.in_ok-check_cell.ensures.there)
