use Rattle.std.proofs.Common.{min, true, false, ℤ, Ok, sym, ap, ◌∙◌, subst, arith, w32, rules}
use Rattle.std.proofs.lemmas.Int.{to_z-of_z}
use Rattle.memory.specs.declared.Spent.{Spent}
use Rattle.memory.specs.Plan.{applied}
use Rattle.undo.specs.Log.{Log64, write, first_word, Cell}
use Rattle.undo.specs.Works.{put_good, put_is, put_not, fresh_room}
use Rattle.undo.proofs.calls.UndoMemory.put.Goals as goal

pub invariant_of-self : goal.invariant_of-self
invariant_of-self c =
    let w = c.args.self.now.words in
    record { fine = subst Log64 (sym c.put_first.ensures.left) ((put_good w c.args.self.now.fine c.args.i _ c.in_ok-check_cell.ensures.there true (sym c.is_fresh.ensures ∙ c.if-is_fresh.true)).fines (min c.args.units 4) (omega arith)) }

pub invariant_of-self-else-is_fresh : goal.invariant_of-self-else-is_fresh
invariant_of-self-else-is_fresh c =
    let w = c.args.self.now.words in
    record { fine = subst Log64 (sym c.put.ensures.left) ((put_good w c.args.self.now.fine c.args.i _ c.in_ok-check_cell.ensures.there false (sym c.is_fresh.ensures ∙ c.if-is_fresh.false)).fines (min c.args.units 1) (omega arith)) }

pub returns-in_err-check_cell : goal.returns-in_err-check_cell
returns-in_err-check_cell c =
    let q = put_not c.args.self.now.words c.args.self.now.fine c.args.i c.args.x c.in_err-check_cell.ensures.there in
    search (rules, q)

pub put_first-requires : goal.put_first-requires
put_first-requires c =
    let l = c.args.self.now.fine in
    (omega (arith, l.small, c.in_ok-check_cell.ensures.there), fresh_room c.args.self.now.words l c.args.i c.in_ok-check_cell.ensures.there (sym c.is_fresh.ensures ∙ c.if-is_fresh.true))

pub returns-then-is_fresh : goal.returns-then-is_fresh
returns-then-is_fresh c =
    let p = put_is c.args.self.now.words c.args.self.now.fine c.args.i c.args.x c.args.units true c.in_ok-check_cell.ensures.there (sym c.is_fresh.ensures ∙ c.if-is_fresh.true) in
    let e = c.put_first.ensures in
    let x = to_z-of_z w32 c.args.x c.ranges.x in
    record { said = ap (λ (s : Spent). Ok s) e.said ∙ sym p.0; left = e.left ∙ ap (λ (y : ℤ). applied write (first_word c.args.self.now.words c.args.i y) c.args.self.now.words (min c.args.units 4)) x ∙ sym p.1 }

pub returns-else-is_fresh : goal.returns-else-is_fresh
returns-else-is_fresh c =
    let p = put_is c.args.self.now.words c.args.self.now.fine c.args.i c.args.x c.args.units false c.in_ok-check_cell.ensures.there (sym c.is_fresh.ensures ∙ c.if-is_fresh.false) in
    let e = c.put.ensures in
    let x = to_z-of_z w32 c.args.x c.ranges.x in
    record { said = ap (λ (s : Spent). Ok s) e.said ∙ sym p.0; left = e.left ∙ ap (λ (y : ℤ). applied write (λ _. Cell c.args.i y) c.args.self.now.words (min c.args.units 1)) x ∙ sym p.1 }
