use Rattle.std.proofs.Common.{◌-◌, ◌++◌, ◌∷◌, [], take, length, length-take-le, ap, sym, ◌∙◌, arith}
use Rattle.std.proofs.lemmas.List.{take-take}
use Rattle.list.proofs.Fixing.{split_last}
use Rattle.list.proofs.fixed.Fixed.pop.Goals as goal

-- the last entry of what is seen is that of the slots in use
pub returns-clause-list : goal.returns-clause-list
returns-clause-list g c =
    let slots = c.self.inside.slots in
    let n = c.self.inside.len in
    let i = c.self.invariant in
    let x = c.in_ok-last.last in
    let items = ap (λ h. h.items) c.self.view_is in
    let long = length-take-le n slots (omega (arith, i.0, i.1)) in
    let e = split_last c.args.self.now.items x (sym c.last.ensures ∙ c.in_ok-last.was) in
    e ∙ ap (λ xs. take (length xs - 1) xs ++ x ∷ []) (sym items) ∙ ap (λ k. take (k - 1) (take n slots) ++ x ∷ []) long ∙ ap (λ xs. xs ++ x ∷ []) (take-take (n - 1) n slots (omega arith))
