-- A list in an array: what adding to it and taking from it come to. Assumes nothing.
use Rattle.std.specs.Option.{option_to_list}
use Rattle.std.proofs.lemmas.Option.{slice_get_within, slice_get-get_or, get_or_from_slice_get}
use Rattle.std.proofs.lemmas.Grind.{common_steps}
use Rattle.std.proofs.lemmas.List.{reverse-append, take_all, take_more_set}
use Rattle.std.proofs.Math.Seq.{take-suc}
use Rattle.std.proofs.Common.{◌≡◌, ℕ, suc, ◌+◌, ◌-◌, ◌<◌, true, cond, ltb, List, [], ◌∷◌, ◌++◌, length, length-take-le, take, set, Option, Some, None, refl, ap, sym, ◌∙◌, arith, reverse, append-nil}
use Rattle.list.specs.Entries.{added, last}

module _ {X : Type 0} where
  pub filled : (n : ℕ) (ys : List X) (x : X) → added (take n ys) n x ≡ take n (ys ++ x ∷ [])
  filled n ys x = grind (arith, common_steps)

  -- an entry written behind the first n of a slice
  pub added_at : (xs : List X) (n : ℕ) (x : X) → n < length xs → take (n + 1) (set xs n x) ≡ added (take n xs) (length xs) x
  added_at xs n x h =
      let long : length (take n xs) ≡ n = length-take-le n xs (omega arith) in
      let room : ltb (length (take n xs)) (length xs) ≡ true = grind arith in
      take_more_set xs n x h ∙ sym (ap (λ b. cond b (take n xs ++ x ∷ []) (take n xs)) room)

  pub split_last : (xs : List X) (x : X) → last xs ≡ Some x → xs ≡ take (length xs - 1) xs ++ x ∷ []
  split_last xs x e =
      let h = slice_get_within xs (length xs - 1) x e in
      let n : length xs ≡ suc (length xs - 1) = omega arith in
      sym (take_all (length xs) xs (omega arith)) ∙ ap (λ k. take k xs) n ∙ take-suc xs (length xs - 1) x h ∙ ap (λ z. take (length xs - 1) xs ++ z ∷ []) (get_or_from_slice_get xs (length xs - 1) x x e)

  -- the same as stacks, with the last entry on top
  pub reverse_pushed : (xs : List X) (x : X) → reverse (xs ++ x ∷ []) ≡ x ∷ reverse xs
  reverse_pushed xs x = reverse-append xs (x ∷ [])

  pub reverse_popped : (xs ys : List X) (o : Option X) → xs ≡ ys ++ option_to_list o → reverse xs ≡ option_to_list o ++ reverse ys
  reverse_popped xs ys None e = ap reverse (e ∙ append-nil ys)
  reverse_popped xs ys (Some x) e = ap reverse e ∙ reverse_pushed ys x

  pub last_none : (xs : List X) → last xs ≡ None → xs ≡ []
  last_none [] e = refl
  last_none (x ∷ xs) e =
      let some = slice_get-get_or (x ∷ xs) (length (x ∷ xs) - 1) x (omega arith) in
      let z : ◌≡◌ {A = ℕ} 0 1 = cc in
      absurd (omega arith)

  pub reverse_some : (xs : List X) (x : X) → last xs ≡ Some x → reverse xs ≡ x ∷ reverse (take (length xs - 1) xs)
  reverse_some xs x e = ap reverse (split_last xs x e) ∙ reverse_pushed (take (length xs - 1) xs) x
