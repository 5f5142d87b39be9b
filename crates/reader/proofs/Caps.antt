-- Numbers that stop at a limit, and a stack that is empty. Assumes nothing.
use Rattle.std.specs.Option.{option_to_list}
use Rattle.std.specs.List.{slice_get}
use Rattle.std.proofs.Common.{◌≡◌, ℕ, zero, suc, ◌-◌, ◌*◌, ◌<◌, min, List, [], ◌∷◌, ◌++◌, length, None, Option, sym, refl, ap, ◌∙◌, ⊎_elim, suc-mul, zero-mul, append-nil, arith}
use Rattle.std.proofs.lemmas.Bool.{cases_lt}
use Rattle.list.specs.Entries.{last}

pub cap_product : (n a m : ℕ) → min (n * min a m) m ≡ min (n * a) m
cap_product n a m = ⊎_elim (λ h. past n h) (λ h. let e : min a m ≡ a = omega arith in ap (λ x. min (n * x) m) e) (cases_lt m a)
  where
    past : (k : ℕ) → m < a → min (k * min a m) m ≡ min (k * a) m
    past zero h = simp zero-mul
    past (suc k) h = simp suc-mul (omega arith)

-- where nothing could be taken off a stack, there was nothing
pub none_last : {A : Type 0} (xs : List A) → last xs ≡ None → xs ≡ []
none_last [] e = refl
none_last {A = A} (x ∷ xs) e = let k : length xs ≡ length (x ∷ xs) - 1 = omega arith in absurd (some (x ∷ xs) (length xs) (omega arith) (ap (slice_get (x ∷ xs)) k ∙ e))
  where
    some : (ys : List A) (i : ℕ) → i < length ys → slice_get ys i ≡ None → ⊥
    some (y ∷ ys) zero h e = cc
    some (y ∷ ys) (suc i) h e = some ys i (omega arith) e
    some [] i h e = omega arith

pub none_popped : {A : Type 0} (xs ys : List A) (o : Option A) → o ≡ last xs → o ≡ None → xs ≡ ys ++ option_to_list o → (xs ≡ []) × (ys ≡ [])
none_popped xs ys o e n s =
    let a : xs ≡ [] = none_last xs (sym e ∙ n) in
    let b : xs ≡ ys = s ∙ ap (λ p. ys ++ option_to_list p) n ∙ append-nil ys in
    (a, sym b ∙ a)
