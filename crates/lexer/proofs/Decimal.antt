-- A number that stops growing at a limit has the value that a token keeps. Assumes nothing.
use Rattle.std.proofs.Common.{◌≡◌, ℕ, ◌+◌, ◌-◌, ◌*◌, ◌≤◌, min, List, [], ◌∷◌, sym, ap, ◌∙◌, inl, inr, arith}
use Rattle.std.specs.List.{fold}
use Rattle.std.proofs.lemmas.Bool.{cases_lt}
use Rattle.script.specs.Tokens.{decimal}

grows : (n : ℕ) (ds : List ℕ) → n ≤ decimal n ds
grows n [] = omega arith
grows n (d ∷ ds) = let h = grows (n * 10 + (d - 48)) ds in omega arith

-- past the limit all are one
full : (n : ℕ) (ds : List ℕ) → 2147483648 ≤ n → min (decimal n ds) 2147483648 ≡ 2147483648
full n ds h = let g = grows n ds in omega arith

capped : (n : ℕ) (ds : List ℕ) → min (decimal (min n 2147483648) ds) 2147483648 ≡ min (decimal n ds) 2147483648
capped n ds =
    elim (cases_lt n 2147483648) [
      | inl h ↦ (let e : min n 2147483648 ≡ n = omega arith in ap (λ m. min (decimal m ds) 2147483648) e)
      | inr h ↦ full (min n 2147483648) ds (omega arith) ∙ sym (full n ds h)
    ]

-- the value, digit by digit
pub folded : (n : ℕ) (ds : List ℕ) → n ≤ 2147483648 → fold (λ m d. min (m * 10 + (d - 48)) 2147483648) n ds ≡ min (decimal n ds) 2147483648
folded n [] h = omega arith
folded n (d ∷ ds) h = let m : ℕ = n * 10 + (d - 48) in folded (min m 2147483648) ds (omega arith) ∙ capped m ds
