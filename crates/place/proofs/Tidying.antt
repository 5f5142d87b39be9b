-- Going past what is over, one after the other. Assumes nothing.
use Rattle.std.proofs.Common.{◌≡◌, ℕ, suc, ◌+◌, ◌-◌, ◌<◌, ◌≤◌, true, false, cond, List, sym, ap, ◌∙◌, arith}
use Rattle.script.specs.declared.row.Row.{Row}
use Rattle.place.specs.Places.{Left, Slip, slip, tidied}

module _ (all : List Row) where
  pub tidy_more : (i : ℕ) (t u : Left) (goal : Left) → i < 16 → record { moved = true; left = u } ≡ slip all t → tidied (16 - i) all t ≡ goal → tidied (16 - (i + 1)) all u ≡ goal
  unfolding tidied
  tidy_more i t u goal h e inv =
      let n : 16 - i ≡ suc (16 - (i + 1)) = omega arith in
      let f : tidied (16 - i) all t ≡ tidied (16 - (i + 1)) all u =
      ap (λ k. tidied k all t) n ∙ ap (λ (s : Slip). cond s.moved (tidied (16 - (i + 1)) all s.left) s.left) (sym e) in
      sym f ∙ inv

  pub tidy_stop : (i : ℕ) (t u : Left) (goal : Left) → i < 16 → record { moved = false; left = u } ≡ slip all t → tidied (16 - i) all t ≡ goal → u ≡ goal
  unfolding tidied
  tidy_stop i t u goal h e inv =
      let n : 16 - i ≡ suc (16 - (i + 1)) = omega arith in
      let f : tidied (16 - i) all t ≡ u =
      ap (λ k. tidied k all t) n ∙ ap (λ (s : Slip). cond s.moved (tidied (16 - (i + 1)) all s.left) s.left) (sym e) in
      sym f ∙ inv

  pub tidy_end : (i : ℕ) (t : Left) (goal : Left) → 16 ≤ i → tidied (16 - i) all t ≡ goal → t ≡ goal
  unfolding tidied
  tidy_end i t goal h inv = let n : 0 ≡ 16 - i = omega arith in ap (λ k. tidied k all t) n ∙ inv
