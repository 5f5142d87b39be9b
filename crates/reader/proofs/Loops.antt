-- The loops that put a question to all rows: what is left gives the answer. Assumes nothing.
use Rattle.std.proofs.Common.{◌≡◌, ℕ, ◌+◌, ◌<◌, ◌≤◌, Bool, true, false, cond, List, [], ◌∷◌, ◌++◌, length, get_or, take, drop, Some, Option, sym, ap, ◌∙◌, arith, length-append}
use Rattle.std.proofs.lemmas.List.{at_drop_more, take_all}
use Rattle.script.specs.declared.row.Row.{Row}
use Rattle.script.specs.Roles.{is, declares, those}
use Rattle.script.specs.Names.{crowded, twice, among, into_cell, no_row}

-- ---- 7

abbrev pub Roomy : List Row → ℕ → ℕ → ℕ → Type 0
Roomy rs cells locals i = (crowded cells locals (drop i rs) ≡ crowded 0 0 rs) × (cells ≤ i) × (locals ≤ i)

-- ---- 8

abbrev pub Once : List ℕ → List Row → List Row → ℕ → Type 0
Once text rs seen i = (twice text seen (drop i rs) ≡ twice text [] rs) × (length seen + length (those declares (drop i rs)) ≤ 128)

module _ (text : List ℕ) (rs seen : List Row) (i : ℕ) (so : Once text rs seen i) where
  module _ (lt : i < length rs) (d : Row) where
    abbrev At : Bool → Bool → Option ℕ
    At b g = cond b (cond g (Some (get_or rs i d).place) (twice text (seen ++ get_or rs i d ∷ []) (drop (i + 1) rs))) (twice text seen (drop (i + 1) rs))

    there : At (declares (get_or rs i d).role) (among text (get_or rs i d) seen) ≡ twice text [] rs
    there = sym (at_drop_more (twice text seen) rs i d lt) ∙ so.0

    count : (b : Bool) → declares (get_or rs i d).role ≡ b → length seen + length (cond b (get_or rs i d ∷ those declares (drop (i + 1) rs)) (those declares (drop (i + 1) rs))) ≤ 128
    count b e = rw (ap (λ c. length (cond c (get_or rs i d ∷ those declares (drop (i + 1) rs)) (those declares (drop (i + 1) rs)))) (sym e)) (rw (at_drop_more (λ l. length (those declares l)) rs i d lt) at so.1)

    pub once_past : false ≡ declares (get_or rs i d).role → Once text rs seen (i + 1)
    once_past e = (ap (λ b. At b (among text (get_or rs i d) seen)) e ∙ there, count false (sym e))

    pub once_more : (seen' : List Row) → true ≡ declares (get_or rs i d).role → false ≡ among text (get_or rs i d) seen → seen' ≡ take 128 (seen ++ get_or rs i d ∷ []) → Once text rs seen' (i + 1)
    once_more seen' e g is =
        let k = count true (sym e) in
        let long : length (seen ++ get_or rs i d ∷ []) ≡ length seen + 1 = length-append seen (get_or rs i d ∷ []) in
        let all : seen' ≡ seen ++ get_or rs i d ∷ [] = is ∙ take_all 128 (seen ++ get_or rs i d ∷ []) (omega (arith, k, long)) in
        (ap (λ l. twice text l (drop (i + 1) rs)) all ∙ (λ j. At (e j) (g j)) ∙ there, omega (arith, k, long, ap length all))

-- ---- 10

abbrev pub ToLocals : List ℕ → List Row → List Row → Row → ℕ → Type 0
ToLocals text cells rs last i = into_cell text cells last (drop i rs) ≡ into_cell text cells no_row rs
