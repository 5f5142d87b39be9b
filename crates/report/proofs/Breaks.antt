-- Line feeds are counted only as far as the line of a place begins. Assumes nothing.
use Rattle.std.specs.Prelude.{count_by, take_while}
use Rattle.std.proofs.Common.{◌≡◌, ℕ, suc, ◌+◌, ◌-◌, ◌<◌, Bool, true, false, cond, not, List, [], ◌∷◌, length, get_or, reverse, take, drop, refl, sym, ap, ◌∙◌, subst, arith}
use Rattle.std.specs.List.{prefix_len}
use Rattle.std.proofs.lemmas.List.{length-reverse, length-drop, get_or-reverse, get_or-drop}
use Rattle.std.proofs.lemmas.List.Folds.{length-prefix_len}
use Rattle.std.proofs.lemmas.List.Sums.{prefix_len-le-length, prefix_len_passes, sum_by-take-drop}
use Rattle.report.specs.Lines.{is_break, no_break}

no : (b : Bool) → not b ≡ true → b ≡ false
no b e = grind arith

-- no line feed is none to count
none : (xs : List ℕ) → ((k : ℕ) → k < length xs → no_break (get_or xs k 0) ≡ true) → count_by is_break xs ≡ 0
none [] h = refl
none (x ∷ xs) h =
    let e : is_break x ≡ false = no (is_break x) (h 0 (omega arith)) in
    let f = none xs (λ k l. h (suc k) (omega arith)) in
    let g : ◌≡◌ {A = ℕ} (cond (is_break x) 1 0) 0 = ap (λ b. cond b 1 0) e in
    let all : 0 + cond (is_break x) 1 0 + count_by is_break xs ≡ count_by is_break (x ∷ xs) = sum_by-take-drop (λ b. cond (is_break b) 1 0) (x ∷ xs) 1 in
    omega (arith, f, g, all)

-- behind where the last line begins there is no line feed
pub counted : (xs : List ℕ) (s : ℕ) → s ≡ length xs - length (take_while no_break (reverse xs)) → count_by is_break (take s xs) ≡ count_by is_break xs
counted xs s e =
    let n = prefix_len no_break (reverse xs) in
    let w = length-prefix_len no_break (reverse xs) in
    let r = length-reverse xs in
    let m = prefix_len-le-length no_break (reverse xs) in
    let d = length-drop s xs in
    let rest : count_by is_break (drop s xs) ≡ 0 = none (drop s xs) (λ k l.
    let j = length xs - 1 - (s + k) in
    let below : j < n = omega (arith, l, d, e, w, r, m) in
    let back : length xs - 1 - j ≡ s + k = omega (arith, l, d, e, w, r, m) in
    let at = get_or-reverse xs j 0 (omega (arith, l, d)) ∙ ap (λ i. get_or xs i 0) back ∙ sym (get_or-drop s xs k 0) in
    subst (λ b. no_break b ≡ true) at (prefix_len_passes no_break (reverse xs) j 0 below)) in
    let all = sum_by-take-drop (λ x. cond (is_break x) 1 0) xs s in
    omega (arith, all, rest)
