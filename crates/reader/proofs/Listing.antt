-- Lists cut to a length, and names looked up one by one. Assumes nothing.
use Rattle.std.proofs.Common.{◌≡◌, ℕ, zero, suc, ◌+◌, ◌<◌, ◌≤◌, Bool, true, false, cond, not, ltb, is_some, unwrap_or, Option, Some, None, List, [], ◌∷◌, ◌++◌, length, get_or, take, drop, set, sym, refl, ap, ◌∙◌, append_assoc, arith, length-take, length-append}
use Rattle.std.proofs.lemmas.List.{at_drop_more, at_drop_all, take_more_set, take_all, append-nil, take_at}
use Rattle.std.proofs.lemmas.Bool.{ltb-false, ltb-true}
use Rattle.std.proofs.lemmas.List.Recursion.{is_position_or_len}
use Rattle.std.proofs.lemmas.List.Sums.{prefix_len-le-length}
use Rattle.std.specs.List.{position, position_or_len, find}
use Rattle.std.specs.Option.{option_map}
use Rattle.list.specs.Entries.{added}
use Rattle.script.specs.declared.row.Role.{Role}
use Rattle.script.specs.declared.row.Row.{Row}
use Rattle.script.specs.Names.{same_name, index_of, among}
use Rattle.script.specs.Roles.{those, first_row}

pub take_take_append : {A : Type 0} (n : ℕ) (xs ys : List A) → take n (take n xs ++ ys) ≡ take n (xs ++ ys)
take_take_append zero xs ys = refl
take_take_append (suc n) [] ys = refl
take_take_append (suc n) (x ∷ xs) ys = ap (λ l. x ∷ l) (take_take_append n xs ys)

-- ---- one entry more, while there is room

module _ {A : Type 0} (most : ℕ) (xs : List A) (x : A) (ys : List A) (few : length xs ≤ most) (is : ys ≡ added xs most x) where
  pub pushed : ys ≡ take most (xs ++ x ∷ [])
  pushed = is ∙ by (ltb (length xs) most) refl
    where
      by : (b : Bool) → ltb (length xs) most ≡ b → cond b (xs ++ x ∷ []) xs ≡ take most (xs ++ x ∷ [])
      by true e = sym (take_all most (xs ++ x ∷ []) (let h = ltb-true (length xs) most e in omega (arith, h, length-append xs (x ∷ []))))
      by false e = let h = ltb-false (length xs) most e in sym (take_at xs (x ∷ []) most (omega arith))

  pub pushed_few : length ys ≤ most
  pushed_few = omega (arith, ap length pushed, length-take most (xs ++ x ∷ []))

-- the same in an array, of which n entries are in use
pub pushed_slot : {A : Type 0} (most : ℕ) (xs : List A) (n : ℕ) (x : A) → n < most → length xs ≡ most → take (n + 1) (set xs n x) ≡ take most (take n xs ++ x ∷ [])
pushed_slot most xs n x h long =
    let e = take_more_set xs n x (omega arith) in
    e ∙ sym (take_all most (take n xs ++ x ∷ []) (omega (arith, ap length (sym e), length-take (n + 1) (set xs n x))))

pub pushed_past : {A : Type 0} (most : ℕ) (xs : List A) (n : ℕ) (x : A) → most ≤ n → n ≤ most → length xs ≡ most → take n xs ≡ take most (take n xs ++ x ∷ [])
pushed_past most xs n x h g long =
    let l : length (take n xs) ≡ most = omega (arith, length-take n xs) in
    sym (take_at (take n xs) (x ∷ []) most l)

-- ---- the names of a kind

abbrev pub Added : (Role → Bool) → List Row → List Row → List Row → ℕ → Type 0
Added test rs before now' i = take 128 (now' ++ those test (drop i rs)) ≡ take 128 (before ++ those test rs)

module _ (test : Role → Bool) (rs before now' : List Row) (i : ℕ) (so : Added test rs before now' i) where
  module _ (lt : i < length rs) (d : Row) where
    step : take 128 (now' ++ those test (get_or rs i d ∷ drop (i + 1) rs)) ≡ take 128 (before ++ those test rs)
    step = sym (at_drop_more (λ l. take 128 (now' ++ those test l)) rs i d lt) ∙ so

    pub added_past : false ≡ test (get_or rs i d).role → Added test rs before now' (i + 1)
    added_past e = ap (λ b. take 128 (now' ++ cond b (get_or rs i d ∷ those test (drop (i + 1) rs)) (those test (drop (i + 1) rs)))) e ∙ step

    pub added_one : (then' : List Row) → true ≡ test (get_or rs i d).role → then' ≡ take 128 (now' ++ get_or rs i d ∷ []) → Added test rs before then' (i + 1)
    added_one then' e is =
        let more : List Row = those test (drop (i + 1) rs) in
        ap (λ l. take 128 (l ++ more)) is
        ∙ take_take_append 128 (now' ++ get_or rs i d ∷ []) more
        ∙ ap (take 128) (append_assoc now' (get_or rs i d ∷ []) more)
        ∙ ap (λ b. take 128 (now' ++ cond b (get_or rs i d ∷ more) more)) e
        ∙ step

  pub added_all : length rs ≤ i → length now' ≤ 128 → now' ≡ take 128 (before ++ those test rs)
  added_all h few =
      sym (take_all 128 now' few) ∙ ap (take 128) (sym (append-nil now')) ∙ sym (at_drop_all (λ l. take 128 (now' ++ those test l)) rs i h) ∙ so

-- ---- where a name stands first

module _ (t : List ℕ) (x : Row) (ys : List Row) where
  index_is : index_of t x ys ≡ position_or_len (same_name t x) ys
  index_is = is_position_or_len (index_of t x) (same_name t x) refl (λ y zs. ap (cond (same_name t x y) 0) (omega arith)) ys

  module _ (o : Option ℕ) (is : o ≡ position (same_name t x) ys) where
    pub index_found : unwrap_or o (length ys) ≡ index_of t x ys
    index_found = ap (λ p. unwrap_or p (length ys)) is ∙ by (ltb (position_or_len (same_name t x) ys) (length ys)) refl ∙ sym index_is
      where
        by : (b : Bool) → ltb (position_or_len (same_name t x) ys) (length ys) ≡ b → unwrap_or (cond b (Some (position_or_len (same_name t x) ys)) None) (length ys) ≡ position_or_len (same_name t x) ys
        by true e = refl
        by false e = let h = ltb-false (position_or_len (same_name t x) ys) (length ys) e in let g = prefix_len-le-length (λ y. not (same_name t x y)) ys in omega (arith, h, g)

    pub among_found : is_some o ≡ among t x ys
    among_found = ap is_some is ∙ by (ltb (position_or_len (same_name t x) ys) (length ys)) ∙ ap (λ n. ltb n (length ys)) (sym index_is)
      where
        by : (b : Bool) → is_some (cond b (Some (position_or_len (same_name t x) ys)) None) ≡ b
        by true = refl
        by false = refl

-- the first row that a test holds of, and its place
pub first_place : (test : Row → Bool) (rs : List Row) → option_map (λ (r : Row). r.place) (find test rs) ≡ first_row test rs
first_place test [] = refl
first_place test (r ∷ rs) = by (test r) (first_place test rs)
  where
    by : (b : Bool) → option_map (λ (x : Row). x.place) (find test rs) ≡ first_row test rs → option_map (λ (x : Row). x.place) (cond b (Some r) (find test rs)) ≡ cond b (Some r.place) (first_row test rs)
    by true h = refl
    by false h = h
