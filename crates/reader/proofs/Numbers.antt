-- Each number of a read script is at most 2147483647: question 3 made sure of it, and numbering the names leaves
-- numbers alone. And the walk up to main finds the numbers that cells are declared with. Assumes nothing.
use Rattle.std.proofs.Common.{◌≡◌, ℕ, zero, suc, ◌+◌, ◌<◌, ◌≤◌, Bool, true, false, cond, ◌&&◌, ◌||◌, ltb, leb, List, [], ◌∷◌, ◌++◌, map, length, get_or, take, drop, ℤ, pos, neg_ℤ, Some, None, Option, sym, refl, ap, ◌∙◌, append_assoc, arith}
use Rattle.std.proofs.lemmas.List.{at_drop_more, at_drop_all, take_all, append-nil}
use Rattle.std.proofs.lemmas.Bool.{ltb-false, le-leb, leb-true, true≢false}
use Rattle.script.specs.declared.row.Row.{Row}
use Rattle.script.specs.declared.row.Role.{Role}
use Rattle.script.specs.declared.row.Role.TheVariants as role
use Rattle.script.specs.declared.token.Sym.TheVariants as sym
use Rattle.script.specs.Syntax.{Leaf, Decls, no_decl, cell, minus_cell, var, fresh}
use Rattle.script.specs.Steps.{cells}
use Rattle.script.specs.Sizes.{over, first_where, too_long}
use Rattle.script.specs.Written.{sym_of, token, row, text, text_decls, rows}
use Rattle.script.specs.Decode.{decode}
use Rattle.script.specs.Roles.{is, declares, mentions}
use Rattle.script.specs.Names.{index_of, numbered}
use Rattle.script.specs.Numbers.{declared, is_number, all_fit}
use Rattle.script.specs.Questions.{tokens_short}
use Rattle.reader.specs.Stages.{Parsed}
use Rattle.reader.specs.Listed.{signed, listed}
use Rattle.reader.proofs.Listing.{take_take_append}
use Rattle.reader.proofs.Renumber.{role_kept}

-- ---- question 3

-- a number is written by a number's token, and is no name
told : (r : Role) → is_number r ≡ true → (sym_of r ≡ sym.Number) × ((declares r || mentions r) ≡ false)
told role.CellWord e = cc
told role.CellName e = cc
told role.CellIs e = cc
told role.CellMinus e = cc
told role.CellNumber e = (refl, refl)
told role.CellEnd e = cc
told role.VarWord e = cc
told role.VarName e = cc
told role.VarEnd e = cc
told role.FreshWord e = cc
told role.FreshName e = cc
told role.FreshEnd e = cc
told role.MainWord e = cc
told role.MainOpen e = cc
told role.MainClose e = cc
told role.Target e = cc
told role.Becomes e = cc
told role.SetEnd e = cc
told role.InWord e = cc
told role.Channel e = (refl, refl)
told role.ReadEnd e = cc
told role.IfWord e = cc
told role.ThenOpen e = cc
told role.WhenClose e = cc
told role.ThenClose e = cc
told role.ElseWord e = cc
told role.ElseOpen e = cc
told role.ElseClose e = cc
told role.RepeatWord e = cc
told role.Count e = (refl, refl)
told role.BodyOpen e = cc
told role.BodyClose e = cc
told role.AtomicWord e = cc
told role.RegionOpen e = cc
told role.RegionClose e = cc
told role.TogetherWord e = cc
told role.Listed e = cc
told role.Comma e = cc
told role.TogetherEnd e = cc
told role.Operand e = cc
told role.Literal e = (refl, refl)
told role.Negate e = cc
told role.Negated e = (refl, refl)
told role.ParenOpen e = cc
told role.ParenClose e = cc
told role.Times e = cc
told role.Over e = cc
told role.Plus e = cc
told role.Minus e = cc
told role.Less e = cc
told role.Same e = cc

module _ (t : List ℕ) (ys : List Row) where
  abbrev given : Row → Row
  given r = record { role = r.role; place = r.place; len = r.len; value = index_of t r ys }

  fits_row : (r : Row) → too_long (token r) ≡ false → is_number r.role ≡ true → leb (numbered t ys r).value 2147483647 ≡ true
  fits_row r e n =
      let short : ltb 2147483647 r.value ≡ false = ap (λ s. over s r.len r.value) (sym (told r.role n).0) ∙ e in
      ap (λ b. leb (cond b (given r) r).value 2147483647) (told r.role n).1 ∙ le-leb r.value 2147483647 (ltb-false 2147483647 r.value short)

  one_row : (r : Row) → too_long (token r) ≡ false → (rest : Bool) → rest ≡ true → cond (is_number (numbered t ys r).role) (leb (numbered t ys r).value 2147483647 && rest) rest ≡ true
  one_row r e rest h = ap (λ x. cond (is_number x) (leb (numbered t ys r).value 2147483647 && rest) rest) (role_kept t ys r) ∙ by (is_number r.role) refl
    where
      by : (b : Bool) → is_number r.role ≡ b → cond b (leb (numbered t ys r).value 2147483647 && rest) rest ≡ true
      by false i = h
      by true i = ap (λ b. b && rest) (fits_row r e i) ∙ h

  fits_kept : (rs : List Row) → first_where too_long (map token rs) ≡ None → all_fit (map (numbered t ys) rs) ≡ true
  fits_kept [] e = refl
  fits_kept (r ∷ rs) e = by (too_long (token r)) refl e (λ h. fits_kept rs h)
    where
      by : (b : Bool) → too_long (token r) ≡ b → cond b (Some r.place) (first_where too_long (map token rs)) ≡ None → (first_where too_long (map token rs) ≡ None → all_fit (map (numbered t ys) rs) ≡ true) → all_fit (map (numbered t ys) (r ∷ rs)) ≡ true
      by true i h ih = cc
      by false i h ih = one_row r i (all_fit (map (numbered t ys) rs)) (ih h)

never : (o : Option ℕ) → ((p : ℕ) → o ≡ Some p → ⊥) → o ≡ None
never None h = refl
never (Some p) h = absurd (h p refl)

pub numbers_kept : (text : List ℕ) (rs ys : List Row) → Parsed text rs → all_fit (map (numbered text ys) rs) ≡ true
numbers_kept text rs ys so = fits_kept text ys rs (never (first_where too_long (map token rs)) (λ p e. so.pass tokens_short p (omega arith) (map token rs, so.are, e)))

-- ---- the walk up to main

and_left : (a b : Bool) → (a && b) ≡ true → a ≡ true
and_left true b e = refl
and_left false b e = e

and_right : (a b : Bool) → (a && b) ≡ true → b ≡ true
and_right true b e = e
and_right false b e = absurd (true≢false (sym e))

-- the first of rows that fit, and the others
first_fits : (b : Bool) (v : ℕ) (rest : Bool) → cond b (leb v 2147483647 && rest) rest ≡ true → b ≡ true → v ≤ 2147483647
first_fits true v rest e i = leb-true v 2147483647 (and_left (leb v 2147483647) rest e)
first_fits false v rest e i = absurd (true≢false (sym i))

rest_fits : (b : Bool) (v : ℕ) (rest : Bool) → cond b (leb v 2147483647 && rest) rest ≡ true → rest ≡ true
rest_fits true v rest e = and_right (leb v 2147483647) rest e
rest_fits false v rest e = e

-- a number at an index
pub number_fits : (rs : List Row) (i : ℕ) (d : Row) → all_fit rs ≡ true → i < length rs → is_number (get_or rs i d).role ≡ true → (get_or rs i d).value ≤ 2147483647
number_fits [] i d e lt h = absurd (omega arith)
number_fits (r ∷ rs) zero d e lt h = first_fits (is_number r.role) r.value (all_fit rs) e h
number_fits (r ∷ rs) (suc i) d e lt h = number_fits rs i d (rest_fits (is_number r.role) r.value (all_fit rs) e) (omega arith) h

-- a cell's number
pub cell_fits : (rs : List Row) (i : ℕ) (d : Row) → all_fit rs ≡ true → i < length rs → is (get_or rs i d).role role.CellNumber ≡ true → (get_or rs i d).value ≤ 2147483647
cell_fits rs i d e lt h =
    let r : Role = (get_or rs i d).role in
    number_fits rs i d e lt (ap (λ b. b || (is r role.Channel || (is r role.Count || (is r role.Literal || is r role.Negated)))) h)

-- what was found so far, with what is still to be found
abbrev pub Found : List Row → List ℤ → Bool → ℕ → Type 0
Found rs found minus i = take 64 (found ++ listed minus (drop i rs)) ≡ take 64 (listed false rs)

module _ (rs : List Row) (found : List ℤ) (minus : Bool) (i : ℕ) (so : Found rs found minus i) where
  module _ (lt : i < length rs) (d : Row) where
    abbrev r : Row
    r = get_or rs i d

    abbrev more : List ℤ
    more = listed (is r.role role.CellMinus) (drop (i + 1) rs)

    abbrev At : Bool → Bool → List ℤ
    At main here = cond main [] (cond here (signed minus r.value ∷ more) more)

    step : take 64 (found ++ At (is r.role role.MainWord) (is r.role role.CellNumber)) ≡ take 64 (listed false rs)
    step = sym (at_drop_more (λ l. take 64 (found ++ listed minus l)) rs i d lt) ∙ so

    pub found_main : length found ≤ 64 → true ≡ is r.role role.MainWord → found ≡ take 64 (listed false rs)
    found_main few e =
        sym (take_all 64 found few) ∙ ap (take 64) (sym (append-nil found)) ∙ ap (λ b. take 64 (found ++ At b (is r.role role.CellNumber))) e ∙ step

    pub found_past : (minus' : Bool) → false ≡ is r.role role.MainWord → false ≡ is r.role role.CellNumber → minus' ≡ is r.role role.CellMinus → Found rs found minus' (i + 1)
    found_past minus' e g m = ap (λ b. take 64 (found ++ listed b (drop (i + 1) rs))) m ∙ (λ j. take 64 (found ++ At (e j) (g j))) ∙ step

    pub found_one : (found' : List ℤ) (x : ℤ) (minus' : Bool) → false ≡ is r.role role.MainWord → true ≡ is r.role role.CellNumber → minus' ≡ is r.role role.CellMinus → x ≡ signed minus r.value → found' ≡ take 64 (found ++ x ∷ []) → Found rs found' minus' (i + 1)
    found_one found' x minus' e g m v is' =
        ap (λ b. take 64 (found' ++ listed b (drop (i + 1) rs))) m
        ∙ ap (λ l. take 64 (l ++ more)) (is' ∙ ap (λ y. take 64 (found ++ y ∷ [])) v)
        ∙ take_take_append 64 (found ++ signed minus r.value ∷ []) more
        ∙ ap (take 64) (append_assoc found (signed minus r.value ∷ []) more)
        ∙ (λ j. take 64 (found ++ At (e j) (g j)))
        ∙ step

  pub found_all : length found ≤ 64 → length rs ≤ i → found ≡ take 64 (listed false rs)
  found_all few h = sym (take_all 64 found few) ∙ ap (take 64) (sym (append-nil found)) ∙ sym (at_drop_all (λ l. take 64 (found ++ listed minus l)) rs i h) ∙ so

-- ---- it finds the declared numbers

main_stops : (ds : Decls) (w : Leaf) (rs : List Row) → listed false (text_decls ds (row role.MainWord w ∷ rs)) ≡ declared ds
main_stops no_decl w rs = refl
main_stops (cell a x q n z ds) w rs = ap (λ l. pos n.value ∷ l) (main_stops ds w rs)
main_stops (minus_cell a x q m n z ds) w rs = ap (λ l. neg_ℤ (pos n.value) ∷ l) (main_stops ds w rs)
main_stops (var a x z ds) w rs = main_stops ds w rs
main_stops (fresh a x z ds) w rs = main_stops ds w rs

pub declared_long : (ds : Decls) → length (declared ds) ≡ cells ds
declared_long no_decl = refl
declared_long (cell a x q n z ds) = let e = declared_long ds in omega (arith, e)
declared_long (minus_cell a x q m n z ds) = let e = declared_long ds in omega (arith, e)
declared_long (var a x z ds) = declared_long ds
declared_long (fresh a x z ds) = declared_long ds

pub all_declared : (rs : List Row) → rs ≡ rows (decode rs) → cells (decode rs).decls ≤ 64 → take 64 (listed false rs) ≡ declared (decode rs).decls
all_declared rs whole few =
    let s = decode rs in
    let e : listed false rs ≡ declared s.decls = ap (listed false) whole ∙ main_stops s.decls s.word (row role.MainOpen s.open' ∷ text s.main (row role.MainClose s.close ∷ [])) in
    ap (take 64) e ∙ take_all 64 (declared s.decls) (omega (arith, declared_long s.decls, few))
