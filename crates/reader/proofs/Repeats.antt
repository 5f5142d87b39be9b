-- Each repeat of a read script takes at least one turn: question 11 made sure of it, numbering the names leaves
-- the counts alone, and what holds of the rows holds of the script. Assumes nothing.
use Rattle.std.proofs.Common.{◌≡◌, ℕ, Bool, true, false, cond, not, ◌&&◌, ◌||◌, eqb, leb, List, [], ◌∷◌, map, Some, None, sym, refl, ap, ◌∙◌}
use mathlib.Core.Bool.{and_assoc}
use Rattle.std.proofs.lemmas.Bool.{eqb-true, true≢false}
use Rattle.script.specs.declared.row.Row.{Row}
use Rattle.script.specs.declared.row.Role.TheVariants as role
use Rattle.script.specs.Syntax.{Block, done, assign, reading, when, either, loop, atomic, together, Decls, no_decl, cell, minus_cell, var, fresh, Script, code}
use Rattle.script.specs.Steps.{repeats}
use Rattle.script.specs.Written.{row, text, text_decls, rows}
use Rattle.script.specs.Roles.{role_number, is, first_row}
use Rattle.script.specs.Names.{index_of, out_of_range, numbered, all_repeat}
use Rattle.reader.proofs.Renumber.{role_kept}
use Rattle.reader.proofs.Skips.{Skips, skip_expr, skip_names}

-- ---- numbering leaves the counts alone

module _ (t : List ℕ) (ys : List Row) where
  abbrev given : Row → Row
  given r = record { role = r.role; place = r.place; len = r.len; value = index_of t r ys }

  -- a name's row is told by the number of its role, and 29 is that of no name
  abbrev names_it : ℕ → Bool
  names_it n = (eqb n 1 || (eqb n 7 || eqb n 10)) || (eqb n 15 || (eqb n 39 || eqb n 36))

  count_kept : (r : Row) → is r.role role.Count ≡ true → numbered t ys r ≡ r
  count_kept r e = ap (λ n. cond (names_it n) (given r) r) (eqb-true (role_number r.role) 29 e)

  at_least_one : (v : ℕ) (other : Bool) → (not (leb 1 v && leb v 1000) || other) ≡ false → leb 1 v ≡ true
  at_least_one v other e = by (leb 1 v) (leb v 1000) e
    where
      by : (a b : Bool) → (not (a && b) || other) ≡ false → a ≡ true
      by true b h = refl
      by false b h = absurd (true≢false h)

  one_row : (r : Row) → out_of_range r ≡ false → (rest : Bool) → rest ≡ true → cond (is (numbered t ys r).role role.Count) (leb 1 (numbered t ys r).value && rest) rest ≡ true
  one_row r e rest h =
      ap (λ x. cond (is x role.Count) (leb 1 (numbered t ys r).value && rest) rest) (role_kept t ys r) ∙ by (is r.role role.Count) refl
    where
      by : (b : Bool) → is r.role role.Count ≡ b → cond b (leb 1 (numbered t ys r).value && rest) rest ≡ true
      by false i = h
      by true i =
          let far : (not (leb 1 r.value && leb r.value 1000) || (is r.role role.Channel && not (leb r.value 15))) ≡ false
          = ap (λ b. (b && not (leb 1 r.value && leb r.value 1000)) || (is r.role role.Channel && not (leb r.value 15))) (sym i) ∙ e in
          ap (λ (x : Row). leb 1 x.value && rest) (count_kept r i)
          ∙ ap (λ b. b && rest) (at_least_one r.value (is r.role role.Channel && not (leb r.value 15)) far)
          ∙ h

  pub counts_kept : (rs : List Row) → first_row out_of_range rs ≡ None → all_repeat (map (numbered t ys) rs) ≡ true
  counts_kept [] e = refl
  counts_kept (r ∷ rs) e = by (out_of_range r) refl e (λ h. counts_kept rs h)
    where
      by : (b : Bool) → out_of_range r ≡ b → cond b (Some r.place) (first_row out_of_range rs) ≡ None → (first_row out_of_range rs ≡ None → all_repeat (map (numbered t ys) rs) ≡ true) → all_repeat (map (numbered t ys) (r ∷ rs)) ≡ true
      by true i h ih = cc
      by false i h ih = one_row r i (all_repeat (map (numbered t ys) rs)) (ih h)

-- ---- what holds of the rows holds of the script

no_count : Skips all_repeat
no_count = record { literal = λ l rs. refl; negate = λ l rs. refl; negated = λ l rs. refl; operand = λ l rs. refl; paren_open = λ l rs. refl; paren_close = λ l rs. refl; times_sign = λ l rs. refl; over_sign = λ l rs. refl; plus_sign = λ l rs. refl; minus_sign = λ l rs. refl; less_sign = λ l rs. refl; same_sign = λ l rs. refl; listed = λ l rs. refl; comma_sign = λ l rs. refl }

skip_decls : (ds : Decls) (rs : List Row) → all_repeat (text_decls ds rs) ≡ all_repeat rs
skip_decls no_decl rs = refl
skip_decls (cell w x q n z ds) rs = skip_decls ds rs
skip_decls (minus_cell w x q m n z ds) rs = skip_decls ds rs
skip_decls (var w x z ds) rs = skip_decls ds rs
skip_decls (fresh w x z ds) rs = skip_decls ds rs

abbrev of : Block → Bool
of b = repeats (code b)

-- a block between what stands before its end and what follows
two : (a k : Block) (before rest : Bool) → before ≡ (of a && (of k && rest)) → before ≡ ((of a && of k) && rest)
two a k before rest e = e ∙ sym (and_assoc (of a) (of k) rest)

block : (b : Block) (rs : List Row) → all_repeat (text b rs) ≡ (of b && all_repeat rs)
block done rs = refl
block (assign x q e z k) rs = skip_expr all_repeat no_count e (row role.SetEnd z ∷ text k rs) ∙ block k rs
block (reading x q i c z k) rs = block k rs
block (when i e o a c k) rs =
    skip_expr all_repeat no_count e (row role.ThenOpen o ∷ text a (row role.WhenClose c ∷ text k rs))
    ∙ two a k _ (all_repeat rs) (block a (row role.WhenClose c ∷ text k rs) ∙ ap (λ y. of a && y) (block k rs))
block (either i e o a c w o' b c' k) rs =
    let last : List Row = row role.ElseClose c' ∷ text k rs in
    let mid : List Row = row role.ThenClose c ∷ row role.ElseWord w ∷ row role.ElseOpen o' ∷ text b last in
    skip_expr all_repeat no_count e (row role.ThenOpen o ∷ text a mid)
    ∙ block a mid
    ∙ ap (λ y. of a && y) (two b k _ (all_repeat rs) (block b last ∙ ap (λ y. of b && y) (block k rs)))
    ∙ sym (and_assoc (of a) (of b && of k) (all_repeat rs))
block (loop r n o b c k) rs =
    ap (λ y. leb 1 n.value && y) (two b k _ (all_repeat rs) (block b (row role.BodyClose c ∷ text k rs) ∙ ap (λ y. of b && y) (block k rs)))
    ∙ sym (and_assoc (leb 1 n.value) (of b && of k) (all_repeat rs))
block (atomic a o b c k) rs =
    two b k _ (all_repeat rs) (block b (row role.RegionClose c ∷ text k rs) ∙ ap (λ y. of b && y) (block k rs))
block (together w x xs z k) rs = skip_names all_repeat no_count xs (row role.TogetherEnd z ∷ text k rs) ∙ block k rs

left : (a b : Bool) → (a && b) ≡ true → a ≡ true
left true b e = refl
left false b e = e

pub repeats_all : (s : Script) → all_repeat (rows s) ≡ true → repeats (code s.main) ≡ true
repeats_all s e =
    left (of s.main) true
    (sym (block s.main (row role.MainClose s.close ∷ []))
    ∙ sym (skip_decls s.decls (row role.MainWord s.word ∷ row role.MainOpen s.open' ∷ text s.main (row role.MainClose s.close ∷ [])))
    ∙ e)
