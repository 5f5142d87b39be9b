-- How deep the blocks of a script stand in each other, where its tokens nest within 16. Assumes nothing.
use Rattle.std.proofs.Common.{◌≡◌, ℕ, ◌+◌, ◌-◌, ◌<◌, ◌≤◌, max, Bool, true, false, cond, eqb, leb, List, [], ◌∷◌, map, Some, None, Option, refl, subst, arith}
use Rattle.std.proofs.lemmas.Bool.{leb-false, eqb-false}
use Rattle.script.specs.declared.row.Row.{Row}
use Rattle.script.specs.declared.row.Role.TheVariants as role
use Rattle.script.specs.Syntax.{Expr, alone, less, same, Sum, sum, Terms, no_term, plus, minus, Term, term, Factors, no_factor, times, over, Factor, number, negative, name, paren, Names, no_name, comma, Block, done, assign, reading, when, either, loop, atomic, together, Decls, no_decl, cell, minus_cell, var, fresh, Script}
use Rattle.script.specs.Written.{row, token, text_expr, text_sum, text_terms, text_term, text_factors, text_factor, text_names, text, text_decls, rows}
use Rattle.script.specs.Nesting.{or_stop, nesting_from, nesting}

-- how many blocks stand in each other at most
abbrev pub depth : Block → ℕ
depth done = 0
depth (assign x q e z k) = depth k
depth (reading x q i c z k) = depth k
depth (when i e o a c k) = max (1 + depth a) (depth k)
depth (either i e o a c w o' b c' k) = max (1 + max (depth a) (depth b)) (depth k)
depth (loop r n o b c k) = max (1 + depth b) (depth k)
depth (atomic a o b c k) = max (1 + depth b) (depth k)
depth (together t x xs z k) = depth k

some_none : {X : Type 0} (p : ℕ) → Some p ≡ None → X
some_none p e = cc

opened : (o p : ℕ) (more : ℕ → Option ℕ) → or_stop p (cond (leb 16 o) None (Some (o + 1))) more ≡ None → (o < 16) × (more (o + 1) ≡ None)
opened o p more h = by (leb 16 o) refl h
  where
    by : (b : Bool) → leb 16 o ≡ b → or_stop p (cond b None (Some (o + 1))) more ≡ None → (o < 16) × (more (o + 1) ≡ None)
    by true e g = some_none p g
    by false e g = (leb-false 16 o e, g)

closed : (o p : ℕ) (more : ℕ → Option ℕ) → or_stop p (cond (eqb o 0) None (Some (o - 1))) more ≡ None → (0 < o) × (more (o - 1) ≡ None)
closed o p more h = by (eqb o 0) refl h
  where
    by : (b : Bool) → eqb o 0 ≡ b → or_stop p (cond b None (Some (o - 1))) more ≡ None → (0 < o) × (more (o - 1) ≡ None)
    by true e g = some_none p g
    by false e g = (let n = eqb-false o 0 e in omega (arith, n), g)

abbrev Nested : ℕ → List Row → Type 0
Nested o rs = nesting_from o (map token rs) ≡ None

-- what closes gives back what was open before
back : (o : ℕ) (rs : List Row) → Nested (o + 1 - 1) rs → Nested o rs
back o rs h = subst (λ n. Nested n rs) (omega arith) h

mutual
  nest_expr : (e : Expr) (o : ℕ) (rs : List Row) → Nested o (text_expr e rs) → Nested o rs
  nest_expr (alone s) o rs h = nest_sum s o rs h
  nest_expr (less s l u) o rs h = nest_sum u o rs (nest_sum s o (row role.Less l ∷ text_sum u rs) h)
  nest_expr (same s l u) o rs h = nest_sum u o rs (nest_sum s o (row role.Same l ∷ text_sum u rs) h)

  nest_sum : (s : Sum) (o : ℕ) (rs : List Row) → Nested o (text_sum s rs) → Nested o rs
  nest_sum (sum t ts) o rs h = nest_terms ts o rs (nest_term t o (text_terms ts rs) h)

  nest_terms : (ts : Terms) (o : ℕ) (rs : List Row) → Nested o (text_terms ts rs) → Nested o rs
  nest_terms no_term o rs h = h
  nest_terms (plus l t ts) o rs h = nest_terms ts o rs (nest_term t o (text_terms ts rs) h)
  nest_terms (minus l t ts) o rs h = nest_terms ts o rs (nest_term t o (text_terms ts rs) h)

  nest_term : (t : Term) (o : ℕ) (rs : List Row) → Nested o (text_term t rs) → Nested o rs
  nest_term (term f fs) o rs h = nest_factors fs o rs (nest_factor f o (text_factors fs rs) h)

  nest_factors : (fs : Factors) (o : ℕ) (rs : List Row) → Nested o (text_factors fs rs) → Nested o rs
  nest_factors no_factor o rs h = h
  nest_factors (times l f fs) o rs h = nest_factors fs o rs (nest_factor f o (text_factors fs rs) h)
  nest_factors (over l f fs) o rs h = nest_factors fs o rs (nest_factor f o (text_factors fs rs) h)

  nest_factor : (f : Factor) (o : ℕ) (rs : List Row) → Nested o (text_factor f rs) → Nested o rs
  nest_factor (number l) o rs h = h
  nest_factor (negative l n) o rs h = h
  nest_factor (name x) o rs h = h
  nest_factor (paren l e c) o rs h =
      let a = opened o l.place (λ m. nesting_from m (map token (text_expr e (row role.ParenClose c ∷ rs)))) h in
      let b = closed (o + 1) c.place (λ m. nesting_from m (map token rs)) (nest_expr e (o + 1) (row role.ParenClose c ∷ rs) a.1) in
      back o rs b.1

nest_names : (xs : Names) (o : ℕ) (rs : List Row) → Nested o (text_names xs rs) → Nested o rs
nest_names no_name o rs h = h
nest_names (comma c x xs) o rs h = nest_names xs o rs h

-- a block in braces, before what follows it
nest_block : (b : Block) (o p q : ℕ) (rs close : List Row) → ((n : ℕ) → n ≤ 16 → Nested n (text b close) → (n + depth b ≤ 16) × Nested n close) → (Nested (o + 1) close → or_stop q (cond (eqb (o + 1) 0) None (Some (o + 1 - 1))) (λ m. nesting_from m (map token rs)) ≡ None) → or_stop p (cond (leb 16 o) None (Some (o + 1))) (λ m. nesting_from m (map token (text b close))) ≡ None → (o + (1 + depth b) ≤ 16) × Nested o rs
nest_block b o p q rs close ih shut h =
    let a = opened o p (λ m. nesting_from m (map token (text b close))) h in
    let lt = a.0 in
    let i = ih (o + 1) (omega (arith, lt)) a.1 in
    let c = closed (o + 1) q (λ m. nesting_from m (map token rs)) (shut i.1) in
    (let j = i.0 in omega (arith, j), back o rs c.1)

pub nests : (b : Block) (o : ℕ) (rs : List Row) → o ≤ 16 → Nested o (text b rs) → (o + depth b ≤ 16) × Nested o rs
nests done o rs g h = (omega arith, h)
nests (assign x q e z k) o rs g h = nests k o rs g (nest_expr e o (row role.SetEnd z ∷ text k rs) h)
nests (reading x q i c z k) o rs g h = nests k o rs g h
nests (when i e l a c k) o rs g h =
    let n = nest_block a o l.place c.place (text k rs) (row role.WhenClose c ∷ text k rs) (λ m f w. nests a m (row role.WhenClose c ∷ text k rs) f w) (λ w. w) (nest_expr e o (row role.ThenOpen l ∷ text a (row role.WhenClose c ∷ text k rs)) h) in
    let m = nests k o rs g n.1 in
    (let u = n.0 in let v = m.0 in omega (arith, u, v), m.1)
nests (either i e l a c w l' b c' k) o rs g h =
    let others : List Row = row role.ElseWord w ∷ row role.ElseOpen l' ∷ text b (row role.ElseClose c' ∷ text k rs) in
    let n = nest_block a o l.place c.place others (row role.ThenClose c ∷ others) (λ m f v. nests a m (row role.ThenClose c ∷ others) f v) (λ v. v) (nest_expr e o (row role.ThenOpen l ∷ text a (row role.ThenClose c ∷ others)) h) in
    let n' = nest_block b o l'.place c'.place (text k rs) (row role.ElseClose c' ∷ text k rs) (λ m f v. nests b m (row role.ElseClose c' ∷ text k rs) f v) (λ v. v) n.1 in
    let m = nests k o rs g n'.1 in
    (let u = n.0 in let u' = n'.0 in let v = m.0 in omega (arith, u, u', v), m.1)
nests (loop r x l b c k) o rs g h =
    let n = nest_block b o l.place c.place (text k rs) (row role.BodyClose c ∷ text k rs) (λ m f v. nests b m (row role.BodyClose c ∷ text k rs) f v) (λ v. v) h in
    let m = nests k o rs g n.1 in
    (let u = n.0 in let v = m.0 in omega (arith, u, v), m.1)
nests (atomic r l b c k) o rs g h =
    let n = nest_block b o l.place c.place (text k rs) (row role.RegionClose c ∷ text k rs) (λ m f v. nests b m (row role.RegionClose c ∷ text k rs) f v) (λ v. v) h in
    let m = nests k o rs g n.1 in
    (let u = n.0 in let v = m.0 in omega (arith, u, v), m.1)
nests (together t x xs z k) o rs g h = nests k o rs g (nest_names xs o (row role.TogetherEnd z ∷ text k rs) h)

nest_decls : (ds : Decls) (o : ℕ) (rs : List Row) → Nested o (text_decls ds rs) → Nested o rs
nest_decls no_decl o rs h = h
nest_decls (cell w x q n z ds) o rs h = nest_decls ds o rs h
nest_decls (minus_cell w x q m n z ds) o rs h = nest_decls ds o rs h
nest_decls (var w x z ds) o rs h = nest_decls ds o rs h
nest_decls (fresh w x z ds) o rs h = nest_decls ds o rs h

-- main's own braces are one of the 16
pub main_depth : (s : Script) → nesting (map token (rows s)) ≡ None → depth s.main < 16
main_depth s h =
    let after : List Row = row role.MainClose s.close ∷ [] in
    let g = nest_decls s.decls 0 (row role.MainWord s.word ∷ row role.MainOpen s.open' ∷ text s.main after) h in
    let a = opened 0 s.open'.place (λ m. nesting_from m (map token (text s.main after))) g in
    let n = nests s.main 1 after (omega arith) a.1 in
    let u = n.0 in omega (arith, u)
