-- The declared names of a script: how many there are, and that each finds its number. Assumes nothing.
use Rattle.std.proofs.Common.{◌≡◌, ℕ, suc, ◌+◌, ◌<◌, ◌≤◌, Bool, true, false, cond, ◌&&◌, ◌||◌, ltb, leb, ◌⊎◌, List, [], ◌∷◌, ◌++◌, map, length, Some, None, sym, refl, ap, ◌∙◌, subst, inl, inr, ⊎_elim, arith, length-append, eq-eqb}
use Rattle.std.specs.Str.{bytes_eq}
use Rattle.std.proofs.lemmas.Bool.{leb-false, lt-ltb, true≢false}
use Rattle.script.specs.declared.row.Row.{Row}
use Rattle.script.specs.declared.row.Role.{Role}
use Rattle.script.specs.declared.row.Role.TheVariants as role
use Rattle.script.specs.Syntax.{Block, done, assign, reading, when, either, loop, atomic, together, Decls, no_decl, cell, minus_cell, var, fresh, Script}
use Rattle.script.specs.Steps.{cells, locals}
use Rattle.script.specs.Written.{row, text, text_decls, rows}
use Rattle.script.specs.Tokens.{spelled}
use Rattle.reader.proofs.Skips.{Skips, skip_expr, skip_names}
use Rattle.script.specs.Roles.{declares_cell, declares_local, declares, mentions, those}
use Rattle.script.specs.Names.{same_name, index_of, names, counted, full, crowded, numbered, all_numbered}

-- ---- main's rows declare nothing

quiet : Skips (those declares)
quiet = record { literal = λ l rs. refl; negate = λ l rs. refl; negated = λ l rs. refl; operand = λ l rs. refl; paren_open = λ l rs. refl; paren_close = λ l rs. refl; times_sign = λ l rs. refl; over_sign = λ l rs. refl; plus_sign = λ l rs. refl; minus_sign = λ l rs. refl; less_sign = λ l rs. refl; same_sign = λ l rs. refl; listed = λ l rs. refl; comma_sign = λ l rs. refl }

quiet_block : (b : Block) (rs : List Row) → those declares (text b rs) ≡ those declares rs
quiet_block done rs = refl
quiet_block (assign x e v z k) rs =
    skip_expr (those declares) quiet v (row role.SetEnd z ∷ text k rs) ∙ quiet_block k rs
quiet_block (reading x e i c z k) rs =
    quiet_block k rs
quiet_block (when i e o a c k) rs =
    skip_expr (those declares) quiet e (row role.ThenOpen o ∷ text a (row role.WhenClose c ∷ text k rs))
    ∙ quiet_block a (row role.WhenClose c ∷ text k rs) ∙ quiet_block k rs
quiet_block (either i e o a c w o' b c' k) rs =
    let last : List Row = row role.ElseClose c' ∷ text k rs in
    let mid : List Row = row role.ThenClose c ∷ row role.ElseWord w ∷ row role.ElseOpen o' ∷ text b last in
    skip_expr (those declares) quiet e (row role.ThenOpen o ∷ text a mid) ∙ quiet_block a mid
    ∙ quiet_block b last ∙ quiet_block k rs
quiet_block (loop r n o b c k) rs =
    quiet_block b (row role.BodyClose c ∷ text k rs) ∙ quiet_block k rs
quiet_block (atomic a o b c k) rs =
    quiet_block b (row role.RegionClose c ∷ text k rs) ∙ quiet_block k rs
quiet_block (together w x xs z k) rs =
    skip_names (those declares) quiet xs (row role.TogetherEnd z ∷ text k rs) ∙ quiet_block k rs

-- main's rows, from its word on
quiet_main : (s : Script) → those declares (row role.MainWord s.word ∷ row role.MainOpen s.open' ∷ text s.main (row role.MainClose s.close ∷ [])) ≡ []
quiet_main s = quiet_block s.main (row role.MainClose s.close ∷ [])

-- ---- the cells and the locals are among the declared names

module _ (test : Role → Bool) (only : (r : Role) → declares r ≡ false → test r ≡ false) where
  among_declared : (rs : List Row) → those test rs ≡ those test (those declares rs)
  among_declared [] = refl
  among_declared (r ∷ rs) = by (declares r.role) refl (among_declared rs)
    where
      by : (b : Bool) → declares r.role ≡ b → those test rs ≡ those test (those declares rs) → cond (test r.role) (r ∷ those test rs) (those test rs) ≡ those test (cond b (r ∷ those declares rs) (those declares rs))
      by true e ih = ap (λ l. cond (test r.role) (r ∷ l) l) ih
      by false e ih = ap (λ b. cond b (r ∷ those test rs) (those test rs)) (only r.role e) ∙ ih

or_left : (a b : Bool) → (a || b) ≡ false → a ≡ false
or_left true b e = e
or_left false b e = refl

or_right : (a b : Bool) → (a || b) ≡ false → b ≡ false
or_right true b e = absurd (true≢false e)
or_right false b e = e

cells_among : (rs : List Row) → those declares_cell rs ≡ those declares_cell (those declares rs)
cells_among = among_declared declares_cell (λ r e. or_left (declares_cell r) (declares_local r) e)

locals_among : (rs : List Row) → those declares_local rs ≡ those declares_local (those declares rs)
locals_among = among_declared declares_local (λ r e. or_right (declares_cell r) (declares_local r) e)

cells_decls : (ds : Decls) (rs : List Row) → those declares_cell rs ≡ [] → length (those declares_cell (text_decls ds rs)) ≡ cells ds
cells_decls no_decl rs h = ap length h
cells_decls (cell w x e n z ds) rs h = let i = cells_decls ds rs h in omega (arith, i)
cells_decls (minus_cell w x e m n z ds) rs h = let i = cells_decls ds rs h in omega (arith, i)
cells_decls (var w x z ds) rs h = cells_decls ds rs h
cells_decls (fresh w x z ds) rs h = cells_decls ds rs h

locals_decls : (ds : Decls) (rs : List Row) → those declares_local rs ≡ [] → length (those declares_local (text_decls ds rs)) ≡ locals ds
locals_decls no_decl rs h = ap length h
locals_decls (cell w x e n z ds) rs h = locals_decls ds rs h
locals_decls (minus_cell w x e m n z ds) rs h = locals_decls ds rs h
locals_decls (var w x z ds) rs h = let i = locals_decls ds rs h in omega (arith, i)
locals_decls (fresh w x z ds) rs h = let i = locals_decls ds rs h in omega (arith, i)

abbrev main_rows : Script → List Row
main_rows s = row role.MainWord s.word ∷ row role.MainOpen s.open' ∷ text s.main (row role.MainClose s.close ∷ [])

pub cells_rows : (s : Script) → length (those declares_cell (rows s)) ≡ cells s.decls
cells_rows s = cells_decls s.decls (main_rows s) (cells_among (main_rows s) ∙ ap (those declares_cell) (quiet_main s))

pub locals_rows : (s : Script) → length (those declares_local (rows s)) ≡ locals s.decls
locals_rows s = locals_decls s.decls (main_rows s) (locals_among (main_rows s) ∙ ap (those declares_local) (quiet_main s))

-- ---- question 7 bounds them

one : Bool → ℕ
one b = cond b 1 0

module _ where
  abbrev Room : ℕ → ℕ → List Row → Type 0
  Room c l rs = (c + length (those declares_cell rs) ≤ 64) × (l + length (those declares_local rs) ≤ 64)

  -- a row that leaves room, by what it declares
  roomy : (a b : Bool) (c l : ℕ) (r : Row) (xs ys : List Row) → c ≤ 64 → l ≤ 64 → ((a && leb 64 c) || (b && leb 64 l)) ≡ false → (counted a c ≤ 64 → counted b l ≤ 64 → (counted a c + length xs ≤ 64) × (counted b l + length ys ≤ 64)) → (c + length (cond a (r ∷ xs) xs) ≤ 64) × (l + length (cond b (r ∷ ys) ys) ≤ 64)
  roomy true true c l r xs ys p q e h =
      let lt = leb-false 64 c (or_left (leb 64 c) (leb 64 l) e) in
      let lt' = leb-false 64 l (or_right (leb 64 c) (leb 64 l) e) in
      let i = h (omega (arith, lt)) (omega (arith, lt')) in
      (let u = i.0 in omega (arith, u), let v = i.1 in omega (arith, v))
  roomy true false c l r xs ys p q e h =
      let lt = leb-false 64 c (or_left (leb 64 c) false e) in
      let i = h (omega (arith, lt)) q in
      (let u = i.0 in omega (arith, u), i.1)
  roomy false true c l r xs ys p q e h =
      let lt = leb-false 64 l e in
      let i = h p (omega (arith, lt)) in
      (i.0, let v = i.1 in omega (arith, v))
  roomy false false c l r xs ys p q e h = h p q

  room_left : (c l : ℕ) (rs : List Row) → c ≤ 64 → l ≤ 64 → crowded c l rs ≡ None → Room c l rs
  room_left c l [] p q h = (omega arith, omega arith)
  room_left c l (r ∷ rs) p q h = by (full c l r) refl h (λ p' q' g. room_left (counted (declares_cell r.role) c) (counted (declares_local r.role) l) rs p' q' g)
    where
      none : {X : Type 0} (k : ℕ) → Some k ≡ None → X
      none k e = cc

      by : (b : Bool) → full c l r ≡ b → cond b (Some r.place) (crowded (counted (declares_cell r.role) c) (counted (declares_local r.role) l) rs) ≡ None → (counted (declares_cell r.role) c ≤ 64 → counted (declares_local r.role) l ≤ 64 → crowded (counted (declares_cell r.role) c) (counted (declares_local r.role) l) rs ≡ None → Room (counted (declares_cell r.role) c) (counted (declares_local r.role) l) rs) → Room c l (r ∷ rs)
      by true e g ih = none _ g
      by false e g ih = roomy (declares_cell r.role) (declares_local r.role) c l r (those declares_cell rs) (those declares_local rs) p q e (λ p' q'. ih p' q' g)

pub few_cells : (rs : List Row) → crowded 0 0 rs ≡ None → length (those declares_cell rs) ≤ 64
few_cells rs h = let r = (room_left 0 0 rs (omega arith) (omega arith) h).0 in omega (arith, r)

pub few_locals : (rs : List Row) → crowded 0 0 rs ≡ None → length (those declares_local rs) ≤ 64
few_locals rs h = let r = (room_left 0 0 rs (omega arith) (omega arith) h).1 in omega (arith, r)

-- the declared names are not more than the cells and the locals
split : (rs : List Row) → length (those declares rs) ≤ length (those declares_cell rs) + length (those declares_local rs)
split [] = omega arith
split (r ∷ rs) = by (declares_cell r.role) (declares_local r.role) (split rs)
  where
    by : (a b : Bool) → length (those declares rs) ≤ length (those declares_cell rs) + length (those declares_local rs) → length (cond (a || b) (r ∷ those declares rs) (those declares rs)) ≤ length (cond a (r ∷ those declares_cell rs) (those declares_cell rs)) + length (cond b (r ∷ those declares_local rs) (those declares_local rs))
    by true true h = omega arith
    by true false h = omega arith
    by false true h = omega arith
    by false false h = h

pub few_declared : (rs : List Row) → crowded 0 0 rs ≡ None → length (those declares rs) ≤ 128
few_declared rs h = let a = few_cells rs h in let b = few_locals rs h in let c = split rs in omega (arith, a, b, c)

pub few_names : (rs : List Row) → crowded 0 0 rs ≡ None → length (names rs) ≤ 128
few_names rs h = let a = few_cells rs h in let b = few_locals rs h in let c = length-append (those declares_cell rs) (those declares_local rs) in omega (arith, a, b, c)

-- ---- each declared name finds its number

abbrev In : Row → List Row → Type 0
In x [] = ⊥
In x (y ∷ ys) = (x ≡ y) ⊎ In x ys

in_left : (x : Row) (xs ys : List Row) → In x xs → In x (xs ++ ys)
in_left x [] ys h = absurd h
in_left x (y ∷ xs) ys h = ⊎_elim (λ e. inl e) (λ i. inr (in_left x xs ys i)) h

in_right : (x : Row) (xs ys : List Row) → In x ys → In x (xs ++ ys)
in_right x [] ys h = h
in_right x (y ∷ xs) ys h = inr (in_right x xs ys h)

in_those : (test : Role → Bool) (x : Row) (rs : List Row) → test x.role ≡ true → In x rs → In x (those test rs)
in_those test x [] e h = absurd h
in_those test x (r ∷ rs) e h = ⊎_elim
    (λ s. let P : Bool → Type 0 = λ b. In x (cond b (r ∷ those test rs) (those test rs)) in subst P (sym (ap (λ (y : Row). test y.role) (sym s) ∙ e)) (inl s))
    (λ i. by (test r.role) (in_those test x rs e i))
    h
  where
    by : (b : Bool) → In x (those test rs) → In x (cond b (r ∷ those test rs) (those test rs))
    by true i = inr i
    by false i = i

same_bytes : (xs : List ℕ) → bytes_eq xs xs ≡ true
same_bytes [] = refl
same_bytes (x ∷ xs) = ap (λ b. b && bytes_eq xs xs) (eq-eqb x x refl) ∙ same_bytes xs

index_in : (t : List ℕ) (x : Row) (ys : List Row) → In x ys → index_of t x ys < length ys
index_in t x [] h = absurd h
index_in t x (y ∷ ys) h = ⊎_elim
    (λ e. let s : same_name t x y ≡ true = ap (same_name t x) (sym e) ∙ same_bytes (spelled t x.place x.len) in let z : index_of t x (y ∷ ys) ≡ 0 = ap (λ b. cond b 0 (suc (index_of t x ys))) s in omega (arith, z))
    (λ i. by (same_name t x y) (index_in t x ys i))
    h
  where
    by : (b : Bool) → index_of t x ys < length ys → cond b 0 (suc (index_of t x ys)) < suc (length ys)
    by true lt = omega arith
    by false lt = omega arith

module _ (t : List ℕ) (rs : List Row) (few : length (names rs) ≤ 128) where
  found : (x : Row) → declares x.role ≡ true → In x rs → index_of t x (names rs) < 128
  found x e i =
      let h : In x (names rs) = by (declares_cell x.role) (declares_local x.role) refl refl e in
      let lt = index_in t x (names rs) h in omega (arith, lt, few)
    where
      by : (a b : Bool) → declares_cell x.role ≡ a → declares_local x.role ≡ b → (a || b) ≡ true → In x (names rs)
      by true b p q o = in_left x (those declares_cell rs) (those declares_local rs) (in_those declares_cell x rs p i)
      by false true p q o = in_right x (those declares_cell rs) (those declares_local rs) (in_those declares_local x rs q i)
      by false false p q o = absurd (true≢false (sym o))

  each : (zs : List Row) → ((x : Row) → In x zs → In x rs) → all_numbered (map (numbered t (names rs)) zs) ≡ true
  each [] sub = refl
  each (z ∷ zs) sub = by (declares z.role) (mentions z.role) refl (each zs (λ x i. sub x (inr i)))
    where
      by : (a b : Bool) → declares z.role ≡ a → all_numbered (map (numbered t (names rs)) zs) ≡ true → all_numbered (cond (a || b) (record { role = z.role; place = z.place; len = z.len; value = index_of t z (names rs) }) z ∷ map (numbered t (names rs)) zs) ≡ true
      by true b e h =
          ap (λ c. cond c (ltb (index_of t z (names rs)) 128 && all_numbered (map (numbered t (names rs)) zs)) (all_numbered (map (numbered t (names rs)) zs))) e
          ∙ (λ i. lt-ltb (index_of t z (names rs)) 128 (found z e (sub z (inl refl))) i && h i)
      by false true e h = ap (λ c. cond c (ltb (index_of t z (names rs)) 128 && all_numbered (map (numbered t (names rs)) zs)) (all_numbered (map (numbered t (names rs)) zs))) e ∙ h
      by false false e h = ap (λ c. cond c (ltb z.value 128 && all_numbered (map (numbered t (names rs)) zs)) (all_numbered (map (numbered t (names rs)) zs))) e ∙ h

  pub each_numbered : all_numbered (map (numbered t (names rs)) rs) ≡ true
  each_numbered = each rs (λ x i. i)
