-- A script whose names get numbers is still a script, with the same steps, readings, cells and locals. Assumes nothing.
use Rattle.std.proofs.Common.{◌≡◌, ℕ, suc, ◌+◌, ◌*◌, max, Bool, true, false, cond, ◌||◌, List, [], ◌∷◌, map, refl, ap, ◌∙◌}
use Rattle.script.specs.declared.row.Row.{Row}
use Rattle.script.specs.declared.row.Role.{Role}
use Rattle.script.specs.declared.row.Role.TheVariants as role
use Rattle.script.specs.Syntax.{Leaf, Expr, alone, less, same, Sum, sum, Terms, no_term, plus, minus, Term, term, Factors, no_factor, times, over, Factor, number, negative, name, paren, Names, no_name, comma, Block, done, assign, reading, when, either, loop, atomic, together, Decls, no_decl, cell, minus_cell, var, fresh, Script, code}
use Rattle.script.specs.Steps.{steps, readings, cells, locals, steps_of, readings_of}
use Rattle.script.specs.Written.{row, text_expr, text_sum, text_terms, text_term, text_factors, text_factor, text_names, text, text_decls, rows}
use Rattle.script.specs.Roles.{declares, mentions}
use Rattle.script.specs.Names.{same_name, index_of, numbered}

-- a number changes no role
pub role_kept : (t : List ℕ) (ys : List Row) (r : Row) → (numbered t ys r).role ≡ r.role
role_kept t ys r = by (declares r.role || mentions r.role)
  where
    by : (b : Bool) → (cond b (record { role = r.role; place = r.place; len = r.len; value = index_of t r ys }) r).role ≡ r.role
    by true = refl
    by false = refl

-- the leaf of a name with its number
abbrev numbered_leaf : List ℕ → List Row → Leaf → Leaf
numbered_leaf t ys l = record { place = l.place; len = l.len; value = index_of t (row role.Target l) ys }

module _ (t : List ℕ) (ys : List Row) where
  abbrev num : Leaf → Leaf
  num l = numbered_leaf t ys l

  abbrev mutual
    num_expr : Expr → Expr
    num_expr (alone s) = alone (num_sum s)
    num_expr (less s o u) = less (num_sum s) o (num_sum u)
    num_expr (same s o u) = same (num_sum s) o (num_sum u)

    num_sum : Sum → Sum
    num_sum (sum a ts) = sum (num_term a) (num_terms ts)

    num_terms : Terms → Terms
    num_terms no_term = no_term
    num_terms (plus o a ts) = plus o (num_term a) (num_terms ts)
    num_terms (minus o a ts) = minus o (num_term a) (num_terms ts)

    num_term : Term → Term
    num_term (term f fs) = term (num_factor f) (num_factors fs)

    num_factors : Factors → Factors
    num_factors no_factor = no_factor
    num_factors (times o f fs) = times o (num_factor f) (num_factors fs)
    num_factors (over o f fs) = over o (num_factor f) (num_factors fs)

    num_factor : Factor → Factor
    num_factor (number n) = number n
    num_factor (negative m n) = negative m n
    num_factor (name x) = name (num x)
    num_factor (paren o e c) = paren o (num_expr e) c

  abbrev num_names : Names → Names
  num_names no_name = no_name
  num_names (comma c x xs) = comma c (num x) (num_names xs)

  abbrev num_block : Block → Block
  num_block done = done
  num_block (assign x q e z k) = assign (num x) q (num_expr e) z (num_block k)
  num_block (reading x q i c z k) = reading (num x) q i c z (num_block k)
  num_block (when i e o a c k) = when i (num_expr e) o (num_block a) c (num_block k)
  num_block (either i e o a c w o' b c' k) = either i (num_expr e) o (num_block a) c w o' (num_block b) c' (num_block k)
  num_block (loop r n o b c k) = loop r n o (num_block b) c (num_block k)
  num_block (atomic a o b c k) = atomic a o (num_block b) c (num_block k)
  num_block (together w x xs z k) = together w (num x) (num_names xs) z (num_block k)

  abbrev num_decls : Decls → Decls
  num_decls no_decl = no_decl
  num_decls (cell w x q n z ds) = cell w (num x) q n z (num_decls ds)
  num_decls (minus_cell w x q m n z ds) = minus_cell w (num x) q m n z (num_decls ds)
  num_decls (var w x z ds) = var w (num x) z (num_decls ds)
  num_decls (fresh w x z ds) = fresh w (num x) z (num_decls ds)

  abbrev pub renumbered : Script → Script
  renumbered s = record { decls = num_decls s.decls; word = s.word; open' = s.open'; main = num_block s.main; close = s.close }

  -- ---- the rows

  index_same : (r r' : Role) (l : Leaf) (zs : List Row) → index_of t (row r l) zs ≡ index_of t (row r' l) zs
  index_same r r' l [] = refl
  index_same r r' l (z ∷ zs) = ap (λ n. cond (same_name t (row r l) z) 0 (suc n)) (index_same r r' l zs)

  -- a name's row with its number
  named : (r : Role) (l : Leaf) → record { role = r; place = l.place; len = l.len; value = index_of t (row r l) ys } ≡ row r (num l)
  named r l = λ i. record { role = r; place = l.place; len = l.len; value = index_same r role.Target l ys i }

  abbrev N : List Row → List Row
  N rs = map (numbered t ys) rs

  mutual
    expr_rows : (e : Expr) (rs : List Row) → N (text_expr e rs) ≡ text_expr (num_expr e) (N rs)
    expr_rows (alone s) rs = sum_rows s rs
    expr_rows (less s o u) rs = sum_rows s (row role.Less o ∷ text_sum u rs) ∙ ap (λ q. text_sum (num_sum s) (row role.Less o ∷ q)) (sum_rows u rs)
    expr_rows (same s o u) rs = sum_rows s (row role.Same o ∷ text_sum u rs) ∙ ap (λ q. text_sum (num_sum s) (row role.Same o ∷ q)) (sum_rows u rs)

    sum_rows : (s : Sum) (rs : List Row) → N (text_sum s rs) ≡ text_sum (num_sum s) (N rs)
    sum_rows (sum a ts) rs = term_rows a (text_terms ts rs) ∙ ap (text_term (num_term a)) (terms_rows ts rs)

    terms_rows : (ts : Terms) (rs : List Row) → N (text_terms ts rs) ≡ text_terms (num_terms ts) (N rs)
    terms_rows no_term rs = refl
    terms_rows (plus o a ts) rs = ap (λ q. row role.Plus o ∷ q) (term_rows a (text_terms ts rs) ∙ ap (text_term (num_term a)) (terms_rows ts rs))
    terms_rows (minus o a ts) rs = ap (λ q. row role.Minus o ∷ q) (term_rows a (text_terms ts rs) ∙ ap (text_term (num_term a)) (terms_rows ts rs))

    term_rows : (a : Term) (rs : List Row) → N (text_term a rs) ≡ text_term (num_term a) (N rs)
    term_rows (term f fs) rs = factor_rows f (text_factors fs rs) ∙ ap (text_factor (num_factor f)) (factors_rows fs rs)

    factors_rows : (fs : Factors) (rs : List Row) → N (text_factors fs rs) ≡ text_factors (num_factors fs) (N rs)
    factors_rows no_factor rs = refl
    factors_rows (times o f fs) rs = ap (λ q. row role.Times o ∷ q) (factor_rows f (text_factors fs rs) ∙ ap (text_factor (num_factor f)) (factors_rows fs rs))
    factors_rows (over o f fs) rs = ap (λ q. row role.Over o ∷ q) (factor_rows f (text_factors fs rs) ∙ ap (text_factor (num_factor f)) (factors_rows fs rs))

    factor_rows : (f : Factor) (rs : List Row) → N (text_factor f rs) ≡ text_factor (num_factor f) (N rs)
    factor_rows (number n) rs = refl
    factor_rows (negative m n) rs = refl
    factor_rows (name x) rs = ap (λ r. r ∷ N rs) (named role.Operand x)
    factor_rows (paren o e c) rs = ap (λ q. row role.ParenOpen o ∷ q) (expr_rows e (row role.ParenClose c ∷ rs))

  names_rows : (xs : Names) (rs : List Row) → N (text_names xs rs) ≡ text_names (num_names xs) (N rs)
  names_rows no_name rs = refl
  names_rows (comma c x xs) rs = λ i. row role.Comma c ∷ named role.Listed x i ∷ names_rows xs rs i

  block_rows : (b : Block) (rs : List Row) → N (text b rs) ≡ text (num_block b) (N rs)
  block_rows done rs = refl
  block_rows (assign x q e z k) rs =
      let w = expr_rows e (row role.SetEnd z ∷ text k rs) ∙ ap (λ y. text_expr (num_expr e) (row role.SetEnd z ∷ y)) (block_rows k rs) in
      λ i. named role.Target x i ∷ row role.Becomes q ∷ w i
  block_rows (reading x q j c z k) rs =
      λ i. named role.Target x i ∷ row role.Becomes q ∷ row role.InWord j ∷ row role.Channel c ∷ row role.ReadEnd z ∷ block_rows k rs i
  block_rows (when j e o a c k) rs =
      ap (λ y. row role.IfWord j ∷ y) (expr_rows e (row role.ThenOpen o ∷ text a (row role.WhenClose c ∷ text k rs))
      ∙ ap (λ y. text_expr (num_expr e) (row role.ThenOpen o ∷ y)) (block_rows a (row role.WhenClose c ∷ text k rs) ∙ ap (λ y. text (num_block a) (row role.WhenClose c ∷ y)) (block_rows k rs)))
  block_rows (either j e o a c w o' b c' k) rs =
      let last : List Row = row role.ElseClose c' ∷ text k rs in
      let mid : List Row = row role.ThenClose c ∷ row role.ElseWord w ∷ row role.ElseOpen o' ∷ text b last in
      ap (λ y. row role.IfWord j ∷ y) (expr_rows e (row role.ThenOpen o ∷ text a mid)
      ∙ ap (λ y. text_expr (num_expr e) (row role.ThenOpen o ∷ y)) (block_rows a mid
      ∙ ap (λ y. text (num_block a) (row role.ThenClose c ∷ row role.ElseWord w ∷ row role.ElseOpen o' ∷ y)) (block_rows b last ∙ ap (λ y. text (num_block b) (row role.ElseClose c' ∷ y)) (block_rows k rs))))
  block_rows (loop r n o b c k) rs =
      ap (λ y. row role.RepeatWord r ∷ row role.Count n ∷ row role.BodyOpen o ∷ y) (block_rows b (row role.BodyClose c ∷ text k rs) ∙ ap (λ y. text (num_block b) (row role.BodyClose c ∷ y)) (block_rows k rs))
  block_rows (atomic a o b c k) rs =
      ap (λ y. row role.AtomicWord a ∷ row role.RegionOpen o ∷ y) (block_rows b (row role.RegionClose c ∷ text k rs) ∙ ap (λ y. text (num_block b) (row role.RegionClose c ∷ y)) (block_rows k rs))
  block_rows (together w x xs z k) rs =
      let v = names_rows xs (row role.TogetherEnd z ∷ text k rs) ∙ ap (λ y. text_names (num_names xs) (row role.TogetherEnd z ∷ y)) (block_rows k rs) in
      λ i. row role.TogetherWord w ∷ named role.Listed x i ∷ v i

  decls_rows : (ds : Decls) (rs : List Row) → N (text_decls ds rs) ≡ text_decls (num_decls ds) (N rs)
  decls_rows no_decl rs = refl
  decls_rows (cell w x q n z ds) rs = λ i. row role.CellWord w ∷ named role.CellName x i ∷ row role.CellIs q ∷ row role.CellNumber n ∷ row role.CellEnd z ∷ decls_rows ds rs i
  decls_rows (minus_cell w x q m n z ds) rs = λ i. row role.CellWord w ∷ named role.CellName x i ∷ row role.CellIs q ∷ row role.CellMinus m ∷ row role.CellNumber n ∷ row role.CellEnd z ∷ decls_rows ds rs i
  decls_rows (var w x z ds) rs = λ i. row role.VarWord w ∷ named role.VarName x i ∷ row role.VarEnd z ∷ decls_rows ds rs i
  decls_rows (fresh w x z ds) rs = λ i. row role.FreshWord w ∷ named role.FreshName x i ∷ row role.FreshEnd z ∷ decls_rows ds rs i

  pub renumbered_rows : (s : Script) → N (rows s) ≡ rows (renumbered s)
  renumbered_rows s =
      decls_rows s.decls (row role.MainWord s.word ∷ row role.MainOpen s.open' ∷ text s.main (row role.MainClose s.close ∷ []))
      ∙ ap (λ y. text_decls (num_decls s.decls) (row role.MainWord s.word ∷ row role.MainOpen s.open' ∷ y)) (block_rows s.main (row role.MainClose s.close ∷ []))

  -- ---- what does not change

  steps_same : (b : Block) → steps (code (num_block b)) ≡ steps (code b)
  steps_same done = refl
  steps_same (assign x q e z k) = ap (λ n. 1 + n) (steps_same k)
  steps_same (reading x q j c z k) = ap (λ n. 1 + n) (steps_same k)
  steps_same (when j e o a c k) = λ i. 1 + max (steps_same a i) 0 + steps_same k i
  steps_same (either j e o a c w o' b c' k) = λ i. 1 + max (steps_same a i) (steps_same b i) + steps_same k i
  steps_same (loop r n o b c k) = λ i. n.value * (1 + steps_same b i) + steps_same k i
  steps_same (atomic a o b c k) = λ i. 2 + steps_same b i + steps_same k i
  steps_same (together w x xs z k) = ap (λ n. 1 + n) (steps_same k)

  readings_same : (b : Block) → readings (code (num_block b)) ≡ readings (code b)
  readings_same done = refl
  readings_same (assign x q e z k) = readings_same k
  readings_same (reading x q j c z k) = ap (λ n. 1 + n) (readings_same k)
  readings_same (when j e o a c k) = λ i. max (readings_same a i) 0 + readings_same k i
  readings_same (either j e o a c w o' b c' k) = λ i. max (readings_same a i) (readings_same b i) + readings_same k i
  readings_same (loop r n o b c k) = λ i. n.value * readings_same b i + readings_same k i
  readings_same (atomic a o b c k) = λ i. readings_same b i + readings_same k i
  readings_same (together w x xs z k) = readings_same k

  cells_same : (ds : Decls) → cells (num_decls ds) ≡ cells ds
  cells_same no_decl = refl
  cells_same (cell w x q n z ds) = ap (λ n. 1 + n) (cells_same ds)
  cells_same (minus_cell w x q m n z ds) = ap (λ n. 1 + n) (cells_same ds)
  cells_same (var w x z ds) = cells_same ds
  cells_same (fresh w x z ds) = cells_same ds

  locals_same : (ds : Decls) → locals (num_decls ds) ≡ locals ds
  locals_same no_decl = refl
  locals_same (cell w x q n z ds) = locals_same ds
  locals_same (minus_cell w x q m n z ds) = locals_same ds
  locals_same (var w x z ds) = ap (λ n. 1 + n) (locals_same ds)
  locals_same (fresh w x z ds) = ap (λ n. 1 + n) (locals_same ds)

  pub same_steps : (s : Script) → steps_of (renumbered s) ≡ steps_of s
  same_steps s = steps_same s.main

  pub same_readings : (s : Script) → readings_of (renumbered s) ≡ readings_of s
  same_readings s = readings_same s.main

  pub same_cells : (s : Script) → cells (renumbered s).decls ≡ cells s.decls
  same_cells s = cells_same s.decls

  pub same_locals : (s : Script) → locals (renumbered s).decls ≡ locals s.decls
  same_locals s = locals_same s.decls
