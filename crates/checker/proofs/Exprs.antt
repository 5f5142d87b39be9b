-- What the rows of an expression do to the check, and how they are written. Assumes nothing.
use Rattle.std.proofs.Common.{◌≡◌, ℕ, suc, ◌≤◌, true, ltb, List, [], ◌∷◌, ◌++◌, length, refl, ap, ◌∙◌, arith}
pub use Rattle.std.proofs.lemmas.Bool.{and_parts as and_true}
use Rattle.script.specs.declared.row.Role.TheVariants as role
use Rattle.script.specs.declared.row.Row.{Row}
use Rattle.script.specs.Syntax.{Leaf, Expr, alone, less, same, Sum, sum, Terms, no_term, plus, minus, Term, term, Factors, no_factor, times, over, Factor, number, negative, name, paren, reads, reads_sum, reads_terms, reads_term, reads_factors, reads_factor}
use Rattle.script.specs.Written.{row, text_expr, text_sum, text_terms, text_term, text_factors, text_factor}
use Rattle.checker.specs.Limits.{shallow}
use Rattle.checker.specs.Machine.{State, reads_name, run, targets}

-- the state after an expression's rows
abbrev mutual
  pub after_expr : Expr → State → State
  after_expr (alone s) st = after_sum s st
  after_expr (less s _ u) st = after_sum u (after_sum s st)
  after_expr (same s _ u) st = after_sum u (after_sum s st)

  pub after_sum : Sum → State → State
  after_sum (sum t ts) st = after_terms ts (after_term t st)

  pub after_terms : Terms → State → State
  after_terms no_term st = st
  after_terms (plus _ t ts) st = after_terms ts (after_term t st)
  after_terms (minus _ t ts) st = after_terms ts (after_term t st)

  pub after_term : Term → State → State
  after_term (term f fs) st = after_factors fs (after_factor f st)

  pub after_factors : Factors → State → State
  after_factors no_factor st = st
  after_factors (times _ f fs) st = after_factors fs (after_factor f st)
  after_factors (over _ f fs) st = after_factors fs (after_factor f st)

  pub after_factor : Factor → State → State
  after_factor (number _) st = st
  after_factor (negative _ _) st = st
  after_factor (name x) st = reads_name (row role.Operand x) st
  after_factor (paren _ e _) st = after_expr e st

-- the names read one by one
abbrev pub used_all : List Leaf → State → State
used_all [] st = st
used_all (x ∷ xs) st = used_all xs (reads_name (row role.Operand x) st)

mutual
  pub run_rows : (e : Expr) (rs : List Row) (st : State) → run (text_expr e rs) st ≡ run rs (after_expr e st)
  run_rows (alone s) rs st = run_sum s rs st
  run_rows (less s o u) rs st = run_sum s (row role.Less o ∷ text_sum u rs) st ∙ run_sum u rs (after_sum s st)
  run_rows (same s o u) rs st = run_sum s (row role.Same o ∷ text_sum u rs) st ∙ run_sum u rs (after_sum s st)

  run_sum : (s : Sum) (rs : List Row) (st : State) → run (text_sum s rs) st ≡ run rs (after_sum s st)
  run_sum (sum t ts) rs st = run_term t (text_terms ts rs) st ∙ run_terms ts rs (after_term t st)

  run_terms : (ts : Terms) (rs : List Row) (st : State) → run (text_terms ts rs) st ≡ run rs (after_terms ts st)
  run_terms no_term rs st = refl
  run_terms (plus o t ts) rs st = run_term t (text_terms ts rs) st ∙ run_terms ts rs (after_term t st)
  run_terms (minus o t ts) rs st = run_term t (text_terms ts rs) st ∙ run_terms ts rs (after_term t st)

  run_term : (t : Term) (rs : List Row) (st : State) → run (text_term t rs) st ≡ run rs (after_term t st)
  run_term (term f fs) rs st = run_factor f (text_factors fs rs) st ∙ run_factors fs rs (after_factor f st)

  run_factors : (fs : Factors) (rs : List Row) (st : State) → run (text_factors fs rs) st ≡ run rs (after_factors fs st)
  run_factors no_factor rs st = refl
  run_factors (times o f fs) rs st = run_factor f (text_factors fs rs) st ∙ run_factors fs rs (after_factor f st)
  run_factors (over o f fs) rs st = run_factor f (text_factors fs rs) st ∙ run_factors fs rs (after_factor f st)

  run_factor : (f : Factor) (rs : List Row) (st : State) → run (text_factor f rs) st ≡ run rs (after_factor f st)
  run_factor (number n) rs st = refl
  run_factor (negative m n) rs st = refl
  run_factor (name x) rs st = refl
  run_factor (paren o e c) rs st = run_rows e (row role.ParenClose c ∷ rs) st

mutual
  pub all_rows : (e : Expr) (xs : List Leaf) (st : State) → used_all (reads e xs) st ≡ used_all xs (after_expr e st)
  all_rows (alone s) xs st = all_sum s xs st
  all_rows (less s o u) xs st = all_sum s (reads_sum u xs) st ∙ all_sum u xs (after_sum s st)
  all_rows (same s o u) xs st = all_sum s (reads_sum u xs) st ∙ all_sum u xs (after_sum s st)

  all_sum : (s : Sum) (xs : List Leaf) (st : State) → used_all (reads_sum s xs) st ≡ used_all xs (after_sum s st)
  all_sum (sum t ts) xs st = all_term t (reads_terms ts xs) st ∙ all_terms ts xs (after_term t st)

  all_terms : (ts : Terms) (xs : List Leaf) (st : State) → used_all (reads_terms ts xs) st ≡ used_all xs (after_terms ts st)
  all_terms no_term xs st = refl
  all_terms (plus o t ts) xs st = all_term t (reads_terms ts xs) st ∙ all_terms ts xs (after_term t st)
  all_terms (minus o t ts) xs st = all_term t (reads_terms ts xs) st ∙ all_terms ts xs (after_term t st)

  all_term : (t : Term) (xs : List Leaf) (st : State) → used_all (reads_term t xs) st ≡ used_all xs (after_term t st)
  all_term (term f fs) xs st = all_factor f (reads_factors fs xs) st ∙ all_factors fs xs (after_factor f st)

  all_factors : (fs : Factors) (xs : List Leaf) (st : State) → used_all (reads_factors fs xs) st ≡ used_all xs (after_factors fs st)
  all_factors no_factor xs st = refl
  all_factors (times o f fs) xs st = all_factor f (reads_factors fs xs) st ∙ all_factors fs xs (after_factor f st)
  all_factors (over o f fs) xs st = all_factor f (reads_factors fs xs) st ∙ all_factors fs xs (after_factor f st)

  all_factor : (f : Factor) (xs : List Leaf) (st : State) → used_all (reads_factor f xs) st ≡ used_all xs (after_factor f st)
  all_factor (number n) xs st = refl
  all_factor (negative m n) xs st = refl
  all_factor (name x) xs st = refl
  all_factor (paren o e c) xs st = all_rows e xs st

-- an expression sets no name
mutual
  pub targets_rows : (e : Expr) (rs : List Row) → targets (text_expr e rs) ≡ targets rs
  targets_rows (alone s) rs = targets_sum s rs
  targets_rows (less s o u) rs = targets_sum s (row role.Less o ∷ text_sum u rs) ∙ targets_sum u rs
  targets_rows (same s o u) rs = targets_sum s (row role.Same o ∷ text_sum u rs) ∙ targets_sum u rs

  targets_sum : (s : Sum) (rs : List Row) → targets (text_sum s rs) ≡ targets rs
  targets_sum (sum t ts) rs = targets_term t (text_terms ts rs) ∙ targets_terms ts rs

  targets_terms : (ts : Terms) (rs : List Row) → targets (text_terms ts rs) ≡ targets rs
  targets_terms no_term rs = refl
  targets_terms (plus o t ts) rs = targets_term t (text_terms ts rs) ∙ targets_terms ts rs
  targets_terms (minus o t ts) rs = targets_term t (text_terms ts rs) ∙ targets_terms ts rs

  targets_term : (t : Term) (rs : List Row) → targets (text_term t rs) ≡ targets rs
  targets_term (term f fs) rs = targets_factor f (text_factors fs rs) ∙ targets_factors fs rs

  targets_factors : (fs : Factors) (rs : List Row) → targets (text_factors fs rs) ≡ targets rs
  targets_factors no_factor rs = refl
  targets_factors (times o f fs) rs = targets_factor f (text_factors fs rs) ∙ targets_factors fs rs
  targets_factors (over o f fs) rs = targets_factor f (text_factors fs rs) ∙ targets_factors fs rs

  targets_factor : (f : Factor) (rs : List Row) → targets (text_factor f rs) ≡ targets rs
  targets_factor (number n) rs = refl
  targets_factor (negative m n) rs = refl
  targets_factor (name x) rs = refl
  targets_factor (paren o e c) rs = targets_rows e (row role.ParenClose c ∷ rs)

-- what follows an expression stands behind its rows
mutual
  pub app_rows : (e : Expr) (xs ys : List Row) → text_expr e (xs ++ ys) ≡ text_expr e xs ++ ys
  app_rows (alone s) xs ys = app_sum s xs ys
  app_rows (less s o u) xs ys = ap (λ z. text_sum s (row role.Less o ∷ z)) (app_sum u xs ys) ∙ app_sum s (row role.Less o ∷ text_sum u xs) ys
  app_rows (same s o u) xs ys = ap (λ z. text_sum s (row role.Same o ∷ z)) (app_sum u xs ys) ∙ app_sum s (row role.Same o ∷ text_sum u xs) ys

  app_sum : (s : Sum) (xs ys : List Row) → text_sum s (xs ++ ys) ≡ text_sum s xs ++ ys
  app_sum (sum t ts) xs ys = ap (text_term t) (app_terms ts xs ys) ∙ app_term t (text_terms ts xs) ys

  app_terms : (ts : Terms) (xs ys : List Row) → text_terms ts (xs ++ ys) ≡ text_terms ts xs ++ ys
  app_terms no_term xs ys = refl
  app_terms (plus o t ts) xs ys = ap (λ z. row role.Plus o ∷ z) (ap (text_term t) (app_terms ts xs ys) ∙ app_term t (text_terms ts xs) ys)
  app_terms (minus o t ts) xs ys = ap (λ z. row role.Minus o ∷ z) (ap (text_term t) (app_terms ts xs ys) ∙ app_term t (text_terms ts xs) ys)

  app_term : (t : Term) (xs ys : List Row) → text_term t (xs ++ ys) ≡ text_term t xs ++ ys
  app_term (term f fs) xs ys = ap (text_factor f) (app_factors fs xs ys) ∙ app_factor f (text_factors fs xs) ys

  app_factors : (fs : Factors) (xs ys : List Row) → text_factors fs (xs ++ ys) ≡ text_factors fs xs ++ ys
  app_factors no_factor xs ys = refl
  app_factors (times o f fs) xs ys = ap (λ z. row role.Times o ∷ z) (ap (text_factor f) (app_factors fs xs ys) ∙ app_factor f (text_factors fs xs) ys)
  app_factors (over o f fs) xs ys = ap (λ z. row role.Over o ∷ z) (ap (text_factor f) (app_factors fs xs ys) ∙ app_factor f (text_factors fs xs) ys)

  app_factor : (f : Factor) (xs ys : List Row) → text_factor f (xs ++ ys) ≡ text_factor f xs ++ ys
  app_factor (number n) xs ys = refl
  app_factor (negative m n) xs ys = refl
  app_factor (name x) xs ys = refl
  app_factor (paren o e c) xs ys = ap (λ z. row role.ParenOpen o ∷ z) (app_rows e (row role.ParenClose c ∷ xs) ys)

-- and is as shallow
mutual
  pub shallow_rows : (e : Expr) (d : ℕ) (rs : List Row) → shallow d (text_expr e rs) ≡ true → shallow d rs ≡ true
  shallow_rows (alone s) d rs h = shallow_sum s d rs h
  shallow_rows (less s o u) d rs h = shallow_sum u d rs (shallow_sum s d (row role.Less o ∷ text_sum u rs) h)
  shallow_rows (same s o u) d rs h = shallow_sum u d rs (shallow_sum s d (row role.Same o ∷ text_sum u rs) h)

  pub shallow_sum : (s : Sum) (d : ℕ) (rs : List Row) → shallow d (text_sum s rs) ≡ true → shallow d rs ≡ true
  shallow_sum (sum t ts) d rs h = shallow_terms ts d rs (shallow_term t d (text_terms ts rs) h)

  pub shallow_terms : (ts : Terms) (d : ℕ) (rs : List Row) → shallow d (text_terms ts rs) ≡ true → shallow d rs ≡ true
  shallow_terms no_term d rs h = h
  shallow_terms (plus o t ts) d rs h = shallow_terms ts d rs (shallow_term t d (text_terms ts rs) h)
  shallow_terms (minus o t ts) d rs h = shallow_terms ts d rs (shallow_term t d (text_terms ts rs) h)

  pub shallow_term : (t : Term) (d : ℕ) (rs : List Row) → shallow d (text_term t rs) ≡ true → shallow d rs ≡ true
  shallow_term (term f fs) d rs h = shallow_factors fs d rs (shallow_factor f d (text_factors fs rs) h)

  pub shallow_factors : (fs : Factors) (d : ℕ) (rs : List Row) → shallow d (text_factors fs rs) ≡ true → shallow d rs ≡ true
  shallow_factors no_factor d rs h = h
  shallow_factors (times o f fs) d rs h = shallow_factors fs d rs (shallow_factor f d (text_factors fs rs) h)
  shallow_factors (over o f fs) d rs h = shallow_factors fs d rs (shallow_factor f d (text_factors fs rs) h)

  pub shallow_factor : (f : Factor) (d : ℕ) (rs : List Row) → shallow d (text_factor f rs) ≡ true → shallow d rs ≡ true
  shallow_factor (number n) d rs h = h
  shallow_factor (negative m n) d rs h = h
  shallow_factor (name x) d rs h = h
  shallow_factor (paren o e c) d rs h = shallow_rows e (suc d) (row role.ParenClose c ∷ rs) (and_true (ltb d 16) _ h).1

-- and is no longer
mutual
  pub length_rows : (e : Expr) (rs : List Row) → length rs ≤ length (text_expr e rs)
  length_rows (alone s) rs = length_sum s rs
  length_rows (less s o u) rs = omega (arith, length_sum u rs, length_sum s (row role.Less o ∷ text_sum u rs))
  length_rows (same s o u) rs = omega (arith, length_sum u rs, length_sum s (row role.Same o ∷ text_sum u rs))

  length_sum : (s : Sum) (rs : List Row) → length rs ≤ length (text_sum s rs)
  length_sum (sum t ts) rs = omega (arith, length_terms ts rs, length_term t (text_terms ts rs))

  length_terms : (ts : Terms) (rs : List Row) → length rs ≤ length (text_terms ts rs)
  length_terms no_term rs = omega arith
  length_terms (plus o t ts) rs = omega (arith, length_terms ts rs, length_term t (text_terms ts rs))
  length_terms (minus o t ts) rs = omega (arith, length_terms ts rs, length_term t (text_terms ts rs))

  length_term : (t : Term) (rs : List Row) → length rs ≤ length (text_term t rs)
  length_term (term f fs) rs = omega (arith, length_factors fs rs, length_factor f (text_factors fs rs))

  length_factors : (fs : Factors) (rs : List Row) → length rs ≤ length (text_factors fs rs)
  length_factors no_factor rs = omega arith
  length_factors (times o f fs) rs = omega (arith, length_factors fs rs, length_factor f (text_factors fs rs))
  length_factors (over o f fs) rs = omega (arith, length_factors fs rs, length_factor f (text_factors fs rs))

  length_factor : (f : Factor) (rs : List Row) → length rs ≤ length (text_factor f rs)
  length_factor (number n) rs = omega arith
  length_factor (negative m n) rs = omega arith
  length_factor (name x) rs = omega arith
  length_factor (paren o e c) rs = omega (arith, length_rows e (row role.ParenClose c ∷ rs))
