-- The walk over the rows of an expression gives its value. Assumes nothing.
use Rattle.std.proofs.Common.{◌≡◌, ℕ, suc, ◌<◌, ◌≤◌, true, cond, ltb, List, [], ◌∷◌, length, Some, None, Option, ℤ, pos, ◌*ℤ◌, refl, ap, ◌∙◌, subst, arith, ltb-true}
use Rattle.std.proofs.lemmas.Bool.{lt-ltb}
use Rattle.script.specs.declared.row.Role.TheVariants as role
use Rattle.script.specs.declared.row.Row.{Row}
use Rattle.script.specs.Syntax.{Expr, alone, less, same, Sum, sum, Terms, no_term, plus, minus, Term, term, Factors, no_factor, times, over, Factor, number, negative, name, paren}
use Rattle.script.specs.Written.{row, text_expr, text_sum, text_terms, text_term, text_factors, text_factor}
use Rattle.script.specs.Values.{wrapped, quotient, value, value_sum, more_terms, value_term, more_factors, value_factor}
use Rattle.checker.specs.Limits.{shallow}
use Rattle.checker.proofs.Exprs.{and_true, shallow_sum, shallow_term, shallow_factor}
use Rattle.evaluate.specs.declared.level.Comparison.{Comparison}
use Rattle.evaluate.specs.declared.level.Comparison.TheVariants as comparison
use Rattle.evaluate.specs.declared.level.Sign.{Sign}
use Rattle.evaluate.specs.declared.level.Sign.TheVariants as sign
use Rattle.evaluate.specs.declared.level.By.TheVariants as by
use Rattle.evaluate.specs.declared.level.Level.{Level}
use Rattle.evaluate.specs.Walk.{level, blank, factor, total, finish, compared, walk, worth, At, on, opened}

module _ (v : ℕ → ℤ) where
  -- the left side of a comparison, and the sum before a term
  abbrev Side : Type 0
  Side = Option (ℤ × Comparison)

  abbrev Before : Type 0
  Before = Option (ℤ × Sign)

  -- the level after one more term, with its value
  abbrev next_term : Sign → ℤ → Level → Level
  next_term g x l = level l.left (Some (total l, g)) x None

  -- the level after more terms
  abbrev after_terms : Terms → Level → Level
  after_terms no_term l = l
  after_terms (plus o t ts) l = after_terms ts (next_term sign.Plus (value_term v t) l)
  after_terms (minus o t ts) l = after_terms ts (next_term sign.Minus (value_term v t) l)

  abbrev after_sum : Sum → Side → Level
  after_sum (sum t ts) c = after_terms ts (level c None (value_term v t) None)

  abbrev after_expr : Expr → Level
  after_expr (alone s) = after_sum s None
  after_expr (less s o u) = after_sum u (Some (value_sum v s, comparison.Less))
  after_expr (same s o u) = after_sum u (Some (value_sum v s, comparison.Same))

  total_terms : (ts : Terms) (l : Level) → total (after_terms ts l) ≡ more_terms v (total l) ts
  total_terms no_term l = refl
  total_terms (plus o t ts) l = total_terms ts (next_term sign.Plus (value_term v t) l)
  total_terms (minus o t ts) l = total_terms ts (next_term sign.Minus (value_term v t) l)

  side_terms : (ts : Terms) (l : Level) → (after_terms ts l).left ≡ l.left
  side_terms no_term l = refl
  side_terms (plus o t ts) l = side_terms ts (next_term sign.Plus (value_term v t) l)
  side_terms (minus o t ts) l = side_terms ts (next_term sign.Minus (value_term v t) l)

  total_sum : (s : Sum) (c : Side) → total (after_sum s c) ≡ value_sum v s
  total_sum (sum t ts) c = total_terms ts (level c None (value_term v t) None)

  side_sum : (s : Sum) (c : Side) → (after_sum s c).left ≡ c
  side_sum (sum t ts) c = side_terms ts (level c None (value_term v t) None)

  finish_sum : (s : Sum) (c : Side) → finish (after_sum s c) ≡ compared c (value_sum v s)
  finish_sum s c = ap (λ d. compared d (total (after_sum s c))) (side_sum s c) ∙ ap (compared c) (total_sum s c)

  pub finish_expr : (e : Expr) → finish (after_expr e) ≡ value v e
  finish_expr (alone s) = finish_sum s None
  finish_expr (less s o u) = finish_sum u (Some (value_sum v s, comparison.Less))
  finish_expr (same s o u) = finish_sum u (Some (value_sum v s, comparison.Same))

  -- ---- the walk. d braces and parentheses are open, of which the levels around are some

  open_one : (l : Level) (ls : List Level) (d : ℕ) → length ls ≤ d → ltb d 16 ≡ true → opened l ls ≡ on blank (l ∷ ls)
  open_one l ls d h e =
      let t : d < 16 = omega (arith, ltb-true) in
      let f : ltb (length ls) 16 ≡ true = lt-ltb (length ls) 16 (omega arith) in
      ap (λ b. cond b (on blank (l ∷ ls)) (on l ls)) f

  mutual
    walk_expr : (e : Expr) (rs : List Row) (d : ℕ) (ls : List Level) → length ls ≤ d → shallow d (text_expr e rs) ≡ true → walk v (text_expr e rs) blank ls ≡ walk v rs (after_expr e) ls
    walk_expr (alone s) rs d ls h q = walk_sum s None rs d ls h q
    walk_expr (less s o u) rs d ls h q =
        walk_sum s None (row role.Less o ∷ text_sum u rs) d ls h q
        ∙ ap (λ x. walk v (text_sum u rs) (level (Some (x, comparison.Less)) None (pos 0) None) ls) (total_sum s None)
        ∙ walk_sum u (Some (value_sum v s, comparison.Less)) rs d ls h (shallow_sum s d (row role.Less o ∷ text_sum u rs) q)
    walk_expr (same s o u) rs d ls h q =
        walk_sum s None (row role.Same o ∷ text_sum u rs) d ls h q
        ∙ ap (λ x. walk v (text_sum u rs) (level (Some (x, comparison.Same)) None (pos 0) None) ls) (total_sum s None)
        ∙ walk_sum u (Some (value_sum v s, comparison.Same)) rs d ls h (shallow_sum s d (row role.Same o ∷ text_sum u rs) q)

    walk_sum : (s : Sum) (c : Side) (rs : List Row) (d : ℕ) (ls : List Level) → length ls ≤ d → shallow d (text_sum s rs) ≡ true → walk v (text_sum s rs) (level c None (pos 0) None) ls ≡ walk v rs (after_sum s c) ls
    walk_sum (sum t ts) c rs d ls h q =
        walk_term t c None (text_terms ts rs) d ls h q
        ∙ walk_terms ts (level c None (value_term v t) None) rs d ls h (shallow_term t d (text_terms ts rs) q)

    walk_terms : (ts : Terms) (l : Level) (rs : List Row) (d : ℕ) (ls : List Level) → length ls ≤ d → shallow d (text_terms ts rs) ≡ true → walk v (text_terms ts rs) l ls ≡ walk v rs (after_terms ts l) ls
    walk_terms no_term l rs d ls h q = refl
    walk_terms (plus o t ts) l rs d ls h q =
        walk_term t l.left (Some (total l, sign.Plus)) (text_terms ts rs) d ls h q
        ∙ walk_terms ts (next_term sign.Plus (value_term v t) l) rs d ls h (shallow_term t d (text_terms ts rs) q)
    walk_terms (minus o t ts) l rs d ls h q =
        walk_term t l.left (Some (total l, sign.Minus)) (text_terms ts rs) d ls h q
        ∙ walk_terms ts (next_term sign.Minus (value_term v t) l) rs d ls h (shallow_term t d (text_terms ts rs) q)

    walk_term : (t : Term) (c : Side) (s : Before) (rs : List Row) (d : ℕ) (ls : List Level) → length ls ≤ d → shallow d (text_term t rs) ≡ true → walk v (text_term t rs) (level c s (pos 0) None) ls ≡ walk v rs (level c s (value_term v t) None) ls
    walk_term (term f fs) c s rs d ls h q =
        walk_factor f (level c s (pos 0) None) (text_factors fs rs) d ls h q
        ∙ walk_factors fs c s (value_factor v f) rs d ls h (shallow_factor f d (text_factors fs rs) q)

    walk_factors : (fs : Factors) (c : Side) (s : Before) (p : ℤ) (rs : List Row) (d : ℕ) (ls : List Level) → length ls ≤ d → shallow d (text_factors fs rs) ≡ true → walk v (text_factors fs rs) (level c s p None) ls ≡ walk v rs (level c s (more_factors v p fs) None) ls
    walk_factors no_factor c s p rs d ls h q = refl
    walk_factors (times o f fs) c s p rs d ls h q =
        walk_factor f (level c s p (Some by.Times)) (text_factors fs rs) d ls h q
        ∙ walk_factors fs c s (wrapped (p *ℤ value_factor v f)) rs d ls h (shallow_factor f d (text_factors fs rs) q)
    walk_factors (over o f fs) c s p rs d ls h q =
        walk_factor f (level c s p (Some by.Over)) (text_factors fs rs) d ls h q
        ∙ walk_factors fs c s (wrapped (quotient p (value_factor v f))) rs d ls h (shallow_factor f d (text_factors fs rs) q)

    walk_factor : (f : Factor) (l : Level) (rs : List Row) (d : ℕ) (ls : List Level) → length ls ≤ d → shallow d (text_factor f rs) ≡ true → walk v (text_factor f rs) l ls ≡ walk v rs (factor (value_factor v f) l) ls
    walk_factor (number n) l rs d ls h q = refl
    walk_factor (negative m n) l rs d ls h q = refl
    walk_factor (name x) l rs d ls h q = refl
    walk_factor (paren o e c) l rs d ls h q =
        let deep = and_true (ltb d 16) _ q in
        ap (λ (a : At). walk v (text_expr e (row role.ParenClose c ∷ rs)) a.here a.outer) (open_one l ls d h deep.0)
        ∙ walk_expr e (row role.ParenClose c ∷ rs) (suc d) (l ∷ ls) (omega arith) deep.1
        ∙ ap (λ x. walk v rs (factor x l) ls) (finish_expr e)

  -- the rows of an expression, in a text with so many braces open
  pub worth_expr : (e : Expr) (d : ℕ) → shallow d (text_expr e []) ≡ true → worth v (text_expr e []) ≡ value v e
  worth_expr e d q = walk_expr e [] d [] (omega arith) q ∙ finish_expr e

  -- the same of a list that is those rows
  pub worth_rows : (rs : List Row) (e : Expr) → rs ≡ text_expr e [] → shallow 0 rs ≡ true → worth v rs ≡ value v e
  worth_rows rs e is deep = ap (worth v) is ∙ worth_expr e 0 (subst (λ l. shallow 0 l ≡ true) is deep)
