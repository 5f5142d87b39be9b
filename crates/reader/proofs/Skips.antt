-- What passes over each row of an expression or of a list of names passes over all of it. Assumes nothing.
use Rattle.std.proofs.Common.{◌≡◌, List, ◌∷◌, refl, ◌∙◌}
use Rattle.script.specs.declared.row.Row.{Row}
use Rattle.script.specs.declared.row.Role.{Role}
use Rattle.script.specs.declared.row.Role.TheVariants as role
use Rattle.script.specs.Syntax.{Leaf, Expr, alone, less, same, Sum, sum, Terms, no_term, plus, minus, Term, term, Factors, no_factor, times, over, Factor, number, negative, name, paren, Names, no_name, comma}
use Rattle.script.specs.Written.{row, text_expr, text_sum, text_terms, text_term, text_factors, text_factor, text_names}

abbrev pub Passes : {X : Type 0} → (List Row → X) → Role → Type 0
Passes f r = (l : Leaf) (rs : List Row) → f (row r l ∷ rs) ≡ f rs

pub record Skips {X : Type 0} (f : List Row → X) : Type 0 where
  pub literal : Passes f role.Literal
  pub negate : Passes f role.Negate
  pub negated : Passes f role.Negated
  pub operand : Passes f role.Operand
  pub paren_open : Passes f role.ParenOpen
  pub paren_close : Passes f role.ParenClose
  pub times_sign : Passes f role.Times
  pub over_sign : Passes f role.Over
  pub plus_sign : Passes f role.Plus
  pub minus_sign : Passes f role.Minus
  pub less_sign : Passes f role.Less
  pub same_sign : Passes f role.Same
  pub listed : Passes f role.Listed
  pub comma_sign : Passes f role.Comma

module _ {X : Type 0} (f : List Row → X) (h : Skips f) where
  mutual
    pub skip_expr : (e : Expr) (rs : List Row) → f (text_expr e rs) ≡ f rs
    skip_expr (alone s) rs = skip_sum s rs
    skip_expr (less s o u) rs = skip_sum s (row role.Less o ∷ text_sum u rs) ∙ h.less_sign o (text_sum u rs) ∙ skip_sum u rs
    skip_expr (same s o u) rs = skip_sum s (row role.Same o ∷ text_sum u rs) ∙ h.same_sign o (text_sum u rs) ∙ skip_sum u rs

    skip_sum : (s : Sum) (rs : List Row) → f (text_sum s rs) ≡ f rs
    skip_sum (sum t ts) rs = skip_term t (text_terms ts rs) ∙ skip_terms ts rs

    skip_terms : (ts : Terms) (rs : List Row) → f (text_terms ts rs) ≡ f rs
    skip_terms no_term rs = refl
    skip_terms (plus o t ts) rs = h.plus_sign o (text_term t (text_terms ts rs)) ∙ skip_term t (text_terms ts rs) ∙ skip_terms ts rs
    skip_terms (minus o t ts) rs = h.minus_sign o (text_term t (text_terms ts rs)) ∙ skip_term t (text_terms ts rs) ∙ skip_terms ts rs

    skip_term : (t : Term) (rs : List Row) → f (text_term t rs) ≡ f rs
    skip_term (term x xs) rs = skip_factor x (text_factors xs rs) ∙ skip_factors xs rs

    skip_factors : (xs : Factors) (rs : List Row) → f (text_factors xs rs) ≡ f rs
    skip_factors no_factor rs = refl
    skip_factors (times o x xs) rs = h.times_sign o (text_factor x (text_factors xs rs)) ∙ skip_factor x (text_factors xs rs) ∙ skip_factors xs rs
    skip_factors (over o x xs) rs = h.over_sign o (text_factor x (text_factors xs rs)) ∙ skip_factor x (text_factors xs rs) ∙ skip_factors xs rs

    skip_factor : (x : Factor) (rs : List Row) → f (text_factor x rs) ≡ f rs
    skip_factor (number n) rs = h.literal n rs
    skip_factor (negative m n) rs = h.negate m (row role.Negated n ∷ rs) ∙ h.negated n rs
    skip_factor (name x) rs = h.operand x rs
    skip_factor (paren o e c) rs = h.paren_open o (text_expr e (row role.ParenClose c ∷ rs)) ∙ skip_expr e (row role.ParenClose c ∷ rs) ∙ h.paren_close c rs

  pub skip_names : (xs : Names) (rs : List Row) → f (text_names xs rs) ≡ f rs
  skip_names no_name rs = refl
  skip_names (comma c x xs) rs = h.comma_sign c (row role.Listed x ∷ text_names xs rs) ∙ h.listed x (text_names xs rs) ∙ skip_names xs rs
