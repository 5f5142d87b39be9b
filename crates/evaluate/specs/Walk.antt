-- A walk over the rows of an expression, from left to right. Of this file only `IsValueOf` need be believed: it says what the walk comes
-- to on the rows of an expression. Assumes nothing.
use Rattle.std.specs.Prelude.{◌≡◌, ℕ, true, cond, List, [], ◌∷◌, length, ℤ, pos, ◌+ℤ◌, ◌-ℤ◌, ◌*ℤ◌, int_lt, nat_lt, reverse, fold, Option, Some, None}
use Rattle.script.specs.declared.row.Role.{Role}
use Rattle.script.specs.declared.row.Role.TheVariants as role
use Rattle.script.specs.declared.row.Row.{Row}
use Rattle.script.specs.Roles.{is}
use Rattle.script.specs.Syntax.{Expr}
use Rattle.script.specs.Written.{text_expr}
use Rattle.script.specs.Values.{wrapped, quotient, truth, equal, value}
use Rattle.checker.specs.Limits.{shallow}
use Rattle.evaluate.specs.declared.level.Comparison.{Comparison}
use Rattle.evaluate.specs.declared.level.Comparison.TheVariants as comparison
use Rattle.evaluate.specs.declared.level.Sign.{Sign}
use Rattle.evaluate.specs.declared.level.Sign.TheVariants as sign
use Rattle.evaluate.specs.declared.level.By.{By}
use Rattle.evaluate.specs.declared.level.By.TheVariants as by
use Rattle.evaluate.specs.declared.level.Level.{Level}
use Rattle.evaluate.specs.declared.level.Levels.{Levels}

-- a left side and its comparison, a sum and the sign after it, a part of a term and the operator after it
abbrev pub level : Option (ℤ × Comparison) → Option (ℤ × Sign) → ℤ → Option By → Level
level c s p b = record { left = c; sum = s; part = p; by = b }

-- where an expression begins
abbrev pub blank : Level
blank = level None None (pos 0) None

abbrev pub applied : Option By → ℤ → ℤ → ℤ
applied None p v = v
applied (Some by.Times) p v = wrapped (p *ℤ v)
applied (Some by.Over) p v = wrapped (quotient p v)

-- a factor
abbrev pub factor : ℤ → Level → Level
factor v l = level l.left l.sum (applied l.by l.part v) None

abbrev pub signed : Sign → ℤ → ℤ → ℤ
signed sign.Plus s p = wrapped (s +ℤ p)
signed sign.Minus s p = wrapped (s -ℤ p)

abbrev pub summed : Option (ℤ × Sign) → ℤ → ℤ
summed None p = p
summed (Some s) p = signed s.1 s.0 p

-- the sum so far, this term included
abbrev pub total : Level → ℤ
total l = summed l.sum l.part

abbrev pub holds : Comparison → ℤ → ℤ → ℤ
holds comparison.Less u v = truth (int_lt u v)
holds comparison.Same u v = truth (equal u v)

abbrev pub compared : Option (ℤ × Comparison) → ℤ → ℤ
compared None v = v
compared (Some c) v = holds c.1 c.0 v

-- the value at the end of an expression
abbrev pub finish : Level → ℤ
finish l = compared l.left (total l)

-- the level, and those around it
pub record At : Type 0 where
  pub here : Level
  pub outer : List Level

abbrev pub on : Level → List Level → At
on l ls = record { here = l; outer = ls }

-- a parenthesis: 16 are kept apart, which is as many as a script has open
abbrev pub opened : Level → List Level → At
opened l ls = cond (nat_lt (length ls) 16) (on blank (l ∷ ls)) (on l ls)

abbrev pub closed : ℤ → Level → List Level → At
closed v l [] = on l []
closed v l (k ∷ ls) = on (factor v k) ls

-- what a row does; v is the value of a name or a number
abbrev pub does : Role → ℤ → Level → List Level → At
does role.CellWord v l ls = on l ls
does role.CellName v l ls = on l ls
does role.CellIs v l ls = on l ls
does role.CellMinus v l ls = on l ls
does role.CellNumber v l ls = on l ls
does role.CellEnd v l ls = on l ls
does role.VarWord v l ls = on l ls
does role.VarName v l ls = on l ls
does role.VarEnd v l ls = on l ls
does role.FreshWord v l ls = on l ls
does role.FreshName v l ls = on l ls
does role.FreshEnd v l ls = on l ls
does role.MainWord v l ls = on l ls
does role.MainOpen v l ls = on l ls
does role.MainClose v l ls = on l ls
does role.Target v l ls = on l ls
does role.Becomes v l ls = on l ls
does role.SetEnd v l ls = on l ls
does role.InWord v l ls = on l ls
does role.Channel v l ls = on l ls
does role.ReadEnd v l ls = on l ls
does role.IfWord v l ls = on l ls
does role.ThenOpen v l ls = on l ls
does role.WhenClose v l ls = on l ls
does role.ThenClose v l ls = on l ls
does role.ElseWord v l ls = on l ls
does role.ElseOpen v l ls = on l ls
does role.ElseClose v l ls = on l ls
does role.RepeatWord v l ls = on l ls
does role.Count v l ls = on l ls
does role.BodyOpen v l ls = on l ls
does role.BodyClose v l ls = on l ls
does role.AtomicWord v l ls = on l ls
does role.RegionOpen v l ls = on l ls
does role.RegionClose v l ls = on l ls
does role.TogetherWord v l ls = on l ls
does role.Listed v l ls = on l ls
does role.Comma v l ls = on l ls
does role.TogetherEnd v l ls = on l ls
does role.Operand v l ls = on (factor v l) ls
does role.Literal v l ls = on (factor v l) ls
does role.Negate v l ls = on l ls
does role.Negated v l ls = on (factor (wrapped (pos 0 -ℤ v)) l) ls
does role.ParenOpen v l ls = opened l ls
does role.ParenClose v l ls = closed (finish l) l ls
does role.Times v l ls = on (level l.left l.sum l.part (Some by.Times)) ls
does role.Over v l ls = on (level l.left l.sum l.part (Some by.Over)) ls
does role.Plus v l ls = on (level l.left (Some (total l, sign.Plus)) (pos 0) None) ls
does role.Minus v l ls = on (level l.left (Some (total l, sign.Minus)) (pos 0) None) ls
does role.Less v l ls = on (level (Some (total l, comparison.Less)) None (pos 0) None) ls
does role.Same v l ls = on (level (Some (total l, comparison.Same)) None (pos 0) None) ls

-- the value of a row's name or number, where names have the values v
abbrev pub operand : (ℕ → ℤ) → Role → ℕ → ℤ
operand v r n = cond (is r role.Operand) (v n) (wrapped (pos n))

-- the level and those around it after a row
abbrev pub after : (ℕ → ℤ) → At → Row → At
after v a r = does r.role (operand v r.role r.value) a.here a.outer

abbrev pub walk : (ℕ → ℤ) → List Row → Level → List Level → ℤ
walk v rs l ls = finish (fold (after v) (on l ls) rs).here

-- the value of the rows of an expression
abbrev pub worth : (ℕ → ℤ) → List Row → ℤ
worth v rs = walk v rs blank []

abbrev pub at_of : Levels → At
at_of s = on s.here (reverse s.outer.items)

-- z is the value of each expression that the rows are, where names have the values v; at most 16 of its parentheses are open at once
abbrev pub IsValueOf : (ℕ → ℤ) → List Row → ℤ → Type 0
IsValueOf v rs z = (e : Expr) → rs ≡ text_expr e [] → shallow 0 rs ≡ true → z ≡ value v e
