-- Values, which are signed numbers of 32 bits, and what an expression comes to. Assumes nothing.
use Rattle.std.specs.Prelude.{ℕ, suc, ◌-◌, ◌/◌, ◌^◌, Bool, false, cond, ℤ, pos, negsuc, ◌+ℤ◌, ◌-ℤ◌, ◌*ℤ◌, neg_ℤ, ◌==◌, int_lt, nat_lt, unsigned_abs}
use Rattle.std.specs.Int.{int_rem_euclid}
use Rattle.script.specs.Syntax.{Leaf, Expr, alone, less, same, Sum, sum, Terms, no_term, plus, minus, Term, term, Factors, no_factor, times, over, Factor, number, negative, name, paren}

-- 32 bits read with a sign: from -2^31 to 2^31 - 1
abbrev pub signed : ℕ → ℤ
signed n = cond (nat_lt n (2 ^ 31)) (pos n) (negsuc (2 ^ 32 - suc n))

-- the number of 32 bits that differs from z by a multiple of 2^32
abbrev pub wrapped : ℤ → ℤ
wrapped z = signed (unsigned_abs (int_rem_euclid z (pos (2 ^ 32))))

-- a quotient drops its fraction, and a divisor of 0 gives 0
abbrev pub quotient : ℤ → ℤ → ℤ
quotient (pos a) (pos b) = cond (b == 0) (pos 0) (pos (a / b))
quotient (pos a) (negsuc b) = neg_ℤ (pos (a / suc b))
quotient (negsuc a) (pos b) = cond (b == 0) (pos 0) (neg_ℤ (pos (suc a / b)))
quotient (negsuc a) (negsuc b) = pos (suc a / suc b)

-- whether two numbers are the same
abbrev pub equal : ℤ → ℤ → Bool
equal (pos a) (pos b) = a == b
equal (pos a) (negsuc b) = false
equal (negsuc a) (pos b) = false
equal (negsuc a) (negsuc b) = a == b

-- a comparison gives 1 or 0
abbrev pub truth : Bool → ℤ
truth b = cond b (pos 1) (pos 0)

-- a number in an expression: a read script's is at most 2147483647, which wrapping leaves as it is
abbrev pub literal : Leaf → ℤ
literal n = wrapped (pos n.value)

-- the value of an expression, where v gives each name's value by the name's number; equal operators from left to right
abbrev mutual
  pub value : (ℕ → ℤ) → Expr → ℤ
  value v (alone s) = value_sum v s
  value v (less s _ u) = truth (int_lt (value_sum v s) (value_sum v u))
  value v (same s _ u) = truth (equal (value_sum v s) (value_sum v u))

  pub value_sum : (ℕ → ℤ) → Sum → ℤ
  value_sum v (sum t ts) = more_terms v (value_term v t) ts

  pub more_terms : (ℕ → ℤ) → ℤ → Terms → ℤ
  more_terms v x no_term = x
  more_terms v x (plus _ t ts) = more_terms v (wrapped (x +ℤ value_term v t)) ts
  more_terms v x (minus _ t ts) = more_terms v (wrapped (x -ℤ value_term v t)) ts

  pub value_term : (ℕ → ℤ) → Term → ℤ
  value_term v (term f fs) = more_factors v (value_factor v f) fs

  pub more_factors : (ℕ → ℤ) → ℤ → Factors → ℤ
  more_factors v x no_factor = x
  more_factors v x (times _ f fs) = more_factors v (wrapped (x *ℤ value_factor v f)) fs
  more_factors v x (over _ f fs) = more_factors v (wrapped (quotient x (value_factor v f))) fs

  pub value_factor : (ℕ → ℤ) → Factor → ℤ
  value_factor v (number n) = literal n
  value_factor v (negative _ n) = wrapped (pos 0 -ℤ literal n)
  value_factor v (name x) = v x.value
  value_factor v (paren _ e _) = value v e
