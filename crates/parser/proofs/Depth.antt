-- The steps of the loop that counts what is open. Assumes nothing.
use Rattle.std.proofs.Common.{◌≡◌, ℕ, ◌+◌, ◌-◌, ◌<◌, ◌≤◌, Bool, true, false, cond, eqb, leb, List, ◌∷◌, length, get_or, drop, Some, None, Option, sym, refl, ap, ◌∙◌, subst, arith}
use Rattle.std.proofs.lemmas.List.{at_drop_more}
use Rattle.std.proofs.lemmas.Bool.{leb-false}
use Rattle.script.specs.declared.token.Sym.{Sym}
use Rattle.script.specs.declared.token.Tok.{Tok}
use Rattle.script.specs.Nesting.{opens, closes, open_after, or_stop, nesting_from, nesting}

-- the count never passes 16
abbrev Within : Option ℕ → Type 0
Within None = Unit {0}
Within (Some n) = n ≤ 16

within : (s : Sym) (n : ℕ) → n ≤ 16 → Within (open_after s n)
within s n h = by (opens s) (closes s) (leb 16 n) refl (eqb n 0)
  where
    by : (o k d : Bool) → leb 16 n ≡ d → (z : Bool) → Within (cond o (cond d None (Some (n + 1))) (cond k (cond z None (Some (n - 1))) (Some n)))
    by true k true e z = tt
    by true k false e z = omega (arith, leb-false 16 n e)
    by false true d e true = tt
    by false true d e false = omega arith
    by false false d e z = h

pub within_some : (s : Sym) (n k : ℕ) → n ≤ 16 → open_after s n ≡ Some k → k ≤ 16
within_some s n k h e = subst Within e (within s n h)

pub record Counted (toks : List Tok) (n i : ℕ) : Type 0 where
  pub low : n ≤ 16
  pub same : nesting_from n (drop i toks) ≡ nesting toks

module _ {toks : List Tok} {n i : ℕ} (so : Counted toks n i) where
  module _ (lt : i < length toks) (t : Tok) (is : get_or toks i t ≡ t) where
    to : or_stop t.place (open_after t.sym n) (λ m. nesting_from m (drop (i + 1) toks)) ≡ nesting toks
    to = sym (at_drop_more (nesting_from n) toks i t lt ∙ ap (λ u. nesting_from n (u ∷ drop (i + 1) toks)) is) ∙ so.same

    pub counted_on : (k : ℕ) → open_after t.sym n ≡ Some k → Counted toks k (i + 1)
    counted_on k e = record { low = within_some t.sym n k so.low e; same = sym (ap (λ o. or_stop t.place o (λ m. nesting_from m (drop (i + 1) toks))) e) ∙ to }

    pub counted_off : open_after t.sym n ≡ None → nesting toks ≡ Some t.place
    counted_off e = sym to ∙ ap (λ o. or_stop t.place o (λ m. nesting_from m (drop (i + 1) toks))) e
