-- Inside one region nothing comes to stand old, so a script that is one region is accepted. Assumes nothing.
use Rattle.std.proofs.Common.{◌≡◌, ℕ, zero, suc, ◌*◌, ◌≤◌, Bool, true, false, cond, List, [], ◌∷◌, map, length, get_or, set, replicate, refl, ◌∙◌, arith}
use Rattle.script.specs.declared.standing.Standing.{Standing}
use Rattle.script.specs.declared.standing.Standing.TheVariants.{Clean, Now, Old}
use Rattle.script.specs.Syntax.{Leaf, reads, Code, nothing, put, read, fork, turns, region, uses}
use Rattle.script.specs.Stand.{Table, both, highest, of_expr, raised, older, assigned, walk, is_old, olds, uses_in, walks, refused}
use Rattle.checker.specs.Order.{rank}
use Rattle.checker.proofs.Order.{rank_least, none_of, climb_keeps, walks_empty}

abbrev Low : Table → Type 0
Low [] = Unit {0}
Low (t ∷ ts) = (rank t ≤ 1) × Low ts

low_set : (t : Table) (x : ℕ) (s : Standing) → rank s ≤ 1 → Low t → Low (set t x s)
low_set [] x s h p = tt
low_set (t ∷ ts) zero s h p = (h, p.1)
low_set (t ∷ ts) (suc x) s h p = (p.0, low_set ts x s h p.1)

low_get : (t : Table) (x : ℕ) → Low t → rank (get_or t x Clean) ≤ 1
low_get [] x p = omega arith
low_get (t ∷ ts) zero p = p.0
low_get (t ∷ ts) (suc x) p = low_get ts x p.1

low_both : (t u : Table) → Low t → Low u → Low (both t u)
low_both [] us p q = tt
low_both (t ∷ ts) [] p q = p
low_both (t ∷ ts) (u ∷ us) p q = (rank_least t u Now p.0 q.0, low_both ts us p.1 q.1)

low_highest : (t : Table) (xs : List Leaf) → Low t → rank (highest t xs) ≤ 1
low_highest t [] p = omega arith
low_highest t (x ∷ xs) p = rank_least (get_or t x.value Clean) (highest t xs) Now (low_get t x.value p) (low_highest t xs p)

low_raised : (s : Standing) (xs : List ℕ) (t : Table) → rank s ≤ 1 → Low t → Low (raised s xs t)
low_raised s [] t h p = p
low_raised s (x ∷ xs) t h p = low_raised s xs _ h (low_set t x _ (rank_least (get_or t x Clean) s Now (low_get t x p) h) p)

low_walk : (k : Code) (t : Table) → Low t → Low (walk true k t)
low_walk nothing t p = p
low_walk (put x e k) t p = low_walk k _ (low_set t x.value _ (low_highest t (reads e []) p) p)
low_walk (read x c k) t p = low_walk k _ (low_set t x.value Now (omega arith) p)
low_walk (fork e a b k) t p = low_walk k _ (low_raised (of_expr t e) (assigned a (assigned b [])) _ (low_highest t (reads e []) p) (low_both _ _ (low_walk a t p) (low_walk b t p)))
low_walk (turns n b k) t p = low_walk k _ (low_walk b _ (climb_keeps Low low_both (walk true b) (low_walk b) (2 * length t) t p))
low_walk (region b k) t p = low_walk k _ (low_walk b t p)
low_walk (uses xs k) t p = low_walk k t p

low_one : (s : Standing) (p : ℕ) (ps : List ℕ) → rank s ≤ 1 → cond (is_old s) (p ∷ ps) ps ≡ ps
low_one Clean p ps h = refl
low_one Now p ps h = refl
low_one Old p ps h = absurd (omega arith)

low_olds : (t : Table) (xs : List Leaf) → Low t → olds t xs ≡ []
low_olds t [] p = refl
low_olds t (x ∷ xs) p = low_one (get_or t x.value Clean) x.place (olds t xs) (low_get t x.value p) ∙ low_olds t xs p

module _ (marked : ℕ → Bool) where
  low_refused : (k : Code) (t : Table) → Low t → refused marked true k t ≡ []
  low_refused nothing t p = refl
  low_refused (put x e k) t p = none_of (olds t (uses_in marked e)) _ (low_olds t (uses_in marked e) p) (low_refused k _ (low_set t x.value _ (low_highest t (reads e []) p) p))
  low_refused (read x c k) t p = low_refused k _ (low_set t x.value Now (omega arith) p)
  low_refused (fork e a b k) t p =
      none_of (olds t (uses_in marked e)) _ (low_olds t (uses_in marked e) p)
      (none_of (refused marked true a t) _ (low_refused a t p)
      (none_of (refused marked true b t) _ (low_refused b t p)
      (low_refused k _ (low_raised (of_expr t e) (assigned a (assigned b [])) _ (low_highest t (reads e []) p) (low_both _ _ (low_walk a t p) (low_walk b t p))))))
  low_refused (turns n b k) t p =
      none_of (walks (2 * length t) (walk true b) (refused marked true b) t) _
      (walks_empty Low low_both (walk true b) (low_walk b) (refused marked true b) (low_refused b) (2 * length t) t p)
      (low_refused k _ (low_walk b _ (climb_keeps Low low_both (walk true b) (low_walk b) (2 * length t) t p)))
  low_refused (region b k) t p = none_of (refused marked true b t) _ (low_refused b t p) (low_refused k _ (low_walk b t p))
  low_refused (uses xs k) t p = none_of (olds t xs) _ (low_olds t xs p) (low_refused k t p)

low_clean : (n : ℕ) → Low (map older (replicate n Clean))
low_clean zero = tt
low_clean (suc n) = (omega arith, low_clean n)

pub one_region : (marked : ℕ → Bool) (b : Code) → refused marked false (region b nothing) (replicate 128 Clean) ≡ []
one_region marked b = none_of (refused marked true b (map older (replicate 128 Clean))) [] (low_refused marked b _ (low_clean 128)) refl
