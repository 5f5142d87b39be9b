-- Loops over a table of standings. Assumes nothing.
use Rattle.std.proofs.Common.{◌≡◌, ℕ, zero, suc, ◌+◌, ◌<◌, ◌≤◌, ◌≢◌, [], ◌∷◌, map, length, get_or, set, sym, refl, ap, ◌∙◌, ⊎_elim, arith, length-set}
use Rattle.std.proofs.lemmas.List.{ext_get_or, get_or-set_same, get_or-set_other, get_or-map, length-map}
use Rattle.std.proofs.lemmas.Bool.{cases_eq}
use Rattle.script.specs.declared.standing.Standing.{Standing}
use Rattle.script.specs.declared.standing.Standing.TheVariants.{Clean}
use Rattle.script.specs.Stand.{Table, higher, both, older}
use Rattle.checker.proofs.Order.{higher_clean, length_both}

-- the entries of t below i are g's, and the others t₀'s
pub record Partly (g : ℕ → Standing) (t₀ t : Table) (i : ℕ) : Type 0 where
  pub long : length t ≡ length t₀
  pub done : (k : ℕ) → k < i → get_or t k Clean ≡ g k
  pub rest : (k : ℕ) → i ≤ k → get_or t k Clean ≡ get_or t₀ k Clean

pub partly_none : (g : ℕ → Standing) (t : Table) → Partly g t t 0
partly_none g t = record { long = refl; done = λ k h. absurd (omega arith); rest = λ k h. refl }

pub partly_more : (g : ℕ → Standing) (t₀ t : Table) (i : ℕ) (v : Standing) → Partly g t₀ t i → i < length t → v ≡ g i → Partly g t₀ (set t i v) (i + 1)
partly_more g t₀ t i v p lt e = record {
  long = length-set t i v ∙ p.long;
  done = λ k h. ⊎_elim
      (λ (same : k ≡ i). ap (λ j. get_or (set t i v) j Clean) same ∙ get_or-set_same t i v Clean lt ∙ e ∙ ap g (sym same))
      (λ (ne : k ≡ i → ⊥). get_or-set_other t i k v Clean ne ∙ p.done k (omega arith))
      (cases_eq k i);
  rest = λ k h. let ne : k ≢ i = omega arith in get_or-set_other t i k v Clean ne ∙ p.rest k (omega arith);
}

pub partly_all : (g : ℕ → Standing) (t₀ t w : Table) (i : ℕ) → Partly g t₀ t i → length t₀ ≤ i → length w ≡ length t₀ → ((k : ℕ) → k < length t₀ → get_or w k Clean ≡ g k) → t ≡ w
partly_all g t₀ t w i p h long is = ext_get_or Clean t w (p.long ∙ sym long) (λ k lt. p.done k (omega (arith, p.long)) ∙ sym (is k (omega (arith, p.long))))

pub getD_both : (t u : Table) (k : ℕ) → k < length t → get_or (both t u) k Clean ≡ higher (get_or t k Clean) (get_or u k Clean)
getD_both [] us k h = absurd (omega arith)
getD_both (t ∷ ts) [] k h = sym (higher_clean (get_or (t ∷ ts) k Clean))
getD_both (t ∷ ts) (u ∷ us) zero h = refl
getD_both (t ∷ ts) (u ∷ us) (suc k) h = getD_both ts us k (omega arith)

pub both_all : (t₀ t u : Table) (i : ℕ) → Partly (λ k. higher (get_or t₀ k Clean) (get_or u k Clean)) t₀ t i → length t₀ ≤ i → t ≡ both t₀ u
both_all t₀ t u i p h = partly_all _ t₀ t (both t₀ u) i p h (length_both t₀ u) (getD_both t₀ u)

pub older_all : (t₀ t : Table) (i : ℕ) → Partly (λ k. older (get_or t₀ k Clean)) t₀ t i → length t₀ ≤ i → t ≡ map older t₀
older_all t₀ t i p h = partly_all _ t₀ t (map older t₀) i p h (length-map t₀ older) (λ k lt. get_or-map older t₀ k Clean Clean lt)
