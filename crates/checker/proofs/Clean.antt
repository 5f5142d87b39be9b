-- Names apart from all readings stand clean throughout. Assumes nothing.
use Rattle.std.proofs.Common.{◌≡◌, ℕ, ◌*◌, Bool, true, false, cond, not, List, [], ◌∷◌, map, length, get_or, set, replicate, sym, refl, ap, ◌∙◌, subst, ⊎_elim, arith}
use lib.ListN.{length-replicate}
use Rattle.std.proofs.lemmas.List.{get_or-set_same, get_or-set_other, get_or-replicate, get_or_past, set_past, get_or-map, length-map}
use Rattle.std.proofs.lemmas.Bool.{true≢false, cases_eq, cases_lt, or_left, or_right}
use Rattle.script.specs.declared.standing.Standing.{Standing}
use Rattle.script.specs.declared.standing.Standing.TheVariants.{Clean}
use Rattle.script.specs.Syntax.{Leaf, reads, Code, nothing, put, read, fork, turns, region, uses}
use Rattle.script.specs.Stand.{Table, higher, both, highest, of_expr, raised, older, aged, assigned, walk, is_old, olds, uses_in, walks, refused}
use Rattle.checker.specs.Apart.{AllApart, some_apart, Apart}
use Rattle.checker.proofs.Order.{length_both, none_of, climb_keeps, walks_empty}
use Rattle.checker.proofs.Tables.{getD_both}

module _ (apart : ℕ → Bool) where
  abbrev Pure : Table → Type 0
  Pure t = (x : ℕ) → apart x ≡ true → get_or t x Clean ≡ Clean

  pure_set : (t : Table) (x : ℕ) (s : Standing) → (apart x ≡ true → s ≡ Clean) → Pure t → Pure (set t x s)
  pure_set t x s h p y a = ⊎_elim
      (λ (e : y ≡ x). ap (λ z. get_or (set t x s) z Clean) e ∙ ⊎_elim
      (λ lt. get_or-set_same t x s Clean lt ∙ h (subst (λ z. apart z ≡ true) e a))
      (λ le. ap (λ z. get_or z x Clean) (set_past t x s le) ∙ get_or_past t x Clean le)
      (cases_lt x (length t)))
      (λ (ne : y ≡ x → ⊥). get_or-set_other t x y s Clean ne ∙ p y a)
      (cases_eq y x)

  pure_highest : (t : Table) (xs : List Leaf) → AllApart apart xs → Pure t → highest t xs ≡ Clean
  pure_highest t [] h p = refl
  pure_highest t (x ∷ xs) h p = ap (λ s. higher s (highest t xs)) (p x.value h.0) ∙ pure_highest t xs h.1 p

  pure_both : (t u : Table) → Pure t → Pure u → Pure (both t u)
  pure_both t u p q y a = ⊎_elim
      (λ lt. getD_both t u y lt ∙ ap (λ s. higher s (get_or u y Clean)) (p y a) ∙ q y a)
      (λ le. get_or_past (both t u) y Clean (omega (arith, length_both t u, le)))
      (cases_lt y (length t))

  pure_raised : (s : Standing) (xs : List ℕ) (t : Table) → (some_apart apart xs ≡ true → s ≡ Clean) → Pure t → Pure (raised s xs t)
  pure_raised s [] t h p = p
  pure_raised s (x ∷ xs) t h p =
      pure_raised s xs _ (λ e. h (or_right (apart x) (some_apart apart xs) e))
      (pure_set t x _ (λ e. ap (λ z. higher z s) (p x e) ∙ h (or_left (apart x) (some_apart apart xs) e)) p)

  pure_aged : (b : Bool) (t : Table) → Pure t → Pure (aged b t)
  pure_aged true t p y a = ⊎_elim
      (λ lt. get_or-map older t y Clean Clean lt ∙ ap older (p y a))
      (λ le. get_or_past (map older t) y Clean (omega (arith, length-map t older, le)))
      (cases_lt y (length t))
  pure_aged false t p y a = p y a

  pure_one : (s : Standing) (p : ℕ) (ps : List ℕ) → s ≡ Clean → cond (is_old s) (p ∷ ps) ps ≡ ps
  pure_one s p ps h = ap (λ z. cond (is_old z) (p ∷ ps) ps) h

  pure_olds : (t : Table) (xs : List Leaf) → AllApart apart xs → Pure t → olds t xs ≡ []
  pure_olds t [] h p = refl
  pure_olds t (x ∷ xs) h p = pure_one (get_or t x.value Clean) x.place (olds t xs) (p x.value h.0) ∙ pure_olds t xs h.1 p

  module _ (marked : ℕ → Bool) where
    pure_walk : (k : Code) (inside : Bool) (t : Table) → Apart apart marked k → Pure t → Pure (walk inside k t)
    pure_walk nothing i t h p = p
    pure_walk (put x e k) i t h p = pure_walk k i _ h.2 (pure_set t x.value _ (λ a. pure_highest t (reads e []) (h.0 a) p) p)
    pure_walk (read x c k) i t h p = pure_walk k i _ h.1 (pure_set t x.value _ (λ a. absurd (true≢false (sym a ∙ h.0))) p)
    pure_walk (fork e a b k) i t h p =
        pure_walk k i _ h.4 (pure_raised (of_expr t e) (assigned a (assigned b [])) _ (λ q. pure_highest t (reads e []) (h.0 q) p) (pure_both (walk i a t) (walk i b t) (pure_walk a i t h.2 p) (pure_walk b i t h.3 p)))
    pure_walk (turns n b k) i t h p =
        pure_walk k i _ h.1 (pure_walk b i _ h.0 (climb_keeps Pure pure_both (walk i b) (λ u q. pure_walk b i u h.0 q) (2 * length t) t p))
    pure_walk (region b k) i t h p = pure_walk k i _ h.1 (pure_aged (not i) _ (pure_walk b true _ h.0 (pure_aged (not i) t p)))
    pure_walk (uses xs k) i t h p = pure_walk k i t h.1 p

    pure_refused : (k : Code) (inside : Bool) (t : Table) → Apart apart marked k → Pure t → refused marked inside k t ≡ []
    pure_refused nothing i t h p = refl
    pure_refused (put x e k) i t h p =
        none_of (olds t (uses_in marked e)) _ (pure_olds t (uses_in marked e) h.1 p) (pure_refused k i _ h.2 (pure_set t x.value _ (λ a. pure_highest t (reads e []) (h.0 a) p) p))
    pure_refused (read x c k) i t h p = pure_refused k i _ h.1 (pure_set t x.value _ (λ a. absurd (true≢false (sym a ∙ h.0))) p)
    pure_refused (fork e a b k) i t h p =
        none_of (olds t (uses_in marked e)) _ (pure_olds t (uses_in marked e) h.1 p)
        (none_of (refused marked i a t) _ (pure_refused a i t h.2 p)
        (none_of (refused marked i b t) _ (pure_refused b i t h.3 p)
        (pure_refused k i _ h.4 (pure_raised (of_expr t e) (assigned a (assigned b [])) _ (λ q. pure_highest t (reads e []) (h.0 q) p) (pure_both (walk i a t) (walk i b t) (pure_walk a i t h.2 p) (pure_walk b i t h.3 p))))))
    pure_refused (turns n b k) i t h p =
        none_of (walks (2 * length t) (walk i b) (refused marked i b) t) _
        (walks_empty Pure pure_both (walk i b) (λ u q. pure_walk b i u h.0 q) (refused marked i b) (λ u q. pure_refused b i u h.0 q) (2 * length t) t p)
        (pure_refused k i _ h.1 (pure_walk b i _ h.0 (climb_keeps Pure pure_both (walk i b) (λ u q. pure_walk b i u h.0 q) (2 * length t) t p)))
    pure_refused (region b k) i t h p =
        none_of (refused marked true b (aged (not i) t)) _ (pure_refused b true _ h.0 (pure_aged (not i) t p))
        (pure_refused k i _ h.1 (pure_aged (not i) _ (pure_walk b true _ h.0 (pure_aged (not i) t p))))
    pure_refused (uses xs k) i t h p = none_of (olds t xs) _ (pure_olds t xs h.0 p) (pure_refused k i t h.1 p)

  pure_clean : (n : ℕ) → Pure (replicate n Clean)
  pure_clean n y a = ⊎_elim (λ lt. get_or-replicate n y Clean Clean lt) (λ le. get_or_past (replicate n Clean) y Clean (omega (arith, length-replicate n Clean, le))) (cases_lt y n)

pub apart_accepted : (apart marked : ℕ → Bool) (k : Code) → Apart apart marked k → refused marked false k (replicate 128 Clean) ≡ []
apart_accepted apart marked k h = pure_refused apart marked k false (replicate 128 Clean) h (pure_clean apart 128)
