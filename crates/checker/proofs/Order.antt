-- The order of tables, and that a settled table does not rise. Assumes nothing.
use Rattle.std.proofs.Common.{◌≡◌, ℕ, zero, suc, ◌+◌, ◌*◌, ◌<◌, ◌≤◌, max, Bool, true, false, not, ◌⊎◌, List, [], ◌∷◌, ◌++◌, length, get_or, set, sym, refl, ap, ◌∙◌, subst, inl, inr, ⊎_elim, arith, length-set}
use Rattle.std.proofs.lemmas.List.{length-map}
use Rattle.std.proofs.lemmas.Bool.{cases_lt}
use Rattle.script.specs.Syntax.{Code, nothing, put, read, fork, turns, region, uses}
use Rattle.script.specs.declared.standing.Standing.{Standing}
use Rattle.script.specs.declared.standing.Standing.TheVariants.{Clean, Now, Old}
use Rattle.checker.specs.Order.{rank, Le}
use Rattle.script.specs.Stand.{assigned, Table, higher, both, raised, older, aged, climb, settle, walk, walks}

abbrev pub total : Table → ℕ
total [] = 0
total (t ∷ ts) = rank t + total ts

pub le_refl : (t : Table) → Le t t
le_refl [] = tt
le_refl (t ∷ ts) = (omega arith, le_refl ts)

pub le_trans : (t u v : Table) → Le t u → Le u v → Le t v
le_trans [] [] v p q = q
le_trans [] (u ∷ us) v p q = absurd p
le_trans (t ∷ ts) [] v p q = absurd p
le_trans (t ∷ ts) (u ∷ us) [] p q = absurd q
le_trans (t ∷ ts) (u ∷ us) (v ∷ vs) p q = (omega arith, le_trans ts us vs p.1 q.1)

-- the higher of two has the higher rank, and no two have one rank: so `omega` tells of `higher` what it tells of `max`
pub rank_higher : (s u : Standing) → rank (higher s u) ≡ max (rank s) (rank u)
rank_higher Clean u = omega arith
rank_higher Now Clean = refl
rank_higher Now Now = refl
rank_higher Now Old = refl
rank_higher Old Clean = refl
rank_higher Old Now = refl
rank_higher Old Old = refl

pub one_rank : (s u : Standing) → rank s ≡ rank u → s ≡ u
one_rank Clean Clean e = refl
one_rank Clean Now e = absurd (omega arith)
one_rank Clean Old e = absurd (omega arith)
one_rank Now Clean e = absurd (omega arith)
one_rank Now Now e = refl
one_rank Now Old e = absurd (omega arith)
one_rank Old Clean e = absurd (omega arith)
one_rank Old Now e = absurd (omega arith)
one_rank Old Old e = refl

pub rank_left : (s u : Standing) → rank s ≤ rank (higher s u)
rank_left s u = omega (arith, rank_higher s u)

pub rank_right : (s u : Standing) → rank u ≤ rank (higher s u)
rank_right s u = omega (arith, rank_higher s u)

pub rank_least : (s u v : Standing) → rank s ≤ rank v → rank u ≤ rank v → rank (higher s u) ≤ rank v
rank_least s u v p q = omega (arith, rank_higher s u)

pub higher_clean : (s : Standing) → higher s Clean ≡ s
higher_clean s = one_rank (higher s Clean) s (omega (arith, rank_higher s Clean))

pub higher_assoc : (s t u : Standing) → higher (higher s t) u ≡ higher s (higher t u)
higher_assoc s t u = one_rank _ _ (omega (arith, rank_higher (higher s t) u, rank_higher s t, rank_higher s (higher t u), rank_higher t u))

pub both_left : (t u : Table) → Le t (both t u)
both_left [] us = tt
both_left (t ∷ ts) [] = le_refl (t ∷ ts)
both_left (t ∷ ts) (u ∷ us) = (rank_left t u, both_left ts us)

pub both_right : (t u : Table) → length t ≡ length u → Le u (both t u)
both_right [] [] e = tt
both_right [] (u ∷ us) e = absurd (omega arith)
both_right (t ∷ ts) [] e = absurd (omega arith)
both_right (t ∷ ts) (u ∷ us) e = (rank_right t u, both_right ts us (omega arith))

pub le_set : (t u : Table) (x : ℕ) (a b : Standing) → rank a ≤ rank b → Le t u → Le (set t x a) (set u x b)
le_set [] [] x a b h p = tt
le_set [] (u ∷ us) x a b h p = absurd p
le_set (t ∷ ts) [] x a b h p = absurd p
le_set (t ∷ ts) (u ∷ us) zero a b h p = (h, p.1)
le_set (t ∷ ts) (u ∷ us) (suc x) a b h p = (p.0, le_set ts us x a b h p.1)

pub le_get : (t u : Table) (x : ℕ) → Le t u → rank (get_or t x Clean) ≤ rank (get_or u x Clean)
le_get [] us x p = omega arith
le_get (t ∷ ts) [] x p = absurd p
le_get (t ∷ ts) (u ∷ us) zero p = p.0
le_get (t ∷ ts) (u ∷ us) (suc x) p = le_get ts us x p.1

pub le_raised : (s : Standing) (xs : List ℕ) (t u : Table) → Le t u → Le (raised s xs t) (raised s xs u)
le_raised s [] t u p = p
le_raised s (x ∷ xs) t u p =
    let l = rank_left (get_or u x Clean) s in
    let g = le_get t u x p in
    le_raised s xs _ _ (le_set t u x _ _ (rank_least (get_or t x Clean) s (higher (get_or u x Clean) s) (omega (arith, l, g)) (rank_right (get_or u x Clean) s)) p)

-- ---- lengths

pub length_both : (t u : Table) → length (both t u) ≡ length t
length_both [] us = refl
length_both (t ∷ ts) [] = refl
length_both (t ∷ ts) (u ∷ us) = ap suc (length_both ts us)

pub length_raised : (s : Standing) (xs : List ℕ) (t : Table) → length (raised s xs t) ≡ length t
length_raised s [] t = refl
length_raised s (x ∷ xs) t = length_raised s xs _ ∙ length-set t x _

pub length_aged : (b : Bool) (t : Table) → length (aged b t) ≡ length t
length_aged true t = length-map t older
length_aged false t = refl

pub climb_none : (f : Table → Table) (t : Table) → climb 0 f t ≡ t
unfolding climb
climb_none f t = refl

pub climb_more : (n : ℕ) (f : Table → Table) (t : Table) → climb (suc n) f t ≡ climb n f (both t (f t))
unfolding climb
climb_more n f t = refl

pub length_climb : (n : ℕ) (f : Table → Table) (t : Table) → length (climb n f t) ≡ length t
length_climb zero f t = ap length (climb_none f t)
length_climb (suc n) f t = ap length (climb_more n f t) ∙ length_climb n f (both t (f t)) ∙ length_both t (f t)

pub length_walk : (inside : Bool) (k : Code) (t : Table) → length (walk inside k t) ≡ length t
length_walk inside nothing t = refl
length_walk inside (put x e k) t = length_walk inside k _ ∙ length-set t x.value _
length_walk inside (read x c k) t = length_walk inside k _ ∙ length-set t x.value _
length_walk inside (fork e a b k) t = length_walk inside k _ ∙ length_raised _ (assigned a (assigned b [])) _ ∙ length_both (walk inside a t) _ ∙ length_walk inside a t
length_walk inside (turns n b k) t = length_walk inside k _ ∙ length_walk inside b _ ∙ length_climb _ (walk inside b) t
length_walk inside (region b k) t = length_walk inside k _ ∙ length_aged (not inside) _ ∙ length_walk true b _ ∙ length_aged (not inside) t
length_walk inside (uses xs k) t = length_walk inside k t

-- ---- either table first

higher_swap : (s u : Standing) → higher s u ≡ higher u s
higher_swap s u = one_rank _ _ (omega (arith, rank_higher s u, rank_higher u s))

pub both_swap : (t u : Table) → length t ≡ length u → both t u ≡ both u t
both_swap [] [] l = refl
both_swap [] (u ∷ us) l = absurd (omega arith)
both_swap (t ∷ ts) [] l = absurd (omega arith)
both_swap (t ∷ ts) (u ∷ us) l = λ i. higher_swap t u i ∷ both_swap ts us (omega arith) i

-- ---- a settled table does not rise

pub rise : (s u : Standing) → (higher s u ≡ s) ⊎ (rank s < rank (higher s u))
rise s u = ⊎_elim (λ lt. inr (omega (arith, rank_higher s u))) (λ le. inl (one_rank (higher s u) s (omega (arith, rank_higher s u)))) (cases_lt (rank s) (rank u))

pub rises : (t u : Table) → (both t u ≡ t) ⊎ (total t < total (both t u))
rises [] us = inl refl
rises (t ∷ ts) [] = inl refl
rises (t ∷ ts) (u ∷ us) =
    ⊎_elim
    (λ e. ⊎_elim (λ f. inl (λ i. e i ∷ f i)) (λ f. inr (omega (arith, ap rank e))) (rises ts us))
    (λ e. ⊎_elim (λ f. inr (omega (arith, ap total f))) (λ f. inr (omega arith)) (rises ts us))
    (rise t u)

pub rank_le : (s : Standing) → rank s ≤ 2
rank_le Clean = omega arith
rank_le Now = omega arith
rank_le Old = omega arith

pub total_le : (t : Table) → total t ≤ 2 * length t
total_le [] = omega arith
total_le (t ∷ ts) = omega (arith, rank_le t, total_le ts)

pub stays : (n : ℕ) (f : Table → Table) (t : Table) → both t (f t) ≡ t → climb n f t ≡ t
stays zero f t e = climb_none f t
stays (suc n) f t e = climb_more n f t ∙ ap (climb n f) e ∙ stays n f t e

-- with turns enough for what can rise, nothing rises any more
pub settles : (n : ℕ) (f : Table → Table) (t : Table) → 2 * length t ≤ total t + n → both (climb n f t) (f (climb n f t)) ≡ climb n f t
settles zero f t h =
    let r : both t (f t) ≡ t = ⊎_elim (λ e. e) (λ lt. absurd (omega (arith, total_le (both t (f t)), length_both t (f t)))) (rises t (f t)) in
    rw climb_none r
settles (suc n) f t h = ⊎_elim
    (λ e. let s : climb (suc n) f t ≡ t = stays (suc n) f t e in rw s e)
    (λ lt. rw climb_more (settles n f (both t (f t)) (omega (arith, length_both t (f t)))))
    (rises t (f t))

pub settled : (f : Table → Table) (t : Table) → both (settle f t) (f (settle f t)) ≡ settle f t
settled f t = settles (2 * length t) f t (omega arith)

pub climb_up : (n : ℕ) (f : Table → Table) (t : Table) → Le t (climb n f t)
climb_up zero f t = subst (Le t) (sym (climb_none f t)) (le_refl t)
climb_up (suc n) f t = subst (Le t) (sym (climb_more n f t)) (le_trans t (both t (f t)) _ (both_left t (f t)) (climb_up n f (both t (f t))))

-- a repeat's entry is not above the table that its body is walked with at last
pub settle_up : (f : Table → Table) (t : Table) → Le t (settle f t)
settle_up f t = climb_up (2 * length t) f t

-- and the body's end is not above that table either
pub settle_end : (inside : Bool) (b : Code) (t : Table) → Le (walk inside b (settle (walk inside b) t)) (settle (walk inside b) t)
settle_end inside b t =
    let u = settle (walk inside b) t in
    subst (Le (walk inside b u)) (settled (walk inside b) t) (both_right u (walk inside b u) (sym (length_walk inside b u)))

-- ---- of lists that are empty

pub empty_left : {A : Type 0} (xs ys : List A) → xs ++ ys ≡ [] → xs ≡ []
empty_left [] ys e = refl
empty_left (x ∷ xs) ys e = cc

pub empty_right : {A : Type 0} (xs ys : List A) → xs ++ ys ≡ [] → ys ≡ []
empty_right [] ys e = e
empty_right (x ∷ xs) ys e = cc

pub none_of : {A : Type 0} (xs ys : List A) → xs ≡ [] → ys ≡ [] → xs ++ ys ≡ []
none_of xs ys p q = ap (λ z. z ++ ys) p ∙ q

pub walks_none : (f : Table → Table) (g : Table → List ℕ) (t : Table) → walks 0 f g t ≡ g t
unfolding walks
walks_none f g t = refl

pub walks_more : (n : ℕ) (f : Table → Table) (g : Table → List ℕ) (t : Table) → walks (suc n) f g t ≡ g t ++ walks n f g (both t (f t))
unfolding walks
walks_more n f g t = refl

-- where no walk refuses, the last does not
pub last_walk : (n : ℕ) (f : Table → Table) (g : Table → List ℕ) (t : Table) → walks n f g t ≡ [] → g (climb n f t) ≡ []
last_walk zero f g t e = ap g (climb_none f t) ∙ sym (walks_none f g t) ∙ e
last_walk (suc n) f g t e =
    ap g (climb_more n f t) ∙ last_walk n f g (both t (f t)) (empty_right (g t) (walks n f g (both t (f t))) (sym (walks_more n f g t) ∙ e))

-- what the higher of two tables and the body keep, all turns keep; where no such table is refused, no turn refuses
module _ (P : Table → Type 0) (keeps : (t u : Table) → P t → P u → P (both t u)) (f : Table → Table) (body : (t : Table) → P t → P (f t)) where
  pub climb_keeps : (n : ℕ) (t : Table) → P t → P (climb n f t)
  climb_keeps zero t p = subst P (sym (climb_none f t)) p
  climb_keeps (suc n) t p = subst P (sym (climb_more n f t)) (climb_keeps n (both t (f t)) (keeps t (f t) p (body t p)))

  pub walks_empty : (g : Table → List ℕ) → ((t : Table) → P t → g t ≡ []) → (n : ℕ) (t : Table) → P t → walks n f g t ≡ []
  walks_empty g o zero t p = walks_none f g t ∙ o t p
  walks_empty g o (suc n) t p = walks_more n f g t ∙ none_of (g t) _ (o t p) (walks_empty g o n (both t (f t)) (keeps t (f t) p (body t p)))
