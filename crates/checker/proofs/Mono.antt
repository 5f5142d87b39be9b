-- A higher table refuses no fewer uses, so the last walk of a repeat tells. Assumes nothing.
use Rattle.std.proofs.Common.{◌≡◌, ℕ, zero, suc, ◌*◌, ◌≤◌, Bool, true, false, cond, not, ◌⊎◌, List, [], ◌∷◌, ◌++◌, map, length, get_or, Some, None, Option, sym, refl, ap, ◌∙◌, subst, inl, inr, ⊎_elim, arith}
use Rattle.std.proofs.lemmas.Bool.{cases_lt}
use Rattle.script.specs.Syntax.{Leaf, reads, Code, nothing, put, read, fork, turns, region, uses}
use Rattle.script.specs.declared.standing.Standing.{Standing}
use Rattle.script.specs.declared.standing.Standing.TheVariants.{Clean, Now, Old}
use Rattle.checker.specs.Order.{rank, Le}
use Rattle.script.specs.Stand.{assigned, uses_in, Table, higher, both, highest, raised, older, aged, climb, settle, walk, is_old, olds, walks, refused, lesser, least}
use Rattle.checker.specs.Last.{refused_last}
use Rattle.checker.specs.Laws.{NeverLowers, SettlesLeast, LastWalksTell}
use Rattle.checker.proofs.Order.{le_trans, rank_left, rank_right, rank_least, both_left, both_right, le_set, le_get, length_walk, climb_none, climb_more, climb_up, settle_up, settle_end, walks_none, walks_more}

-- ---- the walk keeps the order

pub both_least : (t u v : Table) → Le t v → Le u v → Le (both t u) v
both_least [] us v p q = p
both_least (t ∷ ts) [] v p q = p
both_least (t ∷ ts) (u ∷ us) [] p q = absurd q
both_least (t ∷ ts) (u ∷ us) (v ∷ vs) p q = (rank_least t u v p.0 q.0, both_least ts us vs p.1 q.1)

pub both_mono : (t t' u u' : Table) → length t' ≡ length u' → Le t t' → Le u u' → Le (both t u) (both t' u')
both_mono t t' u u' e p q = both_least t u (both t' u') (le_trans t t' _ p (both_left t' u')) (le_trans u u' _ q (both_right t' u' e))

pub le_long : (t u : Table) → Le t u → length t ≡ length u
le_long [] [] p = refl
le_long [] (u ∷ us) p = absurd p
le_long (t ∷ ts) [] p = absurd p
le_long (t ∷ ts) (u ∷ us) p = ap suc (le_long ts us p.1)

pub highest_mono : (t u : Table) (es : List Leaf) → Le t u → rank (highest t es) ≤ rank (highest u es)
highest_mono t u [] p = omega arith
highest_mono t u (e ∷ es) p =
    let l = le_get t u e.value p in
    let h = highest_mono t u es p in
    let a = rank_left (get_or u e.value Clean) (highest u es) in
    let b = rank_right (get_or u e.value Clean) (highest u es) in
    rank_least (get_or t e.value Clean) (highest t es) (higher (get_or u e.value Clean) (highest u es)) (omega (arith, l, a)) (omega (arith, h, b))

pub higher_mono : (a s b v : Standing) → rank a ≤ rank b → rank s ≤ rank v → rank (higher a s) ≤ rank (higher b v)
higher_mono a s b v p q = let l = rank_left b v in let r = rank_right b v in rank_least a s (higher b v) (omega (arith, l)) (omega (arith, r))

pub raised_mono : (s v : Standing) (xs : List ℕ) (t u : Table) → rank s ≤ rank v → Le t u → Le (raised s xs t) (raised v xs u)
raised_mono s v [] t u h p = p
raised_mono s v (x ∷ xs) t u h p = raised_mono s v xs _ _ h (le_set t u x _ _ (higher_mono (get_or t x Clean) s (get_or u x Clean) v (le_get t u x p) h) p)

pub rank_older : (s u : Standing) → rank s ≤ rank u → rank (older s) ≤ rank (older u)
rank_older Clean u h = omega arith
rank_older Now Clean h = absurd (omega arith)
rank_older Now Now h = omega arith
rank_older Now Old h = omega arith
rank_older Old Clean h = absurd (omega arith)
rank_older Old Now h = absurd (omega arith)
rank_older Old Old h = omega arith

pub le_older : (t u : Table) → Le t u → Le (map older t) (map older u)
le_older [] [] p = tt
le_older [] (u ∷ us) p = absurd p
le_older (t ∷ ts) [] p = absurd p
le_older (t ∷ ts) (u ∷ us) p = (rank_older t u p.0, le_older ts us p.1)

pub le_aged : (b : Bool) (t u : Table) → Le t u → Le (aged b t) (aged b u)
le_aged true t u p = le_older t u p
le_aged false t u p = p

abbrev pub Body : (Table → Table) → Type 0
Body f = ((t : Table) → length (f t) ≡ length t) × ((t u : Table) → Le t u → Le (f t) (f u))

pub climb_mono : (n : ℕ) (f : Table → Table) → Body f → (t u : Table) → Le t u → Le (climb n f t) (climb n f u)
climb_mono zero f b t u p = subst (Le (climb 0 f t)) (sym (climb_none f u)) (subst (λ x. Le x u) (sym (climb_none f t)) p)
climb_mono (suc n) f b t u p =
    let q = climb_mono n f b (both t (f t)) (both u (f u)) (both_mono t u (f t) (f u) (sym (b.0 u)) p (b.1 t u p)) in
    subst (Le (climb (suc n) f t)) (sym (climb_more n f u)) (subst (λ x. Le x (climb n f (both u (f u)))) (sym (climb_more n f t)) q)

pub settle_mono : (f : Table → Table) → Body f → (t u : Table) → Le t u → Le (settle f t) (settle f u)
settle_mono f b t u p = subst (λ (n : ℕ). Le (settle f t) (climb (2 * n) f u)) (le_long t u p) (climb_mono (2 * length t) f b t u p)

pub walk_mono : (inside : Bool) (k : Code) (t u : Table) → Le t u → Le (walk inside k t) (walk inside k u)
walk_mono inside nothing t u p = p
walk_mono inside (put x e k) t u p = walk_mono inside k _ _ (le_set t u x.value _ _ (highest_mono t u (reads e []) p) p)
walk_mono inside (read x c k) t u p = walk_mono inside k _ _ (le_set t u x.value _ _ (omega arith) p)
walk_mono inside (fork e a b k) t u p =
    walk_mono inside k _ _ (raised_mono _ _ (assigned a (assigned b [])) _ _ (highest_mono t u (reads e []) p)
    (both_mono (walk inside a t) (walk inside a u) (walk inside b t) (walk inside b u) (length_walk inside a u ∙ sym (length_walk inside b u)) (walk_mono inside a t u p) (walk_mono inside b t u p)))
walk_mono inside (turns n b k) t u p = walk_mono inside k _ _ (walk_mono inside b _ _ (settle_mono (walk inside b) (length_walk inside b, walk_mono inside b) t u p))
walk_mono inside (region b k) t u p = walk_mono inside k _ _ (le_aged (not inside) _ _ (walk_mono true b _ _ (le_aged (not inside) t u p)))
walk_mono inside (uses xs k) t u p = walk_mono inside k t u p

-- a table above t that the body does not raise is above all turns from t
pub climb_least : (n : ℕ) (f : Table → Table) → Body f → (t v : Table) → Le t v → Le (f v) v → Le (climb n f t) v
climb_least zero f b t v p q = subst (λ x. Le x v) (sym (climb_none f t)) p
climb_least (suc n) f b t v p q =
    subst (λ x. Le x v) (sym (climb_more n f t)) (climb_least n f b (both t (f t)) v (both_least t (f t) v p (le_trans (f t) (f v) v (b.1 t v p) q)) q)

pub body : (inside : Bool) (k : Code) → Body (walk inside k)
body inside k = (length_walk inside k, walk_mono inside k)

pub never_lowers : NeverLowers
never_lowers inside k t u p = walk_mono inside k t u p

pub settles_least : SettlesLeast
settles_least inside b t =
    (settle_up (walk inside b) t, settle_end inside b t, λ v p q. climb_least (2 * length t) (walk inside b) (body inside b) t v p q)

-- ---- sets of places

abbrev pub In : ℕ → List ℕ → Type 0
In p [] = ⊥
In p (q ∷ qs) = (p ≡ q) ⊎ In p qs

abbrev pub Sub : List ℕ → List ℕ → Type 0
Sub xs ys = (p : ℕ) → In p xs → In p ys

pub in_left : (p : ℕ) (xs ys : List ℕ) → In p xs → In p (xs ++ ys)
in_left p [] ys h = absurd h
in_left p (x ∷ xs) ys h = ⊎_elim (λ e. inl e) (λ i. inr (in_left p xs ys i)) h

pub in_right : (p : ℕ) (xs ys : List ℕ) → In p ys → In p (xs ++ ys)
in_right p [] ys h = h
in_right p (x ∷ xs) ys h = inr (in_right p xs ys h)

pub in_cases : (p : ℕ) (xs ys : List ℕ) → In p (xs ++ ys) → In p xs ⊎ In p ys
in_cases p [] ys h = inr h
in_cases p (x ∷ xs) ys h = ⊎_elim (λ e. inl (inl e)) (λ i. ⊎_elim (λ a. inl (inr a)) (λ b. inr b) (in_cases p xs ys i)) h

pub sub_++ : (xs xs' ys ys' : List ℕ) → Sub xs xs' → Sub ys ys' → Sub (xs ++ ys) (xs' ++ ys')
sub_++ xs xs' ys ys' a b p h = ⊎_elim (λ i. in_left p xs' ys' (a p i)) (λ i. in_right p xs' ys' (b p i)) (in_cases p xs ys h)

pub olds_one : (s v : Standing) (p : ℕ) (xs ys : List ℕ) → rank s ≤ rank v → Sub xs ys → Sub (cond (is_old s) (p ∷ xs) xs) (cond (is_old v) (p ∷ ys) ys)
olds_one Clean Clean p xs ys h a = a
olds_one Clean Now p xs ys h a = a
olds_one Clean Old p xs ys h a = λ q i. inr (a q i)
olds_one Now Clean p xs ys h a = absurd (omega arith)
olds_one Now Now p xs ys h a = a
olds_one Now Old p xs ys h a = λ q i. inr (a q i)
olds_one Old Clean p xs ys h a = absurd (omega arith)
olds_one Old Now p xs ys h a = absurd (omega arith)
olds_one Old Old p xs ys h a = λ q i. ⊎_elim (λ e. inl e) (λ j. inr (a q j)) i

pub olds_mono : (t u : Table) (us : List Leaf) → Le t u → Sub (olds t us) (olds u us)
olds_mono t u [] p = λ q i. i
olds_mono t u (e ∷ es) p = olds_one (get_or t e.value Clean) (get_or u e.value Clean) e.place (olds t es) (olds u es) (le_get t u e.value p) (olds_mono t u es p)

-- ---- a higher table refuses no fewer

module _ (marked : ℕ → Bool) where
  last_mono : (inside : Bool) (k : Code) (t u : Table) → Le t u → Sub (refused_last marked inside k t) (refused_last marked inside k u)
  last_mono inside nothing t u p = λ q i. i
  last_mono inside (put x e k) t u p = sub_++ (olds t (uses_in marked e)) _ _ _ (olds_mono t u (uses_in marked e) p) (last_mono inside k _ _ (le_set t u x.value _ _ (highest_mono t u (reads e []) p) p))
  last_mono inside (read x c k) t u p = last_mono inside k _ _ (le_set t u x.value _ _ (omega arith) p)
  last_mono inside (fork e a b k) t u p =
      sub_++ (olds t (uses_in marked e)) _ _ _ (olds_mono t u (uses_in marked e) p)
      (sub_++ (refused_last marked inside a t) _ _ _ (last_mono inside a t u p)
      (sub_++ (refused_last marked inside b t) _ _ _ (last_mono inside b t u p)
      (last_mono inside k _ _ (raised_mono _ _ (assigned a (assigned b [])) _ _ (highest_mono t u (reads e []) p)
      (both_mono (walk inside a t) (walk inside a u) (walk inside b t) (walk inside b u) (length_walk inside a u ∙ sym (length_walk inside b u)) (walk_mono inside a t u p) (walk_mono inside b t u p))))))
  last_mono inside (turns n b k) t u p =
      let s = settle_mono (walk inside b) (length_walk inside b, walk_mono inside b) t u p in
      sub_++ (refused_last marked inside b (settle (walk inside b) t)) _ _ _ (last_mono inside b _ _ s) (last_mono inside k _ _ (walk_mono inside b _ _ s))
  last_mono inside (region b k) t u p =
      let a = le_aged (not inside) t u p in
      sub_++ (refused_last marked true b (aged (not inside) t)) _ _ _ (last_mono true b _ _ a) (last_mono inside k _ _ (le_aged (not inside) _ _ (walk_mono true b _ _ a)))
  last_mono inside (uses xs k) t u p = sub_++ (olds t xs) _ _ _ (olds_mono t u xs p) (last_mono inside k t u p)

-- all walks of a repeat say no more than the last
pub walks_sub : (n : ℕ) (f : Table → Table) (g h : Table → List ℕ) → ((t : Table) → Sub (g t) (h t)) → ((t u : Table) → Le t u → Sub (h t) (h u)) → (t : Table) → Sub (walks n f g t) (h (climb n f t))
walks_sub zero f g h s m t = λ p i. subst (λ x. In p (h x)) (sym (climb_none f t)) (s t p (subst (In p) (walks_none f g t) i))
walks_sub (suc n) f g h s m t = λ p i. ⊎_elim
    (λ j. m t (climb (suc n) f t) (climb_up (suc n) f t) p (s t p j))
    (λ j. subst (λ x. In p (h x)) (sym (climb_more n f t)) (walks_sub n f g h s m (both t (f t)) p j))
    (in_cases p (g t) (walks n f g (both t (f t))) (subst (In p) (walks_more n f g t) i))

pub last_sub : (n : ℕ) (f : Table → Table) (g h : Table → List ℕ) → ((t : Table) → Sub (h t) (g t)) → (t : Table) → Sub (h (climb n f t)) (walks n f g t)
last_sub zero f g h s t = λ p i. subst (In p) (sym (walks_none f g t)) (s t p (subst (λ x. In p (h x)) (climb_none f t) i))
last_sub (suc n) f g h s t = λ p i. subst (In p) (sym (walks_more n f g t)) (in_right p (g t) _ (last_sub n f g h s (both t (f t)) p (subst (λ x. In p (h x)) (climb_more n f t) i)))

module _ (marked : ℕ → Bool) where
  to_last : (inside : Bool) (k : Code) (t : Table) → Sub (refused marked inside k t) (refused_last marked inside k t)
  to_last inside nothing t = λ p i. i
  to_last inside (put x e k) t = sub_++ (olds t (uses_in marked e)) _ _ _ (λ p i. i) (to_last inside k _)
  to_last inside (read x c k) t = to_last inside k _
  to_last inside (fork e a b k) t = sub_++ (olds t (uses_in marked e)) _ _ _ (λ p i. i) (sub_++ (refused marked inside a t) _ _ _ (to_last inside a t) (sub_++ (refused marked inside b t) _ _ _ (to_last inside b t) (to_last inside k _)))
  to_last inside (turns n b k) t = sub_++ (walks (2 * length t) (walk inside b) (refused marked inside b) t) _ _ _ (walks_sub (2 * length t) (walk inside b) (refused marked inside b) (refused_last marked inside b) (to_last inside b) (last_mono marked inside b) t) (to_last inside k _)
  to_last inside (region b k) t = sub_++ (refused marked true b (aged (not inside) t)) _ _ _ (to_last true b _) (to_last inside k _)
  to_last inside (uses xs k) t = sub_++ (olds t xs) _ _ _ (λ p i. i) (to_last inside k t)

  from_last : (inside : Bool) (k : Code) (t : Table) → Sub (refused_last marked inside k t) (refused marked inside k t)
  from_last inside nothing t = λ p i. i
  from_last inside (put x e k) t = sub_++ (olds t (uses_in marked e)) _ _ _ (λ p i. i) (from_last inside k _)
  from_last inside (read x c k) t = from_last inside k _
  from_last inside (fork e a b k) t = sub_++ (olds t (uses_in marked e)) _ _ _ (λ p i. i) (sub_++ (refused_last marked inside a t) _ _ _ (from_last inside a t) (sub_++ (refused_last marked inside b t) _ _ _ (from_last inside b t) (from_last inside k _)))
  from_last inside (turns n b k) t = sub_++ (refused_last marked inside b (settle (walk inside b) t)) _ _ _ (last_sub (2 * length t) (walk inside b) (refused marked inside b) (refused_last marked inside b) (from_last inside b) t) (from_last inside k _)
  from_last inside (region b k) t = sub_++ (refused_last marked true b (aged (not inside) t)) _ _ _ (from_last true b _) (from_last inside k _)
  from_last inside (uses xs k) t = sub_++ (olds t xs) _ _ _ (λ p i. i) (from_last inside k t)

-- ---- the least of a set

abbrev Least : Option ℕ → List ℕ → Type 0
Least None xs = (p : ℕ) → In p xs → ⊥
Least (Some m) xs = In m xs × ((p : ℕ) → In p xs → m ≤ p)

pub lesser_least : (x : ℕ) (o : Option ℕ) (xs : List ℕ) → Least o xs → Least (lesser x o) (x ∷ xs)
lesser_least x None xs h = (inl refl, λ p i. ⊎_elim (λ e. omega (arith, e)) (λ j. absurd (h p j)) i)
lesser_least x (Some m) xs h = (
  elim (cases_lt x m) [ inl a ↦ inl (omega (arith, a)) | inr a ↦ inr (subst (λ y. In y xs) (omega (arith, a)) h.0) ],
  λ p i. ⊎_elim (λ e. omega (arith, e)) (λ j. let k = h.1 p j in omega (arith, k)) i,
)

pub least_is : (xs : List ℕ) → Least (least xs) xs
least_is [] = λ p i. i
least_is (x ∷ xs) = lesser_least x (least xs) xs (least_is xs)

pub same_least : (o q : Option ℕ) (xs ys : List ℕ) → Sub xs ys → Sub ys xs → Least o xs → Least q ys → o ≡ q
same_least None None xs ys a b h k = refl
same_least None (Some m) xs ys a b h k = absurd (h m (b m k.0))
same_least (Some m) None xs ys a b h k = absurd (k m (a m h.0))
same_least (Some m) (Some n) xs ys a b h k = let p = h.1 n (b n k.0) in let q = k.1 m (a m h.0) in ap Some (omega (arith, p, q))

pub last_walks_tell : LastWalksTell
last_walks_tell marked inside code t = same_least _ _ _ _ (to_last marked inside code t) (from_last marked inside code t) (least_is (refused marked inside code t)) (least_is (refused_last marked inside code t))
