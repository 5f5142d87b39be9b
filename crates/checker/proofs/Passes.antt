-- Passes until no entry rises come to what the nested walks come to. Assumes nothing.
use Rattle.std.proofs.Common.{◌≡◌, ℕ, zero, suc, ◌*◌, Bool, true, not, [], ◌∷◌, ◌++◌, length, set, replicate, sym, refl, ap, ◌∙◌, subst, arith, length-set}
use Rattle.script.specs.declared.standing.Standing.TheVariants.{Clean}
use Rattle.script.specs.Syntax.{reads, Code, nothing, put, read, fork, turns, region, uses}
use Rattle.script.specs.Stand.{Table, both, of_expr, raised, aged, reading_at, assigned, settle, walk, olds, uses_in}
use Rattle.checker.specs.Order.{Le}
use Rattle.checker.specs.Last.{refused_last}
use Rattle.checker.proofs.Order.{one_rank, le_refl, le_trans, both_left, both_right, le_set, length_both, length_raised, length_aged, length_climb, settled, settle_up}
use Rattle.checker.proofs.Mono.{both_least, both_mono, highest_mono, raised_mono, le_aged, climb_least, body}
use Rattle.checker.proofs.Pass.{Mem, end_of, kept_of, told}

pub le_antisym : (t u : Table) → Le t u → Le u t → t ≡ u
le_antisym [] [] p q = refl
le_antisym [] (u ∷ us) p q = absurd p
le_antisym (t ∷ ts) [] p q = absurd p
le_antisym (t ∷ ts) (u ∷ us) p q = λ i. one_rank t u (omega (arith, p.0, q.0)) i ∷ le_antisym ts us p.1 q.1 i

pub length_end : (i : Bool) (k : Code) (m : Mem k) (t : Table) → length (end_of i k m t) ≡ length t
length_end i nothing m t = refl
length_end i (put x e k) m t = length_end i k m _ ∙ length-set t x.value _
length_end i (read x c k) m t = length_end i k m _ ∙ length-set t x.value _
length_end i (fork e a b k) m t = length_end i k m.2 _ ∙ length_raised _ (assigned a (assigned b [])) _ ∙ length_both (end_of i a m.0 t) _ ∙ length_end i a m.0 t
length_end i (turns n b k) m t = length_end i k m.2 _ ∙ length_end i b m.1 _ ∙ length_both t m.0
length_end i (region b k) m t = length_end i k m.1 _ ∙ length_aged (not i) _ ∙ length_end true b m.0 _ ∙ length_aged (not i) t
length_end i (uses xs k) m t = length_end i k m t

-- a body that keeps v, walked in turns from t, stays below v
low : (i : Bool) (b : Code) (m₀ : Table) (m₁ : Mem b) (t : Table) → both (both t m₀) (end_of i b m₁ (both t m₀)) ≡ m₀ → Le (walk i b (both t m₀)) (end_of i b m₁ (both t m₀)) → Le (settle (walk i b) t) (both t m₀)
low i b m₀ m₁ t z p =
    let v : Table = both t m₀ in
    let u : Table = end_of i b m₁ v in
    let long : length t ≡ length m₀ = sym (length_both t m₀) ∙ sym (length_both v u) ∙ ap length z in
    let same : m₀ ≡ v = le_antisym m₀ v (both_right t m₀ long) (subst (Le v) z (both_left v u)) in
    let down : Le u v = subst (Le u) (z ∙ same) (both_right v u (sym (length_end i b m₁ v))) in
    climb_least (2 * length t) (walk i b) (body i b) t v (both_left t m₀) (le_trans (walk i b v) u v p down)

-- where a pass changes no entry, it ends no lower than the nested walk
pub above : (i : Bool) (k : Code) (m : Mem k) (t : Table) → kept_of i k m t ≡ m → Le (walk i k t) (end_of i k m t)
above i nothing m t e = le_refl t
above i (put x f k) m t e = above i k m _ e
above i (read x c k) m t e = above i k m _ e
above i (fork f a b k) m t e =
    let p = above i a m.0 t (ap (λ z. z.0) e) in
    let q = above i b m.1 t (ap (λ z. z.1) e) in
    let n = both_mono (walk i a t) (end_of i a m.0 t) (walk i b t) (end_of i b m.1 t) (length_end i a m.0 t ∙ sym (length_end i b m.1 t)) p q in
    let h = raised_mono (of_expr t f) (of_expr t f) (assigned a (assigned b [])) (both (walk i a t) (walk i b t)) (both (end_of i a m.0 t) (end_of i b m.1 t)) (omega arith) n in
    le_trans _ (walk i k (raised (of_expr t f) (assigned a (assigned b [])) (both (end_of i a m.0 t) (end_of i b m.1 t)))) _ ((body i k).1 _ _ h) (above i k m.2 _ (ap (λ z. z.2) e))
above i (turns n b k) m t e =
    let v : Table = both t m.0 in
    let p : Le (walk i b v) (end_of i b m.1 v) = above i b m.1 v (ap (λ x. x.1) e) in
    let c : Le (settle (walk i b) t) v = low i b m.0 m.1 t (ap (λ x. x.0) e) p in
    let w : Le (walk i b (settle (walk i b) t)) (end_of i b m.1 v) = le_trans _ (walk i b v) _ ((body i b).1 _ _ c) p in
    le_trans _ (walk i k (end_of i b m.1 v)) _ ((body i k).1 _ _ w) (above i k m.2 _ (ap (λ x. x.2) e))
above i (region b k) m t e =
    let p = above true b m.0 (aged (not i) t) (ap (λ z. z.0) e) in
    le_trans _ (walk i k (aged (not i) (end_of true b m.0 (aged (not i) t)))) _ ((body i k).1 _ _ (le_aged (not i) _ _ p)) (above i k m.1 _ (ap (λ z. z.1) e))
above i (uses xs k) m t e = above i k m t e

-- no entry is above that of the nested walks
abbrev pub Under : Bool → (k : Code) → Mem k → Table → Type 0
Under i nothing m t = Unit {0}
Under i (put x e k) m t = Under i k m (set t x.value (of_expr t e))
Under i (read x c k) m t = Under i k m (set t x.value (reading_at i))
Under i (fork e a b k) m t = Under i a m.0 t × Under i b m.1 t × Under i k m.2 (raised (of_expr t e) (assigned a (assigned b [])) (both (walk i a t) (walk i b t)))
Under i (turns n b k) m t =
    Le m.0 (settle (walk i b) t) × Under i b m.1 (settle (walk i b) t) × Under i k m.2 (walk i b (settle (walk i b) t))
Under i (region b k) m t = Under true b m.0 (aged (not i) t) × Under i k m.1 (aged (not i) (walk true b (aged (not i) t)))
Under i (uses xs k) m t = Under i k m t

-- a pass from entries that are not above leaves none above, and ends no higher
pub below : (i : Bool) (k : Code) (m : Mem k) (t s : Table) → Le s t → Under i k m t → Under i k (kept_of i k m s) t × Le (end_of i k m s) (walk i k t)
below i nothing m t s p u = (u, p)
below i (put x e k) m t s p u = below i k m _ _ (le_set s t x.value _ _ (highest_mono s t (reads e []) p) p) u
below i (read x c k) m t s p u = below i k m _ _ (le_set s t x.value _ _ (omega arith) p) u
below i (fork e a b k) m t s p u =
    let r₁ = below i a m.0 t s p u.0 in
    let r₂ = below i b m.1 t s p u.1 in
    let n = both_mono (end_of i a m.0 s) (walk i a t) (end_of i b m.1 s) (walk i b t) ((body i a).0 t ∙ sym ((body i b).0 t)) r₁.1 r₂.1 in
    let r₃ = below i k m.2 (raised (of_expr t e) (assigned a (assigned b [])) (both (walk i a t) (walk i b t))) (raised (of_expr s e) (assigned a (assigned b [])) (both (end_of i a m.0 s) (end_of i b m.1 s)))
    (raised_mono _ _ (assigned a (assigned b [])) _ _ (highest_mono s t (reads e []) p) n) u.2 in
    ((r₁.0, r₂.0, r₃.0), r₃.1)
below i (turns n b k) m t s p u =
    let f : Table → Table = walk i b in
    let fix : Table = settle f t in
    let v : Table = both s m.0 in
    let q : Le v fix = both_least s m.0 fix (le_trans s t fix p (settle_up f t)) u.0 in
    let r₁ = below i b m.1 fix v q u.1 in
    let up : Le (both v (end_of i b m.1 v)) fix = subst (Le (both v (end_of i b m.1 v))) (settled f t) (both_mono v fix (end_of i b m.1 v) (f fix) (sym ((body i b).0 fix)) q r₁.1) in
    let r₂ = below i k m.2 (f fix) (end_of i b m.1 v) r₁.1 u.2 in
    ((up, r₁.0, r₂.0), r₂.1)
below i (region b k) m t s p u =
    let r₁ = below true b m.0 (aged (not i) t) (aged (not i) s) (le_aged (not i) s t p) u.0 in
    let r₂ = below i k m.1 (aged (not i) (walk true b (aged (not i) t))) (aged (not i) (end_of true b m.0 (aged (not i) s))) (le_aged (not i) _ _ r₁.1) u.1 in
    ((r₁.0, r₂.0), r₂.1)
below i (uses xs k) m t s p u = below i k m t s p u

-- a pass that changes no entry ends where the nested walks end, and tells the uses of the last walks
module _ (marked : ℕ → Bool) where
  pub exact : (i : Bool) (k : Code) (m : Mem k) (t : Table) → kept_of i k m t ≡ m → Under i k m t → (end_of i k m t ≡ walk i k t) × (told marked i k m t ≡ refused_last marked i k t)
  exact i nothing m t e u = (refl, refl)
  exact i (put x f k) m t e u = let r = exact i k m _ e u in (r.0, ap (λ z. olds t (uses_in marked f) ++ z) r.1)
  exact i (read x c k) m t e u = exact i k m _ e u
  exact i (fork f a b k) m t e u =
      let r₁ = exact i a m.0 t (ap (λ z. z.0) e) u.0 in
      let r₂ = exact i b m.1 t (ap (λ z. z.1) e) u.1 in
      let w : raised (of_expr t f) (assigned a (assigned b [])) (both (end_of i a m.0 t) (end_of i b m.1 t)) ≡ raised (of_expr t f) (assigned a (assigned b [])) (both (walk i a t) (walk i b t)) =
      λ j. raised (of_expr t f) (assigned a (assigned b [])) (both (r₁.0 j) (r₂.0 j)) in
      let r₃ = exact i k m.2 (raised (of_expr t f) (assigned a (assigned b [])) (both (walk i a t) (walk i b t))) (subst (λ z. kept_of i k m.2 z ≡ m.2) w (ap (λ z. z.2) e)) u.2 in
      (ap (end_of i k m.2) w ∙ r₃.0, λ j. olds t (uses_in marked f) ++ (r₁.1 j ++ (r₂.1 j ++ (ap (told marked i k m.2) w ∙ r₃.1) j)))
  exact i (turns n b k) m t e u =
      let f : Table → Table = walk i b in
      let fix : Table = settle f t in
      let v : Table = both t m.0 in
      let q : v ≡ fix = le_antisym v fix (both_least t m.0 fix (settle_up f t) u.0) (low i b m.0 m.1 t (ap (λ x. x.0) e) (above i b m.1 v (ap (λ x. x.1) e))) in
      let r₁ = exact i b m.1 fix (subst (λ z. kept_of i b m.1 z ≡ m.1) q (ap (λ x. x.1) e)) u.1 in
      let w : end_of i b m.1 v ≡ f fix = ap (end_of i b m.1) q ∙ r₁.0 in
      let r₂ = exact i k m.2 (f fix) (subst (λ z. kept_of i k m.2 z ≡ m.2) w (ap (λ x. x.2) e)) u.2 in
      (ap (end_of i k m.2) w ∙ r₂.0, λ j. (ap (told marked i b m.1) q ∙ r₁.1) j ++ (ap (told marked i k m.2) w ∙ r₂.1) j)
  exact i (region b k) m t e u =
      let r₁ = exact true b m.0 (aged (not i) t) (ap (λ z. z.0) e) u.0 in
      let w : aged (not i) (end_of true b m.0 (aged (not i) t)) ≡ aged (not i) (walk true b (aged (not i) t)) = ap (aged (not i)) r₁.0 in
      let r₂ = exact i k m.1 (aged (not i) (walk true b (aged (not i) t))) (subst (λ z. kept_of i k m.1 z ≡ m.1) w (ap (λ z. z.1) e)) u.1 in
      (ap (end_of i k m.1) w ∙ r₂.0, λ j. r₁.1 j ++ (ap (told marked i k m.1) w ∙ r₂.1) j)
  exact i (uses xs k) m t e u = let r = exact i k m t e u in (r.0, ap (λ z. olds t xs ++ z) r.1)

-- ---- all clean at first

abbrev pub clean_mem : (k : Code) → Table → Mem k
clean_mem nothing c = tt
clean_mem (put x e k) c = clean_mem k c
clean_mem (read x y k) c = clean_mem k c
clean_mem (fork e a b k) c = (clean_mem a c, clean_mem b c, clean_mem k c)
clean_mem (turns n b k) c = (c, clean_mem b c, clean_mem k c)
clean_mem (region b k) c = (clean_mem b c, clean_mem k c)
clean_mem (uses xs k) c = clean_mem k c

clean_le : (n : ℕ) (t : Table) → length t ≡ n → Le (replicate n Clean) t
clean_le zero [] e = tt
clean_le zero (x ∷ t) e = absurd (omega arith)
clean_le (suc n) [] e = absurd (omega arith)
clean_le (suc n) (x ∷ t) e = (omega arith, clean_le n t (omega arith))

pub clean_under : (n : ℕ) (i : Bool) (k : Code) (t : Table) → length t ≡ n → Under i k (clean_mem k (replicate n Clean)) t
clean_under n i nothing t h = tt
clean_under n i (put x e k) t h = clean_under n i k _ (length-set t x.value _ ∙ h)
clean_under n i (read x c k) t h = clean_under n i k _ (length-set t x.value _ ∙ h)
clean_under n i (fork e a b k) t h =
    (clean_under n i a t h, clean_under n i b t h, clean_under n i k _ (length_raised _ (assigned a (assigned b [])) _ ∙ length_both (walk i a t) _ ∙ (body i a).0 t ∙ h))
clean_under n i (turns _ b k) t h =
    let l : length (settle (walk i b) t) ≡ n = length_climb (2 * length t) (walk i b) t ∙ h in
    (clean_le n _ l, clean_under n i b _ l, clean_under n i k _ ((body i b).0 _ ∙ l))
clean_under n i (region b k) t h =
    (clean_under n true b _ (length_aged (not i) t ∙ h), clean_under n i k _ (length_aged (not i) _ ∙ (body true b).0 _ ∙ length_aged (not i) t ∙ h))
clean_under n i (uses xs k) t h = clean_under n i k t h
