-- A pass that raises an entry raises the sum of the ranks of all entries, which is bounded. Assumes nothing.
use Rattle.std.proofs.Common.{◌≡◌, ℕ, ◌+◌, ◌*◌, ◌<◌, ◌≤◌, Bool, true, false, not, ◌||◌, ltb, ◌⊎◌, [], ◌∷◌, length, sym, refl, ap, ◌∙◌, inl, inr, ⊎_elim, arith, length-set}
use Rattle.std.proofs.lemmas.Bool.{true≢false, ltb-true, ltb-false, or_parts, or_cases}
use Rattle.script.specs.declared.standing.Standing.{Standing}
use Rattle.script.specs.Syntax.{Code, nothing, put, read, fork, turns, region, uses}
use Rattle.script.specs.Stand.{Table, higher, both, of_expr, raised, aged, assigned, settle, walk}
use Rattle.checker.specs.Order.{rank, Le}
use Rattle.checker.specs.Machine.{exceeds}
use Rattle.checker.proofs.Order.{rank_higher, one_rank, both_swap, total, total_le, both_left, both_right, length_both, length_raised, length_aged, length_climb}
use Rattle.checker.proofs.Mono.{le_long, body}
use Rattle.checker.proofs.Pass.{Mem, end_of, kept_of, rose_of, repeats}
use Rattle.checker.proofs.Passes.{Under, length_end}

pub le_total : (t u : Table) → Le t u → total t ≤ total u
le_total [] [] p = omega arith
le_total [] (u ∷ us) p = absurd p
le_total (t ∷ ts) [] p = absurd p
le_total (t ∷ ts) (u ∷ us) p = omega (arith, p.0, le_total ts us p.1)

still : (s u : Standing) → ltb (rank s) (rank u) ≡ false → higher s u ≡ s
still s u h = one_rank (higher s u) s (omega (arith, ltb-false (rank s) (rank u) h, rank_higher s u))

both_still : (t u : Table) → exceeds t u ≡ false → both t u ≡ t
both_still [] us h = refl
both_still (t ∷ ts) [] h = refl
both_still (t ∷ ts) (u ∷ us) h =
    let p = or_parts (ltb (rank t) (rank u)) (exceeds ts us) h in
    λ i. still t u p.0 i ∷ both_still ts us p.1 i

both_up : (t u : Table) → exceeds t u ≡ true → total t < total (both t u)
both_up [] us h = absurd (true≢false (sym h))
both_up (t ∷ ts) [] h = absurd (true≢false (sym h))
both_up (t ∷ ts) (u ∷ us) h =
    let l = both_left (t ∷ ts) (u ∷ us) in
    ⊎_elim
    (λ a. omega (arith, ltb-true (rank t) (rank u) a, rank_higher t u, le_total ts (both ts us) l.1))
    (λ a. omega (arith, l.0, both_up ts us a))
    (or_cases (ltb (rank t) (rank u)) (exceeds ts us) h)

-- the same with the entry first
entry_still : (t u : Table) → length t ≡ length u → exceeds t u ≡ false → both u t ≡ t
entry_still t u l h = both_swap u t (sym l) ∙ both_still t u h

entry_up : (t u : Table) → length t ≡ length u → exceeds t u ≡ true → total t < total (both u t)
entry_up t u l h = omega (arith, both_up t u h, ap total (both_swap t u l))

-- ---- the entries of a pass

-- each entry has n standings
abbrev pub Long : ℕ → (k : Code) → Mem k → Type 0
Long n nothing m = Unit {0}
Long n (put x e k) m = Long n k m
Long n (read x c k) m = Long n k m
Long n (fork e a b k) m = Long n a m.0 × Long n b m.1 × Long n k m.2
Long n (turns _ b k) m = (length m.0 ≡ n) × Long n b m.1 × Long n k m.2
Long n (region b k) m = Long n b m.0 × Long n k m.1
Long n (uses xs k) m = Long n k m

pub under_long : (n : ℕ) (i : Bool) (k : Code) (m : Mem k) (t : Table) → length t ≡ n → Under i k m t → Long n k m
under_long n i nothing m t h u = tt
under_long n i (put x e k) m t h u = under_long n i k m _ (length-set t x.value _ ∙ h) u
under_long n i (read x c k) m t h u = under_long n i k m _ (length-set t x.value _ ∙ h) u
under_long n i (fork e a b k) m t h u =
    (under_long n i a m.0 t h u.0, under_long n i b m.1 t h u.1, under_long n i k m.2 _ (length_raised _ (assigned a (assigned b [])) _ ∙ length_both (walk i a t) _ ∙ (body i a).0 t ∙ h) u.2)
under_long n i (turns _ b k) m t h u =
    let l : length (settle (walk i b) t) ≡ n = length_climb (2 * length t) (walk i b) t ∙ h in
    (le_long m.0 _ u.0 ∙ l, under_long n i b m.1 _ l u.1, under_long n i k m.2 _ ((body i b).0 _ ∙ l) u.2)
under_long n i (region b k) m t h u =
    (under_long n true b m.0 _ (length_aged (not i) t ∙ h) u.0, under_long n i k m.1 _ (length_aged (not i) _ ∙ (body true b).0 _ ∙ length_aged (not i) t ∙ h) u.1)
under_long n i (uses xs k) m t h u = under_long n i k m t h u

abbrev pub total_mem : (k : Code) → Mem k → ℕ
total_mem nothing m = 0
total_mem (put x e k) m = total_mem k m
total_mem (read x c k) m = total_mem k m
total_mem (fork e a b k) m = total_mem a m.0 + (total_mem b m.1 + total_mem k m.2)
total_mem (turns n b k) m = total m.0 + (total_mem b m.1 + total_mem k m.2)
total_mem (region b k) m = total_mem b m.0 + total_mem k m.1
total_mem (uses xs k) m = total_mem k m

pub total_mem_le : (k : Code) (m : Mem k) → Long 128 k m → total_mem k m ≤ 256 * repeats k
total_mem_le nothing m l = omega arith
total_mem_le (put x e k) m l = total_mem_le k m l
total_mem_le (read x c k) m l = total_mem_le k m l
total_mem_le (fork e a b k) m l = omega (arith, total_mem_le a m.0 l.0, total_mem_le b m.1 l.1, total_mem_le k m.2 l.2)
total_mem_le (turns n b k) m l = omega (arith, total_le m.0, l.0, total_mem_le b m.1 l.1, total_mem_le k m.2 l.2)
total_mem_le (region b k) m l = omega (arith, total_mem_le b m.0 l.0, total_mem_le k m.1 l.1)
total_mem_le (uses xs k) m l = total_mem_le k m l

-- no entry falls
total_up : (n : ℕ) (i : Bool) (k : Code) (m : Mem k) (t : Table) → length t ≡ n → Long n k m → total_mem k m ≤ total_mem k (kept_of i k m t)
total_up n i nothing m t h l = omega arith
total_up n i (put x e k) m t h l = total_up n i k m _ (length-set t x.value _ ∙ h) l
total_up n i (read x c k) m t h l = total_up n i k m _ (length-set t x.value _ ∙ h) l
total_up n i (fork e a b k) m t h l =
    let p = total_up n i a m.0 t h l.0 in
    let q = total_up n i b m.1 t h l.1 in
    let r = total_up n i k m.2 (raised (of_expr t e) (assigned a (assigned b [])) (both (end_of i a m.0 t) (end_of i b m.1 t))) (length_raised _ (assigned a (assigned b [])) _ ∙ length_both (end_of i a m.0 t) _ ∙ length_end i a m.0 t ∙ h) l.2 in
    omega (arith, p, q, r)
total_up n i (turns _ b k) m t h l =
    let v : Table = both t m.0 in
    let u : Table = end_of i b m.1 v in
    let vl : length v ≡ n = length_both t m.0 ∙ h in
    let a₁ = le_total m.0 v (both_right t m.0 (h ∙ sym l.0)) in
    let a₂ = le_total v (both v u) (both_left v u) in
    let p = total_up n i b m.1 v vl l.1 in
    let q = total_up n i k m.2 u (length_end i b m.1 v ∙ vl) l.2 in
    omega (arith, a₁, a₂, p, q)
total_up n i (region b k) m t h l =
    let p = total_up n true b m.0 (aged (not i) t) (length_aged (not i) t ∙ h) l.0 in
    let q = total_up n i k m.1 (aged (not i) (end_of true b m.0 (aged (not i) t))) (length_aged (not i) _ ∙ length_end true b m.0 _ ∙ length_aged (not i) t ∙ h) l.1 in
    omega (arith, p, q)
total_up n i (uses xs k) m t h l = total_up n i k m t h l

-- where one rose, the sum rose
pub rose_total : (n : ℕ) (i : Bool) (k : Code) (m : Mem k) (t : Table) (r : Bool) → length t ≡ n → Long n k m → rose_of i k m t r ≡ true → (r ≡ true) ⊎ (total_mem k m < total_mem k (kept_of i k m t))
rose_total n i nothing m t r h l e = inl e
rose_total n i (put x f k) m t r h l e = rose_total n i k m _ r (length-set t x.value _ ∙ h) l e
rose_total n i (read x c k) m t r h l e = rose_total n i k m _ r (length-set t x.value _ ∙ h) l e
rose_total n i (fork f a b k) m t r h l e =
    let w : Table = raised (of_expr t f) (assigned a (assigned b [])) (both (end_of i a m.0 t) (end_of i b m.1 t)) in
    let wl : length w ≡ n = length_raised _ (assigned a (assigned b [])) _ ∙ length_both (end_of i a m.0 t) _ ∙ length_end i a m.0 t ∙ h in
    let p = total_up n i a m.0 t h l.0 in
    let q = total_up n i b m.1 t h l.1 in
    let s = total_up n i k m.2 w wl l.2 in
    ⊎_elim
    (λ e₁. ⊎_elim
    (λ e₂. ⊎_elim (λ e₃. inl e₃) (λ lt. inr (omega (arith, p, q, s, lt))) (rose_total n i a m.0 t r h l.0 e₂))
    (λ lt. inr (omega (arith, p, q, s, lt)))
    (rose_total n i b m.1 t _ h l.1 e₁))
    (λ lt. inr (omega (arith, p, q, s, lt)))
    (rose_total n i k m.2 w _ wl l.2 e)
rose_total n i (turns _ b k) m t r h l e =
    let v : Table = both t m.0 in
    let u : Table = end_of i b m.1 v in
    let vl : length v ≡ n = length_both t m.0 ∙ h in
    let ul : length u ≡ n = length_end i b m.1 v ∙ vl in
    let a₁ = le_total m.0 v (both_right t m.0 (h ∙ sym l.0)) in
    let a₂ = le_total v (both v u) (both_left v u) in
    let p = total_up n i b m.1 v vl l.1 in
    let q = total_up n i k m.2 u ul l.2 in
    ⊎_elim
    (λ e₁. ⊎_elim
    (λ e₂. ⊎_elim
    (λ e₃. ⊎_elim (λ e₄. inl e₄) (λ x. inr (omega (arith, a₁, a₂, p, q, entry_up m.0 t (l.0 ∙ sym h) x))) (or_cases r (exceeds m.0 t) e₃))
    (λ lt. inr (omega (arith, a₁, a₂, p, q, lt)))
    (rose_total n i b m.1 v _ vl l.1 e₂))
    (λ x. inr (omega (arith, a₁, a₂, p, q, both_up v u x)))
    (or_cases (rose_of i b m.1 v (r || exceeds m.0 t)) (exceeds v u) e₁))
    (λ lt. inr (omega (arith, a₁, a₂, p, q, lt)))
    (rose_total n i k m.2 u _ ul l.2 e)
rose_total n i (region b k) m t r h l e =
    let g : Table = aged (not i) t in
    let gl : length g ≡ n = length_aged (not i) t ∙ h in
    let w : Table = aged (not i) (end_of true b m.0 g) in
    let wl : length w ≡ n = length_aged (not i) _ ∙ length_end true b m.0 g ∙ gl in
    let p = total_up n true b m.0 g gl l.0 in
    let q = total_up n i k m.1 w wl l.1 in
    ⊎_elim
    (λ e₁. ⊎_elim (λ e₂. inl e₂) (λ lt. inr (omega (arith, p, q, lt))) (rose_total n true b m.0 g r gl l.0 e₁))
    (λ lt. inr (omega (arith, p, q, lt)))
    (rose_total n i k m.1 w _ wl l.1 e)
rose_total n i (uses xs k) m t r h l e = rose_total n i k m t r h l e

-- where none rose, all are as they were
pub rose_none : (n : ℕ) (i : Bool) (k : Code) (m : Mem k) (t : Table) (r : Bool) → length t ≡ n → Long n k m → rose_of i k m t r ≡ false → (r ≡ false) × (kept_of i k m t ≡ m)
rose_none n i nothing m t r h l e = (e, refl)
rose_none n i (put x f k) m t r h l e = rose_none n i k m _ r (length-set t x.value _ ∙ h) l e
rose_none n i (read x c k) m t r h l e = rose_none n i k m _ r (length-set t x.value _ ∙ h) l e
rose_none n i (fork f a b k) m t r h l e =
    let w : Table = raised (of_expr t f) (assigned a (assigned b [])) (both (end_of i a m.0 t) (end_of i b m.1 t)) in
    let wl : length w ≡ n = length_raised _ (assigned a (assigned b [])) _ ∙ length_both (end_of i a m.0 t) _ ∙ length_end i a m.0 t ∙ h in
    let p = rose_none n i k m.2 w _ wl l.2 e in
    let q = rose_none n i b m.1 t _ h l.1 p.0 in
    let s = rose_none n i a m.0 t r h l.0 q.0 in
    (s.0, λ j. (s.1 j, q.1 j, p.1 j))
rose_none n i (turns _ b k) m t r h l e =
    let v : Table = both t m.0 in
    let u : Table = end_of i b m.1 v in
    let vl : length v ≡ n = length_both t m.0 ∙ h in
    let ul : length u ≡ n = length_end i b m.1 v ∙ vl in
    let p = rose_none n i k m.2 u _ ul l.2 e in
    let o = or_parts (rose_of i b m.1 v (r || exceeds m.0 t)) (exceeds v u) p.0 in
    let q = rose_none n i b m.1 v _ vl l.1 o.0 in
    let s = or_parts r (exceeds m.0 t) q.0 in
    (s.0, λ j. ((both_still v u o.1 ∙ entry_still m.0 t (l.0 ∙ sym h) s.1) j, q.1 j, p.1 j))
rose_none n i (region b k) m t r h l e =
    let g : Table = aged (not i) t in
    let gl : length g ≡ n = length_aged (not i) t ∙ h in
    let w : Table = aged (not i) (end_of true b m.0 g) in
    let wl : length w ≡ n = length_aged (not i) _ ∙ length_end true b m.0 g ∙ gl in
    let p = rose_none n i k m.1 w _ wl l.1 e in
    let q = rose_none n true b m.0 g r gl l.0 p.0 in
    (q.0, λ j. (q.1 j, p.1 j))
rose_none n i (uses xs k) m t r h l e = rose_none n i k m t r h l e
