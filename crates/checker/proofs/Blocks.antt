-- The rows of statements do what a pass over the statements does. Assumes nothing.
use Rattle.std.proofs.Common.{◌≡◌, ℕ, suc, ◌+◌, ◌<◌, ◌≤◌, min, Bool, true, false, cond, not, ◌&&◌, ◌||◌, ltb, List, [], ◌∷◌, ◌++◌, length, get_or, set, Some, None, Option, sym, refl, ap, ◌∙◌, subst, add-zero, arith}
use Rattle.std.proofs.lemmas.Bool.{and_parts, ltb-true, lt-ltb}
use Rattle.script.specs.declared.row.Role.TheVariants as role
use Rattle.script.specs.declared.row.Row.{Row}
use Rattle.script.specs.declared.standing.Standing.{Standing}
use Rattle.script.specs.declared.standing.Standing.TheVariants.{Clean, Now, Old}
use Rattle.script.specs.Syntax.{Leaf, Expr, reads, Names, no_name, comma, listed, Block, done, assign, reading, when, either, loop, atomic, together, Code, nothing, put, read, fork, turns, region, uses, code}
use Rattle.script.specs.Written.{row, text_expr, text_names, text}
use Rattle.script.specs.Stand.{Table, higher, both, highest, of_expr, raised, aged, reading_at, assigned, is_old, olds, fresh_of, uses_in, lesser}
use Rattle.checker.specs.Limits.{shallow}
use Rattle.checker.specs.Machine.{Opened, State, with_level, with_first, with_target, reads_name, lists, pushed, exceeds, run}
use Rattle.checker.proofs.Exprs.{used_all, run_rows, all_rows, shallow_rows}
use Rattle.checker.proofs.Texts.{shallow_text, shallow_listed, between_text, between_texts}
use Rattle.checker.proofs.Order.{higher_clean, higher_assoc, both_swap}
use Rattle.checker.proofs.Passes.{length_end}
use Rattle.checker.proofs.Pass.{Mem, end_of, kept_of, told, rose_of, repeats, flat}

-- ---- the least of the places met one by one

abbrev pub among : List ℕ → Option ℕ → Option ℕ
among [] o = o
among (p ∷ ps) o = among ps (lesser p o)

pub among_++ : (xs ys : List ℕ) (o : Option ℕ) → among (xs ++ ys) o ≡ among ys (among xs o)
among_++ [] ys o = refl
among_++ (x ∷ xs) ys o = among_++ xs ys (lesser x o)

among_old : (s : Standing) (p : ℕ) (ps : List ℕ) (o : Option ℕ) → among ps (cond (is_old s) (lesser p o) o) ≡ among (cond (is_old s) (p ∷ ps) ps) o
among_old Clean p ps o = refl
among_old Now p ps o = refl
among_old Old p ps o = refl

among_used : (used : Bool) (t : Table) (x : Leaf) (xs : List Leaf) (o : Option ℕ) → among (olds t xs) (cond (used && is_old (get_or t x.value Clean)) (lesser x.place o) o) ≡ among (olds t (cond used (x ∷ xs) xs)) o
among_used true t x xs o = among_old (get_or t x.value Clean) x.place (olds t xs) o
among_used false t x xs o = refl

-- ---- expressions

abbrev pub marked_by : List Bool → ℕ → Bool
marked_by fs x = get_or fs x false

used_is : (xs : List Leaf) (st : State) → used_all xs st ≡ with_level (higher st.level (highest st.table xs)) (with_first (among (olds st.table (fresh_of (marked_by st.fresh) xs)) st.first) st)
used_is [] st = λ j. with_level (sym (higher_clean st.level) j) st
used_is (x ∷ xs) st =
    used_is xs (reads_name (row role.Operand x) st)
    ∙ (λ j. with_level (higher_assoc st.level (get_or st.table x.value Clean) (highest st.table xs) j) (with_first (among_used (marked_by st.fresh x.value) st.table x (fresh_of (marked_by st.fresh) xs) st.first j) st))

pub run_expr : (e : Expr) (rs : List Row) (st : State) → run (text_expr e rs) st ≡ run rs (with_level (higher st.level (of_expr st.table e)) (with_first (among (olds st.table (uses_in (marked_by st.fresh) e)) st.first) st))
run_expr e rs st = run_rows e rs st ∙ ap (run rs) (sym (all_rows e [] st) ∙ used_is (reads e []) st)

run_names : (xs : Names) (rs : List Row) (st : State) → run (text_names xs rs) st ≡ run rs (with_first (among (olds st.table (listed xs)) st.first) st)
run_names no_name rs st = refl
run_names (comma c x xs) rs st =
    run_names xs rs (lists (row role.Listed x) st)
    ∙ (λ j. run rs (with_first (among_old (get_or st.table x.value Clean) x.place (olds st.table (listed xs)) st.first j) st))

-- ---- entries before others

-- B puts n entries before others
pub record Pre (B : List Table → List Table) (n : ℕ) : Type 0 where
  pub get : (xs : List Table) (j : ℕ) (d : Table) → get_or (B xs) (n + j) d ≡ get_or xs j d
  pub put : (xs : List Table) (j : ℕ) (y : Table) → set (B xs) (n + j) y ≡ B (set xs j y)

pub pre_none : Pre (λ xs. xs) 0
pre_none = record {
  get = λ xs j d. let e : 0 + j ≡ j = omega arith in ap (λ k. get_or xs k d) e;
  put = λ xs j y. let e : 0 + j ≡ j = omega arith in ap (λ k. set xs k y) e;
}

pre_cons : (B : List Table → List Table) (n : ℕ) (v : Table) → Pre B n → Pre (λ xs. B (v ∷ xs)) (n + 1)
pre_cons B n v p = record {
  get = λ xs j d. let e : n + 1 + j ≡ n + suc j = omega arith in ap (λ k. get_or (B (v ∷ xs)) k d) e ∙ p.get (v ∷ xs) (suc j) d;
  put = λ xs j y. let e : n + 1 + j ≡ n + suc j = omega arith in ap (λ k. set (B (v ∷ xs)) k y) e ∙ p.put (v ∷ xs) (suc j) y;
}

pre_flat : (k : Code) (m : Mem k) (B : List Table → List Table) (n : ℕ) → Pre B n → Pre (λ xs. B (flat k m xs)) (n + repeats k)
pre_flat nothing m B n p = subst (Pre B) (sym (add-zero n)) p
pre_flat (put x e k) m B n p = pre_flat k m B n p
pre_flat (read x c k) m B n p = pre_flat k m B n p
pre_flat (fork e a b k) m B n p =
    let q = pre_flat k m.2 (λ xs. B (flat a m.0 (flat b m.1 xs))) (n + repeats a + repeats b) (pre_flat b m.1 (λ xs. B (flat a m.0 xs)) (n + repeats a) (pre_flat a m.0 B n p)) in
    let e : n + repeats a + repeats b + repeats k ≡ n + (repeats a + (repeats b + repeats k)) = omega arith in
    subst (Pre (λ xs. B (flat a m.0 (flat b m.1 (flat k m.2 xs))))) e q
pre_flat (turns _ b k) m B n p =
    let q = pre_flat k m.2 (λ xs. B (m.0 ∷ flat b m.1 xs)) (n + 1 + repeats b) (pre_flat b m.1 (λ xs. B (m.0 ∷ xs)) (n + 1) (pre_cons B n m.0 p)) in
    let e : n + 1 + repeats b + repeats k ≡ n + (1 + (repeats b + repeats k)) = omega arith in
    subst (Pre (λ xs. B (m.0 ∷ flat b m.1 (flat k m.2 xs)))) e q
pre_flat (region b k) m B n p =
    let q = pre_flat k m.1 (λ xs. B (flat b m.0 xs)) (n + repeats b) (pre_flat b m.0 B n p) in
    let e : n + repeats b + repeats k ≡ n + (repeats b + repeats k) = omega arith in
    subst (Pre (λ xs. B (flat b m.0 (flat k m.1 xs)))) e q
pre_flat (uses xs k) m B n p = pre_flat k m B n p

pre_get : (B : List Table → List Table) (n : ℕ) → Pre B n → (x : Table) (xs : List Table) (d : Table) → get_or (B (x ∷ xs)) n d ≡ x
pre_get B n p x xs d = ap (λ k. get_or (B (x ∷ xs)) k d) (sym (add-zero n)) ∙ p.get (x ∷ xs) 0 d

pre_put : (B : List Table → List Table) (n : ℕ) → Pre B n → (x : Table) (xs : List Table) (y : Table) → set (B (x ∷ xs)) n y ≡ B (y ∷ xs)
pre_put B n p x xs y = ap (λ k. set (B (x ∷ xs)) k y) (sym (add-zero n)) ∙ p.put (x ∷ xs) 0 y

-- ---- statements

push_is : (f : Opened) (fs : List Opened) (d : ℕ) → length fs ≤ d → ltb d 16 ≡ true → pushed f fs ≡ f ∷ fs
push_is f fs d h s = let lt : length fs < 16 = omega (arith, ltb-true d 16 s) in ap (λ b. cond b (f ∷ fs) fs) (lt-ltb (length fs) 16 lt)

-- the state between two statements
abbrev pub at : List Bool → Bool → List Opened → Table → List Table → ℕ → Bool → Option ℕ → State
at fs i stack t es n r o = record { table = t; fresh = fs; target = None; level = Clean; inside = i; stack = stack; entries = es; number = n; rose = r; first = o }

-- where one more repeat is to come, the number of the next is below 512
next_is : (n r : ℕ) → n + (1 + r) ≤ 512 → min (n + 1) 512 ≡ n + 1
next_is n r h = omega arith

-- a repeat's entry, read and raised, in the place where it stands
entered : (fs : List Bool) (i : Bool) (stack : List Opened) (B : List Table → List Table) (n : ℕ) (x : Table) (xs : List Table) (t : Table) (r : Bool) (o : Option ℕ) (next : ℕ) (st : List Opened)
    → Pre B n → st ≡ stack → next ≡ n + 1
    → at fs i st (both t (get_or (B (x ∷ xs)) n t)) (set (B (x ∷ xs)) n (both t (get_or (B (x ∷ xs)) n t))) next (r || exceeds (get_or (B (x ∷ xs)) n t) t) o
    ≡ at fs i stack (both t x) (B (both t x ∷ xs)) (n + 1) (r || exceeds x t) o
entered fs i stack B n x xs t r o next st p e q =
    (λ j. at fs i (e j) (both t (pre_get B n p x xs t j)) (set (B (x ∷ xs)) n (both t (pre_get B n p x xs t j))) (q j) (r || exceeds (pre_get B n p x xs t j) t) o)
    ∙ (λ j. at fs i stack (both t x) (pre_put B n p x xs (both t x) j) (n + 1) (r || exceeds x t) o)

left : (fs : List Bool) (i : Bool) (stack : List Opened) (B : List Table → List Table) (n : ℕ) (x : Table) (xs : List Table) (u : Table) (r : Bool) (o : Option ℕ) (next : ℕ)
    → Pre B n
    → at fs i stack u (set (B (x ∷ xs)) n (both (get_or (B (x ∷ xs)) n u) u)) next (r || exceeds (get_or (B (x ∷ xs)) n u) u) o
    ≡ at fs i stack u (B (both x u ∷ xs)) next (r || exceeds x u) o
left fs i stack B n x xs u r o next p =
    (λ j. at fs i stack u (set (B (x ∷ xs)) n (both (pre_get B n p x xs u j) u)) next (r || exceeds (pre_get B n p x xs u j) u) o)
    ∙ (λ j. at fs i stack u (pre_put B n p x xs (both x u) j) next (r || exceeds x u) o)

-- the rows of a block, from a state between two statements, lead to the state after a pass over it
pub block : (b : Block) (rs : List Row) (fs : List Bool) (i : Bool) (stack : List Opened) (d : ℕ) (B : List Table → List Table) (n : ℕ) (m : Mem (code b)) (z : List Table) (t : Table) (r : Bool) (o : Option ℕ)
    → length stack ≤ d → shallow d (text b rs) ≡ true → Pre B n → n + repeats (code b) ≤ 512
    → run (text b rs) (at fs i stack t (B (flat (code b) m z)) n r o)
    ≡ run rs (at fs i stack (end_of i (code b) m t) (B (flat (code b) (kept_of i (code b) m t) z)) (n + repeats (code b)) (rose_of i (code b) m t r) (among (told (marked_by fs) i (code b) m t) o))
block done rs fs i stack d B n m z t r o h s p c = ap (λ n'. run rs (at fs i stack t (B z) n' r o)) (sym (add-zero n))
block (assign x q e w k) rs fs i stack d B n m z t r o h s p c =
    run_expr e (row role.SetEnd w ∷ text k rs) (with_target (Some x.value) (at fs i stack t (B (flat (code k) m z)) n r o))
    ∙ block k rs fs i stack d B n m z (set t x.value (of_expr t e)) r (among (olds t (uses_in (marked_by fs) e)) o) h (shallow_rows e d (row role.SetEnd w ∷ text k rs) s) p c
    ∙ (λ j. run rs (at fs i stack (end_of i (code k) m (set t x.value (of_expr t e))) (B (flat (code k) (kept_of i (code k) m (set t x.value (of_expr t e))) z)) (n + repeats (code k)) (rose_of i (code k) m (set t x.value (of_expr t e)) r)
    (sym (among_++ (olds t (uses_in (marked_by fs) e)) (told (marked_by fs) i (code k) m (set t x.value (of_expr t e))) o) j)))
block (reading x q v y w k) rs fs i stack d B n m z t r o h s p c = block k rs fs i stack d B n m z (set t x.value (reading_at i)) r o h s p c
block (when w e o' a y k) rs fs i stack d B n m z t r o h s p c =
    let R : List Row = row role.WhenClose y ∷ text k rs in
    let A : List Row = text a R in
    let f : Opened = record { table = t; level = of_expr t e; from = A; number = n; inside = i } in
    let us : List ℕ = olds t (uses_in (marked_by fs) e) in
    let o₁ : Option ℕ = among us o in
    let ra : ℕ = repeats (code a) in
    let ka : Mem (code a) = kept_of i (code a) m.0 t in
    let ea : Table = end_of i (code a) m.0 t in
    let ta : List ℕ = told (marked_by fs) i (code a) m.0 t in
    let qa : Bool = rose_of i (code a) m.0 t r in
    let v : Table = raised (of_expr t e) (assigned (code a) []) (both ea t) in
    let tk : List ℕ = told (marked_by fs) i (code k) m.2 v in
    let sh = and_parts (ltb d 16) (shallow (suc d) A) (shallow_rows e d (row role.ThenOpen o' ∷ A) s) in
    let num : n + ra + repeats (code k) ≡ n + (ra + (0 + repeats (code k))) = omega arith in
    run_expr e (row role.ThenOpen o' ∷ A) (at fs i stack t (B (flat (code a) m.0 (flat (code k) m.2 z))) n r o)
    ∙ (λ j. run A (at fs i (push_is f stack d h sh.0 j) t (B (flat (code a) m.0 (flat (code k) m.2 z))) n r o₁))
    ∙ block a R fs i (f ∷ stack) (suc d) B n m.0 (flat (code k) m.2 z) t r o₁ (omega arith) sh.1 p (omega arith)
    ∙ (λ j. run (text k rs) (at fs i stack (raised (of_expr t e) (between_text a R j) (both ea t)) (B (flat (code a) ka (flat (code k) m.2 z))) (n + ra) qa (among ta o₁)))
    ∙ block k rs fs i stack d (λ x. B (flat (code a) ka x)) (n + ra) m.2 z v qa (among ta o₁) h (shallow_text a (suc d) R sh.1) (pre_flat (code a) ka B n p) (omega arith)
    ∙ (λ j. run rs (at fs i stack (end_of i (code k) m.2 v) (B (flat (code a) ka (flat (code k) (kept_of i (code k) m.2 v) z))) (num j) (rose_of i (code k) m.2 v qa)
    ((sym (among_++ ta tk o₁) ∙ sym (among_++ us (ta ++ tk) o)) j)))
block (either w e o' a y w' o'' b y' k) rs fs i stack d B n m z t r o h s p c =
    let R₂ : List Row = row role.ElseClose y' ∷ text k rs in
    let R : List Row = row role.ThenClose y ∷ row role.ElseWord w' ∷ row role.ElseOpen o'' ∷ text b R₂ in
    let A : List Row = text a R in
    let f : Opened = record { table = t; level = of_expr t e; from = A; number = n; inside = i } in
    let us : List ℕ = olds t (uses_in (marked_by fs) e) in
    let o₁ : Option ℕ = among us o in
    let ra : ℕ = repeats (code a) in
    let ka : Mem (code a) = kept_of i (code a) m.0 t in
    let ea : Table = end_of i (code a) m.0 t in
    let ta : List ℕ = told (marked_by fs) i (code a) m.0 t in
    let qa : Bool = rose_of i (code a) m.0 t r in
    let g : Opened = record { table = ea; level = of_expr t e; from = A; number = n; inside = i } in
    let rb : ℕ = repeats (code b) in
    let kb : Mem (code b) = kept_of i (code b) m.1 t in
    let eb : Table = end_of i (code b) m.1 t in
    let tb : List ℕ = told (marked_by fs) i (code b) m.1 t in
    let qb : Bool = rose_of i (code b) m.1 t qa in
    let v : Table = raised (of_expr t e) (assigned (code a) (assigned (code b) [])) (both ea eb) in
    let tk : List ℕ = told (marked_by fs) i (code k) m.2 v in
    let sh = and_parts (ltb d 16) (shallow (suc d) A) (shallow_rows e d (row role.ThenOpen o' ∷ A) s) in
    let sh₂ = and_parts (ltb d 16) (shallow (suc d) (text b R₂)) (shallow_text a (suc d) R sh.1) in
    let num : n + ra + rb + repeats (code k) ≡ n + (ra + (rb + repeats (code k))) = omega arith in
    run_expr e (row role.ThenOpen o' ∷ A) (at fs i stack t (B (flat (code a) m.0 (flat (code b) m.1 (flat (code k) m.2 z)))) n r o)
    ∙ (λ j. run A (at fs i (push_is f stack d h sh.0 j) t (B (flat (code a) m.0 (flat (code b) m.1 (flat (code k) m.2 z)))) n r o₁))
    ∙ block a R fs i (f ∷ stack) (suc d) B n m.0 (flat (code b) m.1 (flat (code k) m.2 z)) t r o₁ (omega arith) sh.1 p (omega arith)
    ∙ (λ j. run (text b R₂) (at fs i (push_is g stack d h sh.0 j) t (B (flat (code a) ka (flat (code b) m.1 (flat (code k) m.2 z)))) (n + ra) qa (among ta o₁)))
    ∙ block b R₂ fs i (g ∷ stack) (suc d) (λ x. B (flat (code a) ka x)) (n + ra) m.1 (flat (code k) m.2 z) t qa (among ta o₁) (omega arith) sh₂.1 (pre_flat (code a) ka B n p) (omega arith)
    ∙ (λ j. run (text k rs) (at fs i stack (raised (of_expr t e) (between_texts a y w' o'' b R₂ j) (both_swap eb ea (length_end i (code b) m.1 t ∙ sym (length_end i (code a) m.0 t)) j)) (B (flat (code a) ka (flat (code b) kb (flat (code k) m.2 z)))) (n + ra + rb) qb (among tb (among ta o₁))))
    ∙ block k rs fs i stack d (λ x. B (flat (code a) ka (flat (code b) kb x))) (n + ra + rb) m.2 z v qb (among tb (among ta o₁)) h (shallow_text b (suc d) R₂ sh₂.1)
    (pre_flat (code b) kb (λ x. B (flat (code a) ka x)) (n + ra) (pre_flat (code a) ka B n p)) (omega arith)
    ∙ (λ j. run rs (at fs i stack (end_of i (code k) m.2 v) (B (flat (code a) ka (flat (code b) kb (flat (code k) (kept_of i (code k) m.2 v) z)))) (num j) (rose_of i (code k) m.2 v qb)
    ((sym (among_++ tb tk (among ta o₁)) ∙ sym (among_++ ta (tb ++ tk) o₁) ∙ sym (among_++ us (ta ++ (tb ++ tk)) o)) j)))
block (loop w l o' b y k) rs fs i stack d B n m z t r o h s p c =
    let R : List Row = row role.BodyClose y ∷ text k rs in
    let A : List Row = text b R in
    let f : Opened = record { table = t; level = Clean; from = A; number = n; inside = i } in
    let v : Table = both t m.0 in
    let q₀ : Bool = r || exceeds m.0 t in
    let X : List Table = flat (code k) m.2 z in
    let rb : ℕ = repeats (code b) in
    let kb : Mem (code b) = kept_of i (code b) m.1 v in
    let u : Table = end_of i (code b) m.1 v in
    let tb : List ℕ = told (marked_by fs) i (code b) m.1 v in
    let qb : Bool = rose_of i (code b) m.1 v q₀ in
    let tk : List ℕ = told (marked_by fs) i (code k) m.2 u in
    let sh = and_parts (ltb d 16) (shallow (suc d) A) s in
    let num : n + 1 + rb + repeats (code k) ≡ n + (1 + (rb + repeats (code k))) = omega arith in
    ap (run A) (entered fs i (f ∷ stack) B n m.0 (flat (code b) m.1 X) t r o (min (n + 1) 512) (pushed f stack) p (push_is f stack d h sh.0) (next_is n (rb + repeats (code k)) c))
    ∙ block b R fs i (f ∷ stack) (suc d) (λ x. B (v ∷ x)) (n + 1) m.1 X v q₀ o (omega arith) sh.1 (pre_cons B n v p) (omega arith)
    ∙ ap (run (text k rs)) (left fs i stack B n v (flat (code b) kb X) u qb (among tb o) (n + 1 + rb) p)
    ∙ block k rs fs i stack d (λ x. B (both v u ∷ flat (code b) kb x)) (n + 1 + rb) m.2 z u (qb || exceeds v u) (among tb o) h (shallow_text b (suc d) R sh.1)
    (pre_flat (code b) kb (λ x. B (both v u ∷ x)) (n + 1) (pre_cons B n (both v u) p)) (omega arith)
    ∙ (λ j. run rs (at fs i stack (end_of i (code k) m.2 u) (B (both v u ∷ flat (code b) kb (flat (code k) (kept_of i (code k) m.2 u) z))) (num j) (rose_of i (code k) m.2 u (qb || exceeds v u))
    (sym (among_++ tb tk o) j)))
block (atomic w o' b y k) rs fs i stack d B n m z t r o h s p c =
    let R : List Row = row role.RegionClose y ∷ text k rs in
    let A : List Row = text b R in
    let f : Opened = record { table = t; level = Clean; from = A; number = n; inside = i } in
    let v : Table = aged (not i) t in
    let rb : ℕ = repeats (code b) in
    let kb : Mem (code b) = kept_of true (code b) m.0 v in
    let u : Table = aged (not i) (end_of true (code b) m.0 v) in
    let tb : List ℕ = told (marked_by fs) true (code b) m.0 v in
    let qb : Bool = rose_of true (code b) m.0 v r in
    let tk : List ℕ = told (marked_by fs) i (code k) m.1 u in
    let sh = and_parts (ltb d 16) (shallow (suc d) A) s in
    let num : n + rb + repeats (code k) ≡ n + (rb + repeats (code k)) = omega arith in
    (λ j. run A (at fs true (push_is f stack d h sh.0 j) v (B (flat (code b) m.0 (flat (code k) m.1 z))) n r o))
    ∙ block b R fs true (f ∷ stack) (suc d) B n m.0 (flat (code k) m.1 z) v r o (omega arith) sh.1 p (omega arith)
    ∙ block k rs fs i stack d (λ x. B (flat (code b) kb x)) (n + rb) m.1 z u qb (among tb o) h (shallow_text b (suc d) R sh.1) (pre_flat (code b) kb B n p) (omega arith)
    ∙ (λ j. run rs (at fs i stack (end_of i (code k) m.1 u) (B (flat (code b) kb (flat (code k) (kept_of i (code k) m.1 u) z))) (num j) (rose_of i (code k) m.1 u qb) (sym (among_++ tb tk o) j)))
block (together w x xs y k) rs fs i stack d B n m z t r o h s p c =
    let us : List ℕ = olds t (x ∷ listed xs) in
    let tk : List ℕ = told (marked_by fs) i (code k) m t in
    run_names (comma w x xs) (row role.TogetherEnd y ∷ text k rs) (at fs i stack t (B (flat (code k) m z)) n r o)
    ∙ block k rs fs i stack d B n m z t r (among us o) h (shallow_listed xs d (row role.TogetherEnd y ∷ text k rs) s) p c
    ∙ (λ j. run rs (at fs i stack (end_of i (code k) m t) (B (flat (code k) (kept_of i (code k) m t) z)) (n + repeats (code k)) (rose_of i (code k) m t r) (sym (among_++ us tk o) j)))
