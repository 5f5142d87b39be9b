-- Passes over the rows of a script, until no entry rises, find the first refused use. Assumes nothing.
use Rattle.std.proofs.Common.{◌≡◌, ℕ, suc, ◌+◌, ◌-◌, ◌<◌, ◌≤◌, Bool, true, false, ◌||◌, eqb, ltb, List, [], ◌∷◌, length, get_or, set, replicate, Some, None, Option, sym, refl, ap, ◌∙◌, subst, ⊎_elim, arith, length-set}
use lib.ListN.{length-replicate}
use Rattle.std.proofs.lemmas.List.{get_or-set_same, get_or-set_other, get_or-replicate, get_or_past}
use Rattle.std.proofs.Math.Bool.{or_assoc, or-true, or-false}
use Rattle.std.proofs.lemmas.Bool.{true≢false, and_parts, ltb-true, eq-eqb, ne_eqb, cases_eq, cases_lt}
use Rattle.script.specs.declared.row.Role.TheVariants as role
use Rattle.script.specs.declared.row.Row.{Row}
use Rattle.script.specs.declared.standing.Standing.TheVariants.{Clean}
use Rattle.script.specs.Syntax.{Decls, no_decl, cell, minus_cell, var, fresh, Script, Code, nothing, put, read, fork, turns, region, uses, code}
use Rattle.script.specs.Written.{row, text, text_decls, rows}
use Rattle.script.specs.Stand.{Table, lesser, least, fresh_in, first_refused}
use Rattle.checker.specs.Limits.{shallow, numbered}
use Rattle.checker.specs.Machine.{State, with_fresh, run, begun}
use Rattle.checker.proofs.Order.{le_refl}
use Rattle.checker.proofs.Mono.{last_walks_tell}
use Rattle.checker.proofs.Texts.{length_text}
use Rattle.checker.proofs.Pass.{Mem, end_of, kept_of, told, rose_of, repeats, flat}
use Rattle.checker.proofs.Passes.{Under, below, exact, clean_mem, clean_under}
use Rattle.checker.proofs.Growth.{under_long, total_mem, total_mem_le, rose_total, rose_none}
use Rattle.checker.proofs.Blocks.{among, marked_by, pre_none, at, block}

-- ---- the names declared fresh

abbrev marks_of : Decls → List Bool → List Bool
marks_of no_decl fs = fs
marks_of (cell _ _ _ _ _ ds) fs = marks_of ds fs
marks_of (minus_cell _ _ _ _ _ _ ds) fs = marks_of ds fs
marks_of (var _ _ _ ds) fs = marks_of ds fs
marks_of (fresh _ x _ ds) fs = marks_of ds (set fs x.value true)

run_decls : (ds : Decls) (rs : List Row) (st : State) → run (text_decls ds rs) st ≡ run rs (with_fresh (marks_of ds st.fresh) st)
run_decls no_decl rs st = refl
run_decls (cell w x q n z ds) rs st = run_decls ds rs st
run_decls (minus_cell w x q m n z ds) rs st = run_decls ds rs st
run_decls (var w x z ds) rs st = run_decls ds rs st
run_decls (fresh w x z ds) rs st = run_decls ds rs (with_fresh (set st.fresh x.value true) st)

mark_one : (fs : List Bool) (y x : ℕ) → y < length fs → get_or (set fs y true) x false ≡ (get_or fs x false || eqb y x)
mark_one fs y x lt = ⊎_elim
    (λ (e : x ≡ y). ap (λ z. get_or (set fs y true) z false) e ∙ get_or-set_same fs y true false lt ∙ sym (or-true (get_or fs x false)) ∙ ap (λ b. get_or fs x false || b) (sym (eq-eqb y x (sym e))))
    (λ (ne : x ≡ y → ⊥). get_or-set_other fs y x true false ne ∙ sym (or-false (get_or fs x false)) ∙ ap (λ b. get_or fs x false || b) (sym (ne_eqb y x (λ e. ne (sym e)))))
    (cases_eq x y)

marks_is : (ds : Decls) (rs : List Row) (fs : List Bool) → length fs ≡ 128 → numbered (text_decls ds rs) ≡ true → (x : ℕ) → get_or (marks_of ds fs) x false ≡ (get_or fs x false || fresh_in ds x)
marks_is no_decl rs fs l h x = sym (or-false (get_or fs x false))
marks_is (cell w y q n z ds) rs fs l h x = marks_is ds rs fs l h x
marks_is (minus_cell w y q m n z ds) rs fs l h x = marks_is ds rs fs l h x
marks_is (var w y z ds) rs fs l h x = marks_is ds rs fs l h x
marks_is (fresh w y z ds) rs fs l h x =
    let p = and_parts (ltb y.value 128) (numbered (text_decls ds rs)) h in
    marks_is ds rs (set fs y.value true) (length-set fs y.value true ∙ l) p.1 x
    ∙ ap (λ b. b || fresh_in ds x) (mark_one fs y.value x (omega (arith, ltb-true y.value 128 p.0)))
    ∙ or_assoc (get_or fs x false) (eqb y.value x) (fresh_in ds x)

none_marked : (n x : ℕ) → get_or (replicate n false) x false ≡ false
none_marked n x = ⊎_elim (λ lt. get_or-replicate n x false false lt) (λ le. get_or_past (replicate n false) x false (omega (arith, length-replicate n false))) (cases_lt x n)

abbrev marks_in : Script → List Bool
marks_in s = marks_of s.decls (replicate 128 false)

marked_is : (s : Script) → numbered (rows s) ≡ true → marked_by (marks_in s) ≡ fresh_in s.decls
marked_is s h = λ j x. (marks_is s.decls _ (replicate 128 false) (length-replicate 128 false) h x ∙ ap (λ b. b || fresh_in s.decls x) (none_marked 128 x)) j

-- ---- the least of all places

lesser_swap : (p q : ℕ) (o : Option ℕ) → lesser p (lesser q o) ≡ lesser q (lesser p o)
lesser_swap p q None = ap Some (omega arith)
lesser_swap p q (Some r) = ap Some (omega arith)

among_lesser : (ps : List ℕ) (p : ℕ) (o : Option ℕ) → among ps (lesser p o) ≡ lesser p (among ps o)
among_lesser [] p o = refl
among_lesser (q ∷ ps) p o = ap (among ps) (lesser_swap q p o) ∙ among_lesser ps p (lesser q o)

among_least : (ps : List ℕ) → among ps None ≡ least ps
among_least [] = refl
among_least (p ∷ ps) = among_lesser ps p None ∙ ap (lesser p) (among_least ps)

-- ---- one pass over all rows

abbrev pub clean : Table
clean = replicate 128 Clean

abbrev said : Script → Code
said s = code s.main

-- what the rows of a script have to keep
pub record Small (s : Script) : Type 0 where
  pub long : length (rows s) ≤ 2048
  pub deep : shallow 0 (rows s) ≡ true
  pub known : numbered (rows s) ≡ true

shallow_decls : (ds : Decls) (d : ℕ) (rs : List Row) → shallow d (text_decls ds rs) ≡ true → shallow d rs ≡ true
shallow_decls no_decl d rs h = h
shallow_decls (cell w x q n z ds) d rs h = shallow_decls ds d rs h
shallow_decls (minus_cell w x q m n z ds) d rs h = shallow_decls ds d rs h
shallow_decls (var w x z ds) d rs h = shallow_decls ds d rs h
shallow_decls (fresh w x z ds) d rs h = shallow_decls ds d rs h

length_decls : (ds : Decls) (rs : List Row) → length rs ≤ length (text_decls ds rs)
length_decls no_decl rs = omega arith
length_decls (cell w x q n z ds) rs = omega (arith, length_decls ds rs)
length_decls (minus_cell w x q m n z ds) rs = omega (arith, length_decls ds rs)
length_decls (var w x z ds) rs = omega (arith, length_decls ds rs)
length_decls (fresh w x z ds) rs = omega (arith, length_decls ds rs)

few : (s : Script) → Small s → repeats (said s) ≤ 512
few s h =
    let R : List Row = row role.MainClose s.close ∷ [] in
    let a = length_decls s.decls (row role.MainWord s.word ∷ row role.MainOpen s.open' ∷ text s.main R) in
    let b = length_text s.main R in
    omega (arith, a, b, h.long)

pass_is : (s : Script) → Small s → (m : Mem (said s)) (z : List Table) → run (rows s) (begun (flat (said s) m z))
    ≡ at (marks_in s) false [] (end_of false (said s) m clean) (flat (said s) (kept_of false (said s) m clean) z) (0 + repeats (said s)) (rose_of false (said s) m clean false) (among (told (marked_by (marks_in s)) false (said s) m clean) None)
pass_is s h m z =
    let R : List Row = row role.MainClose s.close ∷ [] in
    let deep : shallow 0 (row role.MainWord s.word ∷ row role.MainOpen s.open' ∷ text s.main R) ≡ true = shallow_decls s.decls 0 _ h.deep in
    let inner : shallow 1 (text s.main R) ≡ true = (and_parts (ltb 0 16) _ deep).1 in
    run_decls s.decls _ (begun (flat (said s) m z))
    ∙ block s.main R (marks_in s) false [] 1 (λ xs. xs) 0 m z clean false None (omega arith) inner pre_none (omega (arith, few s h))

-- ---- pass after pass

-- the entries before the pass of a number are a script's, none too high, and each pass so far raised one
pub record Fine (s : Script) (turn : ℕ) (mem : List Table) : Type 0 where
  pub entries : Mem (said s)
  pub spare : List Table
  pub are : mem ≡ flat (said s) entries spare
  pub low : Under false (said s) entries clean
  pub many : turn ≤ total_mem (said s) entries

flat_clean : (k : Code) (c : Table) (j : ℕ) → flat k (clean_mem k c) (replicate j c) ≡ replicate (repeats k + j) c
flat_clean nothing c j = let e : j ≡ 0 + j = omega arith in ap (λ n. replicate n c) e
flat_clean (put x e k) c j = flat_clean k c j
flat_clean (read x y k) c j = flat_clean k c j
flat_clean (fork e a b k) c j =
    let n : repeats a + (repeats b + (repeats k + j)) ≡ repeats a + (repeats b + repeats k) + j = omega arith in
    ap (λ z. flat a (clean_mem a c) (flat b (clean_mem b c) z)) (flat_clean k c j) ∙ ap (flat a (clean_mem a c)) (flat_clean b c (repeats k + j)) ∙ flat_clean a c (repeats b + (repeats k + j)) ∙ ap (λ n. replicate n c) n
flat_clean (turns w b k) c j =
    let n : suc (repeats b + (repeats k + j)) ≡ 1 + (repeats b + repeats k) + j = omega arith in
    ap (λ z. c ∷ flat b (clean_mem b c) z) (flat_clean k c j) ∙ ap (λ z. c ∷ z) (flat_clean b c (repeats k + j)) ∙ ap (λ n. replicate n c) n
flat_clean (region b k) c j =
    let n : repeats b + (repeats k + j) ≡ repeats b + repeats k + j = omega arith in
    ap (flat b (clean_mem b c)) (flat_clean k c j) ∙ flat_clean b c (repeats k + j) ∙ ap (λ n. replicate n c) n
flat_clean (uses xs k) c j = flat_clean k c j

pub fine_first : (s : Script) → Small s → Fine s 0 (replicate 512 clean)
fine_first s h =
    let r : ℕ = repeats (said s) in
    let f = few s h in
    let n : 512 ≡ r + (512 - r) = omega arith in
    record {
      entries = clean_mem (said s) clean;
      spare = replicate (512 - r) clean;
      are = ap (λ n. replicate n clean) n ∙ sym (flat_clean (said s) clean (512 - r));
      low = clean_under 128 false (said s) clean (length-replicate 128 Clean);
      many = omega arith;
    }

pass_of : (s : Script) → Small s → (turn : ℕ) (mem : List Table) (f : Fine s turn mem) → run (rows s) (begun mem)
    ≡ at (marks_in s) false [] (end_of false (said s) f.entries clean) (flat (said s) (kept_of false (said s) f.entries clean) f.spare) (0 + repeats (said s)) (rose_of false (said s) f.entries clean false) (among (told (marked_by (marks_in s)) false (said s) f.entries clean) None)
pass_of s h turn mem f = ap (λ x. run (rows s) (begun x)) f.are ∙ pass_is s h f.entries f.spare

pub fine_again : (s : Script) → Small s → (turn : ℕ) (mem : List Table) → Fine s turn mem → (st : State) → st ≡ run (rows s) (begun mem) → st.rose ≡ true → Fine s (turn + 1) st.entries
fine_again s h turn mem f st e rose =
    let k : Code = said s in
    let m : Mem k = f.entries in
    let full = e ∙ pass_of s h turn mem f in
    let l = under_long 128 false k m clean (length-replicate 128 Clean) f.low in
    let up : total_mem k m < total_mem k (kept_of false k m clean) =
    ⊎_elim (λ a. absurd (true≢false (sym a))) (λ a. a) (rose_total 128 false k m clean false (length-replicate 128 Clean) l (sym (ap (λ x. x.rose) full) ∙ rose)) in
    record {
      entries = kept_of false k m clean;
      spare = f.spare;
      are = ap (λ x. x.entries) full;
      low = (below false k m clean clean (le_refl clean) f.low).0;
      many = omega (arith, up, f.many);
    }

pub fine_answer : (s : Script) → Small s → (turn : ℕ) (mem : List Table) → Fine s turn mem → (st : State) → st ≡ run (rows s) (begun mem) → st.rose ≡ false → st.first ≡ first_refused s
fine_answer s h turn mem f st e rose =
    let k : Code = said s in
    let m : Mem k = f.entries in
    let full = e ∙ pass_of s h turn mem f in
    let l = under_long 128 false k m clean (length-replicate 128 Clean) f.low in
    let same = (rose_none 128 false k m clean false (length-replicate 128 Clean) l (sym (ap (λ x. x.rose) full) ∙ rose)).1 in
    ap (λ x. x.first) full
    ∙ among_least (told (marked_by (marks_in s)) false k m clean)
    ∙ ap (λ w. least (told w false k m clean)) (marked_is s h.known)
    ∙ ap least (exact (fresh_in s.decls) false k m clean same f.low).1
    ∙ sym (last_walks_tell (fresh_in s.decls) false k clean)

pub fine_ends : (s : Script) → Small s → (turn : ℕ) (mem : List Table) → Fine s turn mem → turn ≤ 131072
fine_ends s h turn mem f =
    let l = under_long 128 false (said s) f.entries clean (length-replicate 128 Clean) f.low in
    omega (arith, total_mem_le (said s) f.entries l, few s h, f.many)

-- ---- the rows of a script, of which only the rows are known

pub small : (all : List Row) (s : Script) → all ≡ rows s → length all ≤ 2048 → shallow 0 all ≡ true → numbered all ≡ true → Small s
small all s e l d n = record { long = subst (λ x. length x ≤ 2048) e l; deep = subst (λ x. shallow 0 x ≡ true) e d; known = subst (λ x. numbered x ≡ true) e n }

abbrev pub Going : List Row → ℕ → List Table → Type 0
Going all turn mem = (s : Script) → all ≡ rows s → Small s → Fine s turn mem

pub going_first : (all : List Row) (mem : List Table) → mem ≡ replicate 512 clean → Going all 0 mem
going_first all mem e s _ h = subst (Fine s 0) (sym e) (fine_first s h)

pub going_again : (all : List Row) (turn : ℕ) (mem : List Table) (st : State) → Going all turn mem → st ≡ run all (begun mem) → st.rose ≡ true → Going all (turn + 1) st.entries
going_again all turn mem st g e rose s is h = fine_again s h turn mem (g s is h) st (e ∙ ap (λ x. run x (begun mem)) is) rose

pub going_answer : (all : List Row) (turn : ℕ) (mem : List Table) (st : State) → Going all turn mem → st ≡ run all (begun mem) → st.rose ≡ false
    → (s : Script) → all ≡ rows s → length all ≤ 2048 → shallow 0 all ≡ true → numbered all ≡ true → st.first ≡ first_refused s
going_answer all turn mem st g e rose s is l d n =
    let h = small all s is l d n in fine_answer s h turn mem (g s is h) st (e ∙ ap (λ x. run x (begun mem)) is) rose

pub going_ends : (all : List Row) (turn : ℕ) (mem : List Table) (x : Option ℕ) → Going all turn mem → 131073 ≤ turn
    → (s : Script) → all ≡ rows s → length all ≤ 2048 → shallow 0 all ≡ true → numbered all ≡ true → x ≡ first_refused s
going_ends all turn mem x g t s is l d n =
    let h = small all s is l d n in let b = fine_ends s h turn mem (g s is h) in absurd (omega (arith, b, t))
