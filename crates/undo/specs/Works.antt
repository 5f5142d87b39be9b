-- The undo log is within the rules.
use Rattle.std.specs.Prelude.{◌≡◌, ℕ, zero, suc, ◌+◌, ◌-◌, ◌<◌, ◌≤◌, min, Bool, true, false, cond, not, ◌&&◌, ◌||◌, ltb, List, length, get_or, take, set, replicate, ℤ, pos, Ok, Err, ◌==◌, ◌≢◌, Option, Some, None, MatchOption, nat_lt, slice_index, slice_index_or, slice_set, refl}
use Rattle.std.proofs.Common.{sym, ap, subst, ◌∙◌, arith, length-set, get_or-set_same, get_or-set_other, get_or-take, length-take-le, add-one}
use Rattle.std.specs.List.{list_any, position, position_or_len}
use Rattle.std.proofs.lemmas.List.{length-replicate, set-get_or}
use Rattle.std.proofs.lemmas.List.Folds.{list_any_more}
use Rattle.std.proofs.lemmas.List.Quantifiers.{position-Some}
use Rattle.std.proofs.lemmas.List.Sums.{fails_before_first}
use Rattle.std.proofs.lemmas.Grind.{common_steps}
use Rattle.std.proofs.Math.Seq.{take-set-lt}
use Rattle.undo.specs.Log.{undone, among, marked, meaning_of, pairs, Log64, Cell, Flag, write, fresh, first_word, mend_word, many, word, undo_plan, undo_model}
use Rattle.undo.specs.Made.{first_words}
use Rattle.undo.specs.declared.words.Words.{Words}
use Rattle.memory.specs.Meaning.{Meaning, after_put, after_mend, closed_with}
use Rattle.memory.specs.Calls.{Call, Put, Open, Close, Mend, can, goal}
use Rattle.memory.specs.Plan.{applied, Good, Works}
use Rattle.memory.specs.Spent.{spent}
use Rattle.memory.specs.Model.{answer, after, cell_of}
use Rattle.memory.proofs.Filling.{filled_length, filled_front}
use Rattle.memory.proofs.Plans.{meaning_eq, no_way, below, one_good, a_cell, no_cell}
use Rattle.script.specs.Faults.{fault}
use Rattle.undo.specs.Back.{same_of, apart_of, undone_length, logged_free, past_log, first_put, marked_most, marked_room, marked_more, same_marks, closed_none, law_holds}

pub kept_length : (w : Words) → Log64 w → length (meaning_of w).kept ≡ w.count
kept_length w l = undone_length w.numbers w.olds (pairs w) (take w.count w.cells) ∙ length-take-le w.count w.cells (omega (arith, l.small, l.cells))

pub pairs_most : (w : Words) → Log64 w → pairs w ≤ w.count
pairs_most w l = subst (λ (a : ℕ). a ≤ w.count) (sym l.exact) (marked_most w.count (among (pairs w) w.numbers))

pub state_most : (w : Words) → Log64 w → w.state ≤ 65
state_most w l = let m = pairs_most w l in omega (arith, l.small)

pub eq_true : (a b : ℕ) → a ≡ b → (a == b) ≡ true
eq_true a b e = grind arith

pub eq_false : (a b : ℕ) → (a ≢ b) → (a == b) ≡ false
eq_false a b e = grind arith

among_past : (k j : ℕ) (ns : List ℕ) (i p : ℕ) → k ≤ j → among k (slice_set ns j i) p ≡ among k ns p
among_past zero j ns i p h = refl
among_past (suc k) j ns i p h =
    let e : get_or (slice_set ns j i) k 0 ≡ get_or ns k 0 = get_or-set_other ns j k i 0 (λ q. absurd (omega (arith, q))) in
    let f = among_past k j ns i p (omega arith) in
    cc

marked_none : (n : ℕ) (ns : List ℕ) → marked n (among 0 ns) ≡ 0
marked_none zero ns = refl
marked_none (suc n) ns = marked_none n ns

-- the first put of a cell in a region
module _ (w : Words) (l : Log64 w) (i : ℕ) (x : ℤ) (lt : i < w.count) (up : 0 < w.state) (e : among (pairs w) w.numbers i ≡ false) where
  abbrev p : ℕ
  p = pairs w

  abbrev cs : List ℤ
  cs = take w.count w.cells

  abbrev old : ℤ
  old = slice_index_or w.cells i (pos 0)

  abbrev so_far : ℕ → Words
  so_far k = applied write (first_word w i x) w k

  pub room : p < w.count
  room = subst (λ (a : ℕ). a < w.count) (sym l.exact) (marked_room w.count (among p w.numbers) i lt e)

  hn : p < length w.numbers
  hn = let r = room in omega (arith, l.small, l.numbers)

  ho : p < length w.olds
  ho = let r = room in omega (arith, l.small, l.olds)

  more : w.state + 1 - 1 ≡ suc p
  more = omega arith

  -- with the pair in force the cell may hold anything
  paired : (y : ℤ) → undone (w.state + 1 - 1) (slice_set w.numbers p i) (slice_set w.olds p old) (slice_set cs i y) ≡ undone p w.numbers w.olds cs
  paired y =
      ap (λ (k : ℕ). undone k (slice_set w.numbers p i) (slice_set w.olds p old) (slice_set cs i y)) more
      ∙ ap (λ (o : ℤ). undone (suc p) (slice_set w.numbers p i) (slice_set w.olds p o) (slice_set cs i y)) (sym (get_or-take w.count w.cells i (pos 0) lt))
      ∙ first_put p w.numbers w.olds i cs y e hn ho

  up_more : ltb 0 (w.state + 1) ≡ nat_lt 0 w.state
  up_more = grind arith

  before : (k : ℕ) → k < 4 → meaning_of (so_far k) ≡ meaning_of w
  before zero h = refl
  before (suc zero) h = meaning_eq (sym (ap (λ (os : List ℤ). undone p (slice_set w.numbers p i) os cs) (set-get_or w.olds p (pos 0))) ∙ past_log p p w.numbers w.olds i (slice_index_or w.olds p (pos 0)) cs (omega arith)) refl refl
  before (suc (suc zero)) h = meaning_eq (past_log p p w.numbers w.olds i old cs (omega arith)) refl refl
  before (suc (suc (suc zero))) h = meaning_eq (ap (λ (c : List ℤ). undone (w.state + 1 - 1) (slice_set w.numbers p i) (slice_set w.olds p old) c) (sym (set-get_or cs i (pos 0))) ∙ paired (slice_index_or cs i (pos 0))) refl up_more
  before (suc (suc (suc (suc k)))) h = absurd (omega arith)

  done_put : meaning_of (so_far 4) ≡ after_put (meaning_of w) i x
  done_put =
      let t = take-set-lt w.count w.cells i x lt in
      let u : ltb 0 w.state ≡ true = grind arith in
      meaning_eq (ap (λ (c : List ℤ). undone (w.state + 1 - 1) (slice_set w.numbers p i) (slice_set w.olds p old) c) t ∙ paired x ∙ sym (ap (λ (b : Bool). cond b (undone p w.numbers w.olds cs) (slice_set cs i x)) u)) t up_more

  each_past : (j : ℕ) → j < p → slice_index (slice_set w.numbers p i) j < w.count
  each_past j h = subst (λ (a : ℕ). a < w.count) (sym (get_or-set_other w.numbers p j i 0 (λ q. absurd (omega (arith, q))))) (l.each j h)

  exact_past : p ≡ marked w.count (among p (slice_set w.numbers p i))
  exact_past = l.exact ∙ sym (same_marks w.count (among p w.numbers) (among p (slice_set w.numbers p i)) (λ q h. among_past p p w.numbers i q (omega arith)))

  itself : get_or (slice_set w.numbers p i) p 0 ≡ i
  itself = get_or-set_same w.numbers p i 0 hn

  exact_more : w.state + 1 - 1 ≡ marked w.count (among (w.state + 1 - 1) (slice_set w.numbers p i))
  exact_more =
      more ∙ ap suc l.exact
      ∙ sym (marked_more w.count (among p w.numbers) (among (suc p) (slice_set w.numbers p i)) i lt e
      (ap (λ (b : Bool). cond b true (among p (slice_set w.numbers p i) i)) (eq_true _ i itself))
      (λ q ne. ap (λ (b : Bool). cond b true (among p (slice_set w.numbers p i) q)) (eq_false _ q (λ s. ne (sym s ∙ itself))) ∙ among_past p p w.numbers i q (omega arith)))
      ∙ sym (ap (λ (k : ℕ). marked w.count (among k (slice_set w.numbers p i))) more)

  each_more : (j : ℕ) → j < w.state + 1 - 1 → slice_index (slice_set w.numbers p i) j < w.count
  each_more j h = by (j == p) refl
    where
      by : (b : Bool) → (j == p) ≡ b → slice_index (slice_set w.numbers p i) j < w.count
      by true q = let s : j ≡ p = grind arith in subst (λ (a : ℕ). a < w.count) (sym (ap (λ (a : ℕ). slice_index (slice_set w.numbers p i) a) s ∙ itself)) lt
      by false q = let s : j < p = grind arith in each_past j s

  fines_put : (k : ℕ) → k ≤ 4 → Log64 (so_far k)
  fines_put zero h = l
  fines_put (suc zero) h = record { small = l.small; cells = l.cells; numbers = length-set w.numbers p i ∙ l.numbers; olds = l.olds; each = each_past; exact = exact_past }
  fines_put (suc (suc zero)) h = record { small = l.small; cells = l.cells; numbers = length-set w.numbers p i ∙ l.numbers; olds = length-set w.olds p _ ∙ l.olds; each = each_past; exact = exact_past }
  fines_put (suc (suc (suc zero))) h = record { small = l.small; cells = l.cells; numbers = length-set w.numbers p i ∙ l.numbers; olds = length-set w.olds p _ ∙ l.olds; each = each_more; exact = exact_more }
  fines_put (suc (suc (suc (suc zero)))) h = record { small = l.small; cells = length-set w.cells i x ∙ l.cells; numbers = length-set w.numbers p i ∙ l.numbers; olds = length-set w.olds p _ ∙ l.olds; each = each_more; exact = exact_more }
  fines_put (suc (suc (suc (suc (suc k))))) h = absurd (omega arith)

  pub first_good : Good undo_plan w 4 (first_word w i x) (after_put (meaning_of w) i x)
  first_good = record {
    few = omega arith;
    fines = fines_put;
    keeps = λ k h. ap (λ (v : Meaning). v.kept) (before k h);
    stays = λ k h. ap (λ (v : Meaning). v.is_open) (before k h);
    whole = done_put;
  }

-- a put of a cell that needs no pair
module _ (w : Words) (l : Log64 w) (i : ℕ) (x : ℤ) (lt : i < w.count) where
  cell_log : Log64 (write w (Cell i x))
  cell_log = record { small = l.small; cells = length-set w.cells i x ∙ l.cells; numbers = l.numbers; olds = l.olds; each = l.each; exact = l.exact }

  cell_kept : (b c : Bool) → nat_lt 0 w.state ≡ b → among (pairs w) w.numbers i ≡ c → (b && not c) ≡ false → undone (pairs w) w.numbers w.olds (slice_set (take w.count w.cells) i x) ≡ cond b (undone (pairs w) w.numbers w.olds (take w.count w.cells)) (slice_set (take w.count w.cells) i x)
  cell_kept true true eb ec h = logged_free w.numbers w.olds (pairs w) (take w.count w.cells) i x ec
  cell_kept true false eb ec h = no_way h
  cell_kept false c eb ec h = ap (λ (k : ℕ). undone k w.numbers w.olds (slice_set (take w.count w.cells) i x)) (closed_none w.state eb)

  pub put_good : (b : Bool) → fresh w i ≡ b → Good undo_plan w (cond b 4 1) (λ k. cond b (first_word w i x k) (Cell i x)) (after_put (meaning_of w) i x)
  put_good true e = first_good w l i x lt (open_of (nat_lt 0 w.state) _ refl e) (new_of (nat_lt 0 w.state) _ e)
    where
      open_of : (b c : Bool) → nat_lt 0 w.state ≡ b → (b && c) ≡ true → 0 < w.state
      open_of true c f h = grind arith
      open_of false c f h = no_way (sym h)

      new_of : (b c : Bool) → (b && not c) ≡ true → c ≡ false
      new_of true true h = sym h
      new_of true false h = refl
      new_of false c h = no_way (sym h)
  put_good false e =
      let t = take-set-lt w.count w.cells i x lt in
      one_good undo_plan w (Cell i x) (after_put (meaning_of w) i x) l cell_log
      (meaning_eq (ap (λ (c : List ℤ). undone (pairs w) w.numbers w.olds c) t ∙ cell_kept _ _ refl refl e) t refl)

-- writing back
among_own : (k j : ℕ) (ns : List ℕ) → j < k → among k ns (slice_index ns j) ≡ true
among_own zero j ns h = absurd (omega arith)
among_own (suc k) j ns h = by (slice_index ns k == slice_index ns j) refl (λ l. among_own k j ns l)
  where
    by : (b : Bool) → (slice_index ns k == slice_index ns j) ≡ b → (j < k → among k ns (slice_index ns j) ≡ true) → cond (slice_index ns k == slice_index ns j) true (among k ns (slice_index ns j)) ≡ true
    by true e ih = ap (λ (b : Bool). cond b true (among k ns (slice_index ns j))) e
    by false e ih =
        let ne : j < k = less (j == k) refl in
        ap (λ (b : Bool). cond b true (among k ns (slice_index ns j))) e ∙ ih ne
      where
        less : (b : Bool) → (j == k) ≡ b → j < k
        less true q = let s : j ≡ k = grind arith in no_way (sym (eq_true (slice_index ns k) (slice_index ns j) (ap (λ (i : ℕ). slice_index ns i) (sym s))) ∙ e)
        less false q = grind arith

-- as many pairs undo the same
pub undone_take : (k n : ℕ) (ns : List ℕ) (os cs : List ℤ) → k ≤ n → undone k (take n ns) (take n os) cs ≡ undone k ns os cs
undone_take zero n ns os cs h = refl
undone_take (suc k) n ns os cs h =
    let a : get_or (take n ns) k 0 ≡ get_or ns k 0 = get_or-take n ns k 0 (omega arith) in
    let b : get_or (take n os) k (pos 0) ≡ get_or os k (pos 0) = get_or-take n os k (pos 0) (omega arith) in
    let c = undone_take k n ns os cs (omega arith) in
    cc

module _ (w : Words) where
  abbrev with_cells : List ℤ → Words
  with_cells c = record { cells = c; numbers = w.numbers; olds = w.olds; state = w.state; count = w.count }

  -- k old values are back
  pub backs : (k : ℕ) → k ≤ pairs w → applied write (mend_word w) w k ≡ with_cells (undone k w.numbers w.olds w.cells)
  backs zero h = refl
  backs (suc k) h =
      let t : ltb k (pairs w) ≡ true = grind arith in
      ap (λ (b : Bool). write (applied write (mend_word w) w k) (cond b (Cell (slice_index w.numbers k) (slice_index_or w.olds k (pos 0))) (Flag 0))) t
      ∙ ap (λ (z : Words). write z (Cell (slice_index w.numbers k) (slice_index_or w.olds k (pos 0)))) (backs k (omega arith))

  pub back_number : (z : Words) (j : ℕ) → j ≤ pairs w → z ≡ applied write (mend_word w) w j → slice_index z.numbers j ≡ slice_index w.numbers j
  back_number z j h e = ap (λ (v : Words). slice_index v.numbers j) (e ∙ backs j h)

  -- the next of them, as a loop over them writes it
  pub back_step : (z : Words) (j : ℕ) (y : ℤ) → j < pairs w → z ≡ applied write (mend_word w) w j → y ≡ slice_index_or z.olds j (pos 0) → write z (Cell (slice_index z.numbers j) y) ≡ applied write (mend_word w) w (j + 1)
  back_step z j y h e f =
      let t : ltb j (pairs w) ≡ true = grind arith in
      let g = e ∙ backs j (omega arith) in
      ap (λ (o : ℤ). write z (Cell (slice_index z.numbers j) o)) (f ∙ ap (λ (v : Words). get_or v.olds j (pos 0)) g)
      ∙ ap (λ (n : ℕ). write z (Cell n (slice_index_or w.olds j (pos 0)))) (ap (λ (v : Words). slice_index v.numbers j) g)
      ∙ ap (λ (v : Words). write v (Cell (slice_index w.numbers j) (slice_index_or w.olds j (pos 0)))) e
      ∙ sym (ap (λ (b : Bool). write (applied write (mend_word w) w j) (cond b (Cell (slice_index w.numbers j) (slice_index_or w.olds j (pos 0))) (Flag 0))) t)
      ∙ ap (λ (k : ℕ). applied write (mend_word w) w k) (sym (add-one j))

  -- the last word of a mend
  pub mend_last : (u : ℕ) → 0 < w.state → pairs w < u → write (applied write (mend_word w) w (min u (pairs w))) (Flag 0) ≡ applied write (mend_word w) w (min u w.state)
  mend_last u up h =
      let t : ltb (pairs w) (pairs w) ≡ false = grind arith in
      let a : min u (pairs w) ≡ pairs w = omega arith in
      let b : min u w.state ≡ suc (pairs w) = omega arith in
      ap (λ (k : ℕ). write (applied write (mend_word w) w k) (Flag 0)) a
      ∙ sym (ap (λ (c : Bool). write (applied write (mend_word w) w (pairs w)) (cond c (Cell (slice_index w.numbers (pairs w)) (slice_index_or w.olds (pairs w) (pos 0))) (Flag 0))) t)
      ∙ sym (ap (λ (k : ℕ). applied write (mend_word w) w k) b)

  -- the words that a mend leaves with u units, before its last
  pub back_words : Log64 w → (u k : ℕ) (c : List ℤ) → k ≡ min u (pairs w) → c ≡ undone (length (take k w.numbers)) (take k w.numbers) (take k w.olds) w.cells → with_cells c ≡ applied write (mend_word w) w (min u (pairs w))
  back_words l u k c e q =
      let m = pairs_most w l in
      let d : length (take k w.numbers) ≡ k = length-take-le k w.numbers (omega (arith, l.small, l.numbers)) in
      ap with_cells (q ∙ ap (λ (i : ℕ). undone i (take k w.numbers) (take k w.olds) w.cells) d ∙ undone_take k k w.numbers w.olds w.cells (omega arith) ∙ ap (λ (i : ℕ). undone i w.numbers w.olds w.cells) e)
      ∙ sym (backs (min u (pairs w)) (omega arith))

module _ (w : Words) (l : Log64 w) where
  back_log : (k : ℕ) → Log64 (with_cells w (undone k w.numbers w.olds w.cells))
  back_log k = record { small = l.small; cells = undone_length w.numbers w.olds k w.cells ∙ l.cells; numbers = l.numbers; olds = l.olds; each = l.each; exact = l.exact }

  taken : (k : ℕ) → k ≤ pairs w → take w.count (undone k w.numbers w.olds w.cells) ≡ undone k w.numbers w.olds (take w.count w.cells)
  taken zero h = refl
  taken (suc k) h = take-set-lt w.count (undone k w.numbers w.olds w.cells) (slice_index w.numbers k) (slice_index_or w.olds k (pos 0)) (l.each k (omega arith)) ∙ ap (λ (c : List ℤ). set c (slice_index w.numbers k) (slice_index_or w.olds k (pos 0))) (taken k (omega arith))

  again : (k : ℕ) → k ≤ pairs w → undone (pairs w) w.numbers w.olds (undone k w.numbers w.olds (take w.count w.cells)) ≡ undone (pairs w) w.numbers w.olds (take w.count w.cells)
  again zero h = refl
  again (suc k) h = logged_free w.numbers w.olds (pairs w) _ (slice_index w.numbers k) (slice_index_or w.olds k (pos 0)) (among_own (pairs w) k w.numbers (omega arith)) ∙ again k (omega arith)

  back_kept : (k : ℕ) → k ≤ pairs w → (meaning_of (applied write (mend_word w) w k)).kept ≡ (meaning_of w).kept
  back_kept k h = ap (λ (z : Words). (meaning_of z).kept) (backs w k h) ∙ ap (λ (c : List ℤ). undone (pairs w) w.numbers w.olds c) (taken k h) ∙ again k h

  -- the last word of a mend
  shut_words : (n : ℕ) → suc n ≡ w.state → applied write (mend_word w) w (suc n) ≡ write (with_cells w (undone n w.numbers w.olds w.cells)) (Flag 0)
  shut_words n e =
      let t : ltb n (pairs w) ≡ false = grind arith in
      ap (λ (b : Bool). write (applied write (mend_word w) w n) (cond b (Cell (slice_index w.numbers n) (slice_index_or w.olds n (pos 0))) (Flag 0))) t
      ∙ ap (λ (z : Words). write z (Flag 0)) (backs w n (omega (arith, e)))

  pub shut_log : Log64 w → Log64 (write w (Flag 0))
  shut_log b = record { small = b.small; cells = b.cells; numbers = b.numbers; olds = b.olds; each = λ j h. absurd (omega arith); exact = sym (marked_none w.count w.numbers) }

  pub mend_fines : (n k : ℕ) → n ≡ w.state → k ≤ n → Log64 (applied write (mend_word w) w k)
  mend_fines n zero e h = l
  mend_fines n (suc k) e h = by (suc k == n) refl
    where
      by : (b : Bool) → (suc k == n) ≡ b → Log64 (applied write (mend_word w) w (suc k))
      by true q = let s : suc k ≡ w.state = grind arith in subst Log64 (sym (shut_words k s)) (let b = back_log k in record { small = b.small; cells = b.cells; numbers = b.numbers; olds = b.olds; each = λ j h. absurd (omega arith); exact = sym (marked_none w.count w.numbers) })
      by false q = let s : suc k ≤ pairs w = grind arith in subst Log64 (sym (backs w (suc k) s)) (back_log (suc k))

  pub back_fine : (u : ℕ) (z : Words) → z ≡ applied write (mend_word w) w (min u (pairs w)) → Log64 z
  back_fine u z e = subst Log64 (sym e) (mend_fines w.state (min u (pairs w)) refl (omega arith))

  mend_whole : (n : ℕ) → n ≡ w.state → meaning_of (applied write (mend_word w) w n) ≡ after_mend (meaning_of w)
  mend_whole zero e = let f : ltb 0 w.state ≡ false = ap (ltb 0) (sym e) in meaning_eq refl (sym ((law_holds w).same f)) f
  mend_whole (suc n) e =
      let q : n ≡ pairs w = omega (arith, e) in
      let c : take w.count (undone n w.numbers w.olds w.cells) ≡ (meaning_of w).kept = taken n (omega arith) ∙ ap (λ (k : ℕ). undone k w.numbers w.olds (take w.count w.cells)) q in
      ap meaning_of (shut_words n e) ∙ meaning_eq c c refl

  pub mend_good : Good undo_plan w w.state (mend_word w) (after_mend (meaning_of w))
  mend_good =
      let m = pairs_most w l in let n = kept_length w l in
      record {
        few = omega arith;
        fines = λ k h. mend_fines w.state k refl h;
        keeps = λ k h. back_kept k (omega arith);
        stays = λ k h. ap (λ (z : Words). (meaning_of z).is_open) (backs w k (omega arith));
        whole = mend_whole w.state refl;
      }

pub fresh_room : (w : Words) → Log64 w → (i : ℕ) → i < w.count → fresh w i ≡ true → (0 < w.state) × (w.state ≤ 64)
fresh_room w l i lt e = by (nat_lt 0 w.state) (among (pairs w) w.numbers i) refl refl e
  where
    by : (b c : Bool) → nat_lt 0 w.state ≡ b → among (pairs w) w.numbers i ≡ c → (b && not c) ≡ true → (0 < w.state) × (w.state ≤ 64)
    by true true eb ec h = no_way (sym h)
    by true false eb ec h = let u : 0 < w.state = grind arith in let r = room w l i (pos 0) lt u ec in (u, omega (arith, l.small))
    by false c eb ec h = no_way (sym h)

-- a put to the word
pub put_is : (w : Words) → Log64 w → (i : ℕ) (x : ℤ) (u : ℕ) (b : Bool) → i < w.count → fresh w i ≡ b → (answer undo_model w (Put i x) u ≡ Ok (spent (cond b 4 1) u)) × (after undo_model w (Put i x) u ≡ applied write (λ k. cond b (first_word w i x k) (Cell i x)) w (min u (cond b 4 1)))
put_is w l i x u b lt e =
    let k = kept_length w l in
    let c : can (meaning_of w) (Put i x) ≡ true = let q : ltb i (length (meaning_of w).kept) ≡ true = grind arith in q in (
      ap (λ (d : Bool). cond d (Ok (spent (many w (Put i x)) u)) (Err (fault 26 0))) c ∙ ap (λ (d : Bool). Ok (spent (cond d 4 1) u)) e,
      ap (λ (d : Bool). cond d (applied write (word w (Put i x)) w (min u (many w (Put i x)))) w) c ∙ ap (λ (d : Bool). applied write (λ k. cond d (first_word w i x k) (Cell i x)) w (min u (cond d 4 1))) e,
    )

pub put_not : (w : Words) → Log64 w → (i : ℕ) (x : ℤ) → w.count ≤ i → can (meaning_of w) (Put i x) ≡ false
put_not w l i x le = let k = kept_length w l in let q : ltb i (length (meaning_of w).kept) ≡ false = grind arith in q

pub works : Works undo_plan
works = record {
  sound = λ w l. law_holds w;
  good = good;
  idle = λ w l e. let z : w.state ≡ 0 = grind arith in z;
}
  where
    good : (w : Words) (a : Call) → Log64 w → can (meaning_of w) a ≡ true → Good undo_plan w (many w a) (word w a) (goal (meaning_of w) a)
    good w (Put i x) l c = put_good w l i x (below i _ _ (kept_length w l) c) (fresh w i) refl
    good w Open l c =
        let z : w.state ≡ 0 = closed w.state c in
        one_good undo_plan w (Flag 1) _ l (record { small = l.small; cells = l.cells; numbers = l.numbers; olds = l.olds; each = λ j h. absurd (omega arith); exact = sym (marked_none w.count w.numbers) })
        (meaning_eq (sym (ap (λ (k : ℕ). undone k w.numbers w.olds (take w.count w.cells)) (let q : w.state - 1 ≡ 0 = omega (arith, z) in q))) refl refl)
      where
        closed : (n : ℕ) → not (nat_lt 0 n) ≡ true → n ≡ 0
        closed zero h = refl
        closed (suc n) h = let q : ltb 0 (suc n) ≡ true = grind arith in no_way (sym (sym (ap not q) ∙ h))
    good w Close l c = one_good undo_plan w (Flag 0) _ l (shut_log w l l) refl
    good w Mend l c = mend_good w l

-- what get and kept answer
pub get_is : (w : Words) → Log64 w → (i : ℕ) → i < w.count → cell_of (meaning_of w).current i ≡ Ok (slice_index_or w.cells i (pos 0))
get_is w l i lt =
    a_cell (meaning_of w).current i w.count ((law_holds w).level ∙ kept_length w l) lt ∙ ap (λ (y : ℤ). Ok y) (get_or-take w.count w.cells i (pos 0) lt)

pub get_not : (w : Words) → Log64 w → (i : ℕ) → w.count ≤ i → cell_of (meaning_of w).current i ≡ Err (fault 26 0)
get_not w l i le = no_cell (meaning_of w).current i w.count ((law_holds w).level ∙ kept_length w l) le

pub kept_is : (w : Words) → Log64 w → (i : ℕ) → i < w.count → cell_of (meaning_of w).kept i ≡ Ok (slice_index_or (undone (pairs w) w.numbers w.olds w.cells) i (pos 0))
kept_is w l i lt =
    a_cell (meaning_of w).kept i w.count (kept_length w l) lt
    ∙ ap (λ (c : List ℤ). Ok (slice_index_or c i (pos 0))) (sym (taken w l (pairs w) (omega arith)))
    ∙ ap (λ (y : ℤ). Ok y) (get_or-take w.count (undone (pairs w) w.numbers w.olds w.cells) i (pos 0) lt)

pub kept_not : (w : Words) → Log64 w → (i : ℕ) → w.count ≤ i → cell_of (meaning_of w).kept i ≡ Err (fault 26 0)
kept_not w l i le = no_cell (meaning_of w).kept i w.count (kept_length w l) le

-- the kept value of a cell, one pair further
pub kept_pair : (j i : ℕ) (ns : List ℕ) (os cs : List ℤ) → i < length cs → slice_index ns j ≡ i → slice_index_or os j (pos 0) ≡ slice_index_or (undone (suc j) ns os cs) i (pos 0)
kept_pair j i ns os cs h e =
    let n = undone_length ns os j cs in
    sym (ap (λ (p : ℕ). get_or (slice_set (undone j ns os cs) p (slice_index_or os j (pos 0))) i (pos 0)) e ∙ get_or-set_same (undone j ns os cs) i (slice_index_or os j (pos 0)) (pos 0) (omega (arith, n)))

pub kept_past : (j i : ℕ) (ns : List ℕ) (os cs : List ℤ) → (slice_index ns j ≢ i) → slice_index_or (undone j ns os cs) i (pos 0) ≡ slice_index_or (undone (suc j) ns os cs) i (pos 0)
kept_past j i ns os cs ne = sym (get_or-set_other (undone j ns os cs) (slice_index ns j) i (slice_index_or os j (pos 0)) (pos 0) (λ q. ne (sym q)))

-- no cell is logged twice
module _ (n : ℕ) (ns : List ℕ) where
  abbrev Within : ℕ → Type 0
  Within k = (j : ℕ) → j < k → slice_index ns j < n

  one_more : (k : ℕ) → slice_index ns k < n → among k ns (slice_index ns k) ≡ false → marked n (among (suc k) ns) ≡ suc (marked n (among k ns))
  one_more k h e = marked_more n (among k ns) (among (suc k) ns) (slice_index ns k) h e
      (ap (λ (b : Bool). cond b true (among k ns (slice_index ns k))) (eq_true _ _ refl))
      (λ q ne. ap (λ (b : Bool). cond b true (among k ns q)) (eq_false _ q (λ s. ne (sym s))))

  no_more : (k : ℕ) → among k ns (slice_index ns k) ≡ true → marked n (among (suc k) ns) ≡ marked n (among k ns)
  no_more k e = same_marks n (among k ns) (among (suc k) ns) (λ q h. by q (slice_index ns k == q) refl)
    where
      by : (q : ℕ) (b : Bool) → (slice_index ns k == q) ≡ b → cond (slice_index ns k == q) true (among k ns q) ≡ among k ns q
      by q true f = let s : slice_index ns k ≡ q = grind arith in
          ap (λ (b : Bool). cond b true (among k ns q)) f ∙ sym e ∙ ap (λ (p : ℕ). among k ns p) s
      by q false f = ap (λ (b : Bool). cond b true (among k ns q)) f

  few : (k : ℕ) → Within k → marked n (among k ns) ≤ k
  few zero h = let e = marked_none n ns in omega (arith, e)
  few (suc k) h = by (among k ns (slice_index ns k)) refl (few k (λ j l. h j (omega arith)))
    where
      by : (b : Bool) → among k ns (slice_index ns k) ≡ b → marked n (among k ns) ≤ k → marked n (among (suc k) ns) ≤ suc k
      by true e f = let s = no_more k e in omega (arith, s, f)
      by false e f = let s = one_more k (h k (omega arith)) e in omega (arith, s, f)

  pub once : (k : ℕ) → Within k → k ≡ marked n (among k ns) → (j m : ℕ) → j < m → m < k → slice_index ns j ≢ slice_index ns m
  once zero h x j m jm mk q = absurd (omega arith)
  once (suc k) h x j m jm mk q = by (among k ns (slice_index ns k)) refl (few k (λ i l. h i (omega arith))) (λ y d. once k (λ i l. h i (omega arith)) y j m jm d q)
    where
      by : (b : Bool) → among k ns (slice_index ns k) ≡ b → marked n (among k ns) ≤ k → (k ≡ marked n (among k ns) → m < k → ⊥) → ⊥
      by true e f ih = let s = no_more k e in absurd (omega (arith, s, f, x))
      by false e f ih = at (m == k) refl
        where
          at : (c : Bool) → (m == k) ≡ c → ⊥
          at true r =
              let s : m ≡ k = grind arith in
              no_way (sym (among_own k j ns (omega (arith, s))) ∙ ap (λ (p : ℕ). among k ns p) (q ∙ ap (λ (i : ℕ). slice_index ns i) s) ∙ e)
          at false r =
              let d : m < k = grind arith in
              let s = one_more k (h k (omega arith)) e in
              ih (omega (arith, s, x)) d

-- the kept value of a cell: the old value of the one pair that has it, or else the cell
module _ (ns : List ℕ) (os cs : List ℤ) (i : ℕ) (h : i < length cs) where
  kept_none : (n : ℕ) → ((j : ℕ) → j < n → slice_index ns j ≢ i) → slice_index_or (undone n ns os cs) i (pos 0) ≡ slice_index_or cs i (pos 0)
  kept_none zero f = refl
  kept_none (suc n) f = sym (kept_past n i ns os cs (f n (omega arith))) ∙ kept_none n (λ j l. f j (omega arith))

  kept_some : (n k : ℕ) → k < n → slice_index ns k ≡ i → ((j : ℕ) → k < j → j < n → slice_index ns j ≢ i) → slice_index_or (undone n ns os cs) i (pos 0) ≡ slice_index_or os k (pos 0)
  kept_some zero k l e f = absurd (omega arith)
  kept_some (suc n) k l e f = by (k == n) refl (λ d. kept_some n k d e (λ j a b. f j a (omega arith)))
    where
      by : (b : Bool) → (k == n) ≡ b → (k < n → slice_index_or (undone n ns os cs) i (pos 0) ≡ slice_index_or os k (pos 0)) → slice_index_or (undone (suc n) ns os cs) i (pos 0) ≡ slice_index_or os k (pos 0)
      by true q ih =
          let s : k ≡ n = grind arith in
          sym (kept_pair n i ns os cs h (ap (λ (p : ℕ). slice_index ns p) (sym s) ∙ e)) ∙ ap (λ (p : ℕ). slice_index_or os p (pos 0)) (sym s)
      by false q ih =
          let d : k < n = grind arith in
          sym (kept_past n i ns os cs (f n d (omega arith))) ∙ ih d

-- an answer by the cell's first pair is the kept value
pub kept_of : (w : Words) → Log64 w → (i : ℕ) → i < w.count → (r : Option ℕ) → r ≡ position (λ n. n == i) (take (pairs w) w.numbers) → (y : ℤ) → MatchOption r (y ≡ slice_index_or w.cells i (pos 0)) (λ k. y ≡ slice_index_or w.olds k (pos 0)) → y ≡ slice_index_or (undone (pairs w) w.numbers w.olds w.cells) i (pos 0)
kept_of w l i lt r e y m = by r e m
  where
    all : length (take (pairs w) w.numbers) ≡ pairs w
    all = let b = pairs_most w l in length-take-le (pairs w) w.numbers (omega (arith, b, l.small, l.numbers))

    none_at : position (λ n. n == i) (take (pairs w) w.numbers) ≡ None → length (take (pairs w) w.numbers) ≤ position_or_len (λ n. n == i) (take (pairs w) w.numbers)
    none_at q = grind (arith, common_steps)

    by : (r : Option ℕ) → r ≡ position (λ n. n == i) (take (pairs w) w.numbers) → MatchOption r (y ≡ slice_index_or w.cells i (pos 0)) (λ k. y ≡ slice_index_or w.olds k (pos 0)) → y ≡ slice_index_or (undone (pairs w) w.numbers w.olds w.cells) i (pos 0)
    by None q m =
        let n = none_at (sym q) in
        m ∙ sym (kept_none w.numbers w.olds w.cells i (omega (arith, l.small, l.cells)) (pairs w) (λ j h.
        apart_of (slice_index w.numbers j) i (ap (λ (p : ℕ). p == i) (sym (get_or-take (pairs w) w.numbers j 0 h)) ∙ fails_before_first (λ n. n == i) (take (pairs w) w.numbers) j 0 (omega (arith, n, all)))))
    by (Some k) q m =
        let s = position-Some (λ n. n == i) (take (pairs w) w.numbers) k 0 (sym q) in
        let h : k < pairs w = omega (arith, s.0, all) in
        let f : slice_index w.numbers k ≡ i = sym (get_or-take (pairs w) w.numbers k 0 h) ∙ same_of _ i s.1 in
        m ∙ sym (kept_some w.numbers w.olds w.cells i (omega (arith, l.small, l.cells)) (pairs w) k h f (λ j a b g. once w.count w.numbers (pairs w) l.each l.exact k j a b (f ∙ sym g)))

-- a new log
pub first_log : (vs : List ℤ) → length vs ≤ 64 → Log64 (first_words vs)
first_log vs h = record {
  small = h;
  cells = filled_length vs h;
  numbers = length-replicate {A = ℕ} 64 0;
  olds = length-replicate 64 (pos 0);
  each = λ j k. absurd (omega arith);
  exact = sym (marked_none (length vs) (replicate {A = ℕ} 64 0));
}

-- it means a closed memory of the first values
pub first_means : (vs : List ℤ) → meaning_of (first_words vs) ≡ closed_with vs
first_means vs = meaning_eq (filled_front vs) (filled_front vs) refl

pub positive : (n : ℕ) → (n ≢ 0) → 0 < n
positive zero h = absurd (h refl)
positive (suc n) h = omega arith

-- a look for a number among those of the pairs
pub among_any : (k : ℕ) (ns : List ℕ) (p : ℕ) → k ≤ length ns → list_any (λ n. n == p) (take k ns) ≡ among k ns p
among_any zero ns p h = refl
among_any (suc k) ns p h =
    ap (λ (i : ℕ). list_any (λ n. n == p) (take i ns)) (sym (add-one k)) ∙ list_any_more (λ n. n == p) ns k 0 (omega arith)
    ∙ ap (λ (b : Bool). b || (slice_index ns k == p)) (among_any k ns p (omega arith)) ∙ turned (among k ns p) (slice_index ns k == p)
  where
    turned : (a b : Bool) → (a || b) ≡ cond b true a
    turned true true = refl
    turned true false = refl
    turned false true = refl
    turned false false = refl
