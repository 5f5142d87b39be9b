-- Writing old values back.
use Rattle.std.specs.Prelude.{◌≡◌, ℕ, zero, suc, ◌-◌, ◌<◌, ◌≤◌, Bool, true, false, cond, ◌≢◌, List, length, get_or, take, set, ℤ, pos, ◌==◌, nat_lt, slice_index, slice_index_or, slice_set, refl}
use Rattle.std.proofs.Common.{sym, ap, subst, ◌∙◌, arith, length-set, get_or-set_same, get_or-set_other, set-set}
use Rattle.std.proofs.lemmas.List.{set_comm, set-get_or}
use Rattle.undo.specs.Log.{undone, among, marked, meaning_of, pairs}
use Rattle.undo.specs.declared.words.Words.{Words}
use Rattle.memory.specs.Meaning.{Sound}
use Rattle.memory.proofs.Plans.{no_way}

pub same_of : (a b : ℕ) → (a == b) ≡ true → a ≡ b
same_of a b e = grind arith

pub apart_of : (a b : ℕ) → (a == b) ≡ false → a ≢ b
apart_of a b e f = grind arith

module _ (ns : List ℕ) (os : List ℤ) where
  pub undone_length : (k : ℕ) (cs : List ℤ) → length (undone k ns os cs) ≡ length cs
  undone_length zero cs = refl
  undone_length (suc k) cs = length-set (undone k ns os cs) (slice_index ns k) (slice_index_or os k (pos 0)) ∙ undone_length k cs

  -- what is set before is overwritten after
  over_set : (k : ℕ) (cs : List ℤ) (p : ℕ) (x o : ℤ) → slice_set (undone k ns os (slice_set cs p x)) p o ≡ slice_set (undone k ns os cs) p o
  over_set zero cs p x o = set-set cs p x o
  over_set (suc k) cs p x o = by (slice_index ns k == p) refl (over_set k cs p x o)
    where
      by : (b : Bool) → (slice_index ns k == p) ≡ b → slice_set (undone k ns os (slice_set cs p x)) p o ≡ slice_set (undone k ns os cs) p o → slice_set (slice_set (undone k ns os (slice_set cs p x)) (slice_index ns k) (slice_index_or os k (pos 0))) p o ≡ slice_set (slice_set (undone k ns os cs) (slice_index ns k) (slice_index_or os k (pos 0))) p o
      by true e ih = let f : get_or ns k 0 ≡ p = same_of (slice_index ns k) p e in
          ap (λ (q : ℕ). set (slice_set (undone k ns os (slice_set cs p x)) q (slice_index_or os k (pos 0))) p o) f
          ∙ set-set (undone k ns os (slice_set cs p x)) p (slice_index_or os k (pos 0)) o ∙ ih ∙ sym (set-set (undone k ns os cs) p (slice_index_or os k (pos 0)) o)
          ∙ ap (λ (q : ℕ). set (slice_set (undone k ns os cs) q (slice_index_or os k (pos 0))) p o) (sym f)
      by false e ih =
          set_comm (undone k ns os (slice_set cs p x)) (slice_index ns k) p (slice_index_or os k (pos 0)) o (apart_of (slice_index ns k) p e)
          ∙ ap (λ (l : List ℤ). set l (slice_index ns k) (slice_index_or os k (pos 0))) ih
          ∙ sym (set_comm (undone k ns os cs) (slice_index ns k) p (slice_index_or os k (pos 0)) o (apart_of (slice_index ns k) p e))

  -- a logged cell may hold anything
  pub logged_free : (k : ℕ) (cs : List ℤ) (p : ℕ) (x : ℤ) → among k ns p ≡ true → undone k ns os (slice_set cs p x) ≡ undone k ns os cs
  logged_free zero cs p x e = no_way (sym e)
  logged_free (suc k) cs p x e = by (slice_index ns k == p) refl (logged_free k cs p x)
    where
      by : (b : Bool) → (slice_index ns k == p) ≡ b → (among k ns p ≡ true → undone k ns os (slice_set cs p x) ≡ undone k ns os cs) → slice_set (undone k ns os (slice_set cs p x)) (slice_index ns k) (slice_index_or os k (pos 0)) ≡ slice_set (undone k ns os cs) (slice_index ns k) (slice_index_or os k (pos 0))
      by true f ih = subst (λ (q : ℕ). slice_set (undone k ns os (slice_set cs p x)) q (slice_index_or os k (pos 0)) ≡ slice_set (undone k ns os cs) q (slice_index_or os k (pos 0))) (sym (same_of (slice_index ns k) p f)) (over_set k cs p x (slice_index_or os k (pos 0)))
      by false f ih = ap (λ (l : List ℤ). set l (slice_index ns k) (slice_index_or os k (pos 0))) (ih (sym (ap (λ (b : Bool). cond b true (among k ns p)) f) ∙ e))

  -- a cell that is not logged is as it was
  pub unlogged : (k : ℕ) (cs : List ℤ) (p : ℕ) → among k ns p ≡ false → slice_index_or (undone k ns os cs) p (pos 0) ≡ slice_index_or cs p (pos 0)
  unlogged zero cs p e = refl
  unlogged (suc k) cs p e = by (slice_index ns k == p) refl (unlogged k cs p)
    where
      by : (b : Bool) → (slice_index ns k == p) ≡ b → (among k ns p ≡ false → slice_index_or (undone k ns os cs) p (pos 0) ≡ slice_index_or cs p (pos 0)) → slice_index_or (slice_set (undone k ns os cs) (slice_index ns k) (slice_index_or os k (pos 0))) p (pos 0) ≡ slice_index_or cs p (pos 0)
      by true f ih = no_way (sym (ap (λ (b : Bool). cond b true (among k ns p)) f) ∙ e)
      by false f ih = get_or-set_other (undone k ns os cs) (slice_index ns k) p (slice_index_or os k (pos 0)) (pos 0) (λ q. apart_of (slice_index ns k) p f (sym q)) ∙ ih (sym (ap (λ (b : Bool). cond b true (among k ns p)) f) ∙ e)

-- a pair written past the log changes nothing
pub past_log : (k j : ℕ) (ns : List ℕ) (os : List ℤ) (i : ℕ) (o : ℤ) (cs : List ℤ) → k ≤ j → undone k (slice_set ns j i) (slice_set os j o) cs ≡ undone k ns os cs
past_log zero j ns os i o cs h = refl
past_log (suc k) j ns os i o cs h =
    let e : get_or (slice_set ns j i) k 0 ≡ get_or ns k 0 = get_or-set_other ns j k i 0 (λ q. absurd (omega (arith, q))) in
    let f : get_or (slice_set os j o) k (pos 0) ≡ get_or os k (pos 0) = get_or-set_other os j k o (pos 0) (λ q. absurd (omega (arith, q))) in
    let g = past_log k j ns os i o cs (omega arith) in
    cc

-- with its own pair in force, the cell's new value is undone
pub first_put : (k : ℕ) (ns : List ℕ) (os : List ℤ) (i : ℕ) (cs : List ℤ) (x : ℤ) → among k ns i ≡ false → k < length ns → k < length os → undone (suc k) (slice_set ns k i) (slice_set os k (slice_index_or cs i (pos 0))) (slice_set cs i x) ≡ undone k ns os cs
first_put k ns os i cs x e hn ho =
    let a : get_or (slice_set ns k i) k 0 ≡ i = get_or-set_same ns k i 0 hn in
    let b : get_or (slice_set os k (slice_index_or cs i (pos 0))) k (pos 0) ≡ get_or cs i (pos 0) = get_or-set_same os k (slice_index_or cs i (pos 0)) (pos 0) ho in
    let c = past_log k k ns os i (slice_index_or cs i (pos 0)) (slice_set cs i x) (omega arith) in
    let d : undone (suc k) (slice_set ns k i) (slice_set os k (slice_index_or cs i (pos 0))) (slice_set cs i x) ≡ set (undone k ns os (slice_set cs i x)) i (slice_index_or cs i (pos 0)) = cc in
    d ∙ over_set ns os k cs i x (slice_index_or cs i (pos 0)) ∙ ap (λ (y : ℤ). set (undone k ns os cs) i y) (sym (unlogged ns os k cs i e)) ∙ set-get_or (undone k ns os cs) i (pos 0)

-- counting the logged cells
cond_most : (b : Bool) (m n : ℕ) → m ≤ n → cond b (suc m) m ≤ suc n
cond_most true m n h = omega arith
cond_most false m n h = omega arith

pub marked_most : (n : ℕ) (f : ℕ → Bool) → marked n f ≤ n
marked_most zero f = omega arith
marked_most (suc n) f = cond_most (f n) (marked n f) n (marked_most n f)

before : (i n : ℕ) (f : ℕ → Bool) → i < suc n → f i ≡ false → f n ≡ true → i < n
before i n f h e q = by (i == n) refl
  where
    by : (c : Bool) → (i == n) ≡ c → i < n
    by true g = no_way (sym q ∙ sym (ap f (same_of i n g)) ∙ e)
    by false g = let s = apart_of i n g in grind arith

room_by : (b : Bool) (m n : ℕ) → m ≤ n → (b ≡ true → m < n) → cond b (suc m) m < suc n
room_by true m n h k = let l = k refl in omega arith
room_by false m n h k = omega arith

pub marked_room : (n : ℕ) (f : ℕ → Bool) (i : ℕ) → i < n → f i ≡ false → marked n f < n
marked_room zero f i h e = absurd (omega arith)
marked_room (suc n) f i h e = room_by (f n) (marked n f) n (marked_most n f) (λ q. marked_room n f i (before i n f h e q) e)

pub same_marks : (n : ℕ) (f g : ℕ → Bool) → ((p : ℕ) → p < n → g p ≡ f p) → marked n g ≡ marked n f
same_marks zero f g h = refl
same_marks (suc n) f g h = let a = h n (omega arith) in let b = same_marks n f g (λ p l. h p (omega arith)) in cc

-- one more cell is logged
pub marked_more : (n : ℕ) (f g : ℕ → Bool) (i : ℕ) → i < n → f i ≡ false → g i ≡ true → ((p : ℕ) → (p ≢ i) → g p ≡ f p) → marked n g ≡ suc (marked n f)
marked_more zero f g i h a b c = absurd (omega arith)
marked_more (suc n) f g i h a b c = by (i == n) refl (λ l. marked_more n f g i l a b c)
  where
    by : (z : Bool) → (i == n) ≡ z → (i < n → marked n g ≡ suc (marked n f)) → cond (g n) (suc (marked n g)) (marked n g) ≡ suc (cond (f n) (suc (marked n f)) (marked n f))
    by true e ih =
        let s : i ≡ n = same_of i n e in
        let gn : g n ≡ true = sym (ap g s) ∙ b in
        let fn : f n ≡ false = sym (ap f s) ∙ a in
        let m = same_marks n f g (λ p l. c p (λ q. absurd (omega (arith, q, s)))) in
        cc
    by false e ih =
        let d = apart_of i n e in
        let l : i < n = grind arith in
        let gf : g n ≡ f n = c n (λ q. d (sym q)) in
        both (f n) (g n) gf (ih l)
      where
        both : (u v : Bool) → v ≡ u → marked n g ≡ suc (marked n f) → cond v (suc (marked n g)) (marked n g) ≡ suc (cond u (suc (marked n f)) (marked n f))
        both true true e r = ap suc r
        both true false e r = no_way (sym e)
        both false true e r = no_way e
        both false false e r = r

pub closed_none : (st : ℕ) → nat_lt 0 st ≡ false → st - 1 ≡ 0
closed_none st e = grind arith

pub law_holds : (w : Words) → Sound (meaning_of w)
law_holds w = record {
  same = λ e. ap (λ (k : ℕ). undone k w.numbers w.olds (take w.count w.cells)) (closed_none w.state e);
  level = sym (undone_length w.numbers w.olds (pairs w) (take w.count w.cells));
}
