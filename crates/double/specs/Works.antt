-- The double buffer is within the rules.
use Rattle.std.specs.Prelude.{◌≡◌, ℕ, zero, suc, ◌+◌, ◌-◌, ◌<◌, ◌≤◌, min, Bool, true, false, cond, not, leb, List, [], ◌∷◌, ◌++◌, length, get_or, take, drop, ◌%◌, ℤ, pos, Ok, Err, nat_eq, nat_le, nat_lt, slice_index_or, slice_set, refl}
use Rattle.std.proofs.Common.{sym, ap, subst, ◌∙◌, arith, add-one, length-set, take-suc-set, length-take-le, get_or-take, take-suc, take-append-drop}
use Rattle.std.proofs.lemmas.List.{drop-set-lt, length-replicate}
use Rattle.std.proofs.Math.Seq.{take-set-lt}
use Rattle.double.specs.Buffer.{bit, side, up, half, with_half, live, meaning_of, Two64, Half, Flag, write, open_word, many, word, double_plan, double_model}
use Rattle.double.specs.declared.halves.Halves.{Halves}
use Rattle.memory.specs.Meaning.{Meaning, Sound, after_open, after_mend, closed_with}
use Rattle.memory.specs.Calls.{Call, Put, Open, Close, Mend, can, goal}
use Rattle.memory.specs.Plan.{applied, Good, Works}
use Rattle.memory.specs.Spent.{spent}
use Rattle.memory.specs.Model.{answer, after, cell_of}
use Rattle.memory.proofs.Filling.{filled_length, filled_front}
use Rattle.memory.proofs.Plans.{meaning_eq, no_way, below, one_good, a_cell}
use Rattle.script.specs.Faults.{fault}
use Rattle.double.specs.Made.{first_halves}

own : (w : Halves) (b : Bool) (c : List ℤ) → half (with_half w b c) b ≡ c
own w true c = refl
own w false c = refl

other : (w : Halves) (b : Bool) (c : List ℤ) → half (with_half w (not b) c) b ≡ half w b
other w true c = refl
other w false c = refl

long : (w : Halves) → Two64 w → (b : Bool) → length (half w b) ≡ 64
long w l true = l.second
long w l false = l.first

half_fine : (w : Halves) → Two64 w → (b : Bool) (c : List ℤ) → length c ≡ 64 → Two64 (with_half w b c)
half_fine w l true c e = record { small = l.small; first = l.first; second = e; state = l.state }
half_fine w l false c e = record { small = l.small; first = e; second = l.second; state = l.state }

pub flag_fine : (w : Halves) → Two64 w → (s : ℕ) → s ≤ 3 → Two64 (write w (Flag s))
flag_fine w l s h = record { small = l.small; first = l.first; second = l.second; state = h }

pub kept_length : (w : Halves) → Two64 w → length (meaning_of w).kept ≡ w.count
kept_length w l = let e = long w l (side w) in length-take-le w.count (half w (side w)) (omega (arith, e, l.small))

sound : (w : Halves) → Two64 w → Sound (meaning_of w)
sound w l = record {
  same = λ e. sym (ap (λ (b : Bool). take w.count (half w (cond b (not (side w)) (side w)))) e);
  level = let e = long w l (live w) in length-take-le w.count (half w (live w)) (omega (arith, e, l.small)) ∙ sym (kept_length w l);
}

put_meaning : (w : Halves) (i : ℕ) (x : ℤ) → i < w.count → (u s : Bool) → ◌≡◌ {A = Meaning}
    (record { kept = take w.count (half (with_half w (cond u (not s) s) (slice_set (half w (cond u (not s) s)) i x)) s); current = take w.count (half (with_half w (cond u (not s) s) (slice_set (half w (cond u (not s) s)) i x)) (cond u (not s) s)); is_open = u })
    (record { kept = cond u (take w.count (half w s)) (slice_set (take w.count (half w (cond u (not s) s))) i x); current = slice_set (take w.count (half w (cond u (not s) s))) i x; is_open = u })
put_meaning w i x lt true s =
    meaning_eq (ap (take w.count) (other w s _)) (ap (take w.count) (own w (not s) _) ∙ take-set-lt w.count (half w (not s)) i x lt) refl
put_meaning w i x lt false s =
    let t = ap (take w.count) (own w s (slice_set (half w s) i x)) ∙ take-set-lt w.count (half w s) i x lt in meaning_eq t t refl

-- what the new state says
closing : (s : ℕ) → s ≤ 3 → nat_le 2 s ≡ true → (bit (3 - s) ≡ not (bit s)) × (nat_le 2 (3 - s) ≡ false) × (3 - s ≤ 3)
closing zero h e = no_way (sym e)
closing (suc zero) h e = no_way (sym e)
closing (suc (suc zero)) h e = (refl, refl, omega arith)
closing (suc (suc (suc zero))) h e = (refl, refl, omega arith)
closing (suc (suc (suc (suc s)))) h e = absurd (omega arith)

mending : (s : ℕ) → s ≤ 3 → nat_le 2 s ≡ true → (bit (s - 2) ≡ bit s) × (nat_le 2 (s - 2) ≡ false)
mending zero h e = no_way (sym e)
mending (suc zero) h e = no_way (sym e)
mending (suc (suc zero)) h e = (refl, refl)
mending (suc (suc (suc zero))) h e = (refl, refl)
mending (suc (suc (suc (suc s)))) h e = absurd (omega arith)

pub opening : (s : ℕ) → nat_le 2 s ≡ false → (bit (s + 2) ≡ bit s) × (nat_le 2 (s + 2) ≡ true) × (s + 2 ≤ 3)
opening zero e = (refl, refl, omega arith)
opening (suc zero) e = (refl, refl, omega arith)
opening (suc (suc s)) e = let z : leb 2 (suc (suc s)) ≡ true = grind arith in no_way (sym z ∙ e)

-- the first k cells of f copied to t
abbrev copied : ℕ → List ℤ → List ℤ → List ℤ
copied zero f t = t
copied (suc k) f t = slice_set (copied k f t) k (slice_index_or f k (pos 0))

copied_long : (k : ℕ) (f t : List ℤ) → length (copied k f t) ≡ length t
copied_long zero f t = refl
copied_long (suc k) f t = length-set (copied k f t) k (slice_index_or f k (pos 0)) ∙ copied_long k f t

copied_all : (k : ℕ) (f t : List ℤ) → k ≤ length f → k ≤ length t → take k (copied k f t) ≡ take k f
copied_all zero f t h g = refl
copied_all (suc k) f t h g =
    let n = copied_long k f t in
    take-suc-set (copied k f t) k (slice_index_or f k (pos 0)) (omega (arith, n)) ∙ ap (λ (c : List ℤ). c ++ (slice_index_or f k (pos 0) ∷ [])) (copied_all k f t (omega arith) (omega arith)) ∙ sym (take-suc f k (pos 0) (omega arith))

copied_past : (n k : ℕ) (f t : List ℤ) → k ≤ n → drop n (copied k f t) ≡ drop n t
copied_past n zero f t h = refl
copied_past n (suc k) f t h = drop-set-lt n (copied k f t) k (slice_index_or f k (pos 0)) (omega arith) ∙ copied_past n k f t (omega arith)

copied_is : (k : ℕ) (f t : List ℤ) → k ≤ length f → k ≤ length t → take k f ++ drop k t ≡ copied k f t
copied_is k f t h g =
    ap (λ (c : List ℤ). c ++ drop k t) (sym (copied_all k f t h g)) ∙ ap (λ (c : List ℤ). take k (copied k f t) ++ c) (sym (copied_past k k f t (omega arith)))
    ∙ take-append-drop k (copied k f t)

module _ (w : Halves) where
  abbrev so_far : ℕ → Halves
  so_far k = applied write (open_word w) w k

  pub copies : (k : ℕ) → k ≤ w.count → so_far k ≡ with_half w (not (side w)) (copied k (half w (side w)) (half w (not (side w))))
  copies zero h = zero_copies (side w)
    where
      zero_copies : (b : Bool) → w ≡ with_half w (not b) (half w (not b))
      zero_copies true = refl
      zero_copies false = refl
  copies (suc k) h =
      let t : nat_lt k w.count ≡ true = grind arith in
      ap (λ (b : Bool). write (so_far k) (cond b (Half (not (side w)) k (slice_index_or (half w (side w)) k (pos 0))) (Flag (w.state + 2)))) t
      ∙ ap (λ (z : Halves). write z (Half (not (side w)) k (slice_index_or (half w (side w)) k (pos 0)))) (copies k (omega arith))
      ∙ again (side w)
    where
      again : (b : Bool) → write (with_half w (not b) (copied k (half w b) (half w (not b)))) (Half (not b) k (slice_index_or (half w b) k (pos 0))) ≡ with_half w (not b) (copied (suc k) (half w b) (half w (not b)))
      again true = refl
      again false = refl

  opened : so_far (suc w.count) ≡ write (with_half w (not (side w)) (copied w.count (half w (side w)) (half w (not (side w))))) (Flag (w.state + 2))
  opened =
      let t : nat_lt w.count w.count ≡ false = grind arith in
      ap (λ (b : Bool). write (so_far w.count) (cond b (Half (not (side w)) w.count (slice_index_or (half w (side w)) w.count (pos 0))) (Flag (w.state + 2)))) t
      ∙ ap (λ (z : Halves). write z (Flag (w.state + 2))) (copies w.count (omega arith))

  -- the next word of the copy, as a loop over the cells writes it
  pub copy_step : (z z' : Halves) (k : ℕ) (b : Bool) (x : ℤ) → k < w.count → z ≡ so_far k → b ≡ side w → x ≡ slice_index_or (half z b) k (pos 0) → z' ≡ with_half z (not b) (slice_set (half z (not b)) k x) → z' ≡ so_far (k + 1)
  copy_step z z' k b x h e f g q =
      let t : nat_lt k w.count ≡ true = grind arith in
      let y : x ≡ get_or (half w (side w)) k (pos 0) = g ∙ ap (λ (d : Bool). get_or (half z d) k (pos 0)) f ∙ ap (λ (v : Halves). get_or (half v (side w)) k (pos 0)) (e ∙ copies k (omega arith)) ∙ ap (λ (c : List ℤ). get_or c k (pos 0)) (other w (side w) _) in
      q ∙ ap (λ (d : Bool). write z (Half (not d) k x)) f ∙ ap (λ (o : ℤ). write z (Half (not (side w)) k o)) y
      ∙ ap (λ (v : Halves). write v (Half (not (side w)) k (slice_index_or (half w (side w)) k (pos 0)))) e
      ∙ sym (ap (λ (d : Bool). write (so_far k) (cond d (Half (not (side w)) k (slice_index_or (half w (side w)) k (pos 0))) (Flag (w.state + 2)))) t)
      ∙ ap so_far (sym (add-one k))

  -- the words that an open leaves with u units, before its last
  pub copy_words : Two64 w → (z : Halves) (u n : ℕ) (b : Bool) → b ≡ side w → n ≡ min u w.count → z ≡ with_half w (not b) (take n (half w b) ++ drop n (half w (not b))) → z ≡ so_far (min u w.count)
  copy_words l z u n b f e q =
      let ef = long w l (side w) in
      let et = long w l (not (side w)) in
      q ∙ ap (λ (d : Bool). with_half w (not d) (take n (half w d) ++ drop n (half w (not d)))) f
      ∙ ap (λ (k : ℕ). with_half w (not (side w)) (take k (half w (side w)) ++ drop k (half w (not (side w))))) e
      ∙ ap (λ (c : List ℤ). with_half w (not (side w)) c) (copied_is (min u w.count) (half w (side w)) (half w (not (side w))) (omega (arith, ef, l.small)) (omega (arith, et, l.small)))
      ∙ sym (copies (min u w.count) (omega arith))

  -- the last word of an open
  pub open_last : (u : ℕ) → w.count < u → write (so_far (min u w.count)) (Flag (w.state + 2)) ≡ so_far (min u (w.count + 1))
  open_last u h =
      let t : nat_lt w.count w.count ≡ false = grind arith in
      let a : min u w.count ≡ w.count = omega arith in
      let b : min u (w.count + 1) ≡ suc w.count = omega arith in
      ap (λ (k : ℕ). write (so_far k) (Flag (w.state + 2))) a
      ∙ sym (ap (λ (d : Bool). write (so_far w.count) (cond d (Half (not (side w)) w.count (slice_index_or (half w (side w)) w.count (pos 0))) (Flag (w.state + 2)))) t)
      ∙ sym (ap so_far b)

module _ (w : Halves) (l : Two64 w) (c : up w ≡ false) where
  copy_fine : (k : ℕ) → Two64 (with_half w (not (side w)) (copied k (half w (side w)) (half w (not (side w)))))
  copy_fine k = half_fine w l (not (side w)) _ (copied_long k (half w (side w)) (half w (not (side w))) ∙ long w l (not (side w)))

  pub open_fines : (k : ℕ) → k ≤ w.count + 1 → Two64 (so_far w k)
  open_fines k h = by (nat_le k w.count) refl
    where
      by : (b : Bool) → nat_le k w.count ≡ b → Two64 (so_far w k)
      by true e = subst Two64 (sym (copies w k (grind arith))) (copy_fine k)
      by false e = let q : k ≡ suc w.count = grind arith in subst Two64 (sym (ap (so_far w) q ∙ opened w)) (flag_fine _ (copy_fine w.count) (w.state + 2) (opening w.state c).2)

  open_meaning : meaning_of (so_far w (w.count + 1)) ≡ after_open (meaning_of w)
  open_meaning =
      let o = opening w.state c in
      let z = with_half w (not (side w)) (copied w.count (half w (side w)) (half w (not (side w)))) in
      let ef = long w l (side w) in
      let et = long w l (not (side w)) in
      let cp : take w.count (copied w.count (half w (side w)) (half w (not (side w)))) ≡ take w.count (half w (side w)) = copied_all w.count (half w (side w)) (half w (not (side w))) (omega (arith, ef, l.small)) (omega (arith, et, l.small)) in
      ap (λ (k : ℕ). meaning_of (so_far w k)) (add-one w.count) ∙ ap meaning_of (opened w)
      ∙ meaning_eq
      (ap (λ (b : Bool). take w.count (half z b)) o.0 ∙ ap (take w.count) (other w (side w) _))
      (ap (λ (b : Bool). take w.count (half z (cond b (not (bit (w.state + 2))) (bit (w.state + 2))))) o.1 ∙ ap (λ (b : Bool). take w.count (half z (not b))) o.0 ∙ ap (take w.count) (own w (not (side w)) _) ∙ cp
      ∙ sym (ap (λ (b : Bool). take w.count (half w (cond b (not (side w)) (side w)))) c))
      o.1

  open_kept : (k : ℕ) → k ≤ w.count → (meaning_of (so_far w k)).kept ≡ (meaning_of w).kept
  open_kept k h = ap (λ (z : Halves). (meaning_of z).kept) (copies w k h) ∙ ap (take w.count) (other w (side w) _)

  open_good : Good double_plan w (w.count + 1) (open_word w) (after_open (meaning_of w))
  open_good =
      let n = kept_length w l in
      record { few = omega arith; fines = open_fines; keeps = λ k h. open_kept k (omega arith); stays = λ k h. ap (λ (z : Halves). (meaning_of z).is_open) (copies w k (omega arith)); whole = open_meaning }

pub works : Works double_plan
works = record { sound = sound; good = good; idle = λ w l e. ap (λ (b : Bool). cond b 1 0) e }
  where
    shut : (b : Bool) → not b ≡ true → b ≡ false
    shut true e = no_way (sym e)
    shut false e = refl

    mend : (w : Halves) → Two64 w → (b : Bool) → up w ≡ b → Good double_plan w (cond b 1 0) (λ _. Flag (w.state - 2)) (after_mend (meaning_of w))
    mend w l true e =
        let o = mending w.state l.state e in
        one_good double_plan w (Flag (w.state - 2)) _ l (flag_fine w l (w.state - 2) (omega (arith, l.state)))
        (meaning_eq (ap (λ (b : Bool). take w.count (half w b)) o.0)
        (ap (λ (b : Bool). take w.count (half w (cond b (not (bit (w.state - 2))) (bit (w.state - 2))))) o.1 ∙ ap (λ (b : Bool). take w.count (half w b)) o.0) o.1)
    mend w l false e = record { few = omega arith; fines = fine; keeps = λ k h. absurd (omega arith); stays = λ k h. absurd (omega arith); whole = meaning_eq refl (sym ((sound w l).same e)) e }
      where
        fine : (k : ℕ) → k ≤ 0 → Two64 (applied write (λ _. Flag (w.state - 2)) w k)
        fine zero h = l
        fine (suc k) h = absurd (omega arith)

    good : (w : Halves) (a : Call) → Two64 w → can (meaning_of w) a ≡ true → Good double_plan w (many w a) (word w a) (goal (meaning_of w) a)
    good w (Put i x) l c =
        one_good double_plan w (Half (live w) i x) _ l (half_fine w l (live w) _ (length-set (half w (live w)) i x ∙ long w l (live w)))
        (put_meaning w i x (below i _ _ (kept_length w l) c) (up w) (side w))
    good w Open l c = open_good w l (shut (up w) c)
    good w Close l c =
        let o = closing w.state l.state c in
        let k : take w.count (half w (bit (3 - w.state))) ≡ (meaning_of w).current = ap (λ (b : Bool). take w.count (half w b)) o.0 ∙ sym (ap (λ (b : Bool). take w.count (half w (cond b (not (side w)) (side w)))) c) in
        one_good double_plan w (Flag (3 - w.state)) _ l (flag_fine w l (3 - w.state) o.2)
        (meaning_eq k (ap (λ (b : Bool). take w.count (half w (cond b (not (bit (3 - w.state))) (bit (3 - w.state))))) o.1 ∙ k) o.1)
    good w Mend l c = mend w l (up w) refl

-- what get and kept answer
pub get_is : (w : Halves) → Two64 w → (i : ℕ) → i < w.count → cell_of (meaning_of w).current i ≡ Ok (slice_index_or (half w (live w)) i (pos 0))
get_is w l i lt = a_cell (meaning_of w).current i w.count ((sound w l).level ∙ kept_length w l) lt ∙ ap (λ (y : ℤ). Ok y) (get_or-take w.count (half w (live w)) i (pos 0) lt)

pub kept_is : (w : Halves) → Two64 w → (i : ℕ) → i < w.count → cell_of (meaning_of w).kept i ≡ Ok (slice_index_or (half w (side w)) i (pos 0))
kept_is w l i lt = a_cell (meaning_of w).kept i w.count (kept_length w l) lt ∙ ap (λ (y : ℤ). Ok y) (get_or-take w.count (half w (side w)) i (pos 0) lt)

pub closed_of : (s : ℕ) → s < 2 → nat_le 2 s ≡ false
closed_of s h = grind arith

-- bit 0 of the state word
pub odd_bit : (s : ℕ) → s ≤ 3 → nat_eq (s % 2) 1 ≡ bit s
odd_bit zero h = refl
odd_bit (suc zero) h = refl
odd_bit (suc (suc zero)) h = refl
odd_bit (suc (suc (suc zero))) h = refl
odd_bit (suc (suc (suc (suc s)))) h = absurd (omega arith)

-- an open to the word
pub open_is : (w : Halves) → up w ≡ false → (u : ℕ) → (answer double_model w Open u ≡ Ok (spent (w.count + 1) u)) × (after double_model w Open u ≡ so_far w (min u (w.count + 1)))
open_is w c u = (ap (λ (b : Bool). cond (not b) (Ok (spent (w.count + 1) u)) (Err (fault 27 0))) c, ap (λ (b : Bool). cond (not b) (so_far w (min u (w.count + 1))) w) c)

pub cut_open : (w : Halves) (u : ℕ) → u ≤ w.count → min u w.count ≡ min u (w.count + 1)
cut_open w u h = omega arith

-- a new double buffer
pub first_two : (vs : List ℤ) → length vs ≤ 64 → Two64 (first_halves vs)
first_two vs h = record {
  small = h;
  first = filled_length vs h;
  second = length-replicate 64 (pos 0);
  state = omega arith;
}

-- it means a closed memory of the first values
pub first_means : (vs : List ℤ) → meaning_of (first_halves vs) ≡ closed_with vs
first_means vs = meaning_eq (filled_front vs) (filled_front vs) refl
