-- Samples in order: what a look-up finds, and what the question on falling ticks leaves.
use Rattle.std.specs.List.{position_from, zip}
use Rattle.std.specs.List.Sorted.{IsPartitionPoint}
use Rattle.std.specs.Option.{option_map, option_map_or}
use Rattle.std.specs.Prelude.{find, reverse}
use Rattle.std.proofs.Common.{◌≡◌, ℕ, zero, suc, ◌+◌, ◌<◌, ◌≤◌, Bool, true, false, cond, eqb, ltb, leb, List, [], ◌∷◌, ◌++◌, length, get_or, take, drop, ℤ, Some, None, Ok, Option, sym, refl, ap, ◌∙◌, le_trans, arith, add-one, length-take-le, length-drop, get_or-take, get_or-drop, take-append-drop}
use Rattle.std.proofs.lemmas.Bool.{le-ltb}
use Rattle.std.proofs.lemmas.List.{reverse-append}
use Rattle.script.specs.Faults.{answer, unless}
use Rattle.host.specs.declared.table.Sample.{Sample}
use Rattle.host.specs.Order.{InOrder, IsUpTo, is_peak}
use Rattle.host.specs.Traces.{counts, last_of, first_outside, first_fall, before_first, trace, trace_table}

-- ---- a look-up

-- the front of a list in order, up to where later samples begin
pub split : (t : ℕ) (ss : List Sample) (r : ℕ) → r ≤ length ss → IsPartitionPoint (λ (s : Sample). leb s.tick t ≡ true) (λ (s : Sample). leb s.tick t ≡ false) ss r → IsUpTo t ss (take r ss)
split t ss r h p = (
  drop r ss,
  sym (take-append-drop r ss),
  λ k d lt. let q : k < r = omega (arith, length-take-le r ss h) in rw (get_or-take r ss k d q) (p.0 k d (omega arith) q),
  λ k d lt. let q : r + k < length ss = omega (arith, length-drop r ss) in rw (get_or-drop r ss k d) (p.1 (r + k) d (omega arith) q),
)

last_append : (ch t : ℕ) (b : ℤ) (xs ys : List Sample) → last_of ch t b (xs ++ ys) ≡ last_of ch t (last_of ch t b xs) ys
last_append ch t b [] ys = refl
last_append ch t b (x ∷ xs) ys = last_append ch t (cond (counts ch t x) x.value b) xs ys

find_push : (p : Sample → Bool) (b : ℤ) (xs : List Sample) (s : Sample) → option_map_or (λ (x : Sample). x.value) (find p (xs ++ s ∷ [])) b ≡ option_map_or (λ (x : Sample). x.value) (find p xs) (cond (p s) s.value b)
find_push p b [] s = elim (p s) as (λ c. option_map_or (λ (x : Sample). x.value) (cond c (Some s) None) b ≡ cond c s.value b) [ true ↦ refl | false ↦ refl ]
find_push p b (x ∷ xs) s =
    elim (p x) as (λ c. option_map_or (λ (y : Sample). y.value) (cond c (Some x) (find p (xs ++ s ∷ []))) b ≡ option_map_or (λ (y : Sample). y.value) (cond c (Some x) (find p xs)) (cond (p s) s.value b)) [
      | true ↦ refl
      | false ↦ find_push p b xs s
    ]

-- later samples do not count
late : (ch t : ℕ) (s : Sample) → leb s.tick t ≡ false → counts ch t s ≡ false
late ch t s h = grind arith

none_later : (ch t : ℕ) (b : ℤ) (ss : List Sample) → ((k : ℕ) (d : Sample) → k < length ss → leb (get_or ss k d).tick t ≡ false) → last_of ch t b ss ≡ b
none_later ch t b [] h = refl
none_later ch t b (s ∷ ss) h =
    ap (λ c. last_of ch t (cond c s.value b) ss) (late ch t s (h 0 s (omega arith)))
    ∙ none_later ch t b ss (λ k d lt. h (suc k) d (omega arith))

-- of the others those of the channel do
early : (ch t : ℕ) (s : Sample) → leb s.tick t ≡ true → counts ch t s ≡ eqb s.channel ch
early ch t s h = grind arith

found : (ch t : ℕ) (b : ℤ) (ss : List Sample) → ((k : ℕ) (d : Sample) → k < length ss → leb (get_or ss k d).tick t ≡ true) → last_of ch t b ss ≡ option_map_or (λ (x : Sample). x.value) (find (λ (x : Sample). eqb x.channel ch) (reverse ss)) b
found ch t b [] h = refl
found ch t b (s ∷ ss) h =
    ap (λ c. last_of ch t (cond c s.value b) ss) (early ch t s (h 0 s (omega arith)))
    ∙ found ch t (cond (eqb s.channel ch) s.value b) ss (λ k d lt. h (suc k) d (omega arith))
    ∙ sym (ap (λ xs. option_map_or (λ (x : Sample). x.value) (find (λ (x : Sample). eqb x.channel ch) xs) b) (reverse-append (s ∷ []) ss) ∙ find_push (λ (x : Sample). eqb x.channel ch) b (reverse ss) s)

-- what stands last among the samples up to the tick is what the table gives
pub looked_up : (ch t : ℕ) (ss front : List Sample) (o : Option Sample) → IsUpTo t ss front → o ≡ find (λ (s : Sample). eqb s.channel ch) (reverse front) → option_map_or (λ (s : Sample). s.value) o before_first ≡ trace ss ch t
looked_up ch t ss front o u e =
    ap (λ x. option_map_or (λ (s : Sample). s.value) x before_first) e
    ∙ sym (ap (last_of ch t before_first) u.1 ∙ last_append ch t before_first front u.0 ∙ none_later ch t (last_of ch t before_first front) u.0 u.3 ∙ found ch t before_first front u.2)

-- ---- ticks that never fall

peaks : (i : ℕ) (s : Sample) (ss : List Sample) → option_map (λ k. k + 1) (position_from is_peak i (zip (s ∷ ss) ss)) ≡ first_fall (i + 1) s.tick ss
peaks i s [] = refl
peaks i s (t ∷ ts) =
    elim (ltb t.tick s.tick) as (λ b. option_map (λ k. k + 1) (cond b (Some i) (position_from is_peak (i + 1) (zip (t ∷ ts) ts))) ≡ cond b (Some (i + 1)) (first_fall (suc (i + 1)) t.tick ts)) [
      | true ↦ refl
      | false ↦ peaks (i + 1) t ts ∙ ap (λ k. first_fall k t.tick ts) (add-one (i + 1))
    ]

-- the row past the first peak is the first that falls
pub falls : (ss : List Sample) → option_map (λ k. k + 1) (position_from is_peak 0 (zip ss (drop 1 ss))) ≡ first_fall 0 0 ss
falls [] = refl
falls (s ∷ ss) = peaks 0 s ss ∙ ap (λ b. cond b (Some 0) (first_fall 1 s.tick ss)) (sym (le-ltb s.tick 0 (omega arith)))

-- no row falls: the first does not, and none of the others
after : (t : Bool) (i : ℕ) (next : Option ℕ) → cond t (Some i) next ≡ None → (t ≡ false) × (next ≡ None)
after true i next e = let z : ◌≡◌ {A = ℕ} 0 1 = cc in absurd (omega arith)
after false i next e = (refl, e)

at_least : (a b : ℕ) → ltb a b ≡ false → b ≤ a
at_least a b e = grind arith

above : (i b : ℕ) (ss : List Sample) → first_fall i b ss ≡ None → (k : ℕ) (d : Sample) → k < length ss → b ≤ (get_or ss k d).tick
above i b [] e k d lt = absurd (omega arith)
above i b (s ∷ ss) e zero d lt = at_least s.tick b (after (ltb s.tick b) i (first_fall (suc i) s.tick ss) e).0
above i b (s ∷ ss) e (suc k) d lt =
    let a = after (ltb s.tick b) i (first_fall (suc i) s.tick ss) e in
    le_trans (at_least s.tick b a.0) (above (suc i) s.tick ss a.1 k d (omega arith))

pub in_order : (i b : ℕ) (ss : List Sample) → first_fall i b ss ≡ None → InOrder ss
in_order i b [] e j k d le lt = absurd (omega arith)
in_order i b (s ∷ ss) e zero zero d le lt = omega arith
in_order i b (s ∷ ss) e zero (suc k) d le lt = above (suc i) s.tick ss (after (ltb s.tick b) i (first_fall (suc i) s.tick ss) e).1 k d (omega arith)
in_order i b (s ∷ ss) e (suc j) zero d le lt = absurd (omega arith)
in_order i b (s ∷ ss) e (suc j) (suc k) d le lt = in_order (suc i) s.tick ss (after (ltb s.tick b) i (first_fall (suc i) s.tick ss) e).1 j k d (omega arith) (omega arith)

-- a question that refuses nothing found no place
pub answered : {u : Unit {0}} (n : ℕ) (o : Option ℕ) → Ok u ≡ answer n o → o ≡ None
answered n None e = refl
answered n (Some p) e = let z : ◌≡◌ {A = ℕ} 0 1 = cc in absurd (omega arith)

pub right : (rows : List Sample) → length rows ≤ 1024 → first_outside rows ≡ None → first_fall 0 0 rows ≡ None → Ok rows ≡ trace_table rows
right rows few inside rise =
    let fits : true ≡ leb (length rows) 1024 = grind arith in
    ap (λ o. unless 33 o (Ok rows)) (sym rise)
    ∙ ap (λ o. unless 32 o (unless 33 (first_fall 0 0 rows) (Ok rows))) (sym inside)
    ∙ ap (λ b. unless 31 (cond b None (Some 1024)) (unless 32 (first_outside rows) (unless 33 (first_fall 0 0 rows) (Ok rows)))) fits
