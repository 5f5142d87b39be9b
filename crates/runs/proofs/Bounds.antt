-- What a done step does to the bounds of a point, and what tidying does.
use Rattle.std.proofs.Common.{◌≡◌, ℕ, ◌+◌, ◌*◌, ◌≤◌, max, Bool, true, false, cond, ◌&&◌, eqb, ltb, leb, List, [], ◌∷◌, length, take, ℤ, refl, ap, ◌∙◌, suc-mul, arith, length-append, length-set, length-take}
use native.Mathlib.Nat.{le-max_left, le-max_right}
use lib.Seq.{take-length, take-append-le}
use Rattle.script.specs.Syntax.{Code, nothing, put, read, fork, turns, region, uses}
use Rattle.script.specs.Steps.{steps, readings, repeats, channels_below}
use Rattle.script.specs.Unbroken.{is_zero}
use Rattle.memory.specs.Meaning.{Meaning, Sound}
use Rattle.runs.specs.Behind.{Behind, joined}
use Rattle.runs.specs.Machine.{Item, block, turn, join, close, Point, Job, Tidy, tidied}
use Rattle.runs.specs.Steady.{steps_left, readings_left, closings, all_left}
use Rattle.runs.proofs.Runs.{split}
use Rattle.runs.proofs.Moves.{both_0, both_1, worth_at, Moves, puts, sets, lists, forks, begins, again, nests, opens, leaves, closes, skips}

pub both : {a b : Bool} → a ≡ true → b ≡ true → (a && b) ≡ true
both {a} {b} e f = ap (λ (x : Bool). x && b) e ∙ f

either_max : (f : Code → ℕ) (t : Bool) (a b : Code) → f (cond t b a) ≤ max (f a) (f b)
either_max f true a b = le-max_right (f a) (f b)
either_max f false a b = le-max_left (f a) (f b)

either_way : (p : Code → Bool) (t : Bool) (a b : Code) → p a ≡ true → p b ≡ true → p (cond t b a) ≡ true
either_way p true a b e f = f
either_way p false a b e f = e

module _ {j : Job} {p q : Point} {v : Meaning} where
  -- a done step is one step less
  pub moves_steps : {is : List Item} {p' q' : Point} {v' : Meaning} → Moves j p q v is p' q' v' → steps_left p'.left + 1 ≤ steps_left is
  moves_steps (puts l) = omega arith
  moves_steps (sets l) = omega arith
  moves_steps (lists r e f) = omega arith
  moves_steps (forks {e = e} {a = a} {b = b} {k = k} {is = is}) = let h = either_max steps (is_zero (worth_at j p v e)) a b in omega (arith, h)
  moves_steps (begins {n = n} {b = b} {k = k} {is = is} i e) = let h : n.value * (1 + steps b) ≡ i * (1 + steps b) + (1 + steps b) =
      ap (λ (x : ℕ). x * (1 + steps b)) e ∙ suc-mul i (1 + steps b) in omega (arith, h)
  moves_steps (again {b = b} i) = let h = suc-mul i (1 + steps b) in omega (arith, h)
  moves_steps (nests o) = omega arith
  moves_steps (opens o) = omega arith
  moves_steps leaves = omega arith
  moves_steps (closes o) = omega arith
  moves_steps skips = omega arith

  pub moves_readings : {is : List Item} {p' q' : Point} {v' : Meaning} → Moves j p q v is p' q' v' →
      readings_left p'.left + length p'.list ≤ readings_left is + length p.list
  moves_readings (puts l) = omega arith
  moves_readings (sets l) = omega arith
  moves_readings (lists r e f) = omega (arith, length-append p.list (r ∷ []))
  moves_readings (forks {e = e} {a = a} {b = b} {k = k} {is = is}) = let h = either_max readings (is_zero (worth_at j p v e)) a b in omega (arith, h)
  moves_readings (begins {n = n} {b = b} {k = k} {is = is} i e) = let h : n.value * readings b ≡ i * readings b + readings b =
      ap (λ (x : ℕ). x * readings b) e ∙ suc-mul i (readings b) in omega (arith, h)
  moves_readings (again {b = b} i) = let h = suc-mul i (readings b) in omega (arith, h)
  moves_readings (nests o) = omega arith
  moves_readings (opens o) = omega arith
  moves_readings leaves = omega arith
  moves_readings (closes o) = omega arith
  moves_readings skips = omega arith

  pub moves_repeats : {is : List Item} {p' q' : Point} {v' : Meaning} → Moves j p q v is p' q' v' → all_left repeats is ≡ true → all_left repeats p'.left ≡ true
  moves_repeats (puts l) a = a
  moves_repeats (sets l) a = a
  moves_repeats (lists r e f) a = a
  moves_repeats (forks {e = e} {a = c} {b = d} {k = k} {is = is}) a =
      let h = both_0 _ (all_left repeats is) a in
      let g = both_1 (repeats c) _ h in
      both (either_way repeats (is_zero (worth_at j p v e)) c d (both_0 (repeats c) _ h) (both_0 (repeats d) _ g)) (both (both_1 (repeats d) _ g) (both_1 _ (all_left repeats is) a))
  moves_repeats (begins {n = n} {b = b} {k = k} {is = is} i e) a =
      let h = both_1 (leb 1 n.value) _ (both_0 _ (all_left repeats is) a) in
      both (both_0 (repeats b) _ h) (both (both_0 (repeats b) _ h) (both (both_1 (repeats b) _ h) (both_1 _ (all_left repeats is) a)))
  moves_repeats (again {b = b} {is = is} i) a = both (both_0 (repeats b) _ a) a
  moves_repeats (nests {b = b} {k = k} {is = is} o) a =
      let h = both_0 _ (all_left repeats is) a in both (both_0 (repeats b) _ h) (both (both_1 (repeats b) _ h) (both_1 _ (all_left repeats is) a))
  moves_repeats (opens {b = b} {k = k} {is = is} o) a =
      let h = both_0 _ (all_left repeats is) a in both (both_0 (repeats b) _ h) (both (both_1 (repeats b) _ h) (both_1 _ (all_left repeats is) a))
  moves_repeats leaves a = a
  moves_repeats (closes o) a = a
  moves_repeats skips a = a

  pub moves_channels : {is : List Item} {p' q' : Point} {v' : Meaning} (n : ℕ) → Moves j p q v is p' q' v' → all_left (channels_below n) is ≡ true →
      all_left (channels_below n) p'.left ≡ true
  moves_channels n (puts l) a = a
  moves_channels n (sets l) a = a
  moves_channels n (lists {c = c} {k = k} {is = is} r e f) a =
      both (both_1 (ltb c.value n) _ (both_0 _ (all_left (channels_below n) is) a)) (both_1 _ (all_left (channels_below n) is) a)
  moves_channels n (forks {e = e} {a = c} {b = d} {k = k} {is = is}) a =
      let h = both_0 _ (all_left (channels_below n) is) a in
      let g = both_1 (channels_below n c) _ h in
      both (either_way (channels_below n) (is_zero (worth_at j p v e)) c d (both_0 (channels_below n c) _ h) (both_0 (channels_below n d) _ g)) (both (both_1 (channels_below n d) _ g) (both_1 _ (all_left (channels_below n) is) a))
  moves_channels n (begins {b = b} {k = k} {is = is} i e) a =
      let h = both_0 _ (all_left (channels_below n) is) a in
      both (both_0 (channels_below n b) _ h) (both (both_0 (channels_below n b) _ h) (both (both_1 (channels_below n b) _ h) (both_1 _ (all_left (channels_below n) is) a)))
  moves_channels n (again {b = b} {is = is} i) a = both (both_0 (channels_below n b) _ a) a
  moves_channels n (nests {b = b} {k = k} {is = is} o) a =
      let h = both_0 _ (all_left (channels_below n) is) a in
      both (both_0 (channels_below n b) _ h) (both (both_1 (channels_below n b) _ h) (both_1 _ (all_left (channels_below n) is) a))
  moves_channels n (opens {b = b} {k = k} {is = is} o) a =
      let h = both_0 _ (all_left (channels_below n) is) a in
      both (both_0 (channels_below n b) _ h) (both (both_1 (channels_below n b) _ h) (both_1 _ (all_left (channels_below n) is) a))
  moves_channels n leaves a = a
  moves_channels n (closes o) a = a
  moves_channels n skips a = a

  -- the closing of an outermost region is left just where the memory is open
  pub moves_region : {is : List Item} {p' q' : Point} {v' : Meaning} → Moves j p q v is p' q' v' → closings is ≡ cond v.is_open 1 0 →
      closings p'.left ≡ cond v'.is_open 1 0
  moves_region (puts l) e = e
  moves_region (sets l) e = e
  moves_region (lists r a b) e = e
  moves_region forks e = e
  moves_region (begins i a) e = e
  moves_region (again i) e = e
  moves_region (nests {is = is} o) e = omega (arith, e)
  moves_region (opens o) e =
      let f : Bool → ℕ = λ b. cond b 1 0 in let z : f v.is_open ≡ f false = ap f o in omega (arith, e, z)
  moves_region leaves e = omega (arith, e)
  moves_region (closes {is = is} o) e =
      let f : Bool → ℕ = λ b. cond b 1 0 in let z : f v.is_open ≡ f true = ap f o in omega (arith, e, z)
  moves_region skips e = e

  -- the point before the region is the same, or the one where the run stands
  pub moves_back : {is : List Item} {p' q' : Point} {v' : Meaning} (P : Point → Type 0) → Moves j p q v is p' q' v' → P q → (v.is_open ≡ false → P p) → P q'
  moves_back P (puts l) a b = a
  moves_back P (sets l) a b = a
  moves_back P (lists r c d) a b = a
  moves_back P forks a b = a
  moves_back P (begins i c) a b = a
  moves_back P (again i) a b = a
  moves_back P (nests o) a b = a
  moves_back P (opens o) a b = b o
  moves_back P leaves a b = a
  moves_back P (closes o) a b = a
  moves_back P skips a b = a

  -- the list begins with what was listed at the point before the region
  pub moves_list : {is : List Item} {p' q' : Point} {v' : Meaning} → Moves j p q v is p' q' v' → take (length q.list) p.list ≡ q.list →
      take (length q'.list) p'.list ≡ q'.list
  moves_list (puts l) a = a
  moves_list (sets l) a = a
  moves_list (lists r c d) a =
      let h : length q.list ≤ length p.list = omega (arith, length-take (length q.list) p.list, ap length a) in
      take-append-le (length q.list) p.list (r ∷ []) h ∙ a
  moves_list forks a = a
  moves_list (begins i c) a = a
  moves_list (again i) a = a
  moves_list (nests o) a = a
  moves_list (opens o) a = take-length p.list
  moves_list leaves a = a
  moves_list (closes o) a = a
  moves_list skips a = a

  -- the memory has as many cells as before
  pub moves_count : {is : List Item} {p' q' : Point} {v' : Meaning} → Sound v → Moves j p q v is p' q' v' → length v'.kept ≡ length v.kept
  moves_count so (puts {x = x} {e = e} l) =
      split (λ (cs : List ℤ). length cs ≡ length v.kept) v.is_open (λ o. refl) (λ o. length-set v.current x.value (worth_at j p v e) ∙ so.level)
  moves_count so (sets l) = refl
  moves_count so (lists r c d) = refl
  moves_count so forks = refl
  moves_count so (begins i c) = refl
  moves_count so (again i) = refl
  moves_count so (nests o) = refl
  moves_count so (opens o) = refl
  moves_count so leaves = refl
  moves_count so (closes o) = so.level
  moves_count so skips = refl

-- what is tidied away has no step
pub record Tidied (is : List Item) (js : List Item) : Type 0 where
  pub steps : steps_left js ≤ steps_left is
  pub readings : readings_left js ≤ readings_left is
  pub closings : closings js ≡ closings is
  pub passes : (p : Code → Bool) → all_left p is ≡ true → all_left p js ≡ true

same_left : (is : List Item) → Tidied is is
same_left is = record { steps = omega arith; readings = omega arith; closings = refl; passes = λ p e. e }

pub tidied_left : (is : List Item) (β : Behind) → Tidied is (tidied is β).left
tidied_left [] β = same_left []
tidied_left (block nothing ∷ is) β = let h = tidied_left is β in
    record { steps = omega arith; readings = omega arith; closings = h.closings; passes = λ p e. h.passes p (both_1 (p nothing) _ e) }
tidied_left (block (put x a k) ∷ is) β = same_left _
tidied_left (block (read x c k) ∷ is) β = same_left _
tidied_left (block (fork a b c k) ∷ is) β = same_left _
tidied_left (block (turns n b k) ∷ is) β = same_left _
tidied_left (block (region b k) ∷ is) β = same_left _
tidied_left (block (uses xs k) ∷ is) β = same_left _
tidied_left (turn n b ∷ is) β =
    split (λ (t : Tidy). Tidied (turn n b ∷ is) t.left) (eqb n 0)
    (λ z. let h = tidied_left is β in
    record {
      steps = omega (arith, h.steps);
      readings = omega (arith, h.readings);
      closings = h.closings;
      passes = λ p e. h.passes p (both_1 (p b) _ e);
    })
    (λ z. same_left _)
tidied_left (join xs cs ∷ is) β = let h = tidied_left is (joined cs xs β) in
    record { steps = h.steps; readings = h.readings; closings = h.closings; passes = h.passes }
tidied_left (close o ∷ is) β = same_left _
