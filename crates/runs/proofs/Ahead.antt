-- What a steady run knows of the step that comes next: no call on the memory, the host or the list is refused.
use Rattle.std.proofs.Common.{◌≡◌, ℕ, ◌+◌, ◌<◌, ◌≤◌, Bool, true, false, cond, ltb, leb, List, ◌∷◌, length, ℤ, sym, refl, ap, ◌∙◌, arith, length-take}
use Rattle.script.specs.Syntax.{Leaf, Code, read, turns}
use Rattle.script.specs.Steps.{repeats, channels_below}
use Rattle.memory.specs.Calls.{can, Put}
use Rattle.memory.specs.Model.{Model}
use Rattle.runs.specs.Machine.{Item, block, close, State, Job}
use Rattle.runs.specs.Steady.{readings_left, closings, all_left, Steady}
use Rattle.runs.proofs.Moves.{both_0}

some_open : (b : Bool) (n : ℕ) → 1 + n ≡ cond b 1 0 → b ≡ true
some_open true n e = refl
some_open false n e = absurd (omega (arith, e))

module _ (m : Model) (j : Job) (S R c : ℕ) (s : State m.State) (h : Steady m j S R c s) where
  -- the memory is open at the closing of an outermost region
  pub close_ahead : (is : List Item) → s.at.left ≡ close true ∷ is → (m.means s.memory).is_open ≡ true
  close_ahead is e = some_open (m.means s.memory).is_open (closings is) (ap closings (sym e) ∙ h.region)

  -- a cell of the script is one of the memory
  pub put_ahead : (i : ℕ) (x : ℤ) → i < j.cells → can (m.means s.memory) (Put i x) ≡ true
  put_ahead i x l = let e = h.count in let k : i < length (m.means s.memory).kept = omega (arith, e) in grind arith

  -- a reading is of a channel below the bound, and there is room for it
  pub read_ahead : (x d : Leaf) (k : Code) (is : List Item) → s.at.left ≡ block (read x d k) ∷ is → (d.value < c) × (length s.at.list < R)
  read_ahead x d k is e =
      let a = ap (all_left (channels_below c)) (sym e) ∙ h.here.channels in
      let b : ltb d.value c ≡ true = both_0 (ltb d.value c) _ (both_0 _ (all_left (channels_below c) is) a) in
      (grind arith, omega (arith, ap readings_left e, h.here.readings))

  -- a repeat has a turn
  pub turns_ahead : (n : Leaf) (b k : Code) (is : List Item) → s.at.left ≡ block (turns n b k) ∷ is → 0 < n.value
  turns_ahead n b k is e =
      let a = ap (all_left repeats) (sym e) ∙ h.here.repeats in
      let z : leb 1 n.value ≡ true = both_0 (leb 1 n.value) _ (both_0 _ (all_left repeats is) a) in
      grind arith

  -- what was listed at the point before the region is no more than what is listed
  pub list_behind : length s.saved.list ≤ length s.at.list
  list_behind = omega (arith, length-take (length s.saved.list) s.at.list, ap length h.begins)
