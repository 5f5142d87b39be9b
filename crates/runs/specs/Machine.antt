-- What one step and one power call do to a run, to the word and the tick, over any memory's model. Assumes nothing.
use Rattle.std.specs.Prelude.{ℕ, zero, suc, ◌+◌, ◌-◌, Bool, true, false, cond, List, [], ◌∷◌, ◌++◌, ℤ, ◌==◌, nat_lt, slice_set}
use Rattle.script.specs.Syntax.{Leaf, Expr, reads, Code, nothing, put, read, fork, turns, region, uses, Script, code}
use Rattle.script.specs.Steps.{cells}
use Rattle.script.specs.Stand.{assigned, uses_in, fresh_in}
use Rattle.script.specs.Values.{value}
use Rattle.script.specs.Unbroken.{valued, is_zero, no_locals}
use Rattle.memory.specs.Spent.{is_done, written}
use Rattle.memory.specs.Calls.{Put, Open, Close, Mend}
use Rattle.memory.specs.Model.{Model, Moved}
use Rattle.runs.specs.declared.types.Reading.{Reading}
use Rattle.runs.specs.Behind.{Behind, none_behind, behind_all, joined, Used, used}

-- ---- where a run stands

-- what is left to do: the rest of a block, so many more turns of a body, the end of an if (the names assigned in its branches, and
-- the readings behind its condition), the end of a region (the outermost or not)
pub data Item : Type 0 where
  block : Code → Item
  turn : ℕ → Code → Item
  join : List ℕ → List Reading → Item
  close : Bool → Item

-- what a failure in a region puts back: what is left to do, the next first; the locals; what is behind each name; the list of readings
pub record Point : Type 0 where
  pub left : List Item
  pub locals : List ℤ
  pub behind : Behind
  pub list : List Reading

abbrev pub point : List Item → List ℤ → Behind → List Reading → Point
point is ls β rs = record { left = is; locals = ls; behind = β; list = rs }

-- a run: the point where it stands, the point before the opening of the region that it is in, the memory, the tick, how many power
-- calls were accepted (the last is the one under way), how many failed, whether the script has ended, and the uses made so far,
-- undone ones too
pub record State (W : Type 0) : Type 0 where
  pub at : Point
  pub saved : Point
  pub memory : W
  pub tick : ℕ
  pub calls : ℕ
  pub failures : ℕ
  pub ended : Bool
  pub made : List Used

-- what a run is of: a script by its number of cells, its fresh names and its main, and the host's value for each channel and tick
pub record Job : Type 0 where
  pub cells : ℕ
  pub fresh : ℕ → Bool
  pub main : Code
  pub value : ℕ → ℕ → ℤ

abbrev pub job_of : Script → (ℕ → ℕ → ℤ) → Job
job_of s v = record { cells = cells s.decls; fresh = fresh_in s.decls; main = code s.main; value = v }

-- before the first power call: all of main is left, the locals are 0, and nothing is behind any name
abbrev pub first_point : Job → Point
first_point j = point (block j.main ∷ []) no_locals none_behind []

abbrev pub begun : {W : Type 0} → Job → W → State W
begun j w = record { at = first_point j; saved = first_point j; memory = w; tick = 0; calls = 0; failures = 0; ended = false; made = [] }

-- ---- one part changed

abbrev pub with_at : {W : Type 0} → Point → State W → State W
with_at p s = record { at = p; saved = s.saved; memory = s.memory; tick = s.tick; calls = s.calls; failures = s.failures; ended = s.ended; made = s.made }

abbrev pub with_saved : {W : Type 0} → Point → State W → State W
with_saved p s = record { at = s.at; saved = p; memory = s.memory; tick = s.tick; calls = s.calls; failures = s.failures; ended = s.ended; made = s.made }

abbrev pub with_memory : {W : Type 0} → W → State W → State W
with_memory w s = record { at = s.at; saved = s.saved; memory = w; tick = s.tick; calls = s.calls; failures = s.failures; ended = s.ended; made = s.made }

abbrev pub with_ended : {W : Type 0} → State W → State W
with_ended s = record { at = s.at; saved = s.saved; memory = s.memory; tick = s.tick; calls = s.calls; failures = s.failures; ended = true; made = s.made }

-- so many ticks pass
abbrev pub ticked : {W : Type 0} → ℕ → State W → State W
ticked n s = record { at = s.at; saved = s.saved; memory = s.memory; tick = s.tick + n; calls = s.calls; failures = s.failures; ended = s.ended; made = s.made }

-- the uses of these names are made, in the power call under way
abbrev pub with_uses : {W : Type 0} → List Leaf → State W → State W
with_uses xs s = record { at = s.at; saved = s.saved; memory = s.memory; tick = s.tick; calls = s.calls; failures = s.failures; ended = s.ended; made = s.made ++ used s.calls s.at.behind xs }

-- so much is left to do
abbrev pub leaving : {W : Type 0} → List Item → State W → State W
leaving is s = with_at (point is s.at.locals s.at.behind s.at.list) s

-- ---- what is over is no step

-- what is left to do and what is behind each name, once all that is over is taken off: an empty rest, a repeat with no more turns, and
-- the end of an if, where the names assigned in it get the readings behind its condition
pub record Tidy : Type 0 where
  pub left : List Item
  pub behind : Behind

abbrev pub tidy : List Item → Behind → Tidy
tidy is β = record { left = is; behind = β }

abbrev pub is_nothing : Code → Bool
is_nothing nothing = true
is_nothing (put x e k) = false
is_nothing (read x c k) = false
is_nothing (fork e a b k) = false
is_nothing (turns n b k) = false
is_nothing (region b k) = false
is_nothing (uses xs k) = false

abbrev pub tidied : List Item → Behind → Tidy
tidied [] β = tidy [] β
tidied (block k ∷ is) β = cond (is_nothing k) (tidied is β) (tidy (block k ∷ is) β)
tidied (turn n b ∷ is) β = cond (n == 0) (tidied is β) (tidy (turn n b ∷ is) β)
tidied (join xs cs ∷ is) β = tidied is (joined cs xs β)
tidied (close o ∷ is) β = tidy (close o ∷ is) β

abbrev pub tidied_state : {W : Type 0} → State W → State W
tidied_state s = with_at (point (tidied s.at.left s.at.behind).left s.at.locals (tidied s.at.left s.at.behind).behind s.at.list) s

abbrev pub no_step : List Item → Bool
no_step [] = true
no_step (i ∷ is) = false

-- ---- one step

-- the words that a step wrote beyond its unit, and the run after it
pub record Stepped (W : Type 0) : Type 0 where
  pub words : ℕ
  pub state : State W

-- a step that writes no word
abbrev pub free : {W : Type 0} → State W → Stepped W
free s = record { words = 0; state = s }

-- a step that calls the memory: where the call is cut, the step is undone
abbrev pub paid : {W : Type 0} → State W → State W → Moved W → Stepped W
paid done undone a = record { words = written a.answer; state = with_memory a.after (cond (is_done a.answer) done undone) }

module _ (m : Model) (j : Job) where
  -- the value of an expression: names stand for current cells and locals
  abbrev pub worth : State m.State → Expr → ℤ
  worth s e = value (valued j.cells (m.means s.memory).current s.at.locals) e

  -- an assignment of the value v: a cell is put into the memory, a local is set; the readings behind the expression are then behind it
  abbrev pub assign_step : ℕ → ℤ → List Reading → List Item → State m.State → ℕ → Stepped m.State
  assign_step x v rs is s u =
      cond (nat_lt x j.cells)
      (paid (with_at (point is s.at.locals (slice_set s.at.behind x rs) s.at.list) s) s (m.act s.memory (Put x v) u))
      (free (with_at (point is (slice_set s.at.locals (x - j.cells) v) (slice_set s.at.behind x rs) s.at.list) s))

  -- a reading of the channel c into a local: it is listed, and it alone is behind the local
  abbrev pub taken : ℕ → ℕ → State m.State → Reading
  taken c t s = record { tick = t; channel = c; value = j.value c t; call = s.calls }

  abbrev pub list_step : ℕ → Reading → List Item → State m.State → Stepped m.State
  list_step x r is s = free (with_at (point is (slice_set s.at.locals (x - j.cells) r.value) (slice_set s.at.behind x (r ∷ [])) (s.at.list ++ r ∷ [])) s)

  -- an if's condition: the first block where the value is not 0
  abbrev pub fork_step : ℤ → List Reading → Code → Code → Code → List Item → State m.State → Stepped m.State
  fork_step v rs a b k is s = free (leaving (block (cond (is_zero v) b a) ∷ join (assigned a (assigned b [])) rs ∷ block k ∷ is) s)

  -- the start of a turn
  abbrev pub turn_step : ℕ → Code → List Item → State m.State → Stepped m.State
  turn_step zero b is s = free (leaving is s)
  turn_step (suc n) b is s = free (leaving (block b ∷ turn n b ∷ is) s)

  -- the opening of a region: an outermost one opens the memory, and keeps the point before it
  abbrev pub open_step : Code → Code → List Item → State m.State → ℕ → Stepped m.State
  open_step b k is s u =
      cond (m.means s.memory).is_open
      (free (leaving (block b ∷ close false ∷ block k ∷ is) s))
      (paid (leaving (block b ∷ close true ∷ block k ∷ is) (with_saved s.at s)) s (m.act s.memory Open u))

  -- the closing of a region: that of an outermost one closes the memory
  abbrev pub close_step : Bool → List Item → State m.State → ℕ → Stepped m.State
  close_step true is s u = paid (leaving is s) s (m.act s.memory Close u)
  close_step false is s u = free (leaving is s)

  abbrev pub block_step : Code → List Item → State m.State → ℕ → Stepped m.State
  block_step nothing is s u = free (leaving is s)
  block_step (put x e k) is s u = assign_step x.value (worth s e) (behind_all s.at.behind (reads e [])) (block k ∷ is) (with_uses (uses_in j.fresh e) s) u
  block_step (read x c k) is s u = list_step x.value (taken c.value s.tick s) (block k ∷ is) s
  block_step (fork e a b k) is s u = fork_step (worth s e) (behind_all s.at.behind (reads e [])) a b k is (with_uses (uses_in j.fresh e) s)
  block_step (turns n b k) is s u = turn_step n.value b (block k ∷ is) s
  block_step (region b k) is s u = open_step b k is s u
  block_step (uses xs k) is s u = free (leaving (block k ∷ is) (with_uses xs s))

  -- the step at what is left to do first, with u units left after its own; an if's end is over, and no step
  abbrev pub step_of : List Item → State m.State → ℕ → Stepped m.State
  step_of [] s u = free s
  step_of (block k ∷ is) s u = block_step k is s u
  step_of (turn n b ∷ is) s u = turn_step n b is s
  step_of (join xs cs ∷ is) s u = free (leaving is s)
  step_of (close o ∷ is) s u = close_step o is s u

  abbrev pub step : State m.State → ℕ → Stepped m.State
  step s u = step_of s.at.left s u

  -- ---- a power call

  -- a failure: with the memory open, the run goes back to the point before the region; then the ticks without power pass
  abbrev pub failed : ℕ → State m.State → State m.State
  failed off s = record {
    at = cond (m.means s.memory).is_open s.saved s.at;
    saved = s.saved;
    memory = s.memory;
    tick = s.tick + off;
    calls = s.calls;
    failures = s.failures + 1;
    ended = s.ended;
    made = s.made;
  }

  -- no step left ends the script; else no unit left is a failure; else a step spends its unit and its words
  abbrev pub continue : ℕ → (ℕ → State m.State → State m.State) → ℕ → State m.State → State m.State
  continue off rest u s =
      cond (no_step s.at.left) (with_ended s)
      (cond (u == 0) (failed off s) (rest (u - (1 + (step s (u - 1)).words)) (ticked (1 + (step s (u - 1)).words) (step s (u - 1)).state)))

  -- steps in a row, with so many units; the fuel is more than the units, and each step takes a unit
  unfoldable pub going : ℕ → ℕ → ℕ → State m.State → State m.State
  going zero off u s = s
  going (suc f) off u s = continue off (going f off) u (tidied_state s)

  -- an accepted power call has the next number
  abbrev pub called : State m.State → State m.State
  called s = record { at = s.at; saved = s.saved; memory = s.memory; tick = s.tick; calls = s.calls + 1; failures = s.failures; ended = s.ended; made = s.made }

  -- a mend that is done leaves the other units for steps; one that is cut is a failure
  abbrev pub mended : ℕ → ℕ → State m.State → Moved m.State → State m.State
  mended units off s a =
      cond (is_done a.answer)
      (going (suc (units - written a.answer)) off (units - written a.answer) (ticked (written a.answer) (with_memory a.after s)))
      (failed off (ticked (written a.answer) (with_memory a.after s)))

  -- power for so many units, and then so many ticks without: it mends first where the memory is open
  abbrev pub power_of : ℕ → ℕ → State m.State → State m.State
  power_of units off s =
      cond (m.means s.memory).is_open
      (mended units off (called s) (m.act s.memory Mend units))
      (going (suc units) off units (called s))
