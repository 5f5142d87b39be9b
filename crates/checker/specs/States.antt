-- The state that the check's struct stands for. Assumes nothing.
use Rattle.std.specs.Prelude.{◌≡◌, ℕ, List, [], ◌∷◌, map, reverse, drop, Some, None, Option, slice_index_or}
use Rattle.script.specs.declared.row.Row.{Row}
use Rattle.script.specs.Stand.{Table}
use Rattle.checker.specs.declared.types.Standings.{Standings}
use Rattle.checker.specs.declared.types.Frame.{Frame}
use Rattle.checker.specs.declared.types.Check.{Check}
use Rattle.checker.specs.Machine.{Opened, State, with_stack}

-- a frame's row stands for the rows from there on
abbrev pub frame_of : List Row → Frame → Opened
frame_of all f = record { table = f.table.of; level = f.level; from = drop f.from all; number = f.number; inside = f.inside }

-- the last frame is on top
abbrev pub frames_of : List Row → List Frame → List Opened
frames_of all fs = map (frame_of all) (reverse fs)

abbrev pub tables : List Standings → List Table
tables es = map (λ e. e.of) es

-- the check c of the rows `all`
abbrev pub state_of : List Row → Check → State
state_of all c = record {
  table = c.table.of;
  fresh = c.fresh;
  target = c.target;
  level = c.level;
  inside = c.inside;
  stack = frames_of all c.frames.items;
  entries = tables c.entries;
  number = c.number;
  rose = c.rose;
  first = c.first;
}

-- over the rows `all`, the check d is c with f done to its state
abbrev pub MovesOver : List Row → Check → Check → (State → State) → Type 0
MovesOver all c d f = state_of all d ≡ f (state_of all c)

-- whatever the rows are
abbrev pub Moves : Check → Check → (State → State) → Type 0
Moves c d f = (all : List Row) → MovesOver all c d f

-- f is told the rows from `from` on
abbrev pub MovesBehind : ℕ → Check → Check → (List Row → State → State) → Type 0
MovesBehind from c d f = (all : List Row) → MovesOver all c d (f (drop from all))

-- the entry of a repeat, and the table where there is none
abbrev pub entry_at : Check → ℕ → Table
entry_at c n = slice_index_or (tables c.entries) n c.table.of

-- c had the frame r on top, and is d without it
abbrev pub Popped : Check → Option Frame → Check → Type 0
Popped c None d = (all : List Row) → (state_of all d ≡ state_of all c) × ((state_of all c).stack ≡ [])
Popped c (Some f) d = (all : List Row) → state_of all c ≡ with_stack (frame_of all f ∷ (state_of all d).stack) (state_of all d)
