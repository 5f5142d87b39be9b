-- What every step of a run keeps: bounds on what is left to do, and how it goes with the memory. Nothing need be believed of this file.
use Rattle.std.specs.Prelude.{◌≡◌, ℕ, ◌+◌, ◌*◌, ◌≤◌, Bool, true, false, cond, not, ◌&&◌, List, [], ◌∷◌, length, take, ◌==◌}
use Rattle.script.specs.Syntax.{Code}
use Rattle.script.specs.Steps.{steps, readings, repeats, channels_below}
use Rattle.memory.specs.Model.{Model}
use Rattle.runs.specs.Machine.{Item, block, turn, join, close, Point, State, Job, is_nothing}

-- whether what is left to do begins with a step
abbrev pub ready : List Item → Bool
ready [] = false
ready (block k ∷ is) = not (is_nothing k)
ready (turn n b ∷ is) = not (n == 0)
ready (join xs cs ∷ is) = false
ready (close o ∷ is) = true

-- how many steps, readings, and closings of an outermost region are left at most
abbrev pub steps_left : List Item → ℕ
steps_left [] = 0
steps_left (block k ∷ is) = steps k + steps_left is
steps_left (turn n b ∷ is) = n * (1 + steps b) + steps_left is
steps_left (join xs cs ∷ is) = steps_left is
steps_left (close o ∷ is) = 1 + steps_left is

abbrev pub readings_left : List Item → ℕ
readings_left [] = 0
readings_left (block k ∷ is) = readings k + readings_left is
readings_left (turn n b ∷ is) = n * readings b + readings_left is
readings_left (join xs cs ∷ is) = readings_left is
readings_left (close o ∷ is) = readings_left is

abbrev pub closings : List Item → ℕ
closings [] = 0
closings (block k ∷ is) = closings is
closings (turn n b ∷ is) = closings is
closings (join xs cs ∷ is) = closings is
closings (close o ∷ is) = cond o 1 0 + closings is

-- each code that is left passes the test
abbrev pub all_left : (Code → Bool) → List Item → Bool
all_left p [] = true
all_left p (block k ∷ is) = p k && all_left p is
all_left p (turn n b ∷ is) = p b && all_left p is
all_left p (join xs cs ∷ is) = all_left p is
all_left p (close o ∷ is) = all_left p is

-- a point within so many steps, readings (listed ones too) and channels
pub record Within (S R c : ℕ) (p : Point) : Type 0 where
  pub steps : steps_left p.left ≤ S
  pub readings : readings_left p.left + length p.list ≤ R
  pub repeats : all_left repeats p.left ≡ true
  pub channels : all_left (channels_below c) p.left ≡ true

module _ (m : Model) (j : Job) (S R c : ℕ) where
  -- inside a power call: the memory is open just where a closing of an outermost region is left, and then but one is. The point before
  -- the region, or before the last one, is outside of any, and the list begins with the readings then listed.
  pub record Steady (s : State m.State) : Type 0 where
    pub fine : m.fine s.memory
    pub count : length (m.means s.memory).kept ≡ j.cells
    pub here : Within S R c s.at
    pub back : Within S R c s.saved
    pub region : closings s.at.left ≡ cond (m.means s.memory).is_open 1 0
    pub outside : closings s.saved.left ≡ 0
    pub begins : take (length s.saved.list) s.at.list ≡ s.saved.list
    pub running : s.ended ≡ false

  -- between power calls: the run is outside of any region, and where the memory is open, at the point before one
  pub record Resting (s : State m.State) : Type 0 where
    pub fine : m.fine s.memory
    pub count : length (m.means s.memory).kept ≡ j.cells
    pub here : Within S R c s.at
    pub back : Within S R c s.saved
    pub region : closings s.at.left ≡ 0
    pub outside : closings s.saved.left ≡ 0
    pub begins : take (length s.saved.list) s.at.list ≡ s.saved.list
    pub undone : (m.means s.memory).is_open ≡ true → s.at ≡ s.saved
    pub over : s.ended ≡ true → (s.at.left ≡ []) × ((m.means s.memory).is_open ≡ false)

-- the limits of a run's counts, between power calls
pub record Counted {W : Type 0} (s : State W) : Type 0 where
  pub tick : s.tick ≤ 2000000000
  pub calls : s.calls ≤ 1000000
  pub failures : s.failures ≤ s.calls
