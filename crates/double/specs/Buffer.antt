-- The words of a double buffer: what they mean, and which words each call writes.
use Rattle.std.specs.Prelude.{◌≡◌, ℕ, zero, suc, ◌+◌, ◌-◌, ◌≤◌, Bool, false, cond, not, List, length, take, ℤ, pos, nat_le, nat_lt, slice_index_or, slice_set}
use Rattle.double.specs.declared.halves.Halves.{Halves}
use Rattle.memory.specs.Meaning.{Meaning}
use Rattle.memory.specs.Calls.{Call, Put, Open, Close, Mend}
use Rattle.memory.specs.Plan.{Plan, model_of}
use Rattle.memory.specs.Model.{Model}

-- bit 0 of the state names the half in force: the second where it is set
abbrev pub bit : ℕ → Bool
bit zero = false
bit (suc n) = not (bit n)

-- which half is in force: true for the second
abbrev pub side : Halves → Bool
side w = bit w.state

-- bit 1 says open
abbrev pub up : Halves → Bool
up w = nat_le 2 w.state

abbrev pub half : Halves → Bool → List ℤ
half w b = cond b w.second w.first

-- with other cells in one half
abbrev pub with_half : Halves → Bool → List ℤ → Halves
with_half w b c = record { first = cond b w.first c; second = cond b c w.second; state = w.state; count = w.count }

-- the half that get and put speak of: the half in force, or the other one while open
abbrev pub live : Halves → Bool
live w = cond (up w) (not (side w)) (side w)

-- the kept cells are the half in force, the current ones the live half
abbrev pub meaning_of : Halves → Meaning
meaning_of w = record { kept = take w.count (half w (side w)); current = take w.count (half w (live w)); is_open = up w }

-- what every double buffer keeps to: each half has room for 64 cells, and the state has two bits
pub record Two64 (w : Halves) : Type 0 where
  pub small : w.count ≤ 64
  pub first : length w.first ≡ 64
  pub second : length w.second ≡ 64
  pub state : w.state ≤ 3

-- a word to write, by its place: a cell of the second half or of the first, or the state
pub data Word : Type 0 where
  Half : Bool → ℕ → ℤ → Word
  Flag : ℕ → Word

-- the word stands at its place
abbrev pub write : Halves → Word → Halves
write w (Half b i x) = with_half w b (slice_set (half w b) i x)
write w (Flag s) = record { first = w.first; second = w.second; state = s; count = w.count }

-- the words of an open: the half in force copied cell by cell to the other, then the state with bit 1 set
abbrev pub open_word : Halves → ℕ → Word
open_word w k = cond (nat_lt k w.count) (Half (not (side w)) k (slice_index_or (half w (side w)) k (pos 0))) (Flag (w.state + 2))

-- how many words a call writes, and its k-th: close changes the half and clears bit 1, mend clears bit 1
abbrev pub many : Halves → Call → ℕ
many w (Put i x) = 1
many w Open = w.count + 1
many w Close = 1
many w Mend = cond (up w) 1 0

abbrev pub word : Halves → Call → ℕ → Word
word w (Put i x) k = Half (live w) i x
word w Open k = open_word w k
word w Close k = Flag (3 - w.state)
word w Mend k = Flag (w.state - 2)

abbrev pub double_plan : Plan
double_plan = record { State = Halves; Word = Word; fine = Two64; means = meaning_of; write = write; many = many; word = word }

abbrev pub double_model : Model
double_model = model_of double_plan
