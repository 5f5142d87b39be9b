-- The words of an undo log: what they mean, and which words each call writes. The state word is 0 for closed
-- and 1 + k for open with k pairs, each of a cell number and the old value of that cell.
use Rattle.std.specs.Prelude.{◌≡◌, ℕ, zero, suc, ◌+◌, ◌-◌, ◌<◌, ◌≤◌, Bool, true, false, cond, not, ◌&&◌, List, length, take, ℤ, pos, ◌==◌, nat_lt, slice_index, slice_index_or, slice_set}
use Rattle.undo.specs.declared.words.Words.{Words}
use Rattle.memory.specs.Meaning.{Meaning}
use Rattle.memory.specs.Calls.{Call, Put, Open, Close, Mend}
use Rattle.memory.specs.Plan.{Plan, model_of}
use Rattle.memory.specs.Model.{Model}

-- the cells cs with the first k pairs' old values written back
abbrev pub undone : ℕ → List ℕ → List ℤ → List ℤ → List ℤ
undone zero ns os cs = cs
undone (suc k) ns os cs = slice_set (undone k ns os cs) (slice_index ns k) (slice_index_or os k (pos 0))

-- whether p is among the first k cell numbers
abbrev pub among : ℕ → List ℕ → ℕ → Bool
among zero ns p = false
among (suc k) ns p = cond (slice_index ns k == p) true (among k ns p)

-- how many numbers below n pass
abbrev pub marked : ℕ → (ℕ → Bool) → ℕ
marked zero f = 0
marked (suc n) f = cond (f n) (suc (marked n f)) (marked n f)

-- how many pairs are in force
abbrev pub pairs : Words → ℕ
pairs w = w.state - 1

-- the current cells are the cell words; the kept ones have the old values back
abbrev pub meaning_of : Words → Meaning
meaning_of w = record {
  kept = undone (pairs w) w.numbers w.olds (take w.count w.cells);
  current = take w.count w.cells;
  is_open = nat_lt 0 w.state;
}

-- What every log keeps to: there is room for 64 cells and pairs, the logged cells are cells (each), and none is
-- logged twice: there are as many pairs as cells that have one (exact).
pub record Log64 (w : Words) : Type 0 where
  pub small : w.count ≤ 64
  pub cells : length w.cells ≡ 64
  pub numbers : length w.numbers ≡ 64
  pub olds : length w.olds ≡ 64
  pub each : (j : ℕ) → j < pairs w → slice_index w.numbers j < w.count
  pub exact : pairs w ≡ marked w.count (among (pairs w) w.numbers)

-- a word to write, by its place: a cell, the number or the old value of a pair, or the state
pub data Word : Type 0 where
  Cell : ℕ → ℤ → Word
  Number : ℕ → ℕ → Word
  Old : ℕ → ℤ → Word
  Flag : ℕ → Word

abbrev pub write : Words → Word → Words
write w (Cell i x) = record { cells = slice_set w.cells i x; numbers = w.numbers; olds = w.olds; state = w.state; count = w.count }
write w (Number j i) = record { cells = w.cells; numbers = slice_set w.numbers j i; olds = w.olds; state = w.state; count = w.count }
write w (Old j x) = record { cells = w.cells; numbers = w.numbers; olds = slice_set w.olds j x; state = w.state; count = w.count }
write w (Flag s) = record { cells = w.cells; numbers = w.numbers; olds = w.olds; state = s; count = w.count }

-- whether a put of the cell is its first in a region: the memory is open, and the cell has no pair
abbrev pub fresh : Words → ℕ → Bool
fresh w i = nat_lt 0 w.state && not (among (pairs w) w.numbers i)

-- its words: number, old value, state, cell
abbrev pub first_word : Words → ℕ → ℤ → ℕ → Word
first_word w i x zero = Number (pairs w) i
first_word w i x (suc zero) = Old (pairs w) (slice_index_or w.cells i (pos 0))
first_word w i x (suc (suc zero)) = Flag (w.state + 1)
first_word w i x (suc (suc (suc k))) = Cell i x

-- the words of a mend: each old value back, then the state
abbrev pub mend_word : Words → ℕ → Word
mend_word w k = cond (nat_lt k (pairs w)) (Cell (slice_index w.numbers k) (slice_index_or w.olds k (pos 0))) (Flag 0)

-- how many words a call writes, and its k-th
abbrev pub many : Words → Call → ℕ
many w (Put i x) = cond (fresh w i) 4 1
many w Open = 1
many w Close = 1
many w Mend = w.state

abbrev pub word : Words → Call → ℕ → Word
word w (Put i x) k = cond (fresh w i) (first_word w i x k) (Cell i x)
word w Open k = Flag 1
word w Close k = Flag 0
word w Mend k = mend_word w k

abbrev pub undo_plan : Plan
undo_plan = record { State = Words; Word = Word; fine = Log64; means = meaning_of; write = write; many = many; word = word }

abbrev pub undo_model : Model
undo_model = model_of undo_plan
