-- A memory to the word: its states, what each means, and what each call does to it; and the laws that
-- such a model has to keep.
use Rattle.std.specs.Prelude.{◌≡◌, ℕ, true, false, cond, List, length, ℤ, pos, Ok, Err, Result, nat_lt, slice_index_or}
use Rattle.script.specs.declared.fault.Fault.{Fault}
use Rattle.script.specs.Faults.{fault}
use Rattle.memory.specs.declared.Spent.{Spent}
use Rattle.memory.specs.Spent.{written}
use Rattle.memory.specs.Meaning.{Meaning, Sound}
use Rattle.memory.specs.Calls.{Call, Mend, can, refusal, goal, Obeyed}

-- what a call answered, and the state that it left
pub record Moved (W : Type 0) : Type 0 where
  pub answer : Spent
  pub after : W

-- fine is what every state of a real memory meets; act is told the call and the units left
pub record Model : Type 1 where
  pub State : Type 0
  pub fine : State → Type 0
  pub means : State → Meaning
  pub act : State → Call → ℕ → Moved State

-- the laws: every fine state has a sound meaning, every taken call leaves a fine state and obeys the
-- rules, and mend on a closed memory writes nothing
pub record Lawful (m : Model) : Type 0 where
  pub sound : (w : m.State) → m.fine w → Sound (m.means w)
  pub stays_fine : (w : m.State) (a : Call) (u : ℕ) → m.fine w → can (m.means w) a ≡ true → m.fine (m.act w a u).after
  pub rules : (w : m.State) (a : Call) (u : ℕ) → m.fine w → can (m.means w) a ≡ true → Obeyed (m.means w) (goal (m.means w) a) u (m.act w a u).answer (m.means (m.act w a u).after)
  pub idle : (w : m.State) (u : ℕ) → m.fine w → (m.means w).is_open ≡ false → written (m.act w Mend u).answer ≡ 0

-- a call's answer, a refusal where it is not taken, and the state after it, untouched by a refusal
abbrev pub answer : (m : Model) → m.State → Call → ℕ → Result Spent Fault
answer m w a u = cond (can (m.means w) a) (Ok (m.act w a u).answer) (Err (refusal a))

abbrev pub after : (m : Model) → m.State → Call → ℕ → m.State
after m w a u = cond (can (m.means w) a) (m.act w a u).after w

-- the cell of a number, or the refusal that there is none
abbrev pub cell_of : List ℤ → ℕ → Result ℤ Fault
cell_of cs i = cond (nat_lt i (length cs)) (Ok (slice_index_or cs i (pos 0))) (Err (fault 26 0))
