-- The calls on a run: their refusals, their answers, and where they lead. Assumes nothing.
use Rattle.std.specs.Prelude.{ℕ, ◌+◌, cond, List, [], ◌∷◌, length, ℤ, pos, Some, None, Ok, Err, Option, Result, nat_le, nat_lt, slice_index_or}
use Rattle.std.specs.List.{slice_get}
use Rattle.script.specs.declared.fault.Fault.{Fault}
use Rattle.script.specs.Faults.{fault}
use Rattle.memory.specs.Calls.{Mend}
use Rattle.memory.specs.Model.{Model}
use Rattle.runs.specs.declared.types.Reading.{Reading}
use Rattle.runs.specs.declared.types.Powered.{Powered}
use Rattle.runs.specs.declared.types.Powered.TheVariants.{Ended, Failed}
use Rattle.runs.specs.declared.types.Report.{Report}
use Rattle.runs.specs.declared.types.Call.{Call}
use Rattle.runs.specs.declared.types.Call.TheVariants as call
use Rattle.runs.specs.declared.types.Answer.{Answer}
use Rattle.runs.specs.declared.types.Answer.TheVariants as answer
use Rattle.runs.specs.Behind.{stale}
use Rattle.runs.specs.Machine.{Job, State, power_of}

-- which question refuses a power call: 20 the script has ended, 21 units, 22 ticks, 23 accepted power calls
abbrev pub why_not : {W : Type 0} → State W → ℕ → ℕ → Option ℕ
why_not s units off =
    cond s.ended (Some 20)
    (cond (nat_le units 100000000)
    (cond (nat_le (s.tick + units + off) 2000000000)
    (cond (nat_lt s.calls 1000000) None (Some 23))
    (Some 22))
    (Some 21))

-- what an accepted call answers, or the refusal
abbrev pub unless_refused : {A : Type 0} → Option ℕ → A → Result A Fault
unless_refused None a = Ok a
unless_refused (Some n) a = Err (fault n 0)

-- the state that an accepted call leads to; a refused one leaves everything as it was
abbrev pub led : {S : Type 0} → Option ℕ → S → S → S
led None next same = next
led (Some n) next same = same

abbrev pub powered : {W : Type 0} → State W → Powered
powered s = cond s.ended (Ended s.tick) (Failed s.tick)

-- a kept cell; refused by 24 where there is none
abbrev pub kept_cell : List ℤ → ℕ → Result ℤ Fault
kept_cell cs i = cond (nat_lt i (length cs)) (Ok (slice_index_or cs i (pos 0))) (Err (fault 24 0))

-- an entry of the list; refused by 25 where there is none
abbrev pub found : Option Reading → Result Reading Fault
found (Some r) = Ok r
found None = Err (fault 25 0)

module _ (m : Model) (j : Job) where
  -- where a call leads: reading a cell or an entry changes nothing
  abbrev pub after_call : Call → State m.State → State m.State
  after_call (call.Power units off) s = led (why_not s units off) (power_of m j units off s) s
  after_call (call.Cell i) s = s
  after_call (call.Entry i) s = s

  abbrev pub answer_to : Call → State m.State → Answer
  answer_to (call.Power units off) s = answer.Power (unless_refused (why_not s units off) (powered (power_of m j units off s)))
  answer_to (call.Cell i) s = answer.Cell (kept_cell (m.means s.memory).kept i)
  answer_to (call.Entry i) s = answer.Entry (found (slice_get s.at.list i))

  -- where calls lead, one after the other, and all their answers
  abbrev pub after_calls : List Call → State m.State → State m.State
  after_calls [] s = s
  after_calls (c ∷ cs) s = after_calls cs (after_call c s)

  abbrev pub answers_to : List Call → State m.State → List Answer
  answers_to [] s = []
  answers_to (c ∷ cs) s = answer_to c s ∷ answers_to cs (after_call c s)

  -- what closing answers, and the memory that it hands back: mended, with units enough
  abbrev pub report : State m.State → Report
  report s = record { ended = s.ended; ticks = s.tick; failures = s.failures; stale = stale s.made }

  abbrev pub handed_back : State m.State → m.State
  handed_back s = (m.act s.memory Mend (j.cells + 4)).after
