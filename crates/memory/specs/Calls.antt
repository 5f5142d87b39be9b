-- The four calls that write, and what every memory owes at each.
use Rattle.std.specs.Prelude.{◌≡◌, ℕ, ◌+◌, ◌<◌, ◌≤◌, Bool, true, false, cond, not, length, ℤ, Ok, Err, Result, nat_lt}
use Rattle.script.specs.declared.fault.Fault.{Fault}
use Rattle.script.specs.Faults.{fault}
use Rattle.memory.specs.declared.Spent.{Spent}
use Rattle.memory.specs.Spent.{is_done, written}
use Rattle.memory.specs.Meaning.{Meaning, after_put, after_open, after_close, after_mend}

pub data Call : Type 0 where
  Put : ℕ → ℤ → Call
  Open : Call
  Close : Call
  Mend : Call

-- whether the call is taken: put wants such a cell, open a closed memory, close an open one
abbrev pub can : Meaning → Call → Bool
can v (Put i x) = nat_lt i (length v.kept)
can v Open = not v.is_open
can v Close = v.is_open
can v Mend = true

-- the refusal of a call that is not taken; mend always is
abbrev pub refusal : Call → Fault
refusal (Put i x) = fault 26 0
refusal Open = fault 27 0
refusal Close = fault 28 0
refusal Mend = fault 0 0

-- what a memory says to a call: nothing where it is taken, else its refusal
abbrev pub taken_or : Bool → Fault → Result (Unit {0}) Fault
taken_or b f = cond b (Ok tt) (Err f)

-- what a done call comes to
abbrev pub goal : Meaning → Call → Meaning
goal v (Put i x) = after_put v i x
goal v Open = after_open v
goal v Close = after_close v
goal v Mend = after_mend v

-- The rules of a call that is taken. It found the meaning v and so many units left, it was to come to
-- wanted, it answered s, and it left v'.
pub record Obeyed (v wanted : Meaning) (units : ℕ) (s : Spent) (v' : Meaning) : Type 0 where
  -- it spends no more words than units were left, and a done one no more than n + 4
  pub within : written s ≤ units
  pub few : is_done s ≡ true → written s ≤ length v.kept + 4
  pub effect : is_done s ≡ true → v' ≡ wanted
  -- it is cut only when fewer than n + 4 units were left, and spends them all
  pub short : is_done s ≡ false → units < length v.kept + 4
  pub spends : is_done s ≡ false → written s ≡ units
  -- cut, it leaves the kept cells, open or not, and the current cells of a closed memory
  pub keeps : is_done s ≡ false → v'.kept ≡ v.kept
  pub stays : is_done s ≡ false → v'.is_open ≡ v.is_open
  pub rests : is_done s ≡ false → v.is_open ≡ false → v'.current ≡ v.current
