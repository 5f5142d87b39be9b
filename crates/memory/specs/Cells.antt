-- The cells that a memory is made with: the first values, and zeros up to the room of 64.
use Rattle.std.specs.Prelude.{◌-◌, cond, List, ◌++◌, length, replicate, ℤ, pos, Ok, Err, Result, nat_le}
use Rattle.script.specs.declared.fault.Fault.{Fault}
use Rattle.script.specs.Faults.{fault}

abbrev pub filled : List ℤ → List ℤ
filled vs = vs ++ replicate (64 - length vs) (pos 0)

-- what is made of so many first values; more than 64 are refused, at place 64
abbrev pub made_of : {A : Type 0} → List ℤ → A → Result A Fault
made_of vs a = cond (nat_le (length vs) 64) (Ok a) (Err (fault 29 64))
