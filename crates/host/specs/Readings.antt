-- What a reading answers, and what is made of a table that no question refuses. Assumes nothing.
use Rattle.std.specs.Prelude.{ℕ, cond, ℤ, Ok, Err, Result, nat_le, nat_lt}
use Rattle.script.specs.declared.fault.Fault.{Fault}
use Rattle.script.specs.Faults.{fault}

-- the last tick of all
abbrev pub last_tick : ℕ
last_tick = 2000000000

-- what every host asks of a reading: 34 where there is no such channel, else 35 where there is no such tick
abbrev pub asked : ℕ → ℕ → ℕ → Result (Unit {0}) Fault
asked many channel tick =
    cond (nat_lt channel many) (cond (nat_le tick last_tick) (Ok tt) (Err (fault 35 0))) (Err (fault 34 0))

-- the value of a channel at a tick: 34 where there is no such channel, else 35 where there is no such tick
abbrev pub read : (ℕ → ℕ → ℤ) → ℕ → ℕ → ℕ → Result ℤ Fault
read value many channel tick =
    cond (nat_lt channel many) (cond (nat_le tick last_tick) (Ok (value channel tick)) (Err (fault 35 0))) (Err (fault 34 0))

-- what is made, seen by a part of it; a refusal stays as it is
abbrev pub seen_by : {A B : Type 0} → (A → B) → Result A Fault → Result B Fault
seen_by part (Ok a) = Ok (part a)
seen_by part (Err f) = Err f
