-- What the trace host gives, and which tables it is made from. Assumes nothing.
use Rattle.std.specs.Prelude.{ℕ, suc, Bool, cond, ◌&&◌, ◌||◌, List, [], ◌∷◌, length, ℤ, pos, Some, None, Ok, Option, Result, ◌==◌, nat_le, nat_lt, position}
use Rattle.script.specs.declared.fault.Fault.{Fault}
use Rattle.script.specs.Faults.{unless}
use Rattle.host.specs.Readings.{last_tick}
use Rattle.host.specs.declared.table.Sample.{Sample}

-- ---- what it gives

-- a sample of the channel, at or before the tick
abbrev pub counts : ℕ → ℕ → Sample → Bool
counts channel tick s = s.channel == channel && nat_le s.tick tick

-- the value of the last listed sample that counts, or else what stood before
abbrev pub last_of : ℕ → ℕ → ℤ → List Sample → ℤ
last_of channel tick before [] = before
last_of channel tick before (s ∷ ss) = last_of channel tick (cond (counts channel tick s) s.value before) ss

-- what a channel gives before its first sample
abbrev pub before_first : ℤ
before_first = pos 0

-- what a table gives
abbrev pub trace : List Sample → ℕ → ℕ → ℤ
trace samples channel tick = last_of channel tick before_first samples

-- ---- which tables

-- 31: at most 1,024 rows
abbrev pub row_past : ℕ → Option ℕ
row_past n = cond (nat_le n 1024) None (Some 1024)

-- 32: a tick is at most the last tick, and a channel at most 15
abbrev pub outside : Sample → Bool
outside s = nat_lt last_tick s.tick || nat_lt 15 s.channel

-- the first row with a wrong tick or channel
abbrev pub first_outside : List Sample → Option ℕ
first_outside samples = position outside samples

-- 33: ticks never fall. The first row with a tick below that of the row before it, counted from i
abbrev pub first_fall : ℕ → ℕ → List Sample → Option ℕ
first_fall i before [] = None
first_fall i before (s ∷ ss) = cond (nat_lt s.tick before) (Some i) (first_fall (suc i) s.tick ss)

-- the table that a host is made from, or why there is none: each question is put to the whole table
abbrev pub trace_table : List Sample → Result (List Sample) Fault
trace_table samples =
    unless 31 (row_past (length samples)) (unless 32 (first_outside samples) (unless 33 (first_fall 0 0 samples) (Ok samples)))
