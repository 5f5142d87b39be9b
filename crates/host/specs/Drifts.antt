-- What the drift host gives, and which tables it is made from. Assumes nothing.
use Rattle.std.specs.Prelude.{ℕ, cond, List, length, ℤ, pos, negsuc, ◌+ℤ◌, ◌*ℤ◌, Some, None, Ok, Option, Result, ◌==◌, int_lt, nat_le, slice_index_or}
use Rattle.script.specs.declared.fault.Fault.{Fault}
use Rattle.script.specs.Faults.{unless}
use Rattle.host.specs.declared.table.Rate.{Rate}

-- a number cut off at the ends of 32 bits: -2147483648 and 2147483647
abbrev pub cut_off : ℤ → ℤ
cut_off z = cond (int_lt z (negsuc 2147483647)) (negsuc 2147483647) (cond (int_lt (pos 2147483647) z) (pos 2147483647) z)

-- start + slope × tick, cut off
abbrev pub drifting : Rate → ℕ → ℤ
drifting r tick = cut_off (r.start +ℤ r.slope *ℤ pos tick)

-- what a table gives: one row for each channel
abbrev pub drift : List Rate → ℕ → ℕ → ℤ
drift rates channel tick = drifting (slice_index_or rates channel (record { start = pos 0; slope = pos 0 })) tick

-- a table has 1 to 16 rows: the row that is missing, or too many
abbrev pub wrong_row : ℕ → Option ℕ
wrong_row n = cond (n == 0) (Some 0) (cond (nat_le n 16) None (Some 16))

-- the table that a host is made from, or why there is none
abbrev pub drift_table : List Rate → Result (List Rate) Fault
drift_table rates = unless 30 (wrong_row (length rates)) (Ok rates)
