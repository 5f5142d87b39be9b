-- What a memory means: its kept cells, which a power failure leaves, its current cells, which a script
-- sees, and whether it is open, that is, whether a region is under way.
use Rattle.std.specs.Prelude.{◌≡◌, ℕ, Bool, true, false, cond, List, length, ℤ, slice_set}

pub record Meaning : Type 0 where
  pub kept : List ℤ
  pub current : List ℤ
  pub is_open : Bool

-- there are as many current cells as kept ones, and while the memory is not open they are equal
pub record Sound (v : Meaning) : Type 0 where
  pub same : v.is_open ≡ false → v.kept ≡ v.current
  pub level : length v.current ≡ length v.kept

-- a closed memory of these cells, as a new one is
abbrev pub closed_with : List ℤ → Meaning
closed_with cells = record { kept = cells; current = cells; is_open = false }

-- put changes the current cell, which is the kept one too unless the memory is open
abbrev pub after_put : Meaning → ℕ → ℤ → Meaning
after_put v i x = record { kept = cond v.is_open v.kept (slice_set v.current i x); current = slice_set v.current i x; is_open = v.is_open }

abbrev pub after_open : Meaning → Meaning
after_open v = record { kept = v.kept; current = v.current; is_open = true }

-- close makes the current cells kept
abbrev pub after_close : Meaning → Meaning
after_close v = record { kept = v.current; current = v.current; is_open = false }

-- mend makes the kept cells current
abbrev pub after_mend : Meaning → Meaning
after_mend v = record { kept = v.kept; current = v.kept; is_open = false }
