-- What a call that writes answers.
use Rattle.std.specs.Prelude.{ℕ, Bool, true, false, cond, nat_le}
use Rattle.memory.specs.declared.Spent.{Spent}
use Rattle.memory.specs.declared.Spent.TheVariants.{Done, Cut}

-- whether it is done, or was cut
abbrev pub is_done : Spent → Bool
is_done (Done n) = true
is_done (Cut n) = false

-- how many words it wrote
abbrev pub written : Spent → ℕ
written (Done n) = n
written (Cut n) = n

-- the answer of a call of n words, with u units left
abbrev pub spent : ℕ → ℕ → Spent
spent n u = cond (nat_le n u) (Done n) (Cut u)
