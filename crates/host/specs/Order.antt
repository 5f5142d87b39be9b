-- What a look-up in a trace table goes by. Nothing need be believed of this file: no promise to a caller cites it.
use Rattle.std.specs.Prelude.{◌≡◌, ℕ, Bool, List, ◌++◌, All, nat_le, nat_lt, true, false}
use Rattle.std.specs.List.Sorted.{IsNonDecreasingBy}
use Rattle.host.specs.declared.table.Sample.{Sample}

-- the ticks of the samples never fall
abbrev pub InOrder : List Sample → Type 0
InOrder samples = IsNonDecreasingBy (λ (s : Sample). s.tick) samples

-- a sample and the one after it, which has a lower tick
abbrev pub is_peak : Sample × Sample → Bool
is_peak p = nat_lt p.1.tick p.0.tick

-- the first list is the samples at or before the tick, and then come later ones
abbrev pub IsUpTo : ℕ → List Sample → List Sample → Type 0
IsUpTo tick samples front =
    (rest : List Sample) × (samples ≡ front ++ rest) × All (λ (s : Sample). nat_le s.tick tick ≡ true) front × All (λ (s : Sample). nat_le s.tick tick ≡ false) rest
