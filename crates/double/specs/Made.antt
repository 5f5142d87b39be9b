-- The words of a new double buffer: the first values in the first half, which is in force, closed.
use Rattle.std.specs.Prelude.{List, length, replicate, ℤ, pos}
use Rattle.memory.specs.Cells.{filled}
use Rattle.double.specs.declared.halves.Halves.{Halves}

abbrev pub first_halves : List ℤ → Halves
first_halves vs = record { first = filled vs; second = replicate 64 (pos 0); state = 0; count = length vs }
