-- The words of a new log: the first values, no pair, closed.
use Rattle.std.specs.Prelude.{List, length, replicate, ℤ, pos}
use Rattle.memory.specs.Cells.{filled}
use Rattle.undo.specs.declared.words.Words.{Words}

abbrev pub first_words : List ℤ → Words
first_words vs = record { cells = filled vs; numbers = replicate 64 0; olds = replicate 64 (pos 0); state = 0; count = length vs }
