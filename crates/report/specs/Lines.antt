-- Lines of a text: each ends with a line feed, the last with the text. Assumes nothing.
use Rattle.std.specs.Prelude.{ℕ, ◌+◌, ◌-◌, Bool, not, List, count_by, length, reverse, take, take_while, drop, ◌==◌}

abbrev pub is_break : ℕ → Bool
is_break b = b == 10

abbrev pub no_break : ℕ → Bool
no_break b = not (b == 10)

-- lines and columns are counted from 1: a line ends at each line feed before the place
abbrev pub line_of : List ℕ → ℕ → ℕ
line_of text place = 1 + count_by is_break (take place text)

-- the line begins behind the last line feed before the place, or at 0
abbrev pub start_of : List ℕ → ℕ → ℕ
start_of text place = length (take place text) - length (take_while no_break (reverse (take place text)))

abbrev pub end_of : List ℕ → ℕ → ℕ
end_of text place = place + length (take_while no_break (drop place text))
