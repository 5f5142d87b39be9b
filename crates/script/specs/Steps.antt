-- How many steps and readings a script takes at most, and how many units it needs. Assumes nothing.
use Rattle.std.specs.Prelude.{ℕ, ◌+◌, ◌*◌, max, Bool, true, ◌&&◌, nat_le, nat_lt}
use Rattle.script.specs.Syntax.{Code, nothing, put, read, fork, turns, region, uses, Decls, no_decl, cell, minus_cell, var, fresh, Script, code}

-- each assignment, reading, together, condition, start of a turn, opening of a region and closing of one is a step;
-- blocks add up, an if takes the larger branch, a repeat multiplies
abbrev pub steps : Code → ℕ
steps nothing = 0
steps (put x e k) = 1 + steps k
steps (read x c k) = 1 + steps k
steps (fork e a b k) = 1 + max (steps a) (steps b) + steps k
steps (turns n b k) = n.value * (1 + steps b) + steps k
steps (region b k) = 2 + steps b + steps k
steps (uses xs k) = 1 + steps k

abbrev pub readings : Code → ℕ
readings nothing = 0
readings (put x e k) = readings k
readings (read x c k) = 1 + readings k
readings (fork e a b k) = max (readings a) (readings b) + readings k
readings (turns n b k) = n.value * readings b + readings k
readings (region b k) = readings b + readings k
readings (uses xs k) = readings k

-- each repeat takes at least one turn
abbrev pub repeats : Code → Bool
repeats nothing = true
repeats (put x e k) = repeats k
repeats (read x c k) = repeats k
repeats (fork e a b k) = repeats a && (repeats b && repeats k)
repeats (turns n b k) = nat_le 1 n.value && (repeats b && repeats k)
repeats (region b k) = repeats b && repeats k
repeats (uses xs k) = repeats k

-- each channel that is read is below this one
abbrev pub channels_below : ℕ → Code → Bool
channels_below n nothing = true
channels_below n (put x e k) = channels_below n k
channels_below n (read x c k) = nat_lt c.value n && channels_below n k
channels_below n (fork e a b k) = channels_below n a && (channels_below n b && channels_below n k)
channels_below n (turns m b k) = channels_below n b && channels_below n k
channels_below n (region b k) = channels_below n b && channels_below n k
channels_below n (uses xs k) = channels_below n k

abbrev pub cells : Decls → ℕ
cells no_decl = 0
cells (cell _ _ _ _ _ ds) = 1 + cells ds
cells (minus_cell _ _ _ _ _ _ ds) = 1 + cells ds
cells (var _ _ _ ds) = cells ds
cells (fresh _ _ _ ds) = cells ds

abbrev pub locals : Decls → ℕ
locals no_decl = 0
locals (cell _ _ _ _ _ ds) = locals ds
locals (minus_cell _ _ _ _ _ _ ds) = locals ds
locals (var _ _ _ ds) = 1 + locals ds
locals (fresh _ _ _ ds) = 1 + locals ds

abbrev pub steps_of : Script → ℕ
steps_of s = steps (code s.main)

abbrev pub readings_of : Script → ℕ
readings_of s = readings (code s.main)

-- the units of power that the script needs; that so many are enough is for the runner to show
abbrev pub need : Script → ℕ
need s = (steps_of s + 1) * (cells s.decls + 5)
