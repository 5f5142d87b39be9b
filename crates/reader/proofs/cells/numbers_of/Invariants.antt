use Rattle.std.proofs.Common.{◌≤◌, length}
use Rattle.reader.proofs.Numbers.{Found}
use Rattle.reader.proofs.cells.numbers_of.Given as goal

abbrev pub invariant-loop-row : goal.invariant-loop-row
invariant-loop-row l = (length l.values.items ≤ 64) × Found l.rows l.values.items l.minus l.row-index
