use Rattle.std.proofs.Common.{◌≡◌, [], drop}
use Rattle.reader.specs.Count.{count, acc, none, view}
use Rattle.reader.proofs.tally.count_all.Given as goal

abbrev pub invariant-loop-row : goal.invariant-loop-row
invariant-loop-row l = count (drop l.row-index l.rows) (view l.tally) ≡ count l.rows (acc none 0 [])
