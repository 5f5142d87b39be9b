use Rattle.std.proofs.Common.{◌≡◌}
use Rattle.reader.proofs.Loops.{Once}
use Rattle.reader.proofs.names.ask.once.Given as goal

abbrev pub invariant-loop-row : goal.invariant-loop-row
invariant-loop-row l = (l.seen.text.now ≡ l.text) × Once l.text l.rows l.seen.list.items l.row-index
