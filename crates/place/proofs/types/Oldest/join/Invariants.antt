use Rattle.std.proofs.Common.{◌≡◌, take}
use Rattle.place.specs.Places.{join_rows}
use Rattle.place.proofs.types.Oldest.join.Given as goal

abbrev pub invariant-loop-row : goal.invariant-loop-row
invariant-loop-row l = l.self.of ≡ join_rows l.call (take l.row-index l.rows) l.initial.self.of
