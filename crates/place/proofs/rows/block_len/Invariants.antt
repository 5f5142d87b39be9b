use Rattle.std.proofs.Common.{◌≡◌, ◌+◌, ◌≤◌, drop}
use Rattle.place.specs.Rows.{closing}
use Rattle.place.proofs.rows.block_len.Given as goal

abbrev pub invariant-loop-i : goal.invariant-loop-i
invariant-loop-i l = (l.i + closing l.depth (drop l.i l.rows) ≡ closing 0 l.rows) × (l.depth ≤ l.i)
