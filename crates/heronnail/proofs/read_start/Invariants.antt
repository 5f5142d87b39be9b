use Rattle.std.proofs.Common.{◌≤◌, length}
use Rattle.heronnail.proofs.read_start.Given as goal

abbrev pub invariant-loop : goal.invariant-loop
invariant-loop l = l.len ≤ length l.buf
