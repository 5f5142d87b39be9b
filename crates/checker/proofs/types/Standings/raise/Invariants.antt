use Rattle.std.proofs.Common.{◌≡◌, drop}
use Rattle.script.specs.Stand.{raised}
use Rattle.checker.specs.Machine.{targets}
use Rattle.checker.proofs.types.Standings.raise.Given as goal

abbrev pub invariant-loop-row : goal.invariant-loop-row
invariant-loop-row l = raised l.s (targets (drop l.row-index l.rows)) l.self.of ≡ raised l.s (targets l.rows) l.initial.self.of
