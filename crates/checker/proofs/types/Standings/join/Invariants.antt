use Rattle.std.proofs.Common.{get_or}
use Rattle.script.specs.Stand.{higher}
use Rattle.script.specs.declared.standing.Standing.TheVariants.{Clean}
use Rattle.checker.proofs.Tables.{Partly}
use Rattle.checker.proofs.types.Standings.join.Given as goal

abbrev pub invariant-loop-name : goal.invariant-loop-name
invariant-loop-name l = Partly (λ k. higher (get_or l.fn.self.of k Clean) (get_or l.with.of k Clean)) l.fn.self.of l.s-items l.name
