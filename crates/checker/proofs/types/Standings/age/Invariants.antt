use Rattle.std.proofs.Common.{get_or}
use Rattle.script.specs.Stand.{older}
use Rattle.script.specs.declared.standing.Standing.TheVariants.{Clean}
use Rattle.checker.proofs.Tables.{Partly}
use Rattle.checker.proofs.types.Standings.age.Given as goal

abbrev pub invariant-loop-s : goal.invariant-loop-s
invariant-loop-s l = Partly (λ k. older (get_or l.fn.self.of k Clean)) l.fn.self.of l.s-items l.s-index
