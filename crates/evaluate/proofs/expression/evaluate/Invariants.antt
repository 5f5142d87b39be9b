use Rattle.std.proofs.Common.{◌≡◌, [], take}
use Rattle.std.specs.List.{fold}
use Rattle.script.specs.Unbroken.{valued}
use Rattle.evaluate.specs.Walk.{after, on, blank, at_of}
use Rattle.evaluate.proofs.expression.evaluate.Given as goal

abbrev pub invariant-loop-row : goal.invariant-loop-row
invariant-loop-row g l =
    at_of l.levels
    ≡ fold (after (valued l.cells (g.M.Memory.model.means (g.M.Memory.state l.memory)).current l.locals)) (on blank []) (take l.row-index l.rows)
