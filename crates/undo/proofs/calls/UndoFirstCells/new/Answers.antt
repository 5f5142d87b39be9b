use Rattle.std.proofs.Common.{List, replicate, length, ℤ, pos, sym, subst}
use Rattle.memory.proofs.Filling.{few_of}
use Rattle.memory.specs.Cells.{filled}
use Rattle.undo.specs.Log.{Log64}
use Rattle.undo.specs.Works.{first_log}
use Rattle.undo.proofs.calls.UndoFirstCells.new.Goals as goal

pub invariant_of-result : goal.invariant_of-result
invariant_of-result c =
    let vs = c.args.values.now in
    let e = few_of vs c.in_ok-cells.cells (filled vs) c.in_ok-cells.ensures in
    record { fine = subst (λ (cs : List ℤ). Log64 (record { cells = cs; numbers = replicate 64 0; olds = replicate 64 (pos 0); state = 0; count = length vs })) (sym e.1) (first_log vs e.0) }
