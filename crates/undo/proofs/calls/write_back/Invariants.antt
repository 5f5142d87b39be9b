use Rattle.std.proofs.Common.{◌≡◌, length}
use Rattle.undo.specs.Log.{undone}
use Rattle.undo.proofs.calls.write_back.Given as goal

abbrev pub invariant-loop-number : goal.invariant-loop-number
invariant-loop-number l = l.cells ≡ undone (length l.yielded) l.numbers l.olds l.initial.cells
