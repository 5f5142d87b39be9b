use Rattle.reader.proofs.Loops.{Roomy}
use Rattle.reader.proofs.names.ask.room.Given as goal

abbrev pub invariant-loop-row : goal.invariant-loop-row
invariant-loop-row l = Roomy l.rows l.cells l.locals l.row-index
