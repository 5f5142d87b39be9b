use Rattle.reader.proofs.Loops.{ToLocals}
use Rattle.reader.proofs.names.table.Names.locals.Given as goal

abbrev pub invariant-loop-row : goal.invariant-loop-row
invariant-loop-row l = ToLocals l.self.text.now l.self.list.items l.rows l.target l.row-index
