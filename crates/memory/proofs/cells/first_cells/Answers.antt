use Rattle.std.proofs.Common.{sym}
use Rattle.std.proofs.lemmas.List.{drop-replicate}
use Rattle.memory.proofs.Filling.{taken_whole}
use Rattle.memory.specs.Cells.{filled}
use Rattle.memory.proofs.cells.first_cells.Goals as goal

pub returns : goal.returns
returns c = rw (c.copy_from_slice.ensures.after, drop-replicate) (sym (taken_whole c.args.values.now (filled c.args.values.now) c.if-values-gt64.false))
