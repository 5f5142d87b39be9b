use Rattle.std.proofs.Common.{sym}
use Rattle.undo.specs.Works.{kept_length}
use Rattle.undo.proofs.calls.UndoMemory.count.Goals as goal

pub returns : goal.returns
returns c = sym (kept_length _ c.args.self.now.fine)
