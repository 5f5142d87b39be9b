use Rattle.undo.specs.Works.{shut_log}
use Rattle.undo.proofs.calls.UndoMemory.close.Goals as goal

pub invariant_of-self : goal.invariant_of-self
invariant_of-self c = record { fine = shut_log c.args.self.now.words c.args.self.now.fine c.args.self.now.fine }
