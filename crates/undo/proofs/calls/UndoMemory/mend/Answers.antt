use Rattle.undo.specs.Works.{back_fine, shut_log}
use Rattle.undo.proofs.calls.UndoMemory.mend.Goals as goal

pub invariant_of-self : goal.invariant_of-self
invariant_of-self c =
    let l = back_fine c.args.self.now.words c.args.self.now.fine c.args.units c.write_back.new.self c.write_back.ensures in
    record { fine = shut_log c.write_back.new.self l l }

pub invariant_of-self-else-is_done : goal.invariant_of-self-else-is_done
invariant_of-self-else-is_done c = record { fine = back_fine c.args.self.now.words c.args.self.now.fine c.args.units c.write_back.new.self c.write_back.ensures }
