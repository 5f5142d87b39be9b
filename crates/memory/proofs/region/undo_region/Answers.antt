use Rattle.memory.proofs.Regions.{as_if_not_begun}
use Rattle.memory.proofs.region.undo_region.Goals as goal

pub returns : goal.returns
returns g c = record { said = c.mend.ensures.said; left = c.mend.ensures.left; undone = as_if_not_begun g.M.Memory.model g.met.M.Memory.lawful }
