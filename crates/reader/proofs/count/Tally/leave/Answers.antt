use Rattle.reader.proofs.Caps.{none_popped}
use Rattle.reader.proofs.count.Tally.leave.Goals as goal

pub returns-in_default : goal.returns-in_default
returns-in_default c =
    let p = none_popped _ _ _ c.pop.ensures.said c.in_default.is c.pop.ensures.list in
    rw (p.0, p.1)
