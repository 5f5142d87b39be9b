use Rattle.evaluate.proofs.Levelled.{closes_none}
use Rattle.evaluate.proofs.level.Levels.close.Goals as goal

pub returns-in_default : goal.returns-in_default
returns-in_default c = closes_none _ c.args.self.now.here c.args.self.now.outer.items c.pop.new.self.items c.in_default.ensures.said c.in_default.ensures.list
