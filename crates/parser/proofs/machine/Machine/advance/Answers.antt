use Rattle.std.proofs.Common.{refl, sym, ◌∙◌}
use Rattle.parser.proofs.Steps.{pushes, pops}
use Rattle.parser.proofs.machine.Machine.advance.Goals as goal

pub returns-else-not-push : goal.returns-else-not-push
returns-else-not-push c = pushes c.args.self.now c.args.t c.args.other _ _ _ c.in-Push.ensures _ _ c.marked-in-Push.ensures (sym c.push.ensures.said ∙ c.if-not-push.false) refl c.push.ensures.list

pub returns-in-Pop : goal.returns-in-Pop
returns-in-Pop c = pops c.args.self.now c.args.t c.args.other _ _ _ c.in-Pop.ensures c.close.ensures
