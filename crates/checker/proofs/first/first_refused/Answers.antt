use Rattle.checker.specs.States.{state_of, tables}
use Rattle.checker.proofs.Whole.{going_first, going_again, going_answer, going_ends}
use Rattle.checker.proofs.first.first_refused.Goals as goal

pub loop-turn-init : goal.loop-turn-init
loop-turn-init c = going_first c.args.rows.now (tables c.new-check.result.entries) c.new-check.ensures

pub loop-turn-preserved : goal.loop-turn-preserved
loop-turn-preserved c =
    going_again c.args.rows.now c.loop-turn._turn (tables c.loop-turn.check.entries) (state_of c.args.rows.now c.pass.new.self) c.loop-turn.invariant c.pass.ensures c.if-not-check.false

pub returns-after-loop-turn : goal.returns-after-loop-turn
returns-after-loop-turn c = going_ends c.args.rows.now c.loop-turn._turn (tables c.loop-turn.check.entries) c.loop-turn.check.first c.loop-turn.invariant c.loop-turn-test.false

pub returns-then-not-check : goal.returns-then-not-check
returns-then-not-check c =
    going_answer c.args.rows.now c.loop-turn._turn (tables c.loop-turn.check.entries) (state_of c.args.rows.now c.pass.new.self) c.loop-turn.invariant c.pass.ensures c.if-not-check.true
