use Rattle.std.proofs.Common.{sym, ap, ◌∙◌}
use Rattle.std.proofs.lemmas.List.{at_drop_all}
use Rattle.checker.specs.Machine.{run}
use Rattle.checker.specs.States.{state_of}
use Rattle.checker.proofs.Stacks.{row_done}
use Rattle.checker.proofs.types.Check.pass.Goals as goal

pub loop-at-preserved : goal.loop-at-preserved
loop-at-preserved c = row_done c.args.rows.now c.loop-at.at _ c.loop-at.self c.act.new.self c.loop-at-test.true c.act.ensures ∙ c.loop-at.invariant

pub returns : goal.returns
returns c =
    let all = c.args.rows.now in
    sym (at_drop_all (λ z. run z (state_of all c.loop-at.self)) all c.loop-at.at c.loop-at-test.false)
    ∙ c.loop-at.invariant ∙ ap (run all) (c.begin.ensures all)
