use Rattle.std.proofs.Common.{◌≡◌, [], ap, ◌∙◌, arith, rules}
use Rattle.std.proofs.lemmas.List.{take_all}
use Rattle.std.specs.List.{fold}
use Rattle.script.specs.Unbroken.{valued}
use Rattle.evaluate.specs.Walk.{At, after, on, blank, finish, worth}
use Rattle.evaluate.proofs.Worth.{worth_rows}
use Rattle.evaluate.proofs.expression.evaluate.Goals as goal

pub returns-clause-value : goal.returns-clause-value
returns-clause-value g c =
    let v = valued c.args.cells (g.M.Memory.model.means (g.M.Memory.state c.args.memory.now)).current c.args.locals.now in
    let rows = c.args.rows.now in
    let gone = c.loop-row.invariant ∙ ap (fold (after v) (on blank [])) (take_all c.loop-row.row-index rows (omega arith)) in
    let walked : c.finish.result ≡ worth v rows = c.finish.ensures ∙ ap (λ (a : At). finish a.here) gone in
    λ e is deep. let all = walked ∙ worth_rows v rows e is deep in search rules
