use Rattle.std.proofs.Common.{◌≡◌, ◌-◌, count_by, length, min, take, ap, ◌∙◌, arith, rules}
use Rattle.report.specs.Lines.{is_break}
use Rattle.report.proofs.Breaks.{counted}
use Rattle.report.proofs.spot.locate.Goals as goal

pub returns-clause-line : goal.returns-clause-line
returns-clause-line c =
    let before = c.split_at.result.0.now in
    let at : c.min-at.result ≡ min c.args.place (length c.args.text.now) = search rules in
    let long : length before ≡ c.min-at.result = search rules in
    let all = c.breaks.ensures.value ∙ counted before (c.min-at.result - c.since_break.result) (omega (arith, long, c.since_break.ensures)) ∙ ap (count_by is_break) c.split_at.ensures.front
    ∙ ap (λ k. count_by is_break (take k c.args.text.now)) at in
    omega (arith, all)
