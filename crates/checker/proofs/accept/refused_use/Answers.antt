use Rattle.std.proofs.Common.{length, ap, ◌∙◌, arith, length-take}
use Rattle.reader.specs.Holding.{rows_in, syntax}
use Rattle.checker.specs.Limits.{shallow, numbered}
use Rattle.checker.proofs.Within.{within_16, none_nested, within_128}
use Rattle.checker.proofs.accept.refused_use.Goals as goal

pub returns : goal.returns
returns c =
    let s = c.args.script.now in
    let e = c.rows.ensures in
    c.first_refused.ensures (syntax s) (e ∙ s.whole)
    (omega (arith, ap length e, length-take s.len s.rows, s.short))
    (ap (shallow 0) e ∙ within_16 0 (rows_in s) (none_nested _ s.nested))
    (ap numbered e ∙ within_128 (rows_in s) s.fits)
