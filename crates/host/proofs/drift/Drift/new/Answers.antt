use Rattle.std.proofs.Common.{◌≡◌, ◌≤◌, false, true, cond, eqb, leb, List, length, Some, None, Ok, ap, ◌∙◌, arith}
use Rattle.std.proofs.lemmas.List.{take_all}
use Rattle.script.specs.Faults.{unless}
use Rattle.host.specs.declared.table.Rate.{Rate}
use Rattle.host.specs.Drifts.{drift_table}
use Rattle.host.proofs.drift.Drift.new.Goals as goal

right : (rates : List Rate) → false ≡ eqb (length rates) 0 → length rates ≤ 16 → Ok rates ≡ drift_table rates
right rates some few =
    let fits : true ≡ leb (length rates) 16 = grind arith in
    ap (λ b. unless 30 (cond b None (Some 16)) (Ok rates)) fits
    ∙ ap (λ b. unless 30 (cond b (Some 0) (cond (leb (length rates) 16) None (Some 16))) (Ok rates)) some

pub returns : goal.returns
returns c =
    ap Ok (c.of.ensures ∙ take_all 16 c.args.rows.now (omega arith))
    ∙ right c.args.rows.now c.if-is_empty.ensures (omega arith)
