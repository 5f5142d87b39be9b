use Rattle.std.proofs.Common.{arith}
use Rattle.reader.proofs.Asked.{too_many_steps, too_many_readings, both_within}
use Rattle.reader.proofs.stages.ask_bounds.Goals as goal
use Rattle.reader.proofs.stages.ask_bounds.Goals.{then-get-gt1000000-via-then-get-gt1000000, then-get-gt1000000-via-else-get-gt1000000+then-get-gt4096}

pub returns-then-get-gt1000000 : goal.returns-then-get-gt1000000
returns-then-get-gt1000000 c = (
  c.at.ensures,
  elim c.then-get-gt1000000.branch [
    | then-get-gt1000000-via-then-get-gt1000000 w ↦ too_many_steps c.args.rows.now c.requires.0 c.requires.1 _ c.count_all-total.ensures (omega arith)
    | then-get-gt1000000-via-else-get-gt1000000+then-get-gt4096 w ↦ too_many_readings c.args.rows.now c.requires.0 c.requires.1 _ c.count_all-total.ensures (omega arith)
  ],
)

pub returns : goal.returns
returns c = both_within c.args.rows.now c.requires.0 c.requires.1 _ c.count_all-total.ensures (omega arith) (omega arith)
