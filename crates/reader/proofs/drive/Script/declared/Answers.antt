use Rattle.std.proofs.Common.{false, take, ap, ◌∙◌, arith}
use Rattle.reader.specs.Listed.{listed}
use Rattle.reader.specs.Holding.{rows_in}
use Rattle.reader.proofs.Numbers.{all_declared}
use Rattle.reader.proofs.drive.Script.declared.Goals as goal

pub returns : goal.returns
returns c =
    let h = c.args.self.now in
    c.of.ensures ∙ c.as_slice.ensures.value ∙ c.numbers_of.ensures ∙ ap (λ l. take 64 (listed false l)) c.rows.ensures ∙ all_declared (rows_in h) h.whole (omega (arith, h.cells_are, h.few_cells))
