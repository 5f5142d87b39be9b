use Rattle.std.proofs.Common.{◌++◌, take, ap, ◌∙◌}
use Rattle.script.specs.Roles.{declares_cell, declares_local, those}
use Rattle.reader.proofs.Listing.{take_take_append}
use Rattle.reader.proofs.stages.names_of.Goals as goal

pub returns-clause-list : goal.returns-clause-list
returns-clause-list c =
    c.add.ensures.list declares_local (λ r b e. e.1)
    ∙ ap (λ l. take 128 (l ++ those declares_local c.args.rows.now)) c.cells_of-names.ensures.list
    ∙ take_take_append 128 (those declares_cell c.args.rows.now) (those declares_local c.args.rows.now)
