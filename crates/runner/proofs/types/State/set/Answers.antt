use Rattle.std.proofs.Common.{◌≡◌, ◌+◌, true, false, sym, refl, ap, ◌∙◌, rules}
use Rattle.script.specs.declared.row.Role.{Role}
use Rattle.script.specs.declared.row.Role.TheVariants as role
use Rattle.script.specs.Roles.{is}
use Rattle.place.specs.Rows.{row_at}
use Rattle.reader.specs.Holding.{rows_in}
use Rattle.runner.proofs.types.State.set.Goals as goal

-- the row after the target's sign is that of an `in`
pub returns-in-InWord-clause-exact : goal.returns-in-InWord-clause-exact
returns-in-InWord-clause-exact g c =
    let is_in : is (row_at (rows_in c.args.job.now.script) (c.args.row + 2)).role role.InWord ≡ true = ap (λ (r : Role). is r role.InWord) (sym c.role_at.ensures ∙ c.in-InWord.is) in
    rw (is_in, c.free.ensures, c.read.ensures.stands, c.read.ensures.listed, c.take-reading.ensures (g.L.Journal.room c.args.list.now), c.value_at-channel.ensures) refl

pub returns-in_default-clause-exact : goal.returns-in_default-clause-exact
returns-in_default-clause-exact g c =
    let not_in : is (row_at (rows_in c.args.job.now.script) (c.args.row + 2)).role role.InWord ≡ false = search rules in
    rw not_in (c.assign.ensures.exact (g.L.Journal.entries c.args.list.now))
