use Rattle.std.proofs.Common.{◌≡◌, Bool}
use Rattle.script.specs.declared.row.Role.{Role}
use Rattle.reader.proofs.Listing.{Added}
use Rattle.reader.proofs.names.table.Names.add.Given as goal

abbrev pub invariant-loop-row : goal.invariant-loop-row
invariant-loop-row g l =
    (l.self.text.now ≡ l.initial.self.text.now)
    × ((test : Role → Bool) → ((r : Role) (b : Bool) → goal.F-post g l.wanted r b → b ≡ test r) → Added test l.rows l.initial.self.list.items l.self.list.items l.row-index)
