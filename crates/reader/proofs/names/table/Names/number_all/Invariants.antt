use Rattle.std.proofs.Common.{◌≡◌, map, length, take}
use Rattle.script.specs.Names.{numbered}
use Rattle.reader.proofs.names.table.Names.number_all.Given as goal

abbrev pub invariant-loop-i : goal.invariant-loop-i
invariant-loop-i l = (length l.table ≡ 2048) × (take l.i l.table ≡ map (numbered l.self.text.now l.self.list.items) (take l.i l.rows))
