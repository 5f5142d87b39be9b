use Rattle.reader.proofs.Listing.{pushed}
use Rattle.reader.proofs.names.table.Names.push.Goals as goal

pub returns-clause-list : goal.returns-clause-list
returns-clause-list c = pushed 128 c.args.self.now.list.items c.args.row.now _ c.args.self.now.short c.push.ensures.list
