use Rattle.std.proofs.Common.{arith}
use Rattle.undo.specs.Works.{back_words, pairs_most}
use Rattle.undo.proofs.words.Words.write_back.Goals as goal

pub shared_ref_as_front-write_back : goal.shared_ref_as_front-write_back
shared_ref_as_front-write_back c = let m = pairs_most c.args.self.now c.requires in omega (arith, c.requires.small)

pub returns : goal.returns
returns c = back_words c.args.self.now c.requires c.args.units c.min-n.result c.write_back.new.cells (omega arith) c.write_back.ensures
