use Rattle.std.proofs.Common.{arith}
use Rattle.undo.specs.Works.{pairs_most}
use Rattle.undo.proofs.log.Undo.numbers.Goals as goal

pub shared_ref_as_front-result : goal.shared_ref_as_front-result
shared_ref_as_front-result c = let l = c.args.self.now.fine in let m = pairs_most c.args.self.now.words l in omega (arith, l.small)
