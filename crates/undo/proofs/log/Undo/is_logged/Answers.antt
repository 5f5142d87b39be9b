use Rattle.std.proofs.Common.{arith}
use Rattle.undo.specs.Log.{pairs}
use Rattle.undo.specs.Works.{among_any, pairs_most}
use Rattle.undo.proofs.log.Undo.is_logged.Goals as goal

pub returns : goal.returns
returns c =
    let w = c.args.self.now.words in
    let l = c.args.self.now.fine in
    let m = pairs_most w l in
    let e = among_any (pairs w) w.numbers c.args.i (omega (arith, l.small, l.numbers)) in
    rw (c.contains.ensures.value, c.numbers.ensures) e
