use Rattle.std.proofs.Common.{refl}
use Rattle.std.proofs.lemmas.Result.{err_from_is_err_and}
use Rattle.parser.proofs.Decoded.{decoded}
use Rattle.reader.proofs.Asked.{one_syntax}
use Rattle.reader.proofs.drive.Script.read.Goals as goal

pub returns-in_err-self : goal.returns-in_err-self
returns-in_err-self c =
    let p = err_from_is_err_and c.from_residual.result c.from_residual.ensures.1 in
    record { answer = rw (p.1, p.2) (c.in_err-self.ensures, refl); one_syntax = one_syntax c.args.text.now; means_back = decoded }

pub returns : goal.returns
returns c = record { answer = c.in_ok-self.ensures; one_syntax = one_syntax c.args.text.now; means_back = decoded }
