use Rattle.std.proofs.Common.{take, Ok, sym, ap, ◌∙◌}
use Rattle.std.proofs.lemmas.Result.{err_from_is_err_and}
use Rattle.lexer.proofs.Asked.{at_4, at_end}
use Rattle.lexer.proofs.tokens.Tokens.read.Goals as goal

pub returns-in_err-count : goal.returns-in_err-count
returns-in_err-count c =
    let p = err_from_is_err_and c.from_residual-in_err-count.result c.from_residual-in_err-count.ensures.1 in
    rw (p.1, p.2) (at_4 c.args.text.now c.in_ok-size.ensures (take c.in_ok-len.len c.read_tokens.new.out) c.in_ok-len.ensures.table c.in_ok-lengths.ensures c.in_err-count.field-0.0 c.in_err-count.ensures)

pub returns : goal.returns
returns c =
    at_end c.args.text.now c.in_ok-size.ensures (take c.in_ok-len.len c.read_tokens.new.out) c.in_ok-len.ensures.table c.in_ok-lengths.ensures c.in_ok-count.ensures
    ∙ ap Ok (sym c.filled.ensures)
