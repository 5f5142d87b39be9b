use Rattle.std.proofs.Common.{List, sym, subst}
use Rattle.std.proofs.lemmas.Result.{err_from_is_err_and}
use Rattle.script.proofs.Answers.{taken, few_tokens}
use Rattle.script.specs.declared.row.Row.{Row}
use Rattle.parser.specs.Reading.{Parses}
use Rattle.parser.proofs.Asked.{at_4, at_5, at_6}
use Rattle.parser.proofs.rows.Rows.parse.Goals as goal

pub returns-in_err-count : goal.returns-in_err-count
returns-in_err-count c =
    let p = err_from_is_err_and c.from_residual.result c.from_residual.ensures.1 in
    rw (p.1, p.2) (at_4 c.args.end c.args.toks.now _ c.in_err-count.ensures)

pub returns-in_err-nesting : goal.returns-in_err-nesting
returns-in_err-nesting c =
    let p = err_from_is_err_and c.from_residual-in_err-nesting.result c.from_residual-in_err-nesting.ensures.1 in
    rw (p.1, p.2) (at_5 c.args.end c.args.toks.now _ c.in_ok-count.ensures c.in_err-nesting.ensures)

pub returns-in_err-parse : goal.returns-in_err-parse
returns-in_err-parse c =
    let p = err_from_is_err_and c.from_residual-in_err-parse.result c.from_residual-in_err-parse.ensures.1 in
    let n = taken 5 _ c.in_ok-nesting.ensures in
    rw (p.1, p.2) (at_6 c.args.end c.args.toks.now _ c.in_ok-count.ensures c.in_ok-nesting.ensures (c.in_err-parse.ensures.reads n (few_tokens c.args.toks.now (taken 4 _ c.in_ok-count.ensures))))

pub returns : goal.returns
returns c =
    let n = taken 5 _ c.in_ok-nesting.ensures in
    let t = taken 4 _ c.in_ok-count.ensures in
    subst (λ (rs : List Row). Parses c.args.toks.now rs) (sym c.filled.ensures) (t, n, c.in_ok-parse.ensures.reads n (few_tokens c.args.toks.now t))
