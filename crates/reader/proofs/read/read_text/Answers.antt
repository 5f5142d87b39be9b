use Rattle.std.proofs.Common.{length, sym, subst}
use Rattle.std.proofs.lemmas.Result.{err_from_is_err_and}
use Rattle.parser.specs.Reading.{Parses, Unparsed}
use Rattle.reader.specs.Stages.{Parsed}
use Rattle.reader.proofs.Asked.{is_scanned, not_scanned, is_parsed, not_parsed}
use Rattle.reader.proofs.read.read_text.Goals as goal

pub returns-in_err-tokens : goal.returns-in_err-tokens
returns-in_err-tokens c =
    let p = err_from_is_err_and c.from_residual.result c.from_residual.ensures.1 in
    rw (p.1, p.2) (not_scanned c.args.text.now _ c.in_err-tokens.ensures)

pub returns-in_err-rows : goal.returns-in_err-rows
returns-in_err-rows c =
    let p = err_from_is_err_and c.from_residual-in_err-rows.result c.from_residual-in_err-rows.ensures.1 in
    let so = is_scanned c.args.text.now _ c.in_ok-tokens.ensures in
    rw (p.1, p.2) (not_parsed c.args.text.now _ so c.in_err-rows.field-0.0
    (subst (λ l. Unparsed (length c.args.text.now) l c.in_err-rows.field-0.0) c.all.ensures c.in_err-rows.ensures))

pub build-requires : goal.build-requires
build-requires c =
    let r = c.in_ok-rows.rows in
    let so = is_scanned c.args.text.now _ c.in_ok-tokens.ensures in
    subst (Parsed c.args.text.now) (sym c.all-2.ensures)
    (is_parsed c.args.text.now _ so r.list.items (subst (λ l. Parses l r.list.items) c.all.ensures c.in_ok-rows.ensures))
