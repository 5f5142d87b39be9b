use Rattle.std.proofs.Common.{◌≡◌, ℕ, List, length, codes, sym, ap, arith}
use Rattle.std.proofs.lemmas.Slice.Eq.{HasBytesAt, text_from_reads}
use Rattle.script.specs.Tokens.{word}
use Rattle.lexer.proofs.table.word_sym.Goals as goal

spelled : (w p : List ℕ) → length w ≡ length p → HasBytesAt w 0 p → word p ≡ word w
spelled w p n h = ap word (sym (text_from_reads w p n h))

pub returns-in-cell : goal.returns-in-cell
returns-in-cell c = spelled c.args.text.now (codes "cell") (omega arith) (omega arith, (omega arith, (omega arith, (omega arith, tt))))

pub returns-in-main : goal.returns-in-main
returns-in-main c = spelled c.args.text.now (codes "main") (omega arith) (omega arith, (omega arith, (omega arith, (omega arith, tt))))

pub returns-in-else : goal.returns-in-else
returns-in-else c = spelled c.args.text.now (codes "else") (omega arith) (omega arith, (omega arith, (omega arith, (omega arith, tt))))

pub returns-in-fresh : goal.returns-in-fresh
returns-in-fresh c = spelled c.args.text.now (codes "fresh") (omega arith) (omega arith, (omega arith, (omega arith, (omega arith, (omega arith, tt)))))

pub returns-in-repeat : goal.returns-in-repeat
returns-in-repeat c = spelled c.args.text.now (codes "repeat") (omega arith) (omega arith, (omega arith, (omega arith, (omega arith, (omega arith, (omega arith, tt))))))

pub returns-in-atomic : goal.returns-in-atomic
returns-in-atomic c = spelled c.args.text.now (codes "atomic") (omega arith) (omega arith, (omega arith, (omega arith, (omega arith, (omega arith, (omega arith, tt))))))

pub returns-in-together : goal.returns-in-together
returns-in-together c = spelled c.args.text.now (codes "together") (omega arith) (omega arith, (omega arith, (omega arith, (omega arith, (omega arith, (omega arith, (omega arith, (omega arith, tt))))))))
