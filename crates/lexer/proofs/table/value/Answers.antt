use Rattle.std.proofs.Common.{rules, ◌≡◌, ◌+◌, ◌-◌, ◌*◌, min, ◌∙◌, arith}
use Rattle.std.specs.List.{fold}
use Rattle.lexer.proofs.Decimal.{folded}
use Rattle.lexer.proofs.table.value.Goals as goal

pub returns : goal.returns
returns c =
    let e : c.fold.result ≡ fold (λ m d. min (m * 10 + (d - 48)) 2147483648) 0 c.args.digits.now = search rules in
    e ∙ folded 0 c.args.digits.now (omega arith)
