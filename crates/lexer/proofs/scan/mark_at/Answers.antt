use Rattle.std.proofs.Common.{rules, ◌≡◌, ◌+◌, ◌-◌, ◌∙◌, length, take, drop, sym, arith}
use Rattle.std.specs.Option.{option_map}
use Rattle.script.specs.Tokens.{tok}
use Rattle.lexer.specs.Plain.{plain_if, sym_of_mark}
use Rattle.lexer.proofs.Begun.{same_at, same_within, same_next, not_same, marked_at}
use Rattle.lexer.proofs.scan.mark_at.Goals as goal

pub returns-then-is_same-clause-value : goal.returns-then-is_same-clause-value
returns-then-is_same-clause-value c =
    let s = c.args.text.now in
    let i = c.args.start in
    let two : i + 2 - i ≡ 2 = omega arith in
    same_at s i (i + 2 - i) two (same_within s i (sym c.if-is_same.ensures)) (same_next s i (sym c.if-is_same.ensures))

pub returns-clause-value : goal.returns-clause-value
returns-clause-value c =
    let s = c.args.text.now in
    let i = c.args.start in
    let one : i + 1 - i ≡ 1 = omega arith in
    let w = take (i + 1 - i) (drop i s) in
    let e : plain_if c.map.result i ≡ option_map (λ _. tok (sym_of_mark w) i (length w) 0) c.mark_sym.result = search rules in
    e ∙ marked_at s i (i + 1 - i) c.mark_sym.result one c.requires (not_same s i (sym c.if-is_same.ensures)) c.mark_sym.ensures
