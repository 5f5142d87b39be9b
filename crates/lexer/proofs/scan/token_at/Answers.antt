use Rattle.std.proofs.Common.{rules, sym, ◌∙◌}
use Rattle.script.specs.Tokens.{digit, part}
use Rattle.lexer.proofs.Begun.{number_at, word_at, mark_at}
use Rattle.lexer.proofs.scan.token_at.Goals as goal

pub returns-then-is_digit-clause-value : goal.returns-then-is_digit-clause-value
returns-then-is_digit-clause-value c =
    number_at c.args.text.now c.args.start c.run_len.result c.requires (c.run_len.ensures.value digit (λ b r h. search rules)) (sym c.if-is_digit.ensures)

pub returns-then-is_part-clause-value : goal.returns-then-is_part-clause-value
returns-then-is_part-clause-value c =
    word_at c.args.text.now c.args.start c.run_len-then-is_part.result c.requires (c.run_len-then-is_part.ensures.value part (λ b r h. search rules)) (sym c.if-is_digit.ensures) (sym c.if-is_part.ensures)

pub returns-else-is_part-clause-value : goal.returns-else-is_part-clause-value
returns-else-is_part-clause-value c = c.mark_at.ensures.value ∙ mark_at c.args.text.now c.args.start (sym c.if-is_digit.ensures) (sym c.if-is_part.ensures)
