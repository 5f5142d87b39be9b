use Rattle.std.proofs.Common.{rules}
use Rattle.script.specs.Tokens.{blank}
use Rattle.lexer.proofs.Begun.{from_end, from_stray, from_token}
use Rattle.lexer.proofs.scan.token_from.Goals as goal

pub returns-then-start-text : goal.returns-then-start-text
returns-then-start-text c = from_end c.args.text.now c.args.at c.run_len.result (c.run_len.ensures.value blank (λ b r h. search rules)) c.if-start-text.true

pub returns-in-None : goal.returns-in-None
returns-in-None c = from_stray c.args.text.now c.args.at c.run_len.result (c.run_len.ensures.value blank (λ b r h. search rules)) c.if-start-text.false _ c.in-None.ensures.value c.at.ensures

pub returns-in-Some : goal.returns-in-Some
returns-in-Some c = from_token c.args.text.now c.args.at c.run_len.result (c.run_len.ensures.value blank (λ b r h. search rules)) c.if-start-text.false c.in-Some.token c.in-Some.ensures.value c.in-Some.ensures.lies
