use Rattle.std.proofs.Common.{◌≡◌, ◌<◌, true, ltb, List, length, length-take-le, take, ap, ◌∙◌, subst, inl, inr, arith}
use Rattle.std.proofs.lemmas.Result.{err_from_is_err_and}
use Rattle.list.specs.Entries.{added}
use Rattle.std.proofs.lemmas.List.{take_all}
use Rattle.script.specs.declared.token.Tok.{Tok}
use Rattle.lexer.specs.Places.{Full}
use Rattle.list.proofs.Fixing.{added_at}
use Rattle.lexer.proofs.Places.{tokens_inside, tokens_rising}
use Rattle.lexer.proofs.Sofar.{sofar_end, sofar_stray, sofar_full, sofar_more}
use Rattle.lexer.proofs.table.read_tokens.Goals as goal

pub loop-token-preserved : goal.loop-token-preserved
loop-token-preserved c =
    let out = c.loop-token.out in
    let n = c.loop-token.n in
    let same : length out ≡ length c.args.out.now = c.loop-token.auto.out in
    let less : n < length out = omega (arith, c.if-n-out.false) in
    let long : length (take n out) ≡ n = length-take-le n out (omega arith) in
    let room : ltb (length (take n out)) (length c.args.out.now) ≡ true = grind arith in (
      omega arith,
      sofar_more c.loop-token.invariant.1 _ _ _ c.in-Some.is c.in_ok-token.ensures.read _ _ _ c.in_ok-token.ensures.text c.record.ensures room
          (added_at out n c.record.result less ∙ ap (λ k. added (take n out) k c.record.result) same),
    )

pub returns-then-n-out-clause-full : goal.returns-then-n-out-clause-full
returns-then-n-out-clause-full c =
    let out = c.loop-token.out in
    let all = take_all c.loop-token.n out (omega (arith, c.if-n-out.true)) in
    inr (subst (λ (ts : List Tok). Full c.args.text.now ts c.at.result) all (sofar_full c.loop-token.invariant.1 _ _ _ c.in-Some.is c.in_ok-token.ensures.read _ c.at.ensures))

pub returns-in_err-token : goal.returns-in_err-token
returns-in_err-token c =
    let p = err_from_is_err_and c.from_residual.result c.from_residual.ensures.1 in
    let all = sofar_stray c.loop-token.invariant.1 _ c.in_err-token.field-0.0 c.in_err-token.ensures.read in
    rw (p.1, p.2) (record { table = λ _. all; full = inl all; count = tt; inside = tt; rising = tt })

pub returns : goal.returns
returns c =
    let s = c.args.text.now in
    let n = c.loop-token.n in
    let so = c.loop-token.invariant.1 in
    let all = sofar_end so _ _ c.in_default.is c.in_ok-token.ensures.read in
    let text : length c.loop-token.lexer.text.now ≡ length s = ap length so.text in
    let same : length c.loop-token.out ≡ length c.args.out.now = c.loop-token.auto.out in
    let long : length (take n c.loop-token.out) ≡ n = length-take-le n c.loop-token.out (omega (arith, c.loop-token.invariant.0)) in
    record {
      table = all;
      full = tt;
      count = omega (arith, c.loop-token.lexer.ok, so.count, c.loop-token.invariant.0);
      inside = tokens_inside s _ all;
      rising = tokens_rising s _ all;
    }
