use Rattle.std.proofs.Common.{◌≡◌, ◌<◌, true, ltb, length, length-take-le, take, Ok, Err, sym, ap, ◌∙◌, arith}
use Rattle.std.proofs.lemmas.List.{get_or_default, drop-set-lt}
use Rattle.std.proofs.lemmas.Result.{err_from_is_err_and}
use Rattle.list.proofs.Fixing.{added_at}
use Rattle.parser.proofs.Reading.{read}
use Rattle.parser.proofs.Steps.{stops, sofar_more, ends, short}
use Rattle.parser.proofs.Viable.{breaks}
use Rattle.parser.proofs.read.parse.Goals as goal

pub returns-in_err-out : goal.returns-in_err-out
returns-in_err-out c =
    let p = err_from_is_err_and c.from_residual.result c.from_residual.ensures.1 in
    record {
      beyond = c.loop-i.invariant.0;
      runs = λ n h. rw (p.1, p.2) (stops c.loop-i.invariant.1 c.loop-i-test.true _ (get_or_default _ _ _ _ c.loop-i-test.true) _ n c.in_err-out.ensures);
      reads = λ n h. rw (p.1, p.2) (breaks c.args.end c.args.toks.now _ (stops c.loop-i.invariant.1 c.loop-i-test.true _ (get_or_default _ _ _ _ c.loop-i-test.true) _ n c.in_err-out.ensures));
    }

pub loop-i-preserved : goal.loop-i-preserved
loop-i-preserved c =
    let out = c.loop-i.out in
    let i = c.loop-i.i in
    let same : length out ≡ length c.args.out.now = c.loop-i.auto.out in
    let less : i < length out = omega (arith, c.loop-i-test.true) in
    let long : length (take i out) ≡ i = length-take-le i out (omega arith) in
    let room : ltb (length (take i out)) (length out) ≡ true = grind arith in (
      drop-set-lt (length c.args.toks.now) out i _ c.loop-i-test.true ∙ c.loop-i.invariant.0,
      sofar_more c.loop-i.invariant.1 c.loop-i-test.true _ (get_or_default _ _ _ _ c.loop-i-test.true) _ _ _ (length out) _ c.else_at.ensures c.in_ok-out.ensures room (added_at out i _ less),
    )

pub returns-then-is_done : goal.returns-then-is_done
returns-then-is_done c =
    let all : c.loop-i.i ≡ length c.args.toks.now = omega (arith, c.loop-i-test.false, c.loop-i.auto.i-end) in
    let e = ends c.loop-i.invariant.1 c.loop-i-test.false (sym c.if-is_done.ensures) ∙ ap (λ k. Ok (take k c.loop-i.out)) all in
    record { beyond = c.loop-i.invariant.0; runs = λ n h. e; reads = λ n h. read c.args.end c.args.toks.now _ e }

pub returns-else-is_done : goal.returns-else-is_done
returns-else-is_done c =
    let e = short c.loop-i.invariant.1 c.loop-i-test.false (sym c.if-is_done.ensures) ∙ ap Err (sym c.at-else-is_done.ensures) in
    record { beyond = c.loop-i.invariant.0; runs = λ n h. e; reads = λ n h. breaks c.args.end c.args.toks.now _ e }
