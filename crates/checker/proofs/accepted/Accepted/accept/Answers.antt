use Rattle.std.proofs.Common.{◌≡◌, sym, ◌∙◌, rules}
use Rattle.script.specs.Faults.{answer}
use Rattle.script.specs.Stand.{all_refused, first_refused}
use Rattle.script.proofs.Answers.{taken}
use Rattle.reader.specs.Holding.{syntax}
use Rattle.checker.proofs.Within.{none_refused}
use Rattle.checker.proofs.Accepting.{region_accepted, apart_names_accepted}
use Rattle.checker.proofs.Mono.{never_lowers, settles_least, last_walks_tell}
use Rattle.checker.proofs.accepted.Accepted.accept.Goals as goal

pub invariant_of-self : goal.invariant_of-self
invariant_of-self c =
    record { passed = none_refused (all_refused (syntax c.args.script.now)) (sym c.refused_use.ensures ∙ taken 13 c.refused_use.result (sym c.in_ok-answer.was ∙ c.answer.ensures)) }

pub returns-in_err-answer : goal.returns-in_err-answer
returns-in_err-answer c =
    let s = syntax c.args.script.now in
    let e : c.from_residual.result ≡ answer 13 (first_refused s) = search rules in
    record {
      verdict = e;
      one_region = region_accepted s _ e;
      apart = apart_names_accepted s _ e;
      never_lowers = never_lowers;
      settles_least = settles_least;
      last_walks = last_walks_tell;
      after = search rules;
    }

pub returns-clause-never_lowers : goal.returns-clause-never_lowers
returns-clause-never_lowers _ = never_lowers

pub returns-clause-settles_least : goal.returns-clause-settles_least
returns-clause-settles_least _ = settles_least

pub returns-clause-last_walks : goal.returns-clause-last_walks
returns-clause-last_walks _ = last_walks_tell
