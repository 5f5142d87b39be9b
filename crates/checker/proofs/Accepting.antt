-- From the laws of the walk to what `accept` answers. Assumes nothing.
use Rattle.std.proofs.Common.{◌≡◌, ℕ, false, List, [], replicate, Ok, Err, Result, sym, ap, ◌∙◌, subst, inr, MatchResult}
use Rattle.script.specs.declared.fault.Fault.{Fault}
use Rattle.script.specs.declared.standing.Standing.TheVariants.{Clean}
use Rattle.script.specs.Faults.{answer}
use Rattle.script.specs.Syntax.{Script, code}
use Rattle.script.specs.Stand.{refused, least, fresh_in, all_refused, first_refused}
use Rattle.script.proofs.Answers.{refused as refused_by}
use Rattle.reader.specs.declared.drive.Script.{Script as Held}
use Rattle.reader.specs.Holding.{Holds, rows_in, syntax}
use Rattle.checker.specs.declared.accepted.Accepted.{Accepted}
use Rattle.checker.specs.Laws.{OneRegionAccepted, ApartAccepted}
use Rattle.checker.specs.Verdict.{Taken, TurnedDown}
use Rattle.checker.proofs.Inside.{one_region}
use Rattle.checker.proofs.Clean.{apart_accepted}

module _ (s : Script) (r : Result (Unit {0}) Fault) (is : r ≡ answer 13 (first_refused s)) where
  nothing_refused : all_refused s ≡ [] → r ≡ Ok tt
  nothing_refused e = is ∙ ap (λ ps. answer 13 (least ps)) e

  pub region_accepted : OneRegionAccepted s r
  region_accepted b e =
      nothing_refused (ap (λ k. refused (fresh_in s.decls) false k (replicate 128 Clean)) e ∙ one_region (fresh_in s.decls) b)

  pub apart_names_accepted : ApartAccepted s r
  apart_names_accepted apart h = nothing_refused (apart_accepted apart (fresh_in s.decls) (code s.main) h)

-- reading and then accepting puts all thirteen questions
pub both_asked : (text : List ℕ) (before after : Accepted) (h : Held) (r : Result (Unit {0}) Fault) → Holds text (rows_in h) → r ≡ answer 13 (first_refused (syntax h)) → MatchResult r (λ _. after.script ≡ h) (λ _. after ≡ before) → MatchResult r (λ _. Taken text (rows_in after.script)) (λ f. TurnedDown text f × (after ≡ before))
both_asked text before after h (Ok u) holds e a = (subst (λ (x : Held). Holds text (rows_in x)) (sym a) holds, after.passed)
both_asked text before after h (Err f) holds e a = let r = refused_by 13 (first_refused (syntax h)) f e in (inr (rows_in h, holds, r.1, r.0), a)
