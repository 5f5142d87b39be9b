-- Ticks, power calls and failures stay within their limits.
use Rattle.std.proofs.Common.{◌≡◌, ℕ, ◌+◌, ◌-◌, ◌<◌, ◌≤◌, Bool, true, false, cond, ltb, leb, List, Some, None, Option, refl, ap, ◌∙◌, arith}
use Rattle.memory.specs.Calls.{Mend}
use Rattle.memory.specs.Model.{Model, Lawful}
use Rattle.runs.specs.declared.types.Call.{Call}
use Rattle.runs.specs.Machine.{State, Job, step, power_of}
use Rattle.runs.specs.Calls.{why_not, after_calls}
use Rattle.runs.specs.Steady.{Steady, Resting, Counted}
use Rattle.runs.proofs.Runs.{StepsKeep, power_leads, calls_keep}
use Rattle.runs.proofs.Moves.{Clock, clock, Outcome, done, cut}
use Rattle.runs.proofs.Steadied.{tidied_steady, ticked_steady, step_steady, step_words, steady_outcome}
use Rattle.runs.proofs.Rested.{called_steady, mended_steady, power_steady}

no_some : {A : Type 0} {P : Type 0} {x : A} → Some x ≡ None → P
no_some e = let z : ◌≡◌ {A = ℕ} 0 1 = cc in absurd (omega arith)

-- what an accepted power call meets
pub record Accepted {W : Type 0} (s : State W) (units off : ℕ) : Type 0 where
  pub running : s.ended ≡ false
  pub power : units ≤ 100000000
  pub tick : s.tick + units + off ≤ 2000000000
  pub calls : s.calls < 1000000

all_passed : (a b c d : Bool) → cond {A = Option ℕ} a (Some 20) (cond b (cond c (cond d None (Some 23)) (Some 22)) (Some 21)) ≡ None →
    (a ≡ false) × (b ≡ true) × (c ≡ true) × (d ≡ true)
all_passed true b c d e = no_some e
all_passed false false c d e = no_some e
all_passed false true false d e = no_some e
all_passed false true true false e = no_some e
all_passed false true true true e = (refl, refl, refl, refl)

pub accepted : {W : Type 0} (s : State W) (units off : ℕ) → why_not s units off ≡ None → Accepted s units off
accepted s units off e =
    let h = all_passed s.ended (leb units 100000000) (leb (s.tick + units + off) 2000000000) (ltb s.calls 1000000) e in
    let b = h.1 in
    let c = h.2 in
    let d = h.3 in
    record { running = h.0; power = grind arith; tick = grind arith; calls = grind arith }

module _ (m : Model) (law : Lawful m) (j : Job) (S R c : ℕ) where
  abbrev T : Type 0
  T = State m.State

  -- during the power call at s₀, with u units left, and after it
  record During (s₀ : T) (units u : ℕ) (s : T) : Type 0 where
    steady : Steady m j S R c s
    tick : s.tick + u ≤ s₀.tick + units
    calls : s.calls ≡ s₀.calls + 1
    failures : s.failures ≡ s₀.failures

  pub record AfterCall (s₀ : T) (units off : ℕ) (s : T) : Type 0 where
    pub tick : s.tick ≤ s₀.tick + units + off
    pub calls : s.calls ≡ s₀.calls + 1
    pub failures : s.failures ≤ s₀.failures + 1

  outcome_alike : (s : T) (u : ℕ) → Outcome m j s.at.left s u (step m j s u) → clock (step m j s u).state ≡ clock s
  outcome_alike s u (done d) = d.alike
  outcome_alike s u (cut d) = d.alike

  during_goes : (s₀ : T) (units off : ℕ) → StepsKeep m j off (λ u s. During s₀ units u s) (λ s. AfterCall s₀ units off s)
  during_goes s₀ units off = record {
    tidies = λ u s h. record { steady = tidied_steady m law j S R c s h.steady; tick = h.tick; calls = h.calls; failures = h.failures };
    steps = λ u s h r more.
        let a = outcome_alike s (u - 1) (steady_outcome m law j S R c s (u - 1) h.steady r) in
        let w = step_words m law j S R c s (u - 1) h.steady r in
        record {
          steady = ticked_steady m law j S R c _ _ (step_steady m law j S R c s (u - 1) h.steady r);
          tick = omega (arith, ap (λ (k : Clock). k.tick) a, w, h.tick);
          calls = ap (λ (k : Clock). k.calls) a ∙ h.calls;
          failures = ap (λ (k : Clock). k.failures) a ∙ h.failures;
        };
    ends = λ u s h e. record { tick = omega (arith, h.tick); calls = h.calls; failures = omega (arith, h.failures) };
    fails = λ s h r. record { tick = omega (arith, h.tick); calls = h.calls; failures = omega (arith, h.failures) };
  }

  -- an accepted power call
  pub power_counts : (units off : ℕ) (s : T) → Resting m j S R c s → why_not s units off ≡ None → AfterCall s units off (power_of m j units off s)
  power_counts units off s h e =
      let n = (accepted s units off e).running in
      let w = (law.rules s.memory Mend units h.fine refl).within in
      power_leads m j (λ u t. During s units u t) (λ t. AfterCall s units off t) units off s (record {
        goes = during_goes s units off;
        starts = λ o. record { steady = called_steady m law j S R c s h n o; tick = omega arith; calls = refl; failures = refl };
        mends = λ o d. record { steady = mended_steady m law j S R c units s h n d; tick = omega (arith, w); calls = refl; failures = refl };
        breaks = λ o d. record { tick = omega (arith, w); calls = refl; failures = omega arith };
      })

  pub power_tick : (units off : ℕ) (s : T) → Resting m j S R c s → why_not s units off ≡ None → (power_of m j units off s).tick ≤ s.tick + units + off
  power_tick units off s h e = (power_counts units off s h e).tick

  pub power_counted : (units off : ℕ) (s : T) → Resting m j S R c s → Counted s → why_not s units off ≡ None → Counted (power_of m j units off s)
  power_counted units off s h k e =
      let a = accepted s units off e in
      let b = power_counts units off s h e in
      record { tick = omega (arith, a.tick, b.tick); calls = omega (arith, a.calls, b.calls); failures = omega (arith, b.calls, b.failures, k.failures) }

  pub calls_counted : (cs : List Call) (s : T) → Resting m j S R c s → Counted s → Counted (after_calls m j cs s)
  calls_counted cs s h k =
      (calls_keep m j (λ t. Resting m j S R c t × Counted t)
      (λ units off t q e. (power_steady m law j S R c units off t q.0 e, power_counted units off t q.0 q.1 e)) cs s (h, k)).1
