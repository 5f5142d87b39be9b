-- A power call of at least the need in units ends the script.
use Rattle.std.proofs.Common.{◌≡◌, ℕ, zero, suc, ◌+◌, ◌-◌, ◌*◌, ◌≤◌, true, leb, List, [], ◌∷◌, None, sym, refl, ap, ◌∙◌, mul-le-mul_right, suc-mul, add-one, arith}
use Rattle.script.specs.Syntax.{Code, nothing, put, read, fork, turns, region, uses}
use Rattle.script.specs.Steps.{steps, repeats}
use Rattle.memory.specs.Calls.{Mend}
use Rattle.memory.specs.Model.{Model, Lawful}
use Rattle.runs.specs.Machine.{Item, block, turn, join, close, State, Job, power_of}
use Rattle.runs.specs.Calls.{why_not}
use Rattle.runs.specs.Steady.{ready, steps_left, all_left, Steady, Resting}
use Rattle.runs.proofs.Runs.{not_both, not_ended, StepsKeep, power_leads}
use Rattle.runs.proofs.Moves.{both_0}
use Rattle.runs.proofs.Bounds.{moves_steps, tidied_left}
use Rattle.runs.proofs.Steadied.{tidied_steady, ticked_steady, step_steady, step_done}
use Rattle.runs.proofs.Rested.{called_steady, mended_steady}

-- where a step is left, at least one is counted
block_step_left : (k : Code) (is : List Item) → ready (block k ∷ is) ≡ true → repeats k ≡ true → 1 ≤ steps k
block_step_left nothing is r q = not_both (sym r)
block_step_left (put x e k) is r q = omega arith
block_step_left (read x c k) is r q = omega arith
block_step_left (fork e a b k) is r q = omega arith
block_step_left (turns n b k) is r q = by n.value (both_0 (leb 1 n.value) _ q)
  where
    by : (i : ℕ) → leb 1 i ≡ true → 1 ≤ i * (1 + steps b) + steps k
    by zero e = not_both (sym e)
    by (suc i) e = omega (arith, suc-mul i (1 + steps b))
block_step_left (region b k) is r q = omega arith
block_step_left (uses xs k) is r q = omega arith

pub step_left : (is : List Item) → ready is ≡ true → all_left repeats is ≡ true → 1 ≤ steps_left is
step_left [] r q = not_both (sym r)
step_left (block k ∷ is) r q = omega (arith, block_step_left k is r (both_0 (repeats k) _ q))
step_left (turn zero b ∷ is) r q = not_both (sym r)
step_left (turn (suc i) b ∷ is) r q = omega (arith, suc-mul i (1 + steps b))
step_left (join xs cs ∷ is) r q = not_both (sym r)
step_left (close o ∷ is) r q = omega arith

-- d + 1 times c within u leaves d times c once c is spent
less_left : (c d e u w : ℕ) → d + 1 ≤ e → e * c ≤ u → w ≤ c → d * c ≤ u - w
less_left c d e u w l h k =
    let a : suc d * c ≤ e * c = mul-le-mul_right c (omega arith) in
    omega (arith, a, suc-mul d c)

module _ (m : Model) (law : Lawful m) (j : Job) (S R c : ℕ) where
  abbrev T : Type 0
  T = State m.State

  -- there are units for all the steps that are left
  record Rich (u : ℕ) (s : T) : Type 0 where
    steady : Steady m j S R c s
    rich : steps_left s.at.left * (j.cells + 5) ≤ u

  rich_more : (u : ℕ) (s : T) → Rich u s → ready s.at.left ≡ true → j.cells + 5 ≤ u
  rich_more u s h r =
      let a = step_left s.at.left r h.steady.here.repeats in
      let b : 1 * (j.cells + 5) ≤ steps_left s.at.left * (j.cells + 5) = mul-le-mul_right (j.cells + 5) a in
      omega (arith, b, h.rich)

  rich_goes : (off : ℕ) → StepsKeep m j off (λ u s. Rich u s) (λ s. s.ended ≡ true)
  rich_goes off = record {
    tidies = λ u s h.
        let t = tidied_left s.at.left s.at.behind in
        let a = mul-le-mul_right (j.cells + 5) t.steps in
        record { steady = tidied_steady m law j S R c s h.steady; rich = omega (arith, a, h.rich) };
    steps = λ u s h r more.
        let a = rich_more u s h r in
        let d = step_done m law j S R c s (u - 1) h.steady r (omega (arith, a)) in
        record {
          steady = ticked_steady m law j S R c _ _ (step_steady m law j S R c s (u - 1) h.steady r);
          rich = less_left (j.cells + 5) _ (steps_left s.at.left) u _ (moves_steps d.moves) h.rich (omega (arith, d.few));
        };
    ends = λ u s h e. refl;
    fails = λ s h r. let a = rich_more 0 s h r in absurd (omega (arith, a));
  }

  pub power_enough : (units off : ℕ) (s : T) → Resting m j S R c s → why_not s units off ≡ None → (S + 1) * (j.cells + 5) ≤ units →
      (power_of m j units off s).ended ≡ true
  power_enough units off s h e l =
      let n = not_ended s units off e in
      let o = law.rules s.memory Mend units h.fine refl in
      let k : (S + 1) * (j.cells + 5) ≡ S * (j.cells + 5) + (j.cells + 5) = ap (λ (i : ℕ). i * (j.cells + 5)) (add-one S) ∙ suc-mul S (j.cells + 5) in
      let a = mul-le-mul_right (j.cells + 5) h.here.steps in
      let long = h.count in
      power_leads m j (λ u t. Rich u t) (λ t. t.ended ≡ true) units off s (record {
        goes = rich_goes off;
        starts = λ shut. record { steady = called_steady m law j S R c s h n shut; rich = omega (arith, a, k, l) };
        mends = λ up d. record { steady = mended_steady m law j S R c units s h n d; rich = omega (arith, a, k, l, long, o.few d) };
        breaks = λ up d. absurd (omega (arith, k, l, long, o.short d));
      })
