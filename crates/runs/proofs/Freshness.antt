-- In a run of an accepted script no use is stale: every use, undone ones too, falls in the power call of every reading behind it.
-- Assumes nothing.
use Rattle.std.proofs.Common.{◌≡◌, ℕ, zero, suc, ◌+◌, ◌-◌, ◌<◌, ◌≤◌, Bool, true, false, cond, eqb, ltb, List, [], ◌∷◌, length, replicate, ℤ, Some, None, Option, sym, refl, ap, ◌∙◌, subst, true≢false, arith}
use mathlib.Core.Bool.{false≢true}
use Rattle.std.proofs.lemmas.Bool.{le-ltb}
use Rattle.script.specs.declared.standing.Standing.TheVariants.{Clean}
use Rattle.script.specs.Syntax.{Script, code}
use Rattle.script.specs.Steps.{cells, repeats}
use Rattle.script.specs.Stand.{refused, all_refused}
use Rattle.memory.specs.Meaning.{Meaning}
use Rattle.memory.specs.Spent.{is_done, written}
use Rattle.memory.specs.Calls.{Mend, goal, Obeyed}
use Rattle.memory.specs.Model.{Model, Lawful}
use Rattle.runs.specs.declared.types.Reading.{Reading}
use Rattle.runs.specs.declared.types.Call.{Call}
use Rattle.runs.specs.declared.types.Call.TheVariants as call
use Rattle.runs.specs.Behind.{Used, Fresh, AllIn, earlier, stale}
use Rattle.runs.specs.Machine.{Item, Point, State, Job, job_of, begun, tidied_state, no_step, with_memory, with_ended, ticked, step, failed, continue, going, called, mended, power_of}
use Rattle.runs.specs.Calls.{why_not, led, after_call, after_calls}
use Rattle.runs.specs.Promise.{NeverStale}
use Rattle.runs.proofs.Fits.{fits_start}
use Rattle.runs.proofs.Passes.{Passes, Good, NoJoin, good_next, good_tidied, no_join}
use Rattle.runs.proofs.FreshStep.{Going, step_held}

-- what holds of a run between power calls: where it stands is good outside a region, for what a region had done was put back
pub record Rested (m : Model) (j : Job) (w : m.State) (n : ℕ) (at saved : Point) (made : List Used) : Type 0 where
  pub fine : m.fine w
  pub long : length (m.means w).kept ≡ j.cells
  pub good : Good j.fresh n false at.left at.behind
  pub back : (m.means w).is_open ≡ true → Good j.fresh n false saved.left saved.behind
  pub fresh : Fresh made

abbrev pub Resting : (m : Model) → Job → State m.State → Type 0
Resting m j s = Rested m j s.memory s.calls s.at s.saved s.made

some : (u : ℕ) → eqb u 0 ≡ false → 1 ≤ u
some zero e = absurd (true≢false e)
some (suc u) e = omega arith

module _ (m : Model) (law : Lawful m) (j : Job) where
  -- a failure under way
  failing : (off : ℕ) (s : State m.State) → Going m j s → Resting m j (failed m j off s)
  failing off s h = by (m.means s.memory).is_open refl
    where
      by : (o : Bool) → (m.means s.memory).is_open ≡ o → Rested m j s.memory s.calls (cond o s.saved s.at) s.saved s.made
      by true e = record { fine = h.fine; long = h.long; good = h.points.back e; back = h.points.back; fresh = h.fresh }
      by false e = record {
        fine = h.fine;
        long = h.long;
        good = subst (λ i. Good j.fresh s.calls i s.at.left s.at.behind) e h.points.good;
        back = h.points.back;
        fresh = h.fresh;
      }

  -- a failure in a mend, which had begun where the run rested
  failing_again : (off : ℕ) (s : State m.State) → Resting m j s → Resting m j (failed m j off s)
  failing_again off s h = by (m.means s.memory).is_open refl
    where
      by : (o : Bool) → (m.means s.memory).is_open ≡ o → Rested m j s.memory s.calls (cond o s.saved s.at) s.saved s.made
      by true e = record { fine = h.fine; long = h.long; good = h.back e; back = h.back; fresh = h.fresh }
      by false e = h

  tidying : (s : State m.State) → Going m j s → Going m j (tidied_state s)
  tidying s h = record {
    fine = h.fine;
    long = h.long;
    points = record {
      good = good_tidied j.fresh s.calls (m.means s.memory).is_open s.at.left s.at.behind h.points.good;
      back = h.points.back;
    };
    fresh = h.fresh;
  }

  -- no step is left only outside a region
  ending : (s : State m.State) (is : List Item) → s.at.left ≡ is → no_step is ≡ true → Going m j s → Resting m j s
  ending s [] e z h =
      let o = subst (λ is. Passes j.fresh s.calls (m.means s.memory).is_open h.points.good.tab is) e h.points.good.passes in
      record {
        fine = h.fine;
        long = h.long;
        good = subst (λ i. Good j.fresh s.calls i s.at.left s.at.behind) o h.points.good;
        back = h.points.back;
        fresh = h.fresh;
      }
  ending s (i ∷ is) e z h = absurd (false≢true z)

  -- one step, and then what comes after it
  continuing : (off f u : ℕ) (rest : ℕ → State m.State → State m.State) → ((v : ℕ) (s : State m.State) → v < f → Going m j s → Resting m j (rest v s))
      → u ≤ f → (s : State m.State) → NoJoin s.at.left → Going m j s → Resting m j (continue m j off rest u s)
  continuing off f u rest after few s nj h = by (no_step s.at.left) refl (eqb u 0) refl
    where
      by : (a : Bool) → no_step s.at.left ≡ a → (b : Bool) → eqb u 0 ≡ b
          → Resting m j (cond a (with_ended s) (cond b (failed m j off s) (rest (u - (1 + (step m j s (u - 1)).words)) (ticked (1 + (step m j s (u - 1)).words) (step m j s (u - 1)).state))))
      by true e b c = ending s s.at.left refl e h
      by false e true c = failing off s h
      by false e false c =
          let more = some u c in
          after (u - (1 + (step m j s (u - 1)).words)) (ticked (1 + (step m j s (u - 1)).words) (step m j s (u - 1)).state) (omega arith) (step_held m law j s (u - 1) nj h)

  -- steps in a row, with more fuel than units
  pub going_on : (f off u : ℕ) (s : State m.State) → u < f → Going m j s → Resting m j (going m j f off u s)
  unfolding going
  going_on zero off u s few h = absurd (omega arith)
  going_on (suc f) off u s few h =
      continuing off f u (going m j f off) (going_on f off) (omega arith) (tidied_state s) (no_join s.at.left s.at.behind) (tidying s h)

  -- ---- a power call

  -- with the memory closed, what rested goes on
  starting : (s : State m.State) → (m.means s.memory).is_open ≡ false → Resting m j s → Going m j s
  starting s e h = record {
    fine = h.fine;
    long = h.long;
    points = record { good = subst (λ i. Good j.fresh s.calls i s.at.left s.at.behind) (sym e) h.good; back = h.back };
    fresh = h.fresh;
  }

  calling : (s : State m.State) → Resting m j s → Resting m j (called m j s)
  calling s h = record {
    fine = h.fine;
    long = h.long;
    good = good_next j.fresh s.calls (s.calls + 1) s.at.left s.at.behind h.good;
    back = λ e. good_next j.fresh s.calls (s.calls + 1) s.saved.left s.saved.behind (h.back e);
    fresh = h.fresh;
  }

  -- a mend closes the memory, or is cut and leaves it open
  mending : (units off : ℕ) (s : State m.State) → Resting m j s → Resting m j (mended m j units off s (m.act s.memory Mend units))
  mending units off s h = by (is_done (m.act s.memory Mend units).answer) refl
    where
      after : State m.State
      after = ticked (written (m.act s.memory Mend units).answer) (with_memory (m.act s.memory Mend units).after s)

      r : Obeyed (m.means s.memory) (goal (m.means s.memory) Mend) units (m.act s.memory Mend units).answer (m.means after.memory)
      r = law.rules s.memory Mend units h.fine refl

      rests : length (m.means after.memory).kept ≡ length (m.means s.memory).kept → ((m.means after.memory).is_open ≡ true → (m.means s.memory).is_open ≡ true) → Resting m j after
      rests l o = record {
        fine = law.stays_fine s.memory Mend units h.fine refl;
        long = l ∙ h.long;
        good = h.good;
        back = λ e. h.back (o e);
        fresh = h.fresh;
      }

      by : (d : Bool) → is_done (m.act s.memory Mend units).answer ≡ d
          → Resting m j (cond d (going m j (suc (units - written (m.act s.memory Mend units).answer)) off (units - written (m.act s.memory Mend units).answer) after) (failed m j off after))
      by true e =
          let shut : (m.means after.memory).is_open ≡ false = ap (λ (v : Meaning). v.is_open) (r.effect e) in
          let l = ap (λ (v : Meaning). length v.kept) (r.effect e) in
          going_on _ off _ after (omega arith) (starting after shut (rests l (λ o. absurd (false≢true (sym shut ∙ o)))))
      by false e = failing_again off after (rests (ap length (r.keeps e)) (λ o. sym (r.stays e) ∙ o))

  powering : (units off : ℕ) (s : State m.State) → Resting m j s → Resting m j (power_of m j units off s)
  powering units off s h = by (m.means s.memory).is_open refl
    where
      by : (o : Bool) → (m.means s.memory).is_open ≡ o
          → Resting m j (cond o (mended m j units off (called m j s) (m.act s.memory Mend units)) (going m j (suc units) off units (called m j s)))
      by true e = mending units off (called m j s) (calling s h)
      by false e = going_on (suc units) off units (called m j s) (omega arith) (starting (called m j s) e (calling s h))

  -- ---- any calls

  called_on : (c : Call) (s : State m.State) → Resting m j s → Resting m j (after_call m j c s)
  called_on (call.Power units off) s h = by (why_not s units off)
    where
      by : (o : Option ℕ) → Resting m j (led o (power_of m j units off s) s)
      by None = powering units off s h
      by (Some n) = h
  called_on (call.Cell i) s h = h
  called_on (call.Entry i) s h = h

  pub resting : (cs : List Call) (s : State m.State) → Resting m j s → Resting m j (after_calls m j cs s)
  resting [] s h = h
  resting (c ∷ cs) s h = resting cs (after_call m j c s) (called_on c s h)

  pub begins : (w : m.State) → m.fine w → (m.means w).is_open ≡ false → length (m.means w).kept ≡ j.cells
      → refused j.fresh false j.main (replicate 128 Clean) ≡ [] → repeats j.main ≡ true → Resting m j (begun j w)
  begins w fine shut long none turning = record {
    fine = fine;
    long = long;
    good = record { tab = replicate 128 Clean; fits = fits_start 0 128; passes = record { accepted = none; turning = turning; rest = refl } };
    back = λ e. absurd (false≢true (sym shut ∙ e));
    fresh = tt;
  }

-- ---- the stale count

in_time : (n : ℕ) (rs : List Reading) → AllIn n rs → earlier n rs ≡ false
in_time n [] h = refl
in_time n (r ∷ rs) h = let q : ltb r.call n ≡ false = le-ltb r.call n (omega (arith, h.0)) in rw q (in_time n rs h.1)

fresh_stale : (us : List Used) → Fresh us → stale us ≡ 0
fresh_stale [] h = refl
fresh_stale (u ∷ us) h = rw (in_time u.call u.behind h.0) (fresh_stale us h.1)

-- a run of an accepted script, whose repeats each take a turn, on a closed memory with a cell for each of its cells
pub never_stale : (m : Model) → Lawful m → (s : Script) (v : ℕ → ℕ → ℤ) (w : m.State) → m.fine w → (m.means w).is_open ≡ false → length (m.means w).kept ≡ cells s.decls
    → all_refused s ≡ [] → repeats (code s.main) ≡ true → (cs : List Call) → NeverStale m s v w cs
never_stale m law s v w fine shut long none turning cs =
    let h = resting m law (job_of s v) cs (begun (job_of s v) w) (begins m law (job_of s v) w fine shut long none turning) in
    record { fresh = h.fresh; count = fresh_stale _ h.fresh }
