-- Power calls of a steady run lead from rest to rest: failures, the script's end, the mend, and the run's beginning.
use Rattle.std.proofs.Common.{◌≡◌, ℕ, ◌+◌, ◌-◌, ◌≤◌, Bool, true, false, cond, ◌&&◌, List, [], ◌∷◌, length, take, None, sym, refl, ap, ◌∙◌, subst, arith}
use lib.Seq.{take-length}
use Rattle.script.specs.Steps.{steps, readings, repeats, channels_below}
use Rattle.memory.specs.Meaning.{Meaning}
use Rattle.memory.specs.Spent.{is_done}
use Rattle.memory.specs.Calls.{Mend}
use Rattle.memory.specs.Model.{Model, Lawful}
use Rattle.runs.specs.declared.types.Call.{Call}
use Rattle.runs.specs.Machine.{Item, Point, State, Job, begun, first_point, no_step, with_ended, failed, called, power_of}
use Rattle.runs.specs.Calls.{why_not, after_calls}
use Rattle.runs.specs.Steady.{closings, Within, Steady, Resting}
use Rattle.runs.proofs.Runs.{not_both, not_ended, StepsKeep, CallLeads, after_mend, power_leads, calls_keep}
use Rattle.runs.proofs.Steadied.{tidied_steady, ticked_steady, step_steady}

-- one, where a test passes
abbrev one_if : Bool → ℕ
one_if b = cond b 1 0

no_items : (is : List Item) → no_step is ≡ true → is ≡ []
no_items [] e = refl
no_items (i ∷ is) e = not_both (sym e)

module _ (m : Model) (law : Lawful m) (j : Job) (S R c : ℕ) where
  abbrev T : Type 0
  T = State m.State

  -- a failure
  pub failed_steady : (off : ℕ) (s : T) → Steady m j S R c s → Resting m j S R c (failed m j off s)
  failed_steady off s h = by (m.means s.memory).is_open refl
    where
      by : (b : Bool) → (m.means s.memory).is_open ≡ b →
          Resting m j S R c (record {
            at = cond b s.saved s.at;
            saved = s.saved;
            memory = s.memory;
            tick = s.tick + off;
            calls = s.calls;
            failures = s.failures + 1;
            ended = s.ended;
            made = s.made;
          })
      by true z = record {
        fine = h.fine;
        count = h.count;
        here = h.back;
        back = h.back;
        region = h.outside;
        outside = h.outside;
        begins = take-length s.saved.list;
        undone = λ e. refl;
        over = λ e. not_both (sym e ∙ h.running);
      }
      by false z =
          record {
            fine = h.fine;
            count = h.count;
            here = h.here;
            back = h.back;
            region = h.region ∙ ap one_if z;
            outside = h.outside;
            begins = h.begins;
            undone = λ e. not_both (sym e ∙ z);
            over = λ e. not_both (sym e ∙ h.running);
          }

  -- the script's end
  pub ended_steady : (s : T) → Steady m j S R c s → no_step s.at.left ≡ true → Resting m j S R c (with_ended s)
  ended_steady s h e =
      let z = no_items s.at.left e in
      let k : 0 ≡ one_if (m.means s.memory).is_open = ap closings (sym z) ∙ h.region in
      let shut : (m.means s.memory).is_open ≡ false = by (m.means s.memory).is_open k in
      record {
        fine = h.fine;
        count = h.count;
        here = h.here;
        back = h.back;
        region = ap closings z;
        outside = h.outside;
        begins = h.begins;
        undone = λ o. not_both (sym o ∙ shut);
        over = λ o. (z, shut);
      }
    where
      by : (b : Bool) → 0 ≡ one_if b → b ≡ false
      by true k = absurd (omega arith)
      by false k = refl

  -- an accepted power call of a closed memory
  pub called_steady : (s : T) → Resting m j S R c s → s.ended ≡ false → (m.means s.memory).is_open ≡ false → Steady m j S R c (called m j s)
  called_steady s h n e =
      record {
        fine = h.fine;
        count = h.count;
        here = h.here;
        back = h.back;
        region = h.region ∙ ap one_if (sym e);
        outside = h.outside;
        begins = h.begins;
        running = n;
      }

  -- one that mends
  pub mended_steady : (units : ℕ) (s : T) → Resting m j S R c s → s.ended ≡ false → is_done (m.act s.memory Mend units).answer ≡ true →
      Steady m j S R c (after_mend m j units s)
  mended_steady units s h n e =
      let r = law.rules s.memory Mend units h.fine refl in
      let v = r.effect e in
      record {
        fine = law.stays_fine s.memory Mend units h.fine refl;
        count = ap (λ (y : Meaning). length y.kept) v ∙ h.count;
        here = h.here;
        back = h.back;
        region = h.region ∙ ap (λ (y : Meaning). one_if y.is_open) (sym v);
        outside = h.outside;
        begins = h.begins;
        running = n;
      }

  -- one whose mend is cut
  pub unmended_steady : (units off : ℕ) (s : T) → Resting m j S R c s → s.ended ≡ false → (m.means s.memory).is_open ≡ true →
      is_done (m.act s.memory Mend units).answer ≡ false → Resting m j S R c (failed m j off (after_mend m j units s))
  unmended_steady units off s h n o e =
      let r = law.rules s.memory Mend units h.fine refl in
      let v = r.stays e in
      let a : cond (m.means (m.act s.memory Mend units).after).is_open s.saved s.at ≡ s.saved = ap (λ (b : Bool). cond b s.saved s.at) (v ∙ o) in
      record {
        fine = law.stays_fine s.memory Mend units h.fine refl;
        count = ap length (r.keeps e) ∙ h.count;
        here = subst (Within S R c) (sym a) h.back;
        back = h.back;
        region = ap (λ (p : Point). closings p.left) a ∙ h.outside;
        outside = h.outside;
        begins = ap (λ (p : Point). take (length s.saved.list) p.list) a ∙ take-length s.saved.list;
        undone = λ z. a;
        over = λ z. not_both (sym z ∙ n);
      }

  steady_goes : (off : ℕ) → StepsKeep m j off (λ u s. Steady m j S R c s) (λ s. Resting m j S R c s)
  steady_goes off = record {
    tidies = λ u s h. tidied_steady m law j S R c s h;
    steps = λ u s h r more. ticked_steady m law j S R c _ _ (step_steady m law j S R c s (u - 1) h r);
    ends = λ u s h e. ended_steady s h e;
    fails = λ s h r. failed_steady off s h;
  }

  steady_leads : (units off : ℕ) (s : T) → Resting m j S R c s → why_not s units off ≡ None →
      CallLeads m j units off s (λ u s. Steady m j S R c s) (λ s. Resting m j S R c s)
  steady_leads units off s h e =
      let n = not_ended s units off e in
      record { goes = steady_goes off; starts = called_steady s h n; mends = λ o d. mended_steady units s h n d; breaks = unmended_steady units off s h n }

  -- power calls
  pub power_steady : (units off : ℕ) (s : T) → Resting m j S R c s → why_not s units off ≡ None → Resting m j S R c (power_of m j units off s)
  power_steady units off s h e = power_leads m j _ _ units off s (steady_leads units off s h e)

  pub calls_steady : (cs : List Call) (s : T) → Resting m j S R c s → Resting m j S R c (after_calls m j cs s)
  calls_steady cs s h = calls_keep m j (λ t. Resting m j S R c t) power_steady cs s h

  -- a run that has just begun
  pub begun_steady : (w : m.State) → m.fine w → (m.means w).is_open ≡ false → length (m.means w).kept ≡ j.cells → repeats j.main ≡ true →
      channels_below c j.main ≡ true → steps j.main ≤ S → readings j.main ≤ R → Resting m j S R c (begun j w)
  begun_steady w ok shut long rep chan few some =
      let h : Within S R c (first_point j) =
      record { steps = omega arith; readings = omega arith; repeats = ap (λ (b : Bool). b && true) rep; channels = ap (λ (b : Bool). b && true) chan } in
      record {
        fine = ok;
        count = long;
        here = h;
        back = h;
        region = refl;
        outside = refl;
        begins = refl;
        undone = λ o. not_both (sym o ∙ shut);
        over = λ o. not_both (sym o);
      }
