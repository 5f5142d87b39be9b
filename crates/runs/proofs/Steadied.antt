-- Every step keeps a run steady.
use Rattle.std.proofs.Common.{◌≡◌, ℕ, ◌+◌, ◌≤◌, Bool, true, cond, length, take, sym, ap, ◌∙◌, subst, arith}
use Rattle.script.specs.Steps.{repeats, channels_below}
use Rattle.memory.specs.Model.{Model, Lawful}
use Rattle.runs.specs.Machine.{Point, State, Job, tidied_state, ticked, Stepped, step}
use Rattle.runs.specs.Steady.{ready, steps_left, closings, Within, Steady}
use Rattle.runs.proofs.Moves.{Clock, Done, Cut, Outcome, done, cut, step_outcome}
use Rattle.runs.proofs.Bounds.{moves_steps, moves_readings, moves_repeats, moves_channels, moves_region, moves_back, moves_list, moves_count, tidied_left}

-- one, where a test passes
abbrev one_if : Bool → ℕ
one_if b = cond b 1 0

module _ (m : Model) (law : Lawful m) (j : Job) (S R c : ℕ) where
  abbrev T : Type 0
  T = State m.State

  pub tidied_steady : (s : T) → Steady m j S R c s → Steady m j S R c (tidied_state s)
  tidied_steady s h =
      let t = tidied_left s.at.left s.at.behind in
      record {
        fine = h.fine;
        count = h.count;
        here = record {
          steps = omega (arith, t.steps, h.here.steps);
          readings = omega (arith, t.readings, h.here.readings);
          repeats = t.passes repeats h.here.repeats;
          channels = t.passes (channels_below c) h.here.channels;
        };
        back = h.back;
        region = t.closings ∙ h.region;
        outside = h.outside;
        begins = h.begins;
        running = h.running;
      }

  pub ticked_steady : (n : ℕ) (s : T) → Steady m j S R c s → Steady m j S R c (ticked n s)
  ticked_steady n s h =
      record {
        fine = h.fine;
        count = h.count;
        here = h.here;
        back = h.back;
        region = h.region;
        outside = h.outside;
        begins = h.begins;
        running = h.running;
      }

  -- what a step that has a step to do comes to
  pub steady_outcome : (s : T) (u : ℕ) → Steady m j S R c s → ready s.at.left ≡ true → Outcome m j s.at.left s u (step m j s u)
  steady_outcome s u h r = step_outcome m law j s u h.fine h.count s.at.left r h.here.repeats h.region

  -- a point before a region that is within bounds, and outside of any
  abbrev Back : Point → Type 0
  Back q = Within S R c q × (closings q.left ≡ 0)

  done_steady : (s : T) (u : ℕ) (o : Stepped m.State) → Steady m j S R c s → Done m j s.at.left s u o → Steady m j S R c o.state
  done_steady s u o h d =
      let g = d.moves in
      let b : Back o.state.saved = moves_back Back g (h.back, h.outside) (λ z. (h.here, h.region ∙ ap one_if z)) in
      let e = moves_steps g in
      let f = moves_readings g in
      record {
        fine = d.fine;
        count = moves_count (law.sound s.memory h.fine) g ∙ h.count;
        here = record {
          steps = omega (arith, e, h.here.steps);
          readings = omega (arith, f, h.here.readings);
          repeats = moves_repeats g h.here.repeats;
          channels = moves_channels c g h.here.channels;
        };
        back = b.0;
        region = moves_region g h.region;
        outside = b.1;
        begins = moves_list g h.begins;
        running = ap (λ (k : Clock). k.ended) d.alike ∙ h.running;
      }

  cut_steady : (s : T) (u : ℕ) (o : Stepped m.State) → Steady m j S R c s → Cut m j s u o → Steady m j S R c o.state
  cut_steady s u o h d = record {
    fine = d.fine;
    count = ap length d.kept ∙ h.count;
    here = subst (Within S R c) (sym d.at) h.here;
    back = subst (Within S R c) (sym d.saved) h.back;
    region = ap (λ (p : Point). closings p.left) d.at ∙ h.region ∙ ap one_if (sym d.stays);
    outside = ap (λ (p : Point). closings p.left) d.saved ∙ h.outside;
    begins = ap (λ (p : Point). take (length p.list) o.state.at.list) d.saved
        ∙ ap (λ (p : Point). take (length s.saved.list) p.list) d.at ∙ h.begins ∙ ap (λ (p : Point). p.list) (sym d.saved);
    running = ap (λ (k : Clock). k.ended) d.alike ∙ h.running;
  }

  outcome_steady : (s : T) (u : ℕ) (o : Stepped m.State) → Steady m j S R c s → Outcome m j s.at.left s u o → Steady m j S R c o.state
  outcome_steady s u o h (done d) = done_steady s u o h d
  outcome_steady s u o h (cut d) = cut_steady s u o h d

  -- a step, with u units left after its own
  pub step_steady : (s : T) (u : ℕ) → Steady m j S R c s → ready s.at.left ≡ true → Steady m j S R c (step m j s u).state
  step_steady s u h r = outcome_steady s u (step m j s u) h (steady_outcome s u h r)

  -- a step spends no more words than units are left, a done one is one step less, and it is done where n + 4 units are left
  pub step_words : (s : T) (u : ℕ) → Steady m j S R c s → ready s.at.left ≡ true → (step m j s u).words ≤ u
  step_words s u h r = by (steady_outcome s u h r)
    where
      by : Outcome m j s.at.left s u (step m j s u) → (step m j s u).words ≤ u
      by (done d) = d.within
      by (cut d) = omega (arith, d.spends)

  pub step_done : (s : T) (u : ℕ) → Steady m j S R c s → ready s.at.left ≡ true → j.cells + 4 ≤ u → Done m j s.at.left s u (step m j s u)
  step_done s u h r l = by (steady_outcome s u h r)
    where
      by : Outcome m j s.at.left s u (step m j s u) → Done m j s.at.left s u (step m j s u)
      by (done d) = d
      by (cut d) = absurd (omega (arith, d.short))

  pub done_lowers : (s : T) (u : ℕ) (o : Stepped m.State) → Done m j s.at.left s u o → steps_left o.state.at.left + 1 ≤ steps_left s.at.left
  done_lowers s u o d = moves_steps d.moves
