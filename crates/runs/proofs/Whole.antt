-- After any calls a run follows the unbroken run, with the kept cells.
use Rattle.std.proofs.Common.{◌≡◌, ℕ, ◌+◌, ◌-◌, ◌<◌, Bool, true, false, cond, ◌⊎◌, List, [], ◌∷◌, ℤ, None, sym, refl, ap, ◌∙◌, subst, inl, inr, arith}
use Rattle.memory.specs.Meaning.{Meaning}
use Rattle.memory.specs.Calls.{Mend}
use Rattle.memory.specs.Model.{Model, Lawful}
use Rattle.runs.specs.declared.types.Call.{Call}
use Rattle.runs.specs.Machine.{Item, Point, State, Job, Tidy, tidied_state, no_step, ticked, Stepped, step, power_of}
use Rattle.runs.specs.Calls.{why_not, after_calls}
use Rattle.runs.specs.Steady.{ready, Steady, Resting}
use Rattle.runs.proofs.Runs.{split, not_both, not_ended, ready_tidied, StepsKeep, CallLeads, power_leads, calls_keep}
use Rattle.runs.proofs.Moves.{Outcome, done, cut}
use Rattle.runs.proofs.Steadied.{tidied_steady, ticked_steady, steady_outcome, step_steady}
use Rattle.runs.proofs.Rested.{failed_steady, ended_steady, called_steady, mended_steady, unmended_steady}
use Rattle.runs.proofs.Follows.{Follows, tidied_follows, moves_follows, moves_saved}

ready_some : (is : List Item) → no_step is ≡ true → ready is ≡ true → ⊥
ready_some [] e r = not_both (sym r)
ready_some (i ∷ is) e r = not_both (sym e)

module _ (m : Model) (law : Lawful m) (j : Job) (S R c : ℕ) (first : List ℤ) where
  abbrev T : Type 0
  T = State m.State

  abbrev means : T → Meaning
  means s = m.means s.memory

  -- inside a power call, with u units left: a failure would leave the run at a point that follows with the kept cells, and unless a cut
  -- step has spent all units, the run itself follows with the current ones
  record Live (u : ℕ) (s : T) : Type 0 where
    steady : Steady m j S R c s
    rest : Follows j first (cond (means s).is_open s.saved s.at) (means s).kept
    live : Follows j first s.at (means s).current ⊎ ((u ≡ 0) × (ready s.at.left ≡ true))

  -- between power calls
  pub record Rest (s : T) : Type 0 where
    pub resting : Resting m j S R c s
    pub rest : Follows j first s.at (means s).kept

  tidied_live : (u : ℕ) (s : T) → Live u s → Live u (tidied_state s)
  tidied_live u s h = record {
    steady = tidied_steady m law j S R c s h.steady;
    rest = by_rest (means s).is_open h.rest;
    live = by_live h.live;
  }
    where
      by_rest : (b : Bool) → Follows j first (cond b s.saved s.at) (means s).kept → Follows j first (cond b s.saved (tidied_state s).at) (means s).kept
      by_rest true f = f
      by_rest false f = tidied_follows j first s.at.left s.at.behind s.at.locals _ s.at.list _ f

      by_live : Follows j first s.at (means s).current ⊎ ((u ≡ 0) × (ready s.at.left ≡ true)) →
          Follows j first (tidied_state s).at (means s).current ⊎ ((u ≡ 0) × (ready (tidied_state s).at.left ≡ true))
      by_live (inl f) = inl (tidied_follows j first s.at.left s.at.behind s.at.locals _ s.at.list _ f)
      by_live (inr f) = inr (f.0, ap (λ (t : Tidy). ready t.left) (ready_tidied s.at.left s.at.behind f.1) ∙ f.1)

  -- where the memory is open or not, a failure leaves a point that follows
  rest_of : (s : T) → m.fine s.memory → Follows j first s.at (means s).current →
      ((means s).is_open ≡ true → Follows j first s.saved (means s).kept) → Follows j first (cond (means s).is_open s.saved s.at) (means s).kept
  rest_of s ok f g =
      split (λ (p : Point). Follows j first p (means s).kept) (means s).is_open g
      (λ o. subst (Follows j first s.at) (sym ((law.sound s.memory ok).same o)) f)

  saved_of : (s : T) → Follows j first (cond (means s).is_open s.saved s.at) (means s).kept → (means s).is_open ≡ true → Follows j first s.saved (means s).kept
  saved_of s f o = subst (λ (b : Bool). Follows j first (cond b s.saved s.at) (means s).kept) o f

  step_live : (u : ℕ) (s : T) → Live u s → ready s.at.left ≡ true → 0 < u →
      Live (u - (1 + (step m j s (u - 1)).words)) (ticked (1 + (step m j s (u - 1)).words) (step m j s (u - 1)).state)
  step_live u s h r more = by (step m j s (u - 1)) h.live (steady_outcome m law j S R c s (u - 1) h.steady r) (step_steady m law j S R c s (u - 1) h.steady r)
    where
      by : (o : Stepped m.State) → Follows j first s.at (means s).current ⊎ ((u ≡ 0) × (ready s.at.left ≡ true)) →
          Outcome m j s.at.left s (u - 1) o → Steady m j S R c o.state → Live (u - (1 + o.words)) (ticked (1 + o.words) o.state)
      by o (inr f) d k = absurd (omega (arith, f.0))
      by o (inl f) (done d) k =
          let g : Follows j first o.state.at (means o.state).current = moves_follows j first d.moves f in
          record {
            steady = ticked_steady m law j S R c _ _ k;
            rest = rest_of o.state d.fine g (moves_saved j first (law.sound s.memory h.steady.fine) d.moves f (saved_of s h.rest));
            live = inl g;
          }
      by o (inl f) (cut d) k =
          let e : cond (means o.state).is_open o.state.saved o.state.at ≡ cond (means s).is_open s.saved s.at =
          ap (λ (b : Bool). cond b o.state.saved o.state.at) d.stays ∙ ap (λ (p : Point). cond (means s).is_open p o.state.at) d.saved
          ∙ ap (λ (p : Point). cond (means s).is_open s.saved p) d.at in
          record {
            steady = ticked_steady m law j S R c _ _ k;
            rest = subst (λ (p : Point). Follows j first p (means o.state).kept) (sym e)
                (subst (λ (cs : List ℤ). Follows j first (cond (means s).is_open s.saved s.at) cs) (sym d.kept) h.rest);
            live = inr (omega (arith, d.spends), ap (λ (p : Point). ready p.left) d.at ∙ r);
          }

  live_goes : (off : ℕ) → StepsKeep m j off (λ u s. Live u s) (λ s. Rest s)
  live_goes off = record {
    tidies = tidied_live;
    steps = step_live;
    ends = λ u s h e. let k = ended_steady m law j S R c s h.steady e in record { resting = k; rest = at_end s h.steady.fine (k.over refl).1 e h.live };
    fails = λ s h r. record { resting = failed_steady m law j S R c off s h.steady; rest = h.rest };
  }
    where
      at_end : {u : ℕ} (s : T) → m.fine s.memory → (means s).is_open ≡ false → no_step s.at.left ≡ true →
          Follows j first s.at (means s).current ⊎ ((u ≡ 0) × (ready s.at.left ≡ true)) → Follows j first s.at (means s).kept
      at_end s ok o e (inl f) = subst (Follows j first s.at) (sym ((law.sound s.memory ok).same o)) f
      at_end s ok o e (inr f) = absurd (ready_some s.at.left e f.1)

  live_leads : (units off : ℕ) (s : T) → Rest s → why_not s units off ≡ None → CallLeads m j units off s (λ u t. Live u t) (λ t. Rest t)
  live_leads units off s h e =
      let k = h.resting in
      let n = not_ended s units off e in
      let o = law.rules s.memory Mend units k.fine refl in
      record {
        goes = live_goes off;
        starts = λ shut. record {
          steady = called_steady m law j S R c s k n shut;
          rest = subst (λ (b : Bool). Follows j first (cond b s.saved s.at) (means s).kept) (sym shut) h.rest;
          live = inl (subst (Follows j first s.at) ((law.sound s.memory k.fine).same shut) h.rest);
        };
        mends = λ up d. record {
          steady = mended_steady m law j S R c units s k n d;
          rest = subst (λ (v : Meaning). Follows j first (cond v.is_open s.saved s.at) v.kept) (sym (o.effect d)) h.rest;
          live = inl (subst (λ (v : Meaning). Follows j first s.at v.current) (sym (o.effect d)) h.rest);
        };
        breaks = λ up d. record {
          resting = unmended_steady m law j S R c units off s k n up d;
          rest = subst (λ (b : Bool). Follows j first (cond b s.saved s.at) (m.means (m.act s.memory Mend units).after).kept) (sym (o.stays d ∙ up))
              (subst (λ (cs : List ℤ). Follows j first s.saved cs) (sym (o.keeps d)) (subst (λ (p : Point). Follows j first p (means s).kept) (k.undone up) h.rest));
        };
      }

  -- after any calls
  pub power_rests : (units off : ℕ) (s : T) → Rest s → why_not s units off ≡ None → Rest (power_of m j units off s)
  power_rests units off s h e = power_leads m j (λ u t. Live u t) (λ t. Rest t) units off s (live_leads units off s h e)

  pub calls_rest : (cs : List Call) (s : T) → Rest s → Rest (after_calls m j cs s)
  calls_rest cs s h = calls_keep m j (λ t. Rest t) power_rests cs s h
