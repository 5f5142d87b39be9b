-- An induction over runs: what every step keeps holds after any calls.
use Rattle.std.proofs.Common.{◌≡◌, ℕ, zero, suc, ◌+◌, ◌-◌, ◌<◌, Bool, true, false, cond, not, eqb, List, [], ◌∷◌, Some, None, Option, sym, refl, ap, ◌∙◌, subst, arith}
use Rattle.script.specs.Syntax.{nothing, put, read, fork, turns, region, uses}
use Rattle.memory.specs.Spent.{is_done, written}
use Rattle.memory.specs.Calls.{Mend}
use Rattle.memory.specs.Model.{Model}
use Rattle.runs.specs.declared.types.Call.{Call}
use Rattle.runs.specs.declared.types.Call.TheVariants as call
use Rattle.runs.specs.Behind.{Behind, joined}
use Rattle.runs.specs.Machine.{Item, block, turn, join, close, State, Job, Tidy, tidy, tidied, tidied_state, no_step, with_ended, with_memory, ticked, step, failed, going, called, power_of}
use Rattle.runs.specs.Calls.{why_not, led, after_call, after_calls}
use Rattle.runs.specs.Steady.{ready}

-- both ways of a test
pub split : {A : Type 0} (P : A → Type 0) {x y : A} (b : Bool) → (b ≡ true → P x) → (b ≡ false → P y) → P (cond b x y)
split P true f g = f refl
split P false f g = g refl

pub not_both : {P : Type 0} → true ≡ false → P
not_both e = let z : ◌≡◌ {A = ℕ} 0 1 = cc in absurd (omega arith)

pub eqb_zero : (n : ℕ) → eqb n 0 ≡ true → n ≡ 0
eqb_zero n e = grind arith

pub eqb_more : (n : ℕ) → eqb n 0 ≡ false → 0 < n
eqb_more n e = grind arith

-- what is tidied begins with a step, or is empty
pub tidied_ready : (is : List Item) (β : Behind) → no_step (tidied is β).left ≡ false → ready (tidied is β).left ≡ true
tidied_ready [] β e = not_both e
tidied_ready (block nothing ∷ is) β e = tidied_ready is β e
tidied_ready (block (put x a k) ∷ is) β e = refl
tidied_ready (block (read x c k) ∷ is) β e = refl
tidied_ready (block (fork a b c k) ∷ is) β e = refl
tidied_ready (block (turns n b k) ∷ is) β e = refl
tidied_ready (block (region b k) ∷ is) β e = refl
tidied_ready (block (uses xs k) ∷ is) β e = refl
tidied_ready (turn n b ∷ is) β e =
    split (λ (t : Tidy). no_step t.left ≡ false → ready t.left ≡ true) (eqb n 0) (λ z. tidied_ready is β) (λ z f. ap not z) e
tidied_ready (join xs cs ∷ is) β e = tidied_ready is (joined cs xs β) e
tidied_ready (close o ∷ is) β e = refl

-- what begins with a step is tidied
pub ready_tidied : (is : List Item) (β : Behind) → ready is ≡ true → tidied is β ≡ tidy is β
ready_tidied [] β e = not_both (sym e)
ready_tidied (block nothing ∷ is) β e = not_both (sym e)
ready_tidied (block (put x a k) ∷ is) β e = refl
ready_tidied (block (read x c k) ∷ is) β e = refl
ready_tidied (block (fork a b c k) ∷ is) β e = refl
ready_tidied (block (turns n b k) ∷ is) β e = refl
ready_tidied (block (region b k) ∷ is) β e = refl
ready_tidied (block (uses xs k) ∷ is) β e = refl
ready_tidied (turn n b ∷ is) β e =
    split (λ (t : Tidy). t ≡ tidy (turn n b ∷ is) β) (eqb n 0) (λ z. not_both (sym e ∙ ap not z)) (λ z. refl)
ready_tidied (join xs cs ∷ is) β e = not_both (sym e)
ready_tidied (close o ∷ is) β e = refl

-- an accepted power call finds the script not ended
pub not_ended : {W : Type 0} (s : State W) (units off : ℕ) → why_not s units off ≡ None → s.ended ≡ false
not_ended s units off e = by s.ended refl
  where
    by : (b : Bool) → s.ended ≡ b → s.ended ≡ false
    by true z = let n : ◌≡◌ {A = ℕ} 0 1 = cc in absurd (omega arith)
    by false z = z

module _ (m : Model) (j : Job) where
  abbrev S : Type 0
  S = State m.State

  -- steps in a row, with so many units left, keep P, and come to Q
  pub record StepsKeep (off : ℕ) (P : ℕ → S → Type 0) (Q : S → Type 0) : Type 0 where
    pub tidies : (u : ℕ) (s : S) → P u s → P u (tidied_state s)
    pub steps : (u : ℕ) (s : S) → P u s → ready s.at.left ≡ true → 0 < u →
        P (u - (1 + (step m j s (u - 1)).words)) (ticked (1 + (step m j s (u - 1)).words) (step m j s (u - 1)).state)
    pub ends : (u : ℕ) (s : S) → P u s → no_step s.at.left ≡ true → Q (with_ended s)
    pub fails : (s : S) → P 0 s → ready s.at.left ≡ true → Q (failed m j off s)

  -- the state that a mend with so many units leaves, in the next power call
  abbrev pub after_mend : ℕ → S → S
  after_mend units s = ticked (written (m.act s.memory Mend units).answer) (with_memory (m.act s.memory Mend units).after (called m j s))

  -- what a power call at s needs, to come to Q by P
  pub record CallLeads (units off : ℕ) (s : S) (P : ℕ → S → Type 0) (Q : S → Type 0) : Type 0 where
    pub goes : StepsKeep off P Q
    pub starts : (m.means s.memory).is_open ≡ false → P units (called m j s)
    pub mends : (m.means s.memory).is_open ≡ true → is_done (m.act s.memory Mend units).answer ≡ true →
        P (units - written (m.act s.memory Mend units).answer) (after_mend units s)
    pub breaks : (m.means s.memory).is_open ≡ true → is_done (m.act s.memory Mend units).answer ≡ false → Q (failed m j off (after_mend units s))

  module _ (P : ℕ → S → Type 0) (Q : S → Type 0) where
    pub going_keeps : (off : ℕ) → StepsKeep off P Q → (f u : ℕ) (s : S) → u < f → P u s → Q (going m j f off u s)
    unfolding going
    going_keeps off k zero u s lt p = absurd (omega arith)
    going_keeps off k (suc f) u s lt p =
        let t = tidied_state s in
        let q : P u t = k.tidies u s p in
        split Q (no_step t.at.left) (λ e. k.ends u t q e)
        (λ e. let r = tidied_ready s.at.left s.at.behind e in
        split Q (eqb u 0)
        (λ z. k.fails t (subst (λ (v : ℕ). P v t) (eqb_zero u z) q) r)
        (λ z. let more : 0 < u = eqb_more u z in going_keeps off k f _ _ (omega arith) (k.steps u t q r more)))

    pub power_leads : (units off : ℕ) (s : S) → CallLeads units off s P Q → Q (power_of m j units off s)
    power_leads units off s k =
        split Q (m.means s.memory).is_open
        (λ o. split Q (is_done (m.act s.memory Mend units).answer)
        (λ d. going_keeps off k.goes _ _ _ (omega arith) (k.mends o d))
        (λ d. k.breaks o d))
        (λ o. going_keeps off k.goes (suc units) units (called m j s) (omega arith) (k.starts o))

  -- what every accepted power call keeps holds after any calls
  module _ (Q : S → Type 0) where
    led_keeps : (o : Option ℕ) (s t : S) → (o ≡ None → Q t) → Q s → Q (led o t s)
    led_keeps None s t f q = f refl
    led_keeps (Some n) s t f q = q

    pub call_keeps : ((units off : ℕ) (s : S) → Q s → why_not s units off ≡ None → Q (power_of m j units off s)) → (c : Call) (s : S) → Q s → Q (after_call m j c s)
    call_keeps k (call.Power units off) s q = led_keeps (why_not s units off) s (power_of m j units off s) (k units off s q) q
    call_keeps k (call.Cell i) s q = q
    call_keeps k (call.Entry i) s q = q

    pub calls_keep : ((units off : ℕ) (s : S) → Q s → why_not s units off ≡ None → Q (power_of m j units off s)) → (cs : List Call) (s : S) → Q s →
        Q (after_calls m j cs s)
    calls_keep k [] s q = q
    calls_keep k (c ∷ cs) s q = calls_keep k cs (after_call m j c s) (call_keeps k c s q)
