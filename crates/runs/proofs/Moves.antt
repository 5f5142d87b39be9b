-- A step is done, and moves the run on by what its statement says, or it is cut, and leaves the run where it was.
use Rattle.std.proofs.Common.{◌≡◌, ℕ, zero, suc, ◌+◌, ◌-◌, ◌<◌, ◌≤◌, Bool, true, false, cond, not, ◌&&◌, eqb, ltb, leb, List, [], ◌∷◌, ◌++◌, length, set, ℤ, sym, refl, ap, ◌∙◌, subst, arith}
use Rattle.script.specs.Syntax.{Leaf, Expr, Code, nothing, put, read, fork, turns, region, uses}
use Rattle.script.specs.Steps.{repeats}
use Rattle.script.specs.Values.{value}
use Rattle.script.specs.Unbroken.{valued, is_zero}
use Rattle.memory.specs.Meaning.{Meaning, after_put, after_open, after_close}
use Rattle.memory.specs.Spent.{is_done, written}
use Rattle.memory.specs.Calls.{Call, Put, Open, Close, can, goal}
use Rattle.memory.specs.Model.{Model, Lawful}
use Rattle.runs.specs.declared.types.Reading.{Reading}
use Rattle.runs.specs.Behind.{Behind}
use Rattle.runs.specs.Machine.{Item, block, turn, join, close, Point, point, State, Job, Stepped, free, paid, with_memory, worth, taken, turn_step, block_step, step_of}
use Rattle.runs.specs.Steady.{ready, closings, all_left}
use Rattle.runs.proofs.Runs.{split, not_both}

pub both_0 : (a b : Bool) → (a && b) ≡ true → a ≡ true
both_0 true b e = refl
both_0 false b e = e

pub both_1 : (a b : Bool) → (a && b) ≡ true → b ≡ true
both_1 true b e = e
both_1 false b e = not_both (sym e)

-- what a name stands for, at a point and with the current cells of a meaning
abbrev pub worth_at : Job → Point → Meaning → Expr → ℤ
worth_at j p v e = value (valued j.cells v.current p.locals) e

-- the done steps, by the point where the run stands, the point before the region and what the memory means, from what is left to do
pub data Moves (j : Job) (p q : Point) (v : Meaning) : List Item → Point → Point → Meaning → Type 0 where
  puts : {x : Leaf} {e : Expr} {k : Code} {is : List Item} {β : Behind} → x.value < j.cells →
      Moves j p q v (block (put x e k) ∷ is) (point (block k ∷ is) p.locals β p.list) q (after_put v x.value (worth_at j p v e))
  sets : {x : Leaf} {e : Expr} {k : Code} {is : List Item} {β : Behind} → j.cells ≤ x.value →
      Moves j p q v (block (put x e k) ∷ is) (point (block k ∷ is) (set p.locals (x.value - j.cells) (worth_at j p v e)) β p.list) q v
  lists : {x c : Leaf} {k : Code} {is : List Item} {β : Behind} (r : Reading) → r.channel ≡ c.value → r.value ≡ j.value r.channel r.tick →
      Moves j p q v (block (read x c k) ∷ is) (point (block k ∷ is) (set p.locals (x.value - j.cells) r.value) β (p.list ++ r ∷ [])) q v
  forks : {e : Expr} {a b k : Code} {is : List Item} {xs : List ℕ} {rs : List Reading} →
      Moves j p q v (block (fork e a b k) ∷ is) (point (block (cond (is_zero (worth_at j p v e)) b a) ∷ join xs rs ∷ block k ∷ is) p.locals p.behind p.list) q v
  begins : {n : Leaf} {b k : Code} {is : List Item} (i : ℕ) → n.value ≡ suc i →
      Moves j p q v (block (turns n b k) ∷ is) (point (block b ∷ turn i b ∷ block k ∷ is) p.locals p.behind p.list) q v
  again : {b : Code} {is : List Item} (i : ℕ) →
      Moves j p q v (turn (suc i) b ∷ is) (point (block b ∷ turn i b ∷ is) p.locals p.behind p.list) q v
  nests : {b k : Code} {is : List Item} → v.is_open ≡ true →
      Moves j p q v (block (region b k) ∷ is) (point (block b ∷ close false ∷ block k ∷ is) p.locals p.behind p.list) q v
  opens : {b k : Code} {is : List Item} → v.is_open ≡ false →
      Moves j p q v (block (region b k) ∷ is) (point (block b ∷ close true ∷ block k ∷ is) p.locals p.behind p.list) p (after_open v)
  leaves : {is : List Item} →
      Moves j p q v (close false ∷ is) (point is p.locals p.behind p.list) q v
  closes : {is : List Item} → v.is_open ≡ true →
      Moves j p q v (close true ∷ is) (point is p.locals p.behind p.list) q (after_close v)
  skips : {xs : List Leaf} {k : Code} {is : List Item} →
      Moves j p q v (block (uses xs k) ∷ is) (point (block k ∷ is) p.locals p.behind p.list) q v

-- what no step changes: time passes after it, and calls, failures and the end are no steps
pub record Clock : Type 0 where
  pub tick : ℕ
  pub calls : ℕ
  pub failures : ℕ
  pub ended : Bool

abbrev pub clock : {W : Type 0} → State W → Clock
clock s = record { tick = s.tick; calls = s.calls; failures = s.failures; ended = s.ended }

-- a step that was done: it moved the run on
pub record Done (m : Model) (j : Job) (is : List Item) (s : State m.State) (u : ℕ) (o : Stepped m.State) : Type 0 where
  pub moves : Moves j s.at s.saved (m.means s.memory) is o.state.at o.state.saved (m.means o.state.memory)
  pub fine : m.fine o.state.memory
  pub within : o.words ≤ u
  pub few : o.words ≤ j.cells + 4
  pub alike : clock o.state ≡ clock s

-- a step that was cut: it spent all units, and left the run where it was
pub record Cut (m : Model) (j : Job) (s : State m.State) (u : ℕ) (o : Stepped m.State) : Type 0 where
  pub at : o.state.at ≡ s.at
  pub saved : o.state.saved ≡ s.saved
  pub kept : (m.means o.state.memory).kept ≡ (m.means s.memory).kept
  pub stays : (m.means o.state.memory).is_open ≡ (m.means s.memory).is_open
  pub fine : m.fine o.state.memory
  pub spends : o.words ≡ u
  pub short : u < j.cells + 4
  pub alike : clock o.state ≡ clock s

pub data Outcome (m : Model) (j : Job) (is : List Item) (s : State m.State) (u : ℕ) (o : Stepped m.State) : Type 0 where
  done : Done m j is s u o → Outcome m j is s u o
  cut : Cut m j s u o → Outcome m j is s u o

module _ (m : Model) (law : Lawful m) (j : Job) (s : State m.State) (u : ℕ) (ok : m.fine s.memory) (long : length (m.means s.memory).kept ≡ j.cells) where
  -- from here, the done step leads there
  abbrev To : List Item → Point → Point → Meaning → Type 0
  To is p' q' v' = Moves j s.at s.saved (m.means s.memory) is p' q' v'

  -- a step that writes no word
  free_outcome : (is : List Item) (t : State m.State) → t.memory ≡ s.memory → clock t ≡ clock s → To is t.at t.saved (m.means s.memory) →
      Outcome m j is s u (free t)
  free_outcome is t e a g = done (record {
    moves = subst (λ (w : m.State). To is t.at t.saved (m.means w)) (sym e) g;
    fine = subst m.fine (sym e) ok;
    within = omega arith;
    few = omega arith;
    alike = a;
  })

  -- a step that calls the memory
  paid_outcome : (is : List Item) (t t' : State m.State) (a : Call) → can (m.means s.memory) a ≡ true → clock t ≡ clock s → clock t' ≡ clock s →
      t'.at ≡ s.at → t'.saved ≡ s.saved → To is t.at t.saved (goal (m.means s.memory) a) → Outcome m j is s u (paid t t' (m.act s.memory a u))
  paid_outcome is t t' a c l l' ea es g = by (is_done (m.act s.memory a u).answer) refl
    where
      by : (b : Bool) → is_done (m.act s.memory a u).answer ≡ b →
          Outcome m j is s u (record { words = written (m.act s.memory a u).answer; state = with_memory (m.act s.memory a u).after (cond b t t') })
      by true e =
          let o = law.rules s.memory a u ok c in
          done (record {
            moves = subst (λ (v : Meaning). To is t.at t.saved v) (sym (o.effect e)) g;
            fine = law.stays_fine s.memory a u ok c;
            within = o.within;
            few = omega (arith, o.few e);
            alike = l;
          })
      by false e =
          let o = law.rules s.memory a u ok c in
          cut (record {
            at = ea;
            saved = es;
            kept = o.keeps e;
            stays = o.stays e;
            fine = law.stays_fine s.memory a u ok c;
            spends = o.spends e;
            short = omega (arith, o.short e);
            alike = l';
          })

  turn_outcome : (is js : List Item) (n : ℕ) (b : Code) → 0 < n →
      ((i : ℕ) → n ≡ suc i → To is (point (block b ∷ turn i b ∷ js) s.at.locals s.at.behind s.at.list) s.saved (m.means s.memory)) →
      Outcome m j is s u (turn_step m j n b js s)
  turn_outcome is js zero b lt f = absurd (omega arith)
  turn_outcome is js (suc i) b lt f = free_outcome is _ refl refl (f i refl)

  close_outcome : (o : Bool) (is : List Item) → closings (close o ∷ is) ≡ cond (m.means s.memory).is_open 1 0 →
      Outcome m j (close o ∷ is) s u (step_of m j (close o ∷ is) s u)
  close_outcome false is e = free_outcome _ _ refl refl leaves
  close_outcome true is e =
      let up : (m.means s.memory).is_open ≡ true = by (m.means s.memory).is_open refl in
      paid_outcome _ _ _ Close up refl refl refl refl (closes up)
    where
      by : (b : Bool) → (m.means s.memory).is_open ≡ b → (m.means s.memory).is_open ≡ true
      by true z = z
      by false z = let f : Bool → ℕ = λ b. cond b 1 0 in let y : f (m.means s.memory).is_open ≡ f false = ap f z in absurd (omega (arith, e, y))

  block_outcome : (k : Code) (is : List Item) → ready (block k ∷ is) ≡ true → repeats k ≡ true → Outcome m j (block k ∷ is) s u (block_step m j k is s u)
  block_outcome nothing is r q = not_both (sym r)
  block_outcome (put x e k) is r q =
      split (λ o. Outcome m j (block (put x e k) ∷ is) s u o) (ltb x.value j.cells)
      (λ z. paid_outcome _ _ _ (Put x.value (worth m j s e)) (ap (λ (n : ℕ). ltb x.value n) long ∙ z) refl refl refl refl (puts (grind arith)))
      (λ z. free_outcome _ _ refl refl (sets (grind arith)))
  block_outcome (read x c k) is r q = free_outcome _ _ refl refl (lists (taken m j c.value s.tick s) refl refl)
  block_outcome (fork e a b k) is r q = free_outcome _ _ refl refl forks
  block_outcome (turns n b k) is r q =
      let h : leb 1 n.value ≡ true = both_0 (leb 1 n.value) _ q in
      turn_outcome _ (block k ∷ is) n.value b (grind arith) begins
  block_outcome (region b k) is r q =
      split (λ o. Outcome m j (block (region b k) ∷ is) s u o) (m.means s.memory).is_open
      (λ z. free_outcome _ _ refl refl (nests z))
      (λ z. paid_outcome _ _ _ Open (ap not z) refl refl refl refl (opens z))
  block_outcome (uses xs k) is r q = free_outcome _ _ refl refl skips

  pub step_outcome : (is : List Item) → ready is ≡ true → all_left repeats is ≡ true → closings is ≡ cond (m.means s.memory).is_open 1 0 →
      Outcome m j is s u (step_of m j is s u)
  step_outcome [] r q e = not_both (sym r)
  step_outcome (block k ∷ is) r q e = block_outcome k is r (both_0 (repeats k) _ q)
  step_outcome (turn n b ∷ is) r q e =
      let h : eqb n 0 ≡ false = by (eqb n 0) refl in
      turn_outcome _ is n b (grind arith)
      (λ i z. let p : Point = point (block b ∷ turn i b ∷ is) s.at.locals s.at.behind s.at.list in
      subst (λ (y : ℕ). To (turn y b ∷ is) p s.saved (m.means s.memory)) (sym z) (again i))
    where
      by : (b : Bool) → eqb n 0 ≡ b → eqb n 0 ≡ false
      by true z = not_both (sym r ∙ ap not z)
      by false z = z
  step_outcome (join xs cs ∷ is) r q e = not_both (sym r)
  step_outcome (close o ∷ is) r q e = close_outcome o is e
