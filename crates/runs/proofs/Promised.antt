-- What is promised of every run: SoundRun, of any script whose repeats take a turn, over every lawful memory.
use Rattle.std.proofs.Common.{◌≡◌, ℕ, suc, ◌≤◌, max, true, false, ltb, List, [], map, length, ℤ, Some, None, Option, sym, refl, ap, ◌∙◌, append-nil, arith}
use native.Mathlib.Nat.{le-max_left, le-max_right}
use Rattle.script.specs.Syntax.{Code, nothing, put, read, fork, turns, region, uses, Script, code}
use Rattle.script.specs.Steps.{repeats, channels_below, cells, steps_of, readings_of}
use Rattle.script.specs.Unbroken.{Fed, Env, env, then_on, end_of, exec, no_locals, unbroken}
use Rattle.memory.specs.Model.{Model, Lawful}
use Rattle.runs.specs.declared.types.Call.{Call}
use Rattle.runs.specs.Machine.{Item, Point, State, Job, job_of, begun}
use Rattle.runs.specs.Promise.{fed, after, SoundRun}
use Rattle.runs.proofs.Moves.{both_0, both_1}
use Rattle.runs.proofs.Bounds.{both}
use Rattle.runs.proofs.Rested.{begun_steady}
use Rattle.runs.proofs.Enough.{power_enough}
use Rattle.runs.proofs.Follows.{items_exec, Follows}
use Rattle.runs.proofs.Whole.{Rest, calls_rest}

-- a channel above all those that a code reads
top : Code → ℕ
top nothing = 0
top (put x e k) = top k
top (read x c k) = max (suc c.value) (top k)
top (fork e a b k) = max (top a) (max (top b) (top k))
top (turns n b k) = max (top b) (top k)
top (region b k) = max (top b) (top k)
top (uses xs k) = top k

pub below_more : (a b : ℕ) → a ≤ b → (k : Code) → channels_below a k ≡ true → channels_below b k ≡ true
below_more a b l nothing h = h
below_more a b l (put x e k) h = below_more a b l k h
below_more a b l (read x c k) h =
    let y : ltb c.value a ≡ true = both_0 (ltb c.value a) _ h in
    both {a = ltb c.value b} (grind arith) (below_more a b l k (both_1 (ltb c.value a) _ h))
below_more a b l (fork e c d k) h =
    let g = both_1 (channels_below a c) _ h in
    both (below_more a b l c (both_0 (channels_below a c) _ h)) (both (below_more a b l d (both_0 (channels_below a d) _ g)) (below_more a b l k (both_1 (channels_below a d) _ g)))
below_more a b l (turns n c k) h = both (below_more a b l c (both_0 (channels_below a c) _ h)) (below_more a b l k (both_1 (channels_below a c) _ h))
below_more a b l (region c k) h = both (below_more a b l c (both_0 (channels_below a c) _ h)) (below_more a b l k (both_1 (channels_below a c) _ h))
below_more a b l (uses xs k) h = below_more a b l k h

below_top : (k : Code) → channels_below (top k) k ≡ true
unfolding top
below_top nothing = refl
below_top (put x e k) = below_top k
below_top (read x c k) = let h = le-max_left (suc c.value) (top k) in
    both {a = ltb c.value (max (suc c.value) (top k))} (grind arith) (below_more _ _ (le-max_right (suc c.value) (top k)) k (below_top k))
below_top (fork e a b k) =
    let h : top b ≤ max (top a) (max (top b) (top k)) = omega (arith, le-max_right (top a) (max (top b) (top k)), le-max_left (top b) (top k)) in
    let g : top k ≤ max (top a) (max (top b) (top k)) = omega (arith, le-max_right (top a) (max (top b) (top k)), le-max_right (top b) (top k)) in
    both (below_more _ _ (le-max_left (top a) (max (top b) (top k))) a (below_top a)) (both (below_more _ _ h b (below_top b)) (below_more _ _ g k (below_top k)))
below_top (turns n b k) = both (below_more _ _ (le-max_left (top b) (top k)) b (below_top b)) (below_more _ _ (le-max_right (top b) (top k)) k (below_top k))
below_top (region b k) = both (below_more _ _ (le-max_left (top b) (top k)) b (below_top b)) (below_more _ _ (le-max_right (top b) (top k)) k (below_top k))
below_top (uses xs k) = below_top k

then_no_more : (n : ℕ) (o : Option Env) → o ≡ then_on o (items_exec n [])
then_no_more n None = refl
then_no_more n (Some e) = refl

module _ (m : Model) (law : Lawful m) (s : Script) (v : ℕ → ℕ → ℤ) (w : m.State)
    (ok : m.fine w) (shut : (m.means w).is_open ≡ false) (long : length (m.means w).kept ≡ cells s.decls)
    (rep : repeats (code s.main) ≡ true) where
  abbrev j : Job
  j = job_of s v

  abbrev AtRest : State m.State → Type 0
  AtRest t = Rest m law j (steps_of s) (readings_of s) (top (code s.main)) (m.means w).kept t

  begun_rests : AtRest (begun j w)
  begun_rests = record {
    resting = begun_steady m law j (steps_of s) (readings_of s) (top (code s.main)) w ok shut long rep (below_top (code s.main)) (omega arith) (omega arith);
    rest = record { comes = λ t. then_no_more j.cells (exec j.cells j.main (env (m.means w).kept no_locals t)); listed = tt };
  }

  after_rests : (cs : List Call) → AtRest (after m s v w cs)
  after_rests cs = calls_rest m law j (steps_of s) (readings_of s) (top (code s.main)) (m.means w).kept cs (begun j w) begun_rests

  -- where nothing is left to do, the cells are those at the unbroken run's end
  ended_whole : (p : Point) (cs : List ℤ) → p.left ≡ [] → Follows j (m.means w).kept p cs → unbroken s (m.means w).kept (map fed p.list) ≡ Some cs
  ended_whole p cs e f =
      ap (λ (fs : List Fed). unbroken s (m.means w).kept fs) (sym (append-nil (map fed p.list)))
      ∙ ap end_of (f.comes [])
      ∙ ap (λ (is : List Item). end_of (items_exec j.cells is (env cs p.locals []))) e

pub sound_run : (m : Model) → Lawful m → (s : Script) (v : ℕ → ℕ → ℤ) (w : m.State) → m.fine w → (m.means w).is_open ≡ false →
    length (m.means w).kept ≡ cells s.decls → repeats (code s.main) ≡ true → (cs : List Call) → SoundRun m s v w cs
sound_run m law s v w ok shut long rep cs =
    let h = after_rests m law s v w ok shut long rep cs in
    record {
      whole = λ e. ended_whole m law s v w ok shut long rep _ _ (h.resting.over e).0 h.rest;
      true_list = h.rest.listed;
      enough = λ units off e l. power_enough m law (job_of s v) (steps_of s) (readings_of s) (top (code s.main)) units off (after m s v w cs) h.resting e l;
    }
