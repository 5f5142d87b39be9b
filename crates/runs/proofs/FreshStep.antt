-- One step of a run keeps what no stale use rests on: the point where the run stands is good, and so is the point before the region
-- that it is in. Assumes nothing.
use Rattle.std.proofs.Common.{◌≡◌, ℕ, zero, suc, ◌-◌, Bool, true, false, cond, not, ltb, leb, List, [], ◌∷◌, ◌++◌, length, set, ℤ, sym, refl, ap, ◌∙◌, subst, arith, length-set}
use mathlib.Core.Bool.{false≢true}
use Rattle.std.proofs.lemmas.Bool.{and_parts, leb-true}
use Rattle.script.specs.Syntax.{Leaf, Code, nothing, put, read, fork, turns, region, uses}
use Rattle.script.specs.Stand.{Table, olds, uses_in}
use Rattle.script.specs.Unbroken.{is_zero}
use Rattle.memory.specs.Meaning.{Meaning}
use Rattle.memory.specs.Spent.{is_done}
use Rattle.memory.specs.Calls.{Call, Put, Open, Close, can, goal, Obeyed}
use Rattle.memory.specs.Model.{Model, Lawful}
use Rattle.checker.proofs.Order.{empty_left}
use Rattle.runs.specs.declared.types.Reading.{Reading}
use Rattle.runs.specs.Behind.{Behind, Used, Fresh}
use Rattle.runs.specs.Machine.{Item, block, turn, join, close, Point, point, State, Job, with_at, with_saved, with_memory, with_uses, leaving, paid, free, worth, assign_step, turn_step, open_step, close_step, block_step, step_of, step, taken}
use Rattle.runs.proofs.Fits.{Fits}
use Rattle.runs.proofs.Passes.{Passes, Good, NoJoin, fresh_uses, good_over}
use Rattle.runs.proofs.Ways.{good_nothing, good_put, good_read, good_uses, fork_uses, good_fork, good_turns, good_turn, good_open, good_nest, good_close, good_leave}

-- the point is good, and inside a region so is the saved one, outside
pub record Points (marked : ℕ → Bool) (n : ℕ) (inside : Bool) (at saved : Point) : Type 0 where
  pub good : Good marked n inside at.left at.behind
  pub back : inside ≡ true → Good marked n false saved.left saved.behind

-- what holds of a run under way, by its memory, its call, its points and its uses
pub record Held (m : Model) (j : Job) (w : m.State) (n : ℕ) (at saved : Point) (made : List Used) : Type 0 where
  pub fine : m.fine w
  pub long : length (m.means w).kept ≡ j.cells
  pub points : Points j.fresh n (m.means w).is_open at saved
  pub fresh : Fresh made

abbrev pub Going : (m : Model) → Job → State m.State → Type 0
Going m j s = Held m j s.memory s.calls s.at s.saved s.made

pub fresh_++ : (us vs : List Used) → Fresh us → Fresh vs → Fresh (us ++ vs)
fresh_++ [] vs p q = q
fresh_++ (u ∷ us) vs p q = (p.0, fresh_++ us vs p.1 q)

-- a put keeps the number of kept cells
put_long : (open' : Bool) (ks cs : List ℤ) (i : ℕ) (x : ℤ) → length cs ≡ length ks → length (cond open' ks (set cs i x)) ≡ length ks
put_long true ks cs i x e = refl
put_long false ks cs i x e = length-set cs i x ∙ e

module _ (m : Model) (law : Lawful m) (j : Job) where
  abbrev open_in : m.State → Bool
  open_in w = (m.means w).is_open

  -- a step that calls the memory: done it stands at one point, and cut at the other
  module _ (w : m.State) (c : Call) (u : ℕ) (done undone : State m.State) (fine : m.fine w) (may : can (m.means w) c ≡ true) where
    paid_held : length (m.means w).kept ≡ j.cells → length (goal (m.means w) c).kept ≡ j.cells
        → Points j.fresh done.calls (goal (m.means w) c).is_open done.at done.saved → Fresh done.made
        → Points j.fresh undone.calls (open_in w) undone.at undone.saved → Fresh undone.made
        → Going m j (paid done undone (m.act w c u)).state
    paid_held long long' p q p' q' = by (is_done (m.act w c u).answer) refl
      where
        r : Obeyed (m.means w) (goal (m.means w) c) u (m.act w c u).answer (m.means (m.act w c u).after)
        r = law.rules w c u fine may

        by : (d : Bool) → is_done (m.act w c u).answer ≡ d → Going m j (with_memory (m.act w c u).after (cond d done undone))
        by true e = record {
          fine = law.stays_fine w c u fine may;
          long = ap (λ (v : Meaning). length v.kept) (r.effect e) ∙ long';
          points = subst (λ (v : Meaning). Points j.fresh done.calls v.is_open done.at done.saved) (sym (r.effect e)) p;
          fresh = q;
        }
        by false e = record {
          fine = law.stays_fine w c u fine may;
          long = ap length (r.keeps e) ∙ long;
          points = subst (λ (b : Bool). Points j.fresh undone.calls b undone.at undone.saved) (sym (r.stays e)) p';
          fresh = q';
        }

  -- ---- a step from the point of s, whose table is t, with is left to do after what the step is of

  module _ (s : State m.State) (h : Going m j s) (t : Table) (f : Fits s.calls (open_in s.memory) t s.at.behind) (is : List Item) where
    abbrev Here : List Item → Type 0
    Here js = Passes j.fresh s.calls (open_in s.memory) t js

    abbrev Then : List Item → Behind → Type 0
    Then js β = Good j.fresh s.calls (open_in s.memory) js β

    -- the uses of names of which none stands old
    more_fresh : (xs : List Leaf) → olds t xs ≡ [] → Fresh (with_uses xs s).made
    more_fresh xs e = fresh_++ s.made _ h.fresh (fresh_uses j.fresh s.calls (open_in s.memory) t s.at.behind xs f e)

    -- the run stands at another point of the same region, or of none
    onward : (at : Point) (made : List Used) → Then at.left at.behind → Fresh made → Held m j s.memory s.calls at s.saved made
    onward at made g fr = record { fine = h.fine; long = h.long; points = record { good = g; back = h.points.back }; fresh = fr }

    -- an assignment of the value v to the name x, with the readings rs behind it, that uses the names xs
    module _ (x : ℕ) (v : ℤ) (rs : List Reading) (js : List Item) (xs : List Leaf) (u : ℕ) (g : Then js (set s.at.behind x rs)) (e : olds t xs ≡ []) where
      abbrev here : State m.State
      here = with_uses xs s

      abbrev with_locals : List ℤ → State m.State
      with_locals ls = with_at (point js ls (set s.at.behind x rs) s.at.list) here

      stepped_assign : Going m j (assign_step m j x v rs js here u).state
      stepped_assign = by (ltb x j.cells) refl
        where
          by : (b : Bool) → ltb x j.cells ≡ b
              → Going m j (cond b (paid (with_locals s.at.locals) here (m.act s.memory (Put x v) u)) (free (with_locals (set s.at.locals (x - j.cells) v)))).state
          by true c =
              let may : ltb x (length (m.means s.memory).kept) ≡ true = ap (ltb x) h.long ∙ c in
              let l = put_long (open_in s.memory) (m.means s.memory).kept (m.means s.memory).current x v (law.sound s.memory h.fine).level in
              paid_held s.memory (Put x v) u (with_locals s.at.locals) here h.fine may h.long (l ∙ h.long)
              (record { good = g; back = h.points.back }) (more_fresh xs e) h.points (more_fresh xs e)
          by false c = onward (with_locals (set s.at.locals (x - j.cells) v)).at here.made g (more_fresh xs e)

    -- a start of a turn, or the end of a repeat where there is no more
    stepped_turn : (n : ℕ) (b : Code) (js : List Item) → ((i : ℕ) → Then (block b ∷ turn i b ∷ js) s.at.behind) → (n ≡ 0 → Then js s.at.behind)
        → Going m j (turn_step m j n b js s).state
    stepped_turn zero b js g g' = onward _ s.made (g' refl) h.fresh
    stepped_turn (suc n) b js g g' = onward _ s.made (g n) h.fresh

    -- what fits, passes and is good, once it is known whether the memory is open
    fits_where : (o : Bool) → open_in s.memory ≡ o → Fits s.calls o t s.at.behind
    fits_where o e = subst (λ i. Fits s.calls i t s.at.behind) e f

    here_where : (o : Bool) (js : List Item) → open_in s.memory ≡ o → Here js → Passes j.fresh s.calls o t js
    here_where o js e p = subst (λ i. Passes j.fresh s.calls i t js) e p

    then_where : (o : Bool) (js : List Item) (β : Behind) → open_in s.memory ≡ o → Good j.fresh s.calls o js β → Then js β
    then_where o js β e g = subst (λ i. Good j.fresh s.calls i js β) (sym e) g

    -- the opening of a region
    stepped_open : (b k : Code) (u : ℕ) → Here (block (region b k) ∷ is) → Going m j (open_step m j b k is s u).state
    stepped_open b k u p = by (open_in s.memory) refl
      where
        by : (o : Bool) → open_in s.memory ≡ o
            → Going m j (cond o
            (free (leaving (block b ∷ close false ∷ block k ∷ is) s))
            (paid (leaving (block b ∷ close true ∷ block k ∷ is) (with_saved s.at s)) s (m.act s.memory Open u))).state
        by true o =
            let g = good_nest j.fresh s.calls t s.at.behind is b k (fits_where true o) (here_where true (block (region b k) ∷ is) o p) in
            onward (leaving (block b ∷ close false ∷ block k ∷ is) s).at s.made
            (then_where true (block b ∷ close false ∷ block k ∷ is) s.at.behind o g) h.fresh
        by false o =
            let g = good_open j.fresh s.calls t s.at.behind is b k (fits_where false o) (here_where false (block (region b k) ∷ is) o p) in
            let before = subst (λ i. Good j.fresh s.calls i s.at.left s.at.behind) o h.points.good in
            paid_held s.memory Open u (leaving (block b ∷ close true ∷ block k ∷ is) (with_saved s.at s)) s h.fine (ap not o) h.long h.long
            (record { good = g; back = λ _. before }) h.fresh h.points h.fresh

    -- the closing of a region
    stepped_close : (o : Bool) (u : ℕ) → Here (close o ∷ is) → Going m j (close_step m j o is s u).state
    stepped_close true u p =
        let e = p.was in
        let g = good_close j.fresh s.calls t s.at.behind is (fits_where true e) (here_where true (close true ∷ is) e p) in
        let l = (law.sound s.memory h.fine).level in
        paid_held s.memory Close u (leaving is s) s h.fine e h.long (l ∙ h.long)
        (record { good = g; back = λ z. absurd (false≢true z) }) h.fresh h.points h.fresh
    stepped_close false u p =
        let e = p.was in
        let g = good_leave j.fresh s.calls t s.at.behind is (fits_where true e) (here_where true (close false ∷ is) e p) in
        onward _ s.made (then_where true is s.at.behind e g) h.fresh

    -- a statement
    stepped_block : (k : Code) (u : ℕ) → Here (block k ∷ is) → Going m j (block_step m j k is s u).state
    stepped_block nothing u p = onward _ s.made (good_nothing j.fresh s.calls (open_in s.memory) t s.at.behind is f p) h.fresh
    stepped_block (put x e k) u p =
        let g = good_put j.fresh s.calls (open_in s.memory) t s.at.behind is f x e k p in
        stepped_assign x.value (worth m j s e) _ (block k ∷ is) (uses_in j.fresh e) u g (empty_left (olds t (uses_in j.fresh e)) _ p.accepted)
    stepped_block (read x c k) u p =
        let r = taken m j c.value s.tick s in
        onward _ s.made (good_read j.fresh s.calls (open_in s.memory) t s.at.behind is f x c k r refl p) h.fresh
    stepped_block (fork e a b k) u p =
        let g = good_fork j.fresh s.calls (open_in s.memory) t s.at.behind is f (is_zero (worth m j s e)) e a b k p in
        let o = fork_uses j.fresh s.calls (open_in s.memory) t s.at.behind is f e a b k p in
        onward _ _ g (more_fresh (uses_in j.fresh e) o)
    stepped_block (turns n b k) u p =
        let some = leb-true 1 n.value (and_parts (leb 1 n.value) _ p.turning).0 in
        stepped_turn n.value b (block k ∷ is)
        (λ i. good_turns j.fresh s.calls (open_in s.memory) t s.at.behind is f i n b k p)
        (λ z. absurd (omega arith))
    stepped_block (region b k) u p = stepped_open b k u p
    stepped_block (uses xs k) u p =
        let g = good_uses j.fresh s.calls (open_in s.memory) t s.at.behind is f xs k p in
        onward _ _ g (more_fresh xs (empty_left (olds t xs) _ p.accepted))

  -- a step that no end of an if comes before
  module _ (s : State m.State) (h : Going m j s) (t : Table) (f : Fits s.calls (open_in s.memory) t s.at.behind) where
    stepped_of : (is : List Item) (u : ℕ) → NoJoin is → Passes j.fresh s.calls (open_in s.memory) t is → Going m j (step_of m j is s u).state
    stepped_of [] u nj p = h
    stepped_of (block k ∷ is) u nj p = stepped_block s h t f is k u p
    stepped_of (turn n b ∷ is) u nj p =
        stepped_turn s h t f is n b is
        (λ i. good_turn j.fresh s.calls (open_in s.memory) t s.at.behind is f i b p)
        (λ _. good_over j.fresh s.calls (open_in s.memory) t s.at.behind b is f p)
    stepped_of (join xs cs ∷ is) u nj p = absurd nj
    stepped_of (close o ∷ is) u nj p = stepped_close s h t f is o u p

  pub step_held : (s : State m.State) (u : ℕ) → NoJoin s.at.left → Going m j s → Going m j (step m j s u).state
  step_held s u nj h = stepped_of s h h.points.good.tab h.points.good.fits s.at.left u nj h.points.good.passes
