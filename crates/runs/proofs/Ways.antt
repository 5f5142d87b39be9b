-- From a good point each way on leads to a good one. Assumes nothing.
use Rattle.std.proofs.Common.{◌≡◌, ℕ, suc, ◌*◌, Bool, true, false, cond, ◌&&◌, leb, List, [], ◌∷◌, map, length, set, sym, refl, ◌∙◌}
use Rattle.std.proofs.lemmas.Bool.{and_parts}
use Rattle.script.specs.Syntax.{Leaf, Expr, reads, Code, nothing, put, read, fork, turns, region, uses}
use Rattle.script.specs.Steps.{repeats}
use Rattle.script.specs.Stand.{Table, both, of_expr, older, assigned, settle, walk, olds, uses_in, walks, refused}
use Rattle.checker.specs.Order.{Le}
use Rattle.checker.proofs.Order.{le_refl, le_trans, both_left, both_right, le_raised, length_walk, settle_up, settle_end, empty_left, empty_right, last_walk}
use Rattle.runs.specs.declared.types.Reading.{Reading}
use Rattle.runs.specs.Behind.{Behind, behind_all}
use Rattle.runs.specs.Machine.{Item, block, turn, join, close}
use Rattle.runs.proofs.Fits.{Fits, fits_set, fits_up, fits_all, fits_aged, fit_reading}
use Rattle.runs.proofs.Passes.{Passes, Good}

-- t is a table that what is behind the names fits
module _ (marked : ℕ → Bool) (n : ℕ) (inside : Bool) (t : Table) (β : Behind) (is : List Item) (f : Fits n inside t β) where
  pub good_nothing : Passes marked n inside t (block nothing ∷ is) → Good marked n inside is β
  good_nothing p = record { tab = t; fits = f; passes = p.rest }

  pub good_put : (x : Leaf) (e : Expr) (k : Code) → Passes marked n inside t (block (put x e k) ∷ is) → Good marked n inside (block k ∷ is) (set β x.value (behind_all β (reads e [])))
  good_put x e k p = record {
    tab = set t x.value (of_expr t e);
    fits = fits_set n inside t β x.value _ _ (fits_all n inside t β (reads e []) f) f;
    passes = record { accepted = empty_right (olds t (uses_in marked e)) _ p.accepted; turning = p.turning; rest = p.rest };
  }

  pub good_read : (x c : Leaf) (k : Code) (r : Reading) → r.call ≡ n → Passes marked n inside t (block (read x c k) ∷ is) → Good marked n inside (block k ∷ is) (set β x.value (r ∷ []))
  good_read x c k r e p = record {
    tab = _;
    fits = fits_set n inside t β x.value _ _ (fit_reading n inside r e) f;
    passes = record { accepted = p.accepted; turning = p.turning; rest = p.rest };
  }

  pub good_uses : (xs : List Leaf) (k : Code) → Passes marked n inside t (block (uses xs k) ∷ is) → Good marked n inside (block k ∷ is) β
  good_uses xs k p = record { tab = t; fits = f; passes = record { accepted = empty_right (olds t xs) _ p.accepted; turning = p.turning; rest = p.rest } }

  -- no name that an if's condition uses stands old
  pub fork_uses : (e : Expr) (a b k : Code) → Passes marked n inside t (block (fork e a b k) ∷ is) → olds t (uses_in marked e) ≡ []
  fork_uses e a b k p = empty_left (olds t (uses_in marked e)) _ p.accepted

  -- an if: the readings behind its condition fit its standing at its end
  pub good_fork : (second : Bool) (e : Expr) (a b k : Code) → Passes marked n inside t (block (fork e a b k) ∷ is)
      → Good marked n inside (block (cond second b a) ∷ join (assigned a (assigned b [])) (behind_all β (reads e [])) ∷ block k ∷ is) β
  good_fork second e a b k p =
      let h = empty_right (olds t (uses_in marked e)) _ p.accepted in
      let h' = empty_right (refused marked inside a t) _ h in
      let r = and_parts (repeats a) (repeats b && repeats k) p.turning in
      let q = and_parts (repeats b) (repeats k) r.1 in
      let xs = assigned a (assigned b []) in
      let at_end : (c : Code) → Le (walk inside c t) (both (walk inside a t) (walk inside b t)) → Passes marked n inside (walk inside c t) (join xs (behind_all β (reads e [])) ∷ block k ∷ is) =
      λ c up. record {
        standing = of_expr t e;
        fit = fits_all n inside t β (reads e []) f;
        after = _;
        above = le_raised (of_expr t e) xs _ _ up;
        rest = record { accepted = empty_right (refused marked inside b t) _ h'; turning = q.1; rest = p.rest };
      } in
      elim second as (λ i. Good marked n inside (block (cond i b a) ∷ join xs (behind_all β (reads e [])) ∷ block k ∷ is) β) [
        | true ↦ record {
          tab = t;
          fits = f;
          passes = record {
            accepted = empty_left (refused marked inside b t) _ h';
            turning = q.0;
            rest = at_end b (both_right (walk inside a t) (walk inside b t) (length_walk inside a t ∙ sym (length_walk inside b t)));
          };
        }
        | false ↦ record {
          tab = t;
          fits = f;
          passes = record { accepted = empty_left (refused marked inside a t) _ h; turning = r.0; rest = at_end a (both_left (walk inside a t) (walk inside b t)) };
        }
      ]

  -- the first turn of a repeat
  pub good_turns : (m : ℕ) (c : Leaf) (b k : Code) → Passes marked n inside t (block (turns c b k) ∷ is) → Good marked n inside (block b ∷ turn m b ∷ block k ∷ is) β
  good_turns m c b k p =
      let u = settle (walk inside b) t in
      let all = walks (2 * length t) (walk inside b) (refused marked inside b) t in
      let h₁ = last_walk (2 * length t) (walk inside b) (refused marked inside b) t (empty_left all _ p.accepted) in
      let h₂ = empty_right all _ p.accepted in
      let r = and_parts (leb 1 c.value) _ p.turning in
      let q = and_parts (repeats b) (repeats k) r.1 in
      record {
        tab = u;
        fits = fits_up n inside t u β (settle_up (walk inside b) t) f;
        passes = record {
          accepted = h₁;
          turning = q.0;
          rest = record { last = u; accepted = h₁; turning = q.0; settled = settle_end inside b t; ended = le_refl _; rest = record { accepted = h₂; turning = q.1; rest = p.rest } };
        };
      }

  -- one more turn
  pub good_turn : (m : ℕ) (b : Code) → Passes marked n inside t (turn (suc m) b ∷ is) → Good marked n inside (block b ∷ turn m b ∷ is) β
  good_turn m b p = record {
    tab = p.last;
    fits = fits_up n inside t p.last β (le_trans t (walk inside b p.last) p.last p.ended p.settled) f;
    passes = record {
      accepted = p.accepted;
      turning = p.turning;
      rest = record { last = p.last; accepted = p.accepted; turning = p.turning; settled = p.settled; ended = le_refl _; rest = p.rest };
    };
  }

-- ---- regions

module _ (marked : ℕ → Bool) (n : ℕ) (t : Table) (β : Behind) (is : List Item) where
  -- the opening of an outermost region
  pub good_open : (b k : Code) → Fits n false t β → Passes marked n false t (block (region b k) ∷ is) → Good marked n true (block b ∷ close true ∷ block k ∷ is) β
  good_open b k f p =
      let q = and_parts (repeats b) (repeats k) p.turning in
      record {
        tab = map older t;
        fits = fits_aged n false true t β f;
        passes = record {
          accepted = empty_left (refused marked true b (map older t)) _ p.accepted;
          turning = q.0;
          rest = record { was = refl; rest = record { accepted = empty_right (refused marked true b (map older t)) _ p.accepted; turning = q.1; rest = p.rest } };
        };
      }

  -- the opening of a region inside another
  pub good_nest : (b k : Code) → Fits n true t β → Passes marked n true t (block (region b k) ∷ is) → Good marked n true (block b ∷ close false ∷ block k ∷ is) β
  good_nest b k f p =
      let q = and_parts (repeats b) (repeats k) p.turning in
      record {
        tab = t;
        fits = f;
        passes = record {
          accepted = empty_left (refused marked true b t) _ p.accepted;
          turning = q.0;
          rest = record { was = refl; rest = record { accepted = empty_right (refused marked true b t) _ p.accepted; turning = q.1; rest = p.rest } };
        };
      }

  -- the closing of an outermost region
  pub good_close : Fits n true t β → Passes marked n true t (close true ∷ is) → Good marked n false is β
  good_close f p = record { tab = map older t; fits = fits_aged n true false t β f; passes = p.rest }

  -- the closing of a region inside another
  pub good_leave : Fits n true t β → Passes marked n true t (close false ∷ is) → Good marked n true is β
  good_leave f p = record { tab = t; fits = f; passes = p.rest }
