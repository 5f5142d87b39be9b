-- What is left to do refuses no use, from a table on that what stands behind the names fits; and each way on keeps that. Assumes
-- nothing.
use Rattle.std.proofs.Common.{◌≡◌, ℕ, zero, suc, Bool, true, false, cond, List, [], ◌∷◌, map, get_or, arith}
use mathlib.Core.Bool.{false≢true}
use lib.Dec.{eqb-suc-zero}
use Rattle.script.specs.declared.standing.Standing.{Standing}
use Rattle.script.specs.declared.standing.Standing.TheVariants.{Clean, Now, Old}
use Rattle.script.specs.Syntax.{Leaf, Code, nothing, put, read, fork, turns, region, uses}
use Rattle.script.specs.Steps.{repeats}
use Rattle.script.specs.Stand.{Table, raised, older, walk, is_old, olds, refused}
use Rattle.checker.specs.Order.{Le}
use Rattle.runs.specs.declared.types.Reading.{Reading}
use Rattle.runs.specs.Behind.{Behind, joined, used, Fresh}
use Rattle.runs.specs.Machine.{Item, block, turn, join, close, tidied}
use Rattle.runs.proofs.Fits.{Fit, Fits, fits_get, fits_up, fits_joined, fit_next, fits_next, fit_used}

-- once what is over is taken off, the end of an if does not stand first
abbrev pub NoJoin : List Item → Type 0
NoJoin [] = Unit {0}
NoJoin (block k ∷ is) = Unit {0}
NoJoin (turn m b ∷ is) = Unit {0}
NoJoin (join xs cs ∷ is) = ⊥
NoJoin (close o ∷ is) = Unit {0}

pub no_join : (is : List Item) (β : Behind) → NoJoin (tidied is β).left
no_join [] β = tt
no_join (block nothing ∷ is) β = no_join is β
no_join (block (put x e k) ∷ is) β = tt
no_join (block (read x c k) ∷ is) β = tt
no_join (block (fork e a b k) ∷ is) β = tt
no_join (block (turns m b k) ∷ is) β = tt
no_join (block (region b k) ∷ is) β = tt
no_join (block (uses xs k) ∷ is) β = tt
no_join (turn zero b ∷ is) β = no_join is β
no_join (turn (suc m) b ∷ is) β = rw eqb-suc-zero tt
no_join (join xs cs ∷ is) β = no_join is (joined cs xs β)
no_join (close o ∷ is) β = tt

module _ (marked : ℕ → Bool) where
  -- what is left to do, walked from the table t on, refuses no use, and each repeat in it takes at least one turn
  abbrev pub Passes : ℕ → Bool → Table → List Item → Type 0
  Passes n inside t [] = inside ≡ false
  Passes n inside t (block k ∷ is) = record {
    accepted : refused marked inside k t ≡ [];
    turning : repeats k ≡ true;
    rest : Passes n inside (walk inside k t) is;
  }
  Passes n inside t (turn m b ∷ is) = record {
    last : Table;
    accepted : refused marked inside b last ≡ [];
    turning : repeats b ≡ true;
    settled : Le (walk inside b last) last;
    ended : Le t (walk inside b last);
    rest : Passes n inside (walk inside b last) is;
  }
  Passes n inside t (join xs cs ∷ is) = record {
    standing : Standing;
    fit : Fit n inside standing cs;
    after : Table;
    above : Le (raised standing xs t) after;
    rest : Passes n inside after is;
  }
  Passes n inside t (close true ∷ is) = record { was : inside ≡ true; rest : Passes n false (map older t) is }
  Passes n inside t (close false ∷ is) = record { was : inside ≡ true; rest : Passes n true t is }

  pub record Good (n : ℕ) (inside : Bool) (is : List Item) (β : Behind) : Type 0 where
    pub tab : Table
    pub fits : Fits n inside tab β
    pub passes : Passes n inside tab is

  -- ---- outside a region it is good in every power call

  passes_next : (n m : ℕ) (is : List Item) (t : Table) → Passes n false t is → Passes m false t is
  passes_next n m [] t p = p
  passes_next n m (block k ∷ is) t p = record { accepted = p.accepted; turning = p.turning; rest = passes_next n m is _ p.rest }
  passes_next n m (turn j b ∷ is) t p = record {
    last = p.last;
    accepted = p.accepted;
    turning = p.turning;
    settled = p.settled;
    ended = p.ended;
    rest = passes_next n m is _ p.rest;
  }
  passes_next n m (join xs cs ∷ is) t p = record {
    standing = p.standing;
    fit = fit_next n m p.standing cs p.fit;
    after = p.after;
    above = p.above;
    rest = passes_next n m is _ p.rest;
  }
  passes_next n m (close true ∷ is) t p = absurd (false≢true p.was)
  passes_next n m (close false ∷ is) t p = absurd (false≢true p.was)

  pub good_next : (n m : ℕ) (is : List Item) (β : Behind) → Good n false is β → Good m false is β
  good_next n m is β g = record { tab = g.tab; fits = fits_next n m g.tab β g.fits; passes = passes_next n m is g.tab g.passes }

  -- ---- uses

  not_old : (s : Standing) (p : ℕ) (ps : List ℕ) → cond (is_old s) (p ∷ ps) ps ≡ [] → s ≡ Old → ⊥
  not_old Clean p ps h e = let z : ◌≡◌ {A = ℕ} 0 1 = cc in omega arith
  not_old Now p ps h e = let z : ◌≡◌ {A = ℕ} 0 1 = cc in omega arith
  not_old Old p ps h e = let z : ◌≡◌ {A = ℕ} 0 1 = cc in omega arith

  no_more_old : (s : Standing) (p : ℕ) (ps : List ℕ) → cond (is_old s) (p ∷ ps) ps ≡ [] → ps ≡ []
  no_more_old Clean p ps h = h
  no_more_old Now p ps h = h
  no_more_old Old p ps h = absurd (let z : ◌≡◌ {A = ℕ} 0 1 = cc in omega arith)

  -- names of which none stands old are used fresh
  pub fresh_uses : (n : ℕ) (inside : Bool) (t : Table) (β : Behind) (xs : List Leaf) → Fits n inside t β → olds t xs ≡ [] → Fresh (used n β xs)
  fresh_uses n inside t β [] f h = tt
  fresh_uses n inside t β (x ∷ xs) f h = (
    fit_used n inside (get_or t x.value Clean) (get_or β x.value []) (not_old (get_or t x.value Clean) x.place (olds t xs) h) (fits_get n inside t β x.value f),
    fresh_uses n inside t β xs f (no_more_old (get_or t x.value Clean) x.place (olds t xs) h),
  )

  -- ---- what is over is taken off

  module _ (n : ℕ) (inside : Bool) where
    -- a repeat with no more turns
    pub good_over : (t : Table) (β : Behind) (b : Code) (is : List Item) → Fits n inside t β → Passes n inside t (turn zero b ∷ is) → Good n inside is β
    good_over t β b is f p = record { tab = walk inside b p.last; fits = fits_up n inside t _ β p.ended f; passes = p.rest }

    -- the end of an if
    good_joined : (t : Table) (β : Behind) (xs : List ℕ) (cs : List Reading) (is : List Item) → Fits n inside t β → Passes n inside t (join xs cs ∷ is) → Good n inside is (joined cs xs β)
    good_joined t β xs cs is f p = record {
      tab = p.after;
      fits = fits_up n inside (raised p.standing xs t) p.after (joined cs xs β) p.above (fits_joined n inside p.standing cs xs t β p.fit f);
      passes = p.rest;
    }

    pub good_tidied : (is : List Item) (β : Behind) → Good n inside is β → Good n inside (tidied is β).left (tidied is β).behind
    good_tidied [] β g = g
    good_tidied (block nothing ∷ is) β g = good_tidied is β (record { tab = g.tab; fits = g.fits; passes = g.passes.rest })
    good_tidied (block (put x e k) ∷ is) β g = g
    good_tidied (block (read x c k) ∷ is) β g = g
    good_tidied (block (fork e a b k) ∷ is) β g = g
    good_tidied (block (turns m b k) ∷ is) β g = g
    good_tidied (block (region b k) ∷ is) β g = g
    good_tidied (block (uses xs k) ∷ is) β g = g
    good_tidied (turn zero b ∷ is) β g = good_tidied is β (good_over g.tab β b is g.fits g.passes)
    good_tidied (turn (suc m) b ∷ is) β g = rw eqb-suc-zero g
    good_tidied (join xs cs ∷ is) β g = good_tidied is (joined cs xs β) (good_joined g.tab β xs cs is g.fits g.passes)
    good_tidied (close o ∷ is) β g = g
