-- What stands behind a name fits its standing: nothing where it stands clean, readings of the power call under way
-- where it stands now, and that only inside a region. Assumes nothing.
use Rattle.std.proofs.Common.{◌≡◌, ℕ, zero, suc, ◌≤◌, Bool, true, false, List, [], ◌∷◌, ◌++◌, map, get_or, set, replicate, sym, refl, ap, ◌∙◌, subst, arith}
use mathlib.Core.Bool.{false≢true}
use Rattle.script.specs.declared.standing.Standing.{Standing}
use Rattle.script.specs.declared.standing.Standing.TheVariants.{Clean, Now, Old}
use Rattle.script.specs.Syntax.{Leaf}
use Rattle.script.specs.Stand.{Table, higher, highest, raised, older, reading_at}
use Rattle.checker.specs.Order.{rank, Le}
use Rattle.runs.specs.declared.types.Reading.{Reading}
use Rattle.runs.specs.Behind.{Behind, behind_all, joined, AllIn}

-- all are of the power call n, and only inside a region is there any
abbrev pub OfNow : ℕ → Bool → List Reading → Type 0
OfNow n inside [] = Unit {0}
OfNow n inside (r ∷ rs) = (r.call ≡ n) × (inside ≡ true) × OfNow n inside rs

-- clean: no reading; now: readings of the current call, while inside a region; old: any
abbrev pub Fit : ℕ → Bool → Standing → List Reading → Type 0
Fit n inside Clean rs = rs ≡ []
Fit n inside Now rs = OfNow n inside rs
Fit n inside Old rs = Unit {0}

abbrev pub Fits : ℕ → Bool → Table → Behind → Type 0
Fits n inside [] [] = Unit {0}
Fits n inside [] (b ∷ β) = ⊥
Fits n inside (s ∷ t) [] = ⊥
Fits n inside (s ∷ t) (b ∷ β) = Fit n inside s b × Fits n inside t β

module _ (n : ℕ) (inside : Bool) where
  now_++ : (xs ys : List Reading) → OfNow n inside xs → OfNow n inside ys → OfNow n inside (xs ++ ys)
  now_++ [] ys p q = q
  now_++ (x ∷ xs) ys p q = (p.0, p.1, now_++ xs ys p.2 q)

  pub fit_up : (s u : Standing) (rs : List Reading) → rank s ≤ rank u → Fit n inside s rs → Fit n inside u rs
  fit_up Clean Clean rs h f = f
  fit_up Clean Now rs h f = subst (OfNow n inside) (sym f) tt
  fit_up Clean Old rs h f = tt
  fit_up Now Clean rs h f = absurd (omega arith)
  fit_up Now Now rs h f = f
  fit_up Now Old rs h f = tt
  fit_up Old Clean rs h f = absurd (omega arith)
  fit_up Old Now rs h f = absurd (omega arith)
  fit_up Old Old rs h f = tt

  pub fit_++ : (s u : Standing) (xs ys : List Reading) → Fit n inside s xs → Fit n inside u ys → Fit n inside (higher s u) (xs ++ ys)
  fit_++ Clean Clean xs ys p q = ap (λ (l : List Reading). l ++ ys) p ∙ q
  fit_++ Clean Now xs ys p q = subst (λ (l : List Reading). OfNow n inside (l ++ ys)) (sym p) q
  fit_++ Clean Old xs ys p q = tt
  fit_++ Now Clean xs ys p q = now_++ xs ys p (subst (OfNow n inside) (sym q) tt)
  fit_++ Now Now xs ys p q = now_++ xs ys p q
  fit_++ Now Old xs ys p q = tt
  fit_++ Old u xs ys p q = tt

  pub fits_get : (t : Table) (β : Behind) (x : ℕ) → Fits n inside t β → Fit n inside (get_or t x Clean) (get_or β x [])
  fits_get [] [] x f = refl
  fits_get [] (b ∷ β) x f = absurd f
  fits_get (s ∷ t) [] x f = absurd f
  fits_get (s ∷ t) (b ∷ β) zero f = f.0
  fits_get (s ∷ t) (b ∷ β) (suc x) f = fits_get t β x f.1

  pub fits_set : (t : Table) (β : Behind) (x : ℕ) (s : Standing) (rs : List Reading) → Fit n inside s rs → Fits n inside t β → Fits n inside (set t x s) (set β x rs)
  fits_set [] [] x s rs h f = tt
  fits_set [] (b ∷ β) x s rs h f = absurd f
  fits_set (u ∷ t) [] x s rs h f = absurd f
  fits_set (u ∷ t) (b ∷ β) zero s rs h f = (h, f.1)
  fits_set (u ∷ t) (b ∷ β) (suc x) s rs h f = (f.0, fits_set t β x s rs h f.1)

  pub fits_up : (t u : Table) (β : Behind) → Le t u → Fits n inside t β → Fits n inside u β
  fits_up [] [] [] p f = tt
  fits_up [] [] (b ∷ β) p f = absurd f
  fits_up [] (v ∷ u) β p f = absurd p
  fits_up (s ∷ t) [] β p f = absurd p
  fits_up (s ∷ t) (v ∷ u) [] p f = absurd f
  fits_up (s ∷ t) (v ∷ u) (b ∷ β) p f = (fit_up s v b p.0 f.0, fits_up t u β p.1 f.1)

  -- an expression
  pub fits_all : (t : Table) (β : Behind) (es : List Leaf) → Fits n inside t β → Fit n inside (highest t es) (behind_all β es)
  fits_all t β [] f = refl
  fits_all t β (e ∷ es) f = fit_++ (get_or t e.value Clean) (highest t es) (get_or β e.value []) (behind_all β es) (fits_get t β e.value f) (fits_all t β es f)

  -- the end of an if
  pub fits_joined : (s : Standing) (cs : List Reading) (xs : List ℕ) (t : Table) (β : Behind) → Fit n inside s cs → Fits n inside t β → Fits n inside (raised s xs t) (joined cs xs β)
  fits_joined s cs [] t β h f = f
  fits_joined s cs (x ∷ xs) t β h f =
      fits_joined s cs xs (set t x (higher (get_or t x Clean) s)) (set β x (get_or β x [] ++ cs)) h (fits_set t β x _ _ (fit_++ (get_or t x Clean) s (get_or β x []) cs (fits_get t β x f) h) f)

-- opening or closing an outermost region
fit_older : (n : ℕ) (here there : Bool) (s : Standing) (rs : List Reading) → Fit n here s rs → Fit n there (older s) rs
fit_older n here there Clean rs f = f
fit_older n here there Now rs f = tt
fit_older n here there Old rs f = tt

pub fits_aged : (n : ℕ) (here there : Bool) (t : Table) (β : Behind) → Fits n here t β → Fits n there (map older t) β
fits_aged n here there [] [] f = tt
fits_aged n here there [] (b ∷ β) f = absurd f
fits_aged n here there (s ∷ t) [] f = absurd f
fits_aged n here there (s ∷ t) (b ∷ β) f = (fit_older n here there s b f.0, fits_aged n here there t β f.1)

-- outside a region a power failure changes nothing
now_next : (n m : ℕ) (rs : List Reading) → OfNow n false rs → OfNow m false rs
now_next n m [] f = tt
now_next n m (b ∷ rs) f = absurd (false≢true f.1)

pub fit_next : (n m : ℕ) (s : Standing) (rs : List Reading) → Fit n false s rs → Fit m false s rs
fit_next n m Clean rs f = f
fit_next n m Now rs f = now_next n m rs f
fit_next n m Old rs f = tt

pub fits_next : (n m : ℕ) (t : Table) (β : Behind) → Fits n false t β → Fits m false t β
fits_next n m [] [] f = tt
fits_next n m [] (b ∷ β) f = absurd f
fits_next n m (s ∷ t) [] f = absurd f
fits_next n m (s ∷ t) (b ∷ β) f = (fit_next n m s b f.0, fits_next n m t β f.1)

-- a name that does not stand old has only readings of the current call behind it
now_in : (n : ℕ) (inside : Bool) (rs : List Reading) → OfNow n inside rs → AllIn n rs
now_in n inside [] f = tt
now_in n inside (b ∷ rs) f = (f.0, now_in n inside rs f.2)

pub fit_used : (n : ℕ) (inside : Bool) (s : Standing) (rs : List Reading) → (s ≡ Old → ⊥) → Fit n inside s rs → AllIn n rs
fit_used n inside Clean rs h f = subst (AllIn n) (sym f) tt
fit_used n inside Now rs h f = now_in n inside rs f
fit_used n inside Old rs h f = absurd (h refl)

-- all clean, and nothing behind
pub fits_start : (n m : ℕ) → Fits n false (replicate m Clean) (replicate m [])
fits_start n zero = tt
fits_start n (suc m) = (refl, fits_start n m)

-- a reading of the current call, at the standing of a reading
pub fit_reading : (n : ℕ) (inside : Bool) (r : Reading) → r.call ≡ n → Fit n inside (reading_at inside) (r ∷ [])
fit_reading n true r e = (e, refl, tt)
fit_reading n false r e = tt
