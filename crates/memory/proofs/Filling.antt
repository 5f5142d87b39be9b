-- Filling the cells with the first values.
use Rattle.std.proofs.Common.{◌≡◌, ◌-◌, ◌≤◌, Bool, true, false, cond, leb, List, length, take, replicate, ℤ, pos, Ok, Err, Result, refl, ap, ◌∙◌, arith, length-append}
use lib.ListN.{length-replicate}
use Rattle.std.proofs.lemmas.List.{take_at}
use Rattle.script.specs.declared.fault.Fault.{Fault}
use Rattle.script.specs.Faults.{fault}
use Rattle.memory.specs.Cells.{filled, made_of}

-- the cells that are made are the first values
pub filled_front : (vs : List ℤ) → take (length vs) (filled vs) ≡ vs
filled_front vs = take_at vs (replicate (64 - length vs) (pos 0)) (length vs) refl

pub filled_length : (vs : List ℤ) → length vs ≤ 64 → length (filled vs) ≡ 64
filled_length vs h =
    let e = length-replicate (64 - length vs) (pos 0) in
    length-append vs (replicate (64 - length vs) (pos 0)) ∙ omega (arith, e)

pub taken_whole : {A : Type 0} (vs : List ℤ) (a : A) → length vs ≤ 64 → made_of vs a ≡ Ok a
taken_whole vs a h = let e : leb (length vs) 64 ≡ true = grind arith in ap (λ (b : Bool). cond b (Ok a) (Err (fault 29 64))) e

pub few_of : {A : Type 0} (vs : List ℤ) (a b : A) → Ok a ≡ made_of vs b → (length vs ≤ 64) × (a ≡ b)
few_of {A} vs a b e = by (leb (length vs) 64) refl e
  where
    by : (c : Bool) → leb (length vs) 64 ≡ c → ◌≡◌ {A = Result A Fault} (Ok a) (cond c (Ok b) (Err (fault 29 64))) → (length vs ≤ 64) × (a ≡ b)
    by true q e = (grind arith, (cc))
    by false q e = absurd (cc)
