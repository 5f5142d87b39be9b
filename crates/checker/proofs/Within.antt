-- The rows of a read script are within what the check assumes. Assumes nothing.
use Rattle.std.proofs.Common.{◌≡◌, ℕ, suc, pred, ◌+◌, ◌-◌, Bool, true, false, cond, ◌&&◌, eqb, ltb, leb, List, [], ◌∷◌, map, is_some, Some, None, Option, sym, refl, subst, add-one, sub-one}
use Rattle.std.proofs.lemmas.Bool.{true≢false, leb-false, lt-ltb, and_parts, and_from, or_right}
use Rattle.script.specs.declared.row.Role.TheVariants as role
use Rattle.script.specs.declared.row.Row.{Row}
use Rattle.script.specs.Nesting.{opens, closes, or_stop, nesting_from}
use Rattle.script.specs.Written.{sym_of, token}
use Rattle.script.specs.Roles.{is, declares, declares_cell}
use Rattle.script.specs.Names.{all_numbered}
use Rattle.script.specs.Stand.{lesser, least}
use Rattle.checker.specs.Limits.{shallow, numbered}

pub within_16 : (n : ℕ) (rs : List Row) → nesting_from n (map token rs) ≡ None → shallow n rs ≡ true
within_16 n [] h = refl
within_16 n (r ∷ rs) h = by (opens (sym_of r.role)) (closes (sym_of r.role)) (λ m. within_16 m rs) h
  where
    more : ℕ → Option ℕ
    more m = nesting_from m (map token rs)

    by : (o c : Bool) → ((m : ℕ) → nesting_from m (map token rs) ≡ None → shallow m rs ≡ true)
        → or_stop r.place (cond o (cond (leb 16 n) None (Some (n + 1))) (cond c (cond (eqb n 0) None (Some (n - 1))) (Some n))) (λ m. nesting_from m (map token rs)) ≡ None
        → cond o (ltb n 16 && shallow (suc n) rs) (cond c (shallow (pred n) rs) (shallow n rs)) ≡ true
    by true c ih g = up (leb 16 n) refl g
      where
        up : (b : Bool) → leb 16 n ≡ b → or_stop r.place (cond b None (Some (n + 1))) (λ m. nesting_from m (map token rs)) ≡ None → (ltb n 16 && shallow (suc n) rs) ≡ true
        up true e k = cc
        up false e k = (λ i. lt-ltb n 16 (leb-false 16 n e) i && subst (λ m. shallow m rs ≡ true) (add-one n) (ih (n + 1) k) i)
    by false true ih g = down (eqb n 0) g
      where
        down : (b : Bool) → or_stop r.place (cond b None (Some (n - 1))) (λ m. nesting_from m (map token rs)) ≡ None → shallow (pred n) rs ≡ true
        down true k = cc
        down false k = subst (λ m. shallow m rs ≡ true) (sub-one n) (ih (n - 1) k)
    by false false ih g = ih n g

pub none_nested : (o : Option ℕ) → is_some o ≡ false → o ≡ None
none_nested None e = refl
none_nested (Some p) e = absurd (true≢false e)

pub within_128 : (rs : List Row) → all_numbered rs ≡ true → numbered rs ≡ true
within_128 [] h = refl
within_128 (r ∷ rs) h =
    let fresh : is r.role role.FreshName ≡ true → declares r.role ≡ true = λ e. or_right (declares_cell r.role) _ (or_right (is r.role role.VarName) _ e) in
    by (declares r.role) (is r.role role.FreshName) fresh (within_128 rs) h
  where
    by : (d f : Bool) → (f ≡ true → d ≡ true) → (all_numbered rs ≡ true → numbered rs ≡ true) → cond d (ltb r.value 128 && all_numbered rs) (all_numbered rs) ≡ true
        → cond f (ltb r.value 128 && numbered rs) (numbered rs) ≡ true
    by true true e ih g = let p = and_parts (ltb r.value 128) (all_numbered rs) g in and_from (ltb r.value 128) (numbered rs) p.0 (ih p.1)
    by true false e ih g = ih (and_parts (ltb r.value 128) (all_numbered rs) g).1
    by false true e ih g = absurd (true≢false (sym (e refl)))
    by false false e ih g = ih g

-- where there is no first, there is none
pub none_refused : (ps : List ℕ) → least ps ≡ None → ps ≡ []
none_refused [] e = refl
none_refused (p ∷ ps) e = absurd (by (least ps) e)
  where
    by : (o : Option ℕ) → lesser p o ≡ None → ⊥
    by None g = cc
    by (Some q) g = cc
