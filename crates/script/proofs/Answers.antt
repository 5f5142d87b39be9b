-- What the answer of a question tells. Assumes nothing.
use Rattle.std.proofs.Common.{◌≡◌, ℕ, ◌≤◌, List, [], ◌∷◌, length, drop, Some, None, Ok, Err, Option, Result, sym, refl, ap, ◌∙◌, arith, length-drop, MatchResult}
use Rattle.script.specs.declared.fault.Fault.{Fault}
use Rattle.script.specs.declared.token.Tok.{Tok}
use Rattle.script.specs.Faults.{fault, answer}
use Rattle.script.specs.Sizes.{first_place, past_tokens}

pub refused : (n : ℕ) (o : Option ℕ) (f : Fault) → Err f ≡ answer n o → (o ≡ Some f.place) × (f ≡ fault n f.place)
refused n None f e = absurd (let z : ◌≡◌ {A = ℕ} 0 1 = cc in omega arith)
refused n (Some p) f e =
    let g : f ≡ fault n p = cc in
    (ap (λ (x : Fault). Some x.place) (sym g), g ∙ ap (λ (x : Fault). fault n x.place) (sym g))

pub taken : (n : ℕ) (o : Option ℕ) → Ok tt ≡ answer n o → o ≡ None
taken n None e = refl
taken n (Some p) e = absurd (let z : ◌≡◌ {A = ℕ} 0 1 = cc in omega arith)

-- what holds where the question says nothing, and where it refuses
pub by_answer : (n : ℕ) (o : Option ℕ) (r : Result (Unit {0}) Fault) (P : Type 0) (Q : Fault → Type 0) → r ≡ answer n o → (Ok tt ≡ answer n o → P) → ((f : Fault) → Err f ≡ answer n o → Q f) → MatchResult r (λ _. P) Q
by_answer n o (Ok u) P Q e p q = p e
by_answer n o (Err f) P Q e p q = q f e

-- where question 4 says nothing, there are few tokens
pub few_tokens : (ts : List Tok) → past_tokens ts ≡ None → length ts ≤ 2048
few_tokens ts e = let n = by (drop 2048 ts) e in let l = length-drop 2048 ts in omega (arith, n, l)
  where
    by : (us : List Tok) → first_place us ≡ None → length us ≡ 0
    by [] h = refl
    by (u ∷ us) h = absurd (let z : ◌≡◌ {A = ℕ} 0 1 = cc in omega arith)
