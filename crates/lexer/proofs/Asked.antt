-- Questions 1 to 4, one after the other. Assumes nothing.
use Rattle.std.proofs.Common.{◌≡◌, ℕ, List, Some, None, Ok, Err, Option, Result, refl, ap, ◌∙◌}
use Rattle.script.specs.declared.fault.Fault.{Fault}
use Rattle.script.specs.declared.token.Tok.{Tok}
use Rattle.script.specs.Faults.{fault, answer, unless, then}
use Rattle.script.specs.Tokens.{tokens}
use Rattle.script.specs.Sizes.{past_bytes, first_where, too_long, past_tokens, scanned}

refuses : {A : Type 0} (n : ℕ) (o : Option ℕ) (f : Fault) (next : Result A Fault) → Err f ≡ answer n o → unless n o next ≡ Err f
refuses n None f next e = cc
refuses n (Some p) f next e = let g : fault n p ≡ f = cc in ap Err g

passes : {A : Type 0} (n : ℕ) (o : Option ℕ) (next : Result A Fault) → Ok tt ≡ answer n o → unless n o next ≡ next
passes n None next e = refl
passes n (Some p) next e = cc

abbrev After : List Tok → Result (List Tok) Fault
After ts = unless 3 (first_where too_long ts) (unless 4 (past_tokens ts) (Ok ts))

module _ (text : List ℕ) (e₁ : Ok tt ≡ answer 1 (past_bytes text)) (ts : List Tok) (are : tokens text ≡ Ok ts) (e₃ : Ok tt ≡ answer 3 (first_where too_long ts)) where
  there : scanned text ≡ unless 4 (past_tokens ts) (Ok ts)
  there =
      passes 1 (past_bytes text) (then (tokens text) After) e₁
      ∙ ap (λ r. then r After) are
      ∙ passes 3 (first_where too_long ts) (unless 4 (past_tokens ts) (Ok ts)) e₃

  pub at_4 : (f : Fault) → Err f ≡ answer 4 (past_tokens ts) → scanned text ≡ Err f
  at_4 f e = there ∙ refuses 4 (past_tokens ts) f (Ok ts) e

  pub at_end : Ok tt ≡ answer 4 (past_tokens ts) → scanned text ≡ Ok ts
  at_end e = there ∙ passes 4 (past_tokens ts) (Ok ts) e
