-- Questions 4 to 6, one after the other. Assumes nothing.
use Rattle.std.proofs.Common.{◌≡◌, ℕ, List, Ok, Err, inl, inr}
use Rattle.script.specs.declared.fault.Fault.{Fault}
use Rattle.script.specs.declared.token.Tok.{Tok}
use Rattle.script.specs.Faults.{fault, answer}
use Rattle.script.specs.Sizes.{past_tokens}
use Rattle.script.specs.Nesting.{nesting}
use Rattle.script.specs.Written.{Breaks}
use Rattle.script.proofs.Answers.{refused, taken}
use Rattle.parser.specs.Reading.{Unparsed}

module _ (end : ℕ) (ts : List Tok) (f : Fault) where
  pub at_4 : Err f ≡ answer 4 (past_tokens ts) → Unparsed end ts f
  at_4 e = inl (refused 4 (past_tokens ts) f e)

  module _ (e₄ : Ok tt ≡ answer 4 (past_tokens ts)) where
    pub at_5 : Err f ≡ answer 5 (nesting ts) → Unparsed end ts f
    at_5 e = inr (taken 4 _ e₄, inl (refused 5 (nesting ts) f e))

    pub at_6 : Ok tt ≡ answer 5 (nesting ts) → (f ≡ fault 6 f.place) × Breaks end ts f.place → Unparsed end ts f
    at_6 e b = inr (taken 4 _ e₄, inr (taken 5 _ e, b.0, b.1))
