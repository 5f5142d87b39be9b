-- What the loop that fills the table keeps. Assumes nothing.
use Rattle.std.proofs.Common.{◌≡◌, ℕ, ◌+◌, ◌≤◌, true, cond, ltb, List, [], ◌∷◌, ◌++◌, length, Some, None, Ok, Err, Option, Result, sym, ap, ◌∙◌, subst, arith, length-append, append-nil}
use Rattle.std.proofs.lemmas.Bool.{ltb-true}
use Rattle.list.specs.Entries.{added}
use Rattle.script.specs.declared.fault.Fault.{Fault}
use Rattle.script.specs.declared.token.Tok.{Tok}
use Rattle.script.specs.Faults.{fault}
use Rattle.script.specs.Tokens.{after, tokens}
use Rattle.lexer.specs.declared.scan.Token.{Token}
use Rattle.lexer.specs.Plain.{plain, rest, Reads}
use Rattle.lexer.specs.Places.{Full}
use Rattle.lexer.proofs.Begun.{plain_place}
use Rattle.lexer.proofs.Steps.{after_after, after_none}

-- the tokens ts, then those of r, so that none before r is r
abbrev pub before : List Tok → Result (List Tok) Fault → Result (List Tok) Fault
before [] r = r
before (t ∷ ts) r = after (t ∷ []) (before ts r)

before_after : (ts : List Tok) (r : Result (List Tok) Fault) → before ts r ≡ after ts r
before_after [] r = sym (after_none r)
before_after (t ∷ ts) r = ap (after (t ∷ [])) (before_after ts r) ∙ after_after (t ∷ []) ts r

-- the lexer reads the text s, and ts, of which there is room for n, are the tokens of the bytes before i
pub record Sofar (s t : List ℕ) (ts : List Tok) (n i : ℕ) : Type 0 where
  pub text : t ≡ s
  pub count : length ts ≤ i
  pub room : length ts ≤ n
  pub read : before ts (rest s i) ≡ tokens s

module _ {s t : List ℕ} {ts : List Tok} {n i : ℕ} (so : Sofar s t ts n i) where
  left : tokens s ≡ after ts (rest s i)
  left = sym so.read ∙ before_after ts (rest s i)

  pub sofar_end : (to : ℕ) (o : Option (Token × ℕ)) → o ≡ None → Reads t i (Ok o) to → tokens s ≡ Ok ts
  sofar_end to o is told =
      let end = subst (λ (p : Option (Token × ℕ)). Reads s i (Ok p) to) is (subst (λ (w : List ℕ). Reads w i (Ok o) to) so.text told) in
      left ∙ ap (after ts) end ∙ ap Ok (append-nil ts)

  pub sofar_stray : (to : ℕ) (f : Fault) → Reads t i (Err f) to → tokens s ≡ Err f
  sofar_stray to f told = left ∙ ap (after ts) (subst (λ (w : List ℕ). Reads w i (Err f) to) so.text told).0

  -- the lexer reads the token x, at which it goes on to `to`
  module _ (to : ℕ) (o : Option (Token × ℕ)) (x : Token × ℕ) (is : o ≡ Some x) (told : Reads t i (Ok o) to) where
    abbrev r : Tok
    r = plain x.0 x.1

    reads : Reads s i (Ok (Some x)) to
    reads = subst (λ (p : Option (Token × ℕ)). Reads s i (Ok p) to) is (subst (λ (w : List ℕ). Reads w i (Ok o) to) so.text told)

    walked : tokens s ≡ after (ts ++ r ∷ []) (rest s to)
    walked = left ∙ ap (after ts) reads.0 ∙ after_after ts (r ∷ []) (rest s to)

    pub sofar_full : (f : Fault) → f ≡ fault 4 x.1 → Full s ts f
    sofar_full f e = (r, rest s to, walked, e ∙ ap (fault 4) (sym (plain_place x.0 x.1)))

    pub sofar_more : (t' : List ℕ) (r' : Tok) (us : List Tok) → t' ≡ t → r' ≡ r → ltb (length ts) n ≡ true → us ≡ added ts n r' → Sofar s t' us n to
    sofar_more t' r' us e e' h is =
        let u : us ≡ ts ++ r ∷ [] = is ∙ ap (λ b. cond b (ts ++ r' ∷ []) ts) h ∙ ap (λ y. ts ++ y ∷ []) e' in
        let long : length us ≡ length ts + 1 = ap length u ∙ length-append ts (r ∷ []) in
        let less = ltb-true _ _ h in
        record {
          text = e ∙ so.text;
          count = omega (arith, so.count, reads.1, reads.2, reads.3);
          room = omega arith;
          read = ap (λ vs. before vs (rest s to)) u ∙ before_after (ts ++ r ∷ []) (rest s to) ∙ sym walked;
        }
