-- What the tokens of the text from a place on are, step by step. Assumes nothing.
use Rattle.std.proofs.Common.{◌≡◌, ℕ, zero, suc, ◌+◌, ◌-◌, ◌<◌, ◌≤◌, Bool, true, false, cond, List, [], ◌∷◌, ◌++◌, length, get_or, take, drop, Some, None, Ok, Err, Option, Result, sym, refl, ap, ◌∙◌, append_assoc, add-zero, one-add, arith}
use Rattle.std.specs.List.{prefix_len}
use Rattle.std.proofs.lemmas.List.{at_drop_more, at_drop_all, drop-drop, get_or-drop, get_or_past, length-take-le, length-drop, take_all}
use Rattle.std.proofs.lemmas.List.Sums.{prefix_len-le-length, prefix_len_stops}
use Rattle.script.specs.declared.fault.Fault.{Fault}
use Rattle.script.specs.declared.token.Tok.{Tok}
use Rattle.script.specs.Faults.{fault}
use Rattle.script.specs.Tokens.{blank, token_of, after, begin, lex}
use Rattle.lexer.specs.Plain.{rest}

-- ---- bytes of the text

pub next_byte : (s : List ℕ) (i : ℕ) → get_or (drop (i + 1) s) 0 0 ≡ get_or s (i + 1) 0
next_byte s i = get_or-drop (i + 1) s 0 0 ∙ ap (λ k. get_or s k 0) (add-zero (i + 1))

pub no_next : (s : List ℕ) (i : ℕ) → length s ≤ i + 1 → get_or (drop (i + 1) s) 0 0 ≡ 0
no_next s i h = next_byte s i ∙ get_or_past s (i + 1) 0 h

-- the bytes from i on, as many as 1 + k
pub cut : (s : List ℕ) (i k n : ℕ) → i < length s → n ≡ 1 + k → take n (drop i s) ≡ get_or s i 0 ∷ take k (drop (i + 1) s)
cut s i k n lt e = ap (λ m. take m (drop i s)) (e ∙ one-add k) ∙ at_drop_more (take (suc k)) s i 0 lt

pub cut_length : (s : List ℕ) (i n : ℕ) → i + n ≤ length s → length (take n (drop i s)) ≡ n
cut_length s i n h = length-take-le n (drop i s) (rw length-drop (omega arith))

-- ---- tokens of what is left

pub after_after : (ts us : List Tok) (r : Result (List Tok) Fault) → after ts (after us r) ≡ after (ts ++ us) r
after_after ts us (Ok vs) = ap Ok (sym (append_assoc ts us vs))
after_after ts us (Err f) = refl

pub after_none : (r : Result (List Tok) Fault) → after [] r ≡ r
after_none (Ok ts) = refl
after_none (Err f) = refl

lex_skip : (k p : ℕ) (bs : List ℕ) → lex k p bs ≡ lex 0 (p + k) (drop k bs)
lex_skip zero p [] = refl
lex_skip (suc k) p [] = refl
lex_skip zero p (b ∷ bs) = ap (λ q. lex 0 q (b ∷ bs)) (sym (add-zero p))
lex_skip (suc k) p (b ∷ bs) = lex_skip k (p + 1) bs ∙ ap (λ q. lex 0 q (drop k bs)) (omega arith)

-- what follows a token of n bytes
past : (s : List ℕ) (i n : ℕ) → 1 ≤ n → lex (n - 1) (i + 1) (drop (i + 1) s) ≡ rest s (i + n)
past s i n h =
    let e : i + 1 + (n - 1) ≡ i + n = omega arith in
    lex_skip (n - 1) (i + 1) (drop (i + 1) s) ∙ ap (lex 0 (i + 1 + (n - 1))) (drop-drop (n - 1) (i + 1) s) ∙ ap (rest s) e

-- blanks are passed over
lex_blanks : (p : ℕ) (bs : List ℕ) → lex 0 p bs ≡ lex 0 (p + prefix_len blank bs) (drop (prefix_len blank bs) bs)
lex_blanks p [] = refl
lex_blanks p (b ∷ bs) = by (blank b) refl (lex_blanks (p + 1) bs)
  where
    k : ℕ
    k = prefix_len blank bs

    to : Bool → ℕ
    to v = cond v (1 + k) 0

    by : (v : Bool) → blank b ≡ v → lex 0 (p + 1) bs ≡ lex 0 (p + 1 + k) (drop k bs) → lex 0 p (b ∷ bs) ≡ lex 0 (p + to v) (drop (to v) (b ∷ bs))
    by true e more =
        let s : drop k bs ≡ drop (1 + k) (b ∷ bs) = ap (λ n. drop n (b ∷ bs)) (sym (one-add k)) in
        ap (λ v. cond v (lex 0 (p + 1) bs) (begin p (token_of p b bs) (λ n. lex n (p + 1) bs))) e
        ∙ more ∙ ap (lex 0 (p + 1 + k)) s ∙ ap (λ q. lex 0 q (drop (1 + k) (b ∷ bs))) (omega arith)
    by false e more = ap (λ q. lex 0 q (b ∷ bs)) (sym (add-zero p))

pub rest_start : (s : List ℕ) (at start : ℕ) → start ≡ at + prefix_len blank (drop at s) → rest s at ≡ rest s start
rest_start s at start e =
    let k : ℕ = prefix_len blank (drop at s) in
    lex_blanks at (drop at s) ∙ ap (lex 0 (at + k)) (drop-drop k at s) ∙ ap (rest s) (sym e)

pub rest_end : (s : List ℕ) (i : ℕ) → length s ≤ i → rest s i ≡ Ok []
rest_end s i h = at_drop_all (lex 0 i) s i h

-- a byte that is no blank begins a token, or none has it
module _ (s : List ℕ) (i : ℕ) (lt : i < length s) (e : blank (get_or s i 0) ≡ false) where
  begins : (o : Option Tok) → o ≡ token_of i (get_or s i 0) (drop (i + 1) s) → rest s i ≡ begin i o (λ n. lex n (i + 1) (drop (i + 1) s))
  begins o is =
      let next : ℕ → Result (List Tok) Fault = λ n. lex n (i + 1) (drop (i + 1) s) in
      at_drop_more (lex 0 i) s i 0 lt
      ∙ ap (λ b. cond b (lex 0 (i + 1) (drop (i + 1) s)) (begin i (token_of i (get_or s i 0) (drop (i + 1) s)) next)) e
      ∙ ap (λ o'. begin i o' next) (sym is)

  pub rest_stray : None ≡ token_of i (get_or s i 0) (drop (i + 1) s) → rest s i ≡ Err (fault 2 i)
  rest_stray is = begins None is

  pub rest_token : (t : Tok) → Some t ≡ token_of i (get_or s i 0) (drop (i + 1) s) → 1 ≤ t.len → rest s i ≡ after (t ∷ []) (rest s (i + t.len))
  rest_token t is some = begins (Some t) is ∙ ap (after (t ∷ [])) (past s i t.len some)

-- ---- the run of bytes that pass a test

pub counted : (p : ℕ → Bool) (s : List ℕ) (at n : ℕ) → n ≡ prefix_len p (take (length s - at) (drop at s)) → at + n ≡ at + prefix_len p (drop at s)
counted p s at n e = let l = length-drop at s in ap (λ k. at + k) (e ∙ ap (prefix_len p) (take_all (length s - at) (drop at s) (omega (arith, l))))

module _ (p : ℕ → Bool) (s : List ℕ) (at start : ℕ) (e : start ≡ at + prefix_len p (drop at s)) where
  pub run_within : at ≤ length s → start ≤ length s
  run_within h = let k = prefix_len-le-length p (drop at s) in let l = length-drop at s in omega (arith, k, l, e)

  pub run_stops : start < length s → p (get_or s start 0) ≡ false
  run_stops h =
      let k : ℕ = prefix_len p (drop at s) in
      let l = length-drop at s in
      let lt : k < length (drop at s) = omega (arith, l, e, h) in
      ap p (ap (λ j. get_or s j 0) e ∙ sym (get_or-drop at s k 0)) ∙ prefix_len_stops p (drop at s) 0 lt
