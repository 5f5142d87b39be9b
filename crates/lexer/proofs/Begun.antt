-- The token that a byte begins, by the test that the byte meets. Assumes nothing.
use Rattle.std.proofs.Common.{◌≡◌, ℕ, ◌+◌, ◌-◌, ◌<◌, ◌≤◌, Bool, true, false, cond, ◌&&◌, ◌||◌, eqb, ltb, List, [], ◌∷◌, length, get_or, take, drop, Some, None, Ok, Err, Option, sym, refl, ap, ◌∙◌, inl, inr, arith}
use Rattle.std.specs.List.{prefix_len}
use Rattle.std.specs.Option.{option_map}
use Rattle.std.proofs.lemmas.Bool.{eqb-true, ltb-true, ltb-false, and_parts, and_cases, and_right, or_parts}
use Rattle.script.specs.declared.fault.Fault.{Fault}
use Rattle.script.specs.declared.token.Sym.{Sym}
use Rattle.script.specs.declared.token.Sym.TheVariants as sym
use Rattle.script.specs.declared.token.Tok.{Tok}
use Rattle.script.specs.Faults.{fault}
use Rattle.script.specs.Tokens.{blank, digit, letter, part, mark, mark_of, word, value_of, tok, token_of, after}
use Rattle.lexer.specs.declared.scan.Token.{Token}
use Rattle.lexer.specs.declared.scan.Token.TheVariants.{Word, Number, Mark}
use Rattle.lexer.specs.Plain.{bytes, plain, known, sym_of_mark, rest, Lies, Found}
use Rattle.lexer.proofs.Steps.{cut, cut_length, next_byte, no_next, counted, run_within, run_stops, rest_start, rest_end, rest_stray, rest_token}

pub plain_len : (t : Token) (p : ℕ) → (plain t p).len ≡ length (bytes t)
plain_len (Word w) p = refl
plain_len (Number w) p = refl
plain_len (Mark w) p = refl

pub plain_place : (t : Token) (p : ℕ) → (plain t p).place ≡ p
plain_place (Word w) p = refl
plain_place (Number w) p = refl
plain_place (Mark w) p = refl

-- the bytes of a token
abbrev Part : List ℕ → ℕ → ℕ → List ℕ
Part s i n = take n (drop i s)

-- ---- the three ways that a token begins

or_first : (x y : Bool) → (x || y) ≡ true → y ≡ false → x ≡ true
or_first true y h e = refl
or_first false y h e = sym e ∙ h

module _ (i b : ℕ) (bs : List ℕ) where
  abbrev as_number : Option Tok
  as_number = Some (tok sym.Number i (1 + prefix_len digit bs) (value_of (b ∷ take (prefix_len digit bs) bs)))

  abbrev as_word : Option Tok
  as_word = Some (tok (word (b ∷ take (prefix_len part bs) bs)) i (1 + prefix_len part bs) 0)

  token_digit : digit b ≡ true → token_of i b bs ≡ as_number
  token_digit d = ap (λ v. cond v as_number (cond (letter b) as_word (mark_of i b bs (mark b)))) d

  token_letter : digit b ≡ false → letter b ≡ true → token_of i b bs ≡ as_word
  token_letter d l =
      ap (λ v. cond v as_number (cond (letter b) as_word (mark_of i b bs (mark b)))) d
      ∙ ap (λ v. cond v as_word (mark_of i b bs (mark b))) l

  token_mark : digit b ≡ false → letter b ≡ false → token_of i b bs ≡ mark_of i b bs (mark b)
  token_mark d l =
      ap (λ v. cond v as_number (cond (letter b) as_word (mark_of i b bs (mark b)))) d
      ∙ ap (λ v. cond v as_word (mark_of i b bs (mark b))) l

-- n bytes behind the one at i pass the test
module _ (s : List ℕ) (i n : ℕ) (lt : i < length s) where
  abbrev Whole : List ℕ
  Whole = Part s i (i + 1 + n - i)

  module _ (p : ℕ → Bool) (e : n ≡ prefix_len p (take (length s - (i + 1)) (drop (i + 1) s))) where
    size : i + 1 + n - i ≡ 1 + prefix_len p (drop (i + 1) s)
    size = let c = counted p s (i + 1) n e in omega (arith, c)

    long : length Whole ≡ 1 + prefix_len p (drop (i + 1) s)
    long = let w = run_within p s (i + 1) (i + 1 + n) (counted p s (i + 1) n e) (omega arith) in cut_length s i (i + 1 + n - i) (omega (arith, w)) ∙ size

    all : Whole ≡ get_or s i 0 ∷ take (prefix_len p (drop (i + 1) s)) (drop (i + 1) s)
    all = cut s i (prefix_len p (drop (i + 1) s)) (i + 1 + n - i) lt size

  pub number_at : n ≡ prefix_len digit (take (length s - (i + 1)) (drop (i + 1) s)) → digit (get_or s i 0) ≡ true
      → Some (tok sym.Number i (length Whole) (value_of Whole)) ≡ token_of i (get_or s i 0) (drop (i + 1) s)
  number_at e d =
      ap (λ m. Some (tok sym.Number i m (value_of Whole))) (long digit e)
      ∙ ap (λ w. Some (tok sym.Number i (1 + prefix_len digit (drop (i + 1) s)) (value_of w))) (all digit e)
      ∙ sym (token_digit i (get_or s i 0) (drop (i + 1) s) d)

  pub word_at : n ≡ prefix_len part (take (length s - (i + 1)) (drop (i + 1) s)) → digit (get_or s i 0) ≡ false → part (get_or s i 0) ≡ true
      → Some (tok (word Whole) i (length Whole) 0) ≡ token_of i (get_or s i 0) (drop (i + 1) s)
  word_at e d l =
      ap (λ m. Some (tok (word Whole) i m 0)) (long part e)
      ∙ ap (λ w. Some (tok (word w) i (1 + prefix_len part (drop (i + 1) s)) 0)) (all part e)
      ∙ sym (token_letter i (get_or s i 0) (drop (i + 1) s) d (or_first (letter (get_or s i 0)) (digit (get_or s i 0)) l d))

pub mark_at : (s : List ℕ) (i : ℕ) → digit (get_or s i 0) ≡ false → part (get_or s i 0) ≡ false
    → mark_of i (get_or s i 0) (drop (i + 1) s) (mark (get_or s i 0)) ≡ token_of i (get_or s i 0) (drop (i + 1) s)
mark_at s i d l = sym (token_mark i (get_or s i 0) (drop (i + 1) s) d (or_parts _ _ l).0)

-- ---- marks

-- the two bytes of `==` stand at i, inside the text
abbrev Doubled : List ℕ → ℕ → Bool
Doubled s i = ltb (i + 1) (length s) && (eqb (get_or s i 0) 61 && eqb (get_or s (i + 1) 0) 61)

pub same_within : (s : List ℕ) (i : ℕ) → Doubled s i ≡ true → i + 2 ≤ length s
same_within s i e = let h = ltb-true (i + 1) (length s) (and_parts _ _ e).0 in omega arith

pub same_next : (s : List ℕ) (i : ℕ) → Doubled s i ≡ true → (eqb (get_or s i 0) 61 && eqb (get_or (drop (i + 1) s) 0 0) 61) ≡ true
same_next s i e = ap (λ b. eqb (get_or s i 0) 61 && eqb b 61) (next_byte s i) ∙ (and_parts _ _ e).1

pub not_same : (s : List ℕ) (i : ℕ) → Doubled s i ≡ false → (eqb (get_or s i 0) 61 && eqb (get_or (drop (i + 1) s) 0 0) 61) ≡ false
not_same s i e = elim (and_cases _ _ e) [ inl past ↦ and_right _ _ (ap (λ b. eqb b 61) (no_next s i (ltb-false _ _ past))) | inr other ↦ ap (λ b. eqb (get_or s i 0) 61 && eqb b 61) (next_byte s i) ∙ other ]

pub same_at : (s : List ℕ) (i n : ℕ) → n ≡ 2 → i + 2 ≤ length s → (eqb (get_or s i 0) 61 && eqb (get_or (drop (i + 1) s) 0 0) 61) ≡ true
    → Some (tok (sym_of_mark (Part s i n)) i (length (Part s i n)) 0) ≡ mark_of i (get_or s i 0) (drop (i + 1) s) (mark (get_or s i 0))
same_at s i n e within both =
    let b : ℕ = get_or s i 0 in
    let bs : List ℕ = drop (i + 1) s in
    let w : List ℕ = Part s i n in
    let long : length w ≡ 2 = cut_length s i n (omega arith) ∙ e in
    let is : mark b ≡ Some sym.Assign = ap mark (eqb-true b 61 (and_parts _ _ both).0) in
    ap (λ m. Some (tok (cond (eqb m 1) (known (mark (get_or w 0 0))) sym.Same) i m 0)) long
    ∙ ap (λ v. Some (cond v (tok sym.Same i 2 0) (tok sym.Assign i 1 0))) (sym both)
    ∙ ap (mark_of i b bs) (sym is)

one_at : (s : List ℕ) (i n : ℕ) (x : Sym) → n ≡ 1 → i < length s → (eqb (get_or s i 0) 61 && eqb (get_or (drop (i + 1) s) 0 0) 61) ≡ false → Some x ≡ mark (get_or s i 0)
    → Some (tok (sym_of_mark (Part s i n)) i (length (Part s i n)) 0) ≡ mark_of i (get_or s i 0) (drop (i + 1) s) (mark (get_or s i 0))
one_at s i n x e within both is =
    let b : ℕ = get_or s i 0 in
    let bs : List ℕ = drop (i + 1) s in
    let w : List ℕ = Part s i n in
    let long : length w ≡ 1 = cut_length s i n (omega arith) ∙ e in
    ap (λ m. Some (tok (cond (eqb m 1) (known (mark (get_or w 0 0))) sym.Same) i m 0)) long
    ∙ ap (λ v. Some (tok (known (mark (get_or v 0 0))) i 1 0)) (cut s i 0 n within e)
    ∙ ap (λ o. Some (tok (known o) i 1 0)) (sym is)
    ∙ ap (λ v. Some (cond v (tok sym.Same i 2 0) (tok x i 1 0))) (sym both)
    ∙ ap (mark_of i b bs) is

pub marked_at : (s : List ℕ) (i n : ℕ) (o : Option Sym) → n ≡ 1 → i < length s → (eqb (get_or s i 0) 61 && eqb (get_or (drop (i + 1) s) 0 0) 61) ≡ false → o ≡ mark (get_or s i 0)
    → option_map (λ _. tok (sym_of_mark (Part s i n)) i (length (Part s i n)) 0) o ≡ mark_of i (get_or s i 0) (drop (i + 1) s) (mark (get_or s i 0))
marked_at s i n None e within both is = ap (mark_of i (get_or s i 0) (drop (i + 1) s)) is
marked_at s i n (Some x) e within both is = one_at s i n x e within both is

-- ---- n blanks stand from `at` on

module _ (s : List ℕ) (at n : ℕ) (e : n ≡ prefix_len blank (take (length s - at) (drop at s))) where
  on : rest s at ≡ rest s (at + n)
  on = rest_start s at (at + n) (counted blank s at n e)

  pub from_end : length s ≤ at + n → rest s at ≡ Ok []
  from_end h = on ∙ rest_end s (at + n) h

  module _ (lt : at + n < length s) where
    stop : blank (get_or s (at + n) 0) ≡ false
    stop = run_stops blank s at (at + n) (counted blank s at n e) lt

    pub from_stray : (f : Fault) → None ≡ token_of (at + n) (get_or s (at + n) 0) (drop (at + n + 1) s) → f ≡ fault 2 (at + n) → rest s at ≡ Err f
    from_stray f is g = on ∙ rest_stray s (at + n) lt stop is ∙ ap Err (sym g)

    pub from_token : (t : Token) → Some (plain t (at + n)) ≡ token_of (at + n) (get_or s (at + n) 0) (drop (at + n + 1) s) → Lies s (at + n) (Some t) → Found s at (Ok (Some (t, at + n)))
    from_token t is lies =
        let long = plain_len t (at + n) in
        let one = rest_token s (at + n) lt stop (plain t (at + n)) is (omega (arith, long, lies.0)) in
        (on ∙ one ∙ ap (λ k. after (plain t (at + n) ∷ []) (rest s (at + n + k))) long, omega arith, lies.0, lies.1)
