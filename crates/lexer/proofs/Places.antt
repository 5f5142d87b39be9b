-- Where the tokens of a text lie. Assumes nothing.
use Rattle.std.proofs.Common.{◌≡◌, ℕ, zero, suc, ◌+◌, ◌-◌, ◌<◌, ◌≤◌, cond, ◌&&◌, eqb, List, [], ◌∷◌, length, get_or, Some, None, Ok, Err, Option, Result, refl, subst, arith}
use Rattle.std.proofs.lemmas.List.Sums.{prefix_len-le-length}
use Rattle.std.proofs.lemmas.Bool.{cond_both, and_parts, eqb-true}
use Rattle.script.specs.declared.fault.Fault.{Fault}
use Rattle.script.specs.declared.token.Sym.{Sym}
use Rattle.script.specs.declared.token.Sym.TheVariants as sym
use Rattle.script.specs.declared.token.Tok.{Tok}
use Rattle.script.specs.Tokens.{blank, digit, letter, part, mark, mark_of, tok, token_of, after, begin, lex, tokens}
use Rattle.lexer.specs.Places.{Inside, Rising}

-- the tokens lie one after the other between two places
abbrev pub Chain : ℕ → ℕ → List Tok → Type 0
Chain lo hi [] = lo ≤ hi
Chain lo hi (t ∷ ts) = (lo ≤ t.place) × (1 ≤ t.len) × Chain (t.place + t.len) hi ts

abbrev Chained : ℕ → ℕ → Result (List Tok) Fault → Type 0
Chained lo hi (Ok ts) = Chain lo hi ts
Chained lo hi (Err f) = Unit {0}

lower : (lo lo' hi : ℕ) (r : Result (List Tok) Fault) → lo' ≤ lo → Chained lo hi r → Chained lo' hi r
lower lo lo' hi (Ok []) h c = omega arith
lower lo lo' hi (Ok (t ∷ ts)) h c = (omega arith, c.1, c.2)
lower lo lo' hi (Err f) h c = tt

moved : (lo lo' hi hi' : ℕ) (r : Result (List Tok) Fault) → lo' ≤ lo → hi ≡ hi' → Chained lo hi r → Chained lo' hi' r
moved lo lo' hi hi' r h e c = subst (λ n. Chained lo' n r) e (lower lo lo' hi r h c)

-- ---- a token ends within the bytes that are left

abbrev Fits : ℕ → ℕ → Option Tok → Type 0
Fits p n None = Unit {0}
Fits p n (Some t) = (t.place ≡ p) × (1 ≤ t.len) × (t.len ≤ 1 + n)

some_byte : (bs : List ℕ) → get_or bs 0 0 ≡ 61 → 1 ≤ length bs
some_byte [] e = absurd (omega arith)
some_byte (b ∷ bs) e = omega arith

mark_fits : (p b : ℕ) (bs : List ℕ) (o : Option Sym) → Fits p (length bs) (mark_of p b bs o)
mark_fits p b bs None = tt
mark_fits p b bs (Some s) =
    cond_both (eqb b 61 && eqb (get_or bs 0 0) 61) (tok sym.Same p 2 0) (tok s p 1 0) (λ t. Fits p (length bs) (Some t))
    (λ e. let h : 1 ≤ length bs = some_byte bs (eqb-true (get_or bs 0 0) 61 (and_parts (eqb b 61) (eqb (get_or bs 0 0) 61) e).1) in (refl, omega arith, omega arith))
    (λ _. (refl, omega arith, omega arith))

token_fits : (p b : ℕ) (bs : List ℕ) → Fits p (length bs) (token_of p b bs)
token_fits p b bs =
    let d = prefix_len-le-length digit bs in
    let l = prefix_len-le-length part bs in
    cond_both (digit b) _ _ (Fits p (length bs))
    (λ _. (refl, omega arith, omega arith))
    (λ _. cond_both (letter b) _ _ (Fits p (length bs)) (λ _. (refl, omega arith, omega arith)) (λ _. mark_fits p b bs (mark b)))

-- ---- the tokens of a text lie one after the other

after_chained : (t : Tok) (lo hi : ℕ) (r : Result (List Tok) Fault) → lo ≤ t.place → 1 ≤ t.len → Chained (t.place + t.len) hi r → Chained lo hi (after (t ∷ []) r)
after_chained t lo hi (Ok ts) h some c = (h, some, c)
after_chained t lo hi (Err f) h some c = tt

begin_chained : (p n hi : ℕ) (o : Option Tok) (more : ℕ → Result (List Tok) Fault) → Fits p n o → ((k : ℕ) → k ≤ n → Chained (p + 1 + k) hi (more k)) → Chained p hi (begin p o more)
begin_chained p n hi None more f c = tt
begin_chained p n hi (Some t) more f c =
    after_chained t p hi (more (t.len - 1)) (omega arith) f.1
    (lower (p + 1 + (t.len - 1)) (t.place + t.len) hi (more (t.len - 1)) (omega arith) (c (t.len - 1) (omega arith)))

lex_chained : (skip p : ℕ) (bs : List ℕ) → skip ≤ length bs → Chained (p + skip) (p + length bs) (lex skip p bs)
lex_chained zero p [] h = omega arith
lex_chained (suc k) p [] h = omega arith
lex_chained zero p (b ∷ bs) h =
    let hi : ℕ = p + 1 + length bs in
    let next : ℕ → Result (List Tok) Fault = λ n. lex n (p + 1) bs in
    let begun : Result (List Tok) Fault = begin p (token_of p b bs) next in
    moved p (p + 0) hi (p + suc (length bs)) (cond (blank b) (next 0) begun) (omega arith) (omega arith)
    (cond_both (blank b) (next 0) begun (Chained p hi)
    (λ _. lower (p + 1 + 0) p hi (next 0) (omega arith) (lex_chained 0 (p + 1) bs (omega arith)))
    (λ _. begin_chained p (length bs) hi (token_of p b bs) next (token_fits p b bs) (λ k g. lex_chained k (p + 1) bs g)))
lex_chained (suc k) p (b ∷ bs) h =
    moved (p + 1 + k) (p + suc k) (p + 1 + length bs) (p + suc (length bs)) (lex k (p + 1) bs) (omega arith) (omega arith) (lex_chained k (p + 1) bs (omega arith))

pub tokens_chain : (text : List ℕ) (ts : List Tok) → tokens text ≡ Ok ts → Chain 0 (length text) ts
tokens_chain text ts e =
    subst (Chained 0 (length text)) e (moved (0 + 0) 0 (0 + length text) (length text) (tokens text) (omega arith) (omega arith) (lex_chained 0 0 text (omega arith)))

-- ---- so each lies inside the text, and before the next

chain_le : (lo hi : ℕ) (ts : List Tok) → Chain lo hi ts → lo ≤ hi
chain_le lo hi [] c = c
chain_le lo hi (t ∷ ts) c = let h = chain_le (t.place + t.len) hi ts c.2 in omega arith

pub chain_inside : (lo hi : ℕ) (ts : List Tok) → Chain lo hi ts → Inside hi ts
chain_inside lo hi [] c k d h = absurd (omega arith)
chain_inside lo hi (t ∷ ts) c zero d h = (c.1, chain_le (t.place + t.len) hi ts c.2)
chain_inside lo hi (t ∷ ts) c (suc k) d h = chain_inside (t.place + t.len) hi ts c.2 k d (omega arith)

chain_from : (lo hi : ℕ) (ts : List Tok) → Chain lo hi ts → (k : ℕ) (d : Tok) → k < length ts → lo ≤ (get_or ts k d).place
chain_from lo hi [] c k d h = absurd (omega arith)
chain_from lo hi (t ∷ ts) c zero d h = c.0
chain_from lo hi (t ∷ ts) c (suc k) d h = let g = chain_from (t.place + t.len) hi ts c.2 k d (omega arith) in omega arith

pub chain_rising : (lo hi : ℕ) (ts : List Tok) → Chain lo hi ts → Rising ts
chain_rising lo hi [] c j k d l h = absurd (omega arith)
chain_rising lo hi (t ∷ ts) c zero zero d l h = absurd (omega arith)
chain_rising lo hi (t ∷ ts) c (suc j) zero d l h = absurd (omega arith)
chain_rising lo hi (t ∷ ts) c zero (suc k) d l h = chain_from (t.place + t.len) hi ts c.2 k d (omega arith)
chain_rising lo hi (t ∷ ts) c (suc j) (suc k) d l h = chain_rising (t.place + t.len) hi ts c.2 j k d (omega arith) (omega arith)

pub tokens_inside : (text : List ℕ) (ts : List Tok) → tokens text ≡ Ok ts → Inside (length text) ts
tokens_inside text ts e = chain_inside 0 (length text) ts (tokens_chain text ts e)

pub tokens_rising : (text : List ℕ) (ts : List Tok) → tokens text ≡ Ok ts → Rising ts
tokens_rising text ts e = chain_rising 0 (length text) ts (tokens_chain text ts e)
