-- A token that borrows its bytes, by its plain record, and what reading on from a place gives. Assumes nothing.
use Rattle.std.specs.Prelude.{◌≡◌, ℕ, ◌+◌, ◌≤◌, Bool, cond, List, [], ◌∷◌, length, drop, Some, None, Ok, Err, Option, Result, ◌==◌, slice_index}
use Rattle.std.specs.List.{prefix_len}
use Rattle.script.specs.declared.fault.Fault.{Fault}
use Rattle.script.specs.declared.token.Sym.{Sym}
use Rattle.script.specs.declared.token.Sym.TheVariants as sym
use Rattle.script.specs.declared.token.Tok.{Tok}
use Rattle.script.specs.Tokens.{mark, word, value_of, tok, after, lex}
use Rattle.lexer.specs.declared.scan.Token.{Token}
use Rattle.lexer.specs.declared.scan.Token.TheVariants.{Word, Number, Mark}

-- n is how many of the bytes, from the first on, pass the test that the calls answer
abbrev pub Counts : (ℕ → Bool → Type 0) → List ℕ → ℕ → Type 0
Counts answers bs n = (p : ℕ → Bool) → ((b : ℕ) (r : Bool) → answers b r → r ≡ p b) → n ≡ prefix_len p bs

-- the bytes that a token has in the text
abbrev pub bytes : Token → List ℕ
bytes (Word w) = w.now
bytes (Number w) = w.now
bytes (Mark w) = w.now

-- a mark of one byte is known by that byte; the only other one is `==`
abbrev pub known : Option Sym → Sym
known (Some s) = s
known None = sym.Same

abbrev pub sym_of_mark : List ℕ → Sym
sym_of_mark w = cond (length w == 1) (known (mark (slice_index w 0))) sym.Same

-- the record of a token that begins at a place
abbrev pub plain : Token → ℕ → Tok
plain (Word w) place = tok (word w.now) place (length w.now) 0
plain (Number w) place = tok sym.Number place (length w.now) (value_of w.now)
plain (Mark w) place = tok (sym_of_mark w.now) place (length w.now) 0

abbrev pub plain_if : Option Token → ℕ → Option Tok
plain_if None place = None
plain_if (Some t) place = Some (plain t place)

-- the tokens of the text from a place on
abbrev pub rest : List ℕ → ℕ → Result (List Tok) Fault
rest text at = lex 0 at (drop at text)

-- a token, if there is one, has a byte or more, and lies inside the text
abbrev pub Lies : List ℕ → ℕ → Option Token → Type 0
Lies text at None = Unit {0}
Lies text at (Some t) = (1 ≤ length (bytes t)) × (at + length (bytes t) ≤ length text)

-- what the first token from `at` on is
abbrev pub Found : List ℕ → ℕ → Result (Option (Token × ℕ)) Fault → Type 0
Found text at (Err f) = rest text at ≡ Err f
Found text at (Ok None) = rest text at ≡ Ok []
Found text at (Ok (Some t)) =
    (rest text at ≡ after (plain t.0 t.1 ∷ []) (rest text (t.1 + length (bytes t.0))))
    × (at ≤ t.1) × (1 ≤ length (bytes t.0)) × (t.1 + length (bytes t.0) ≤ length text)

-- what reading on from `at` answers, and the place `to` that it leaves off at
abbrev pub Reads : List ℕ → ℕ → Result (Option (Token × ℕ)) Fault → ℕ → Type 0
Reads text at (Err f) to = (rest text at ≡ Err f) × (to ≡ at)
Reads text at (Ok None) to = rest text at ≡ Ok []
Reads text at (Ok (Some t)) to =
    (rest text at ≡ after (plain t.0 t.1 ∷ []) (rest text to)) × (to ≡ t.1 + length (bytes t.0))
    × (at ≤ t.1) × (1 ≤ length (bytes t.0))
