-- What the tokens of a text are. Assumes nothing.
use Rattle.std.specs.Prelude.{ℕ, zero, suc, ◌+◌, ◌-◌, ◌*◌, min, Bool, cond, ◌&&◌, ◌||◌, List, [], ◌∷◌, ◌++◌, take, drop, Some, None, Ok, Err, codes, Option, Result, ◌==◌, nat_le, slice_index}
use Rattle.std.specs.List.{prefix_len}
use Rattle.std.specs.Str.{bytes_eq}
use Rattle.script.specs.declared.fault.Fault.{Fault}
use Rattle.script.specs.declared.token.Tok.{Tok}
use Rattle.script.specs.declared.token.Sym.{Sym}
use Rattle.script.specs.declared.token.Sym.TheVariants as sym
use Rattle.script.specs.Faults.{fault}

-- ---- bytes: blanks are space, tab, carriage return and line feed

abbrev pub blank : ℕ → Bool
blank b = b == 32 || (b == 9 || (b == 13 || b == 10))

abbrev pub digit : ℕ → Bool
digit b = nat_le 48 b && nat_le b 57

-- a letter or the underscore: what a name begins with
abbrev pub letter : ℕ → Bool
letter b = (nat_le 97 b && nat_le b 122) || ((nat_le 65 b && nat_le b 90) || b == 95)

-- what a name goes on with
abbrev pub part : ℕ → Bool
part b = letter b || digit b

-- ---- symbols

-- the symbol of a mark of one byte
abbrev pub mark : ℕ → Option Sym
mark b =
    cond (b == 123) (Some sym.BraceOpen)
    (cond (b == 125) (Some sym.BraceClose)
    (cond (b == 40) (Some sym.ParenOpen)
    (cond (b == 41) (Some sym.ParenClose)
    (cond (b == 59) (Some sym.Semicolon)
    (cond (b == 44) (Some sym.Comma)
    (cond (b == 61) (Some sym.Assign)
    (cond (b == 60) (Some sym.Less)
    (cond (b == 43) (Some sym.Plus)
    (cond (b == 45) (Some sym.Minus)
    (cond (b == 42) (Some sym.Times)
    (cond (b == 47) (Some sym.Over) None)))))))))))

-- a reserved word has its own symbol, every other word is a name
abbrev pub word : List ℕ → Sym
word w =
    cond (bytes_eq w (codes "cell")) sym.Cell
    (cond (bytes_eq w (codes "var")) sym.Var
    (cond (bytes_eq w (codes "fresh")) sym.Fresh
    (cond (bytes_eq w (codes "main")) sym.Main
    (cond (bytes_eq w (codes "in")) sym.In
    (cond (bytes_eq w (codes "if")) sym.If
    (cond (bytes_eq w (codes "else")) sym.Else
    (cond (bytes_eq w (codes "repeat")) sym.Repeat
    (cond (bytes_eq w (codes "atomic")) sym.Atomic
    (cond (bytes_eq w (codes "together")) sym.Together sym.Name)))))))))

-- ---- numbers

-- the number that decimal digits write, after those that wrote n
abbrev pub decimal : ℕ → List ℕ → ℕ
decimal n [] = n
decimal n (d ∷ ds) = decimal (n * 10 + (d - 48)) ds

-- its value as a token keeps it: past the greatest number, 2147483647, all are one
abbrev pub value_of : List ℕ → ℕ
value_of ds = min (decimal 0 ds) 2147483648

-- ---- tokens

abbrev pub tok : Sym → ℕ → ℕ → ℕ → Tok
tok s place len value = record { sym = s; place = place; len = len; value = value }

-- `==` is one mark: the longest token is taken
abbrev pub mark_of : ℕ → ℕ → List ℕ → Option Sym → Option Tok
mark_of place b bs None = None
mark_of place b bs (Some s) = Some (cond (b == 61 && slice_index bs 0 == 61) (tok sym.Same place 2 0) (tok s place 1 0))

-- the token that begins with the byte b, which the bytes bs follow
abbrev pub token_of : ℕ → ℕ → List ℕ → Option Tok
token_of place b bs =
    cond (digit b) (Some (tok sym.Number place (1 + prefix_len digit bs) (value_of (b ∷ take (prefix_len digit bs) bs))))
    (cond (letter b) (Some (tok (word (b ∷ take (prefix_len part bs) bs)) place (1 + prefix_len part bs) 0))
    (mark_of place b bs (mark b)))

-- the tokens ts, then those of r
abbrev pub after : List Tok → Result (List Tok) Fault → Result (List Tok) Fault
after ts (Ok us) = Ok (ts ++ us)
after ts (Err f) = Err f

-- a byte that is no blank begins a token, or is the first that none has
abbrev pub begin : ℕ → Option Tok → (ℕ → Result (List Tok) Fault) → Result (List Tok) Fault
begin place None more = Err (fault 2 place)
begin place (Some t) more = after (t ∷ []) (more (t.len - 1))

-- the tokens of the bytes that stand from `place` on, past the `skip` bytes of a token that is begun
abbrev pub lex : ℕ → ℕ → List ℕ → Result (List Tok) Fault
lex skip place [] = Ok []
lex zero place (b ∷ bs) = cond (blank b) (lex 0 (place + 1) bs) (begin place (token_of place b bs) (λ n. lex n (place + 1) bs))
lex (suc skip) place (b ∷ bs) = lex skip (place + 1) bs

-- the tokens of a text, or its first byte that is neither a blank nor part of a token
abbrev pub tokens : List ℕ → Result (List Tok) Fault
tokens text = lex 0 0 text

-- the bytes of a token or a row: the part of the text that it is
abbrev pub spelled : List ℕ → ℕ → ℕ → List ℕ
spelled text place len = take len (drop place text)
