-- What the questions on sizes ask of a text and of its tokens. Assumes nothing.
use Rattle.std.specs.Prelude.{ℕ, Bool, false, cond, List, [], ◌∷◌, length, drop, Some, None, Ok, Option, Result, nat_le, nat_lt}
use Rattle.script.specs.declared.fault.Fault.{Fault}
use Rattle.script.specs.declared.token.Sym.{Sym}
use Rattle.script.specs.declared.token.Sym.TheVariants as sym
use Rattle.script.specs.declared.token.Tok.{Tok}
use Rattle.script.specs.Faults.{unless, then}
use Rattle.script.specs.Tokens.{tokens}

-- question 1: a text has at most 8192 bytes; of a longer one, the first byte past them
abbrev pub past_bytes : List ℕ → Option ℕ
past_bytes text = cond (nat_le (length text) 8192) None (Some 8192)

-- the place of the first token that a test holds of
abbrev pub first_where : (Tok → Bool) → List Tok → Option ℕ
first_where p [] = None
first_where p (t ∷ ts) = cond (p t) (Some t.place) (first_where p ts)

-- question 3: a name has at most 24 bytes, and a number is at most 2147483647; nothing else has a limit
abbrev pub over : Sym → ℕ → ℕ → Bool
over sym.Name len value = nat_lt 24 len
over sym.Number len value = nat_lt 2147483647 value
over sym.Cell len value = false
over sym.Var len value = false
over sym.Fresh len value = false
over sym.Main len value = false
over sym.In len value = false
over sym.If len value = false
over sym.Else len value = false
over sym.Repeat len value = false
over sym.Atomic len value = false
over sym.Together len value = false
over sym.BraceOpen len value = false
over sym.BraceClose len value = false
over sym.ParenOpen len value = false
over sym.ParenClose len value = false
over sym.Semicolon len value = false
over sym.Comma len value = false
over sym.Assign len value = false
over sym.Less len value = false
over sym.Same len value = false
over sym.Plus len value = false
over sym.Minus len value = false
over sym.Times len value = false
over sym.Over len value = false

abbrev pub too_long : Tok → Bool
too_long t = over t.sym t.len t.value

-- question 4: a text has at most 2048 tokens; of more, the place of the first past them
abbrev pub first_place : List Tok → Option ℕ
first_place [] = None
first_place (t ∷ ts) = Some t.place

abbrev pub past_tokens : List Tok → Option ℕ
past_tokens ts = first_place (drop 2048 ts)

-- questions 1 to 4 in their order: the tokens of the text, or the first fault
abbrev pub scanned : List ℕ → Result (List Tok) Fault
scanned text = unless 1 (past_bytes text) (then (tokens text) (λ ts. unless 3 (first_where too_long ts) (unless 4 (past_tokens ts) (Ok ts))))
