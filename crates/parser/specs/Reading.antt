-- What it says of tokens that they were read to rows. Assumes nothing.
use Rattle.std.specs.Prelude.{◌≡◌, ℕ, ◌⊎◌, List, map, Some, None}
use Rattle.script.specs.declared.fault.Fault.{Fault}
use Rattle.script.specs.declared.row.Row.{Row}
use Rattle.script.specs.declared.token.Tok.{Tok}
use Rattle.script.specs.Faults.{fault}
use Rattle.script.specs.Sizes.{past_tokens}
use Rattle.script.specs.Nesting.{nesting}
use Rattle.script.specs.Written.{token, rows, Breaks}
use Rattle.script.specs.Decode.{decode}

-- the rows are all the rows of a script, which `decode` gives, and the tokens are theirs, one by one
abbrev pub Read : List Tok → List Row → Type 0
Read ts rs = (rs ≡ rows (decode rs)) × (ts ≡ map token rs)

-- questions 4 and 5 have nothing against the tokens, and they were read to the rows
abbrev pub Parses : List Tok → List Row → Type 0
Parses ts rs = (past_tokens ts ≡ None) × (nesting ts ≡ None) × Read ts rs

-- the first of questions 4 to 6 that says no to the tokens of a text of so many bytes, and where
abbrev pub Unparsed : ℕ → List Tok → Fault → Type 0
Unparsed end ts f =
    ((past_tokens ts ≡ Some f.place) × (f ≡ fault 4 f.place))
    ⊎ ((past_tokens ts ≡ None) × (((nesting ts ≡ Some f.place) × (f ≡ fault 5 f.place))
    ⊎ ((nesting ts ≡ None) × (f ≡ fault 6 f.place) × Breaks end ts f.place)))
