-- The twelve questions that reading puts to a text, each to the whole text, and the first that says no. (The
-- thirteenth is put to a read script: see Stand.) Assumes nothing.
use Rattle.std.specs.Prelude.{◌≡◌, ℕ, ◌<◌, ◌⊎◌, List, [], map, length, Some, Ok, Err}
use Rattle.script.specs.declared.fault.Fault.{Fault}
use Rattle.script.specs.declared.token.Tok.{Tok}
use Rattle.script.specs.Faults.{fault}
use Rattle.script.specs.Tokens.{tokens}
use Rattle.script.specs.Sizes.{past_bytes, first_where, too_long, past_tokens}
use Rattle.script.specs.Nesting.{nesting}
use Rattle.script.specs.Syntax.{Script}
use Rattle.script.specs.Written.{token, rows, Breaks}
use Rattle.script.specs.Decode.{decode}
use Rattle.script.specs.Roles.{declares_cell, those, first_row}
use Rattle.script.specs.Names.{names, crowded, twice, undeclared, into_cell, out_of_range, no_row}
use Rattle.script.specs.Steps.{steps_of, readings_of}

pub data Question : Type 0 where
  bytes_few bytes_known tokens_short tokens_few nested_within written : Question
  names_few names_once names_declared readings_local numbers_in_range bounded : Question

abbrev pub number_of : Question → ℕ
number_of bytes_few = 1
number_of bytes_known = 2
number_of tokens_short = 3
number_of tokens_few = 4
number_of nested_within = 5
number_of written = 6
number_of names_few = 7
number_of names_once = 8
number_of names_declared = 9
number_of readings_local = 10
number_of numbers_in_range = 11
number_of bounded = 12

-- the tokens of the text are those of the script
abbrev pub Reads : List ℕ → Script → Type 0
Reads text s = tokens text ≡ Ok (map token (rows s))

-- the question says no to the text, at the place
abbrev pub No : Question → List ℕ → ℕ → Type 0
No bytes_few text p = past_bytes text ≡ Some p
No bytes_known text p = tokens text ≡ Err (fault 2 p)
No tokens_short text p = (ts : List Tok) × (tokens text ≡ Ok ts) × (first_where too_long ts ≡ Some p)
No tokens_few text p = (ts : List Tok) × (tokens text ≡ Ok ts) × (past_tokens ts ≡ Some p)
No nested_within text p = (ts : List Tok) × (tokens text ≡ Ok ts) × (nesting ts ≡ Some p)
No written text p = (ts : List Tok) × (tokens text ≡ Ok ts) × Breaks (length text) ts p
No names_few text p = (s : Script) × Reads text s × (crowded 0 0 (rows s) ≡ Some p)
No names_once text p = (s : Script) × Reads text s × (twice text [] (rows s) ≡ Some p)
No names_declared text p = (s : Script) × Reads text s × (first_row (undeclared text (names (rows s))) (rows s) ≡ Some p)
No readings_local text p = (s : Script) × Reads text s × (into_cell text (those declares_cell (rows s)) no_row (rows s) ≡ Some p)
No numbers_in_range text p = (s : Script) × Reads text s × (first_row out_of_range (rows s) ≡ Some p)
No bounded text p = (s : Script) × Reads text s × (p ≡ 0) × ((1000000 < steps_of s) ⊎ (4096 < readings_of s))

-- no question before the number n says no
abbrev pub Passes : ℕ → List ℕ → Type 0
Passes n text = (q : Question) (p : ℕ) → number_of q < n → No q text p → ⊥

-- the fault is that of the first question that says no, at the place where it does
abbrev pub FirstNo : List ℕ → Fault → Type 0
FirstNo text f = (q : Question) × (f ≡ fault (number_of q) f.place) × No q text f.place × Passes (number_of q) text

-- a text has at most one syntax
abbrev pub OneSyntax : List ℕ → Type 0
OneSyntax text = (s s' : Script) → Reads text s → Reads text s' → s ≡ s'

-- the rows of a script mean that script
abbrev pub MeansBack : Type 0
MeansBack = (s : Script) → decode (rows s) ≡ s
