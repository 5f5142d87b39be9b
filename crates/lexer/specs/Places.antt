-- Where the tokens of a table lie, and what a table that is too short says. Assumes nothing.
use Rattle.std.specs.Prelude.{◌≡◌, ℕ, ◌+◌, ◌<◌, ◌≤◌, List, [], ◌∷◌, ◌++◌, length, Result, slice_index_or}
use Rattle.script.specs.declared.fault.Fault.{Fault}
use Rattle.script.specs.declared.token.Tok.{Tok}
use Rattle.script.specs.Faults.{fault}
use Rattle.script.specs.Tokens.{tokens, after}

-- each token has a byte or more, and ends inside a text of so many bytes
abbrev pub Inside : ℕ → List Tok → Type 0
Inside end ts = (k : ℕ) (d : Tok) → k < length ts → (1 ≤ (slice_index_or ts k d).len) × ((slice_index_or ts k d).place + (slice_index_or ts k d).len ≤ end)

-- each token ends where a later one begins, or before
abbrev pub Rising : List Tok → Type 0
Rising ts = (j k : ℕ) (d : Tok) → j < k → k < length ts → (slice_index_or ts j d).place + (slice_index_or ts j d).len ≤ (slice_index_or ts k d).place

-- the text has a token more than the table has entries, which are the tokens before it; the fault says where it is
abbrev pub Full : List ℕ → List Tok → Fault → Type 0
Full text table f =
    (t : Tok) × (more : Result (List Tok) Fault) × (tokens text ≡ after (table ++ t ∷ []) more) × (f ≡ fault 4 t.place)
