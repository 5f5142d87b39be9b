-- What a script holds that was read from a text. Assumes nothing.
use Rattle.std.specs.Prelude.{◌≡◌, ℕ, List, take}
use Rattle.script.specs.declared.row.Row.{Row}
use Rattle.script.specs.Syntax.{Script, done, no_decl}
use Rattle.script.specs.Written.{rows}
use Rattle.script.specs.Decode.{decode}
use Rattle.script.specs.Names.{number_all}
use Rattle.script.specs.Questions.{Question, No, Reads}
use Rattle.reader.specs.declared.drive.Script.{Script as Held}

-- the rows that a script holds, and the syntax that they mean
abbrev pub rows_in : Held → List Row
rows_in h = take h.len h.rows

abbrev pub syntax : Held → Script
syntax h = decode (rows_in h)

-- the text has the tokens of a script, its rows are held with the names numbered, and no question says no to it
pub record Holds (text : List ℕ) (rs : List Row) : Type 0 where
  pub script : Script
  pub reads : Reads text script
  pub rows_are : rs ≡ number_all text (rows script)
  pub passes : (q : Question) (p : ℕ) → No q text p → ⊥

-- `main { }`
abbrev pub empty : Script
empty = record {
  decls = no_decl;
  word = record { place = 0; len = 4; value = 0 };
  open' = record { place = 5; len = 1; value = 0 };
  main = done;
  close = record { place = 7; len = 1; value = 0 };
}
