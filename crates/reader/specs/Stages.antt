-- What is known after each group of questions. Assumes nothing.
use Rattle.std.specs.Prelude.{◌≡◌, ℕ, ◌<◌, ◌≤◌, ◌⊎◌, List, map, length, None, Ok}
use Rattle.script.specs.declared.row.Row.{Row}
use Rattle.script.specs.declared.token.Tok.{Tok}
use Rattle.script.specs.Tokens.{tokens}
use Rattle.script.specs.Sizes.{past_tokens}
use Rattle.script.specs.Nesting.{nesting}
use Rattle.script.specs.Written.{token, rows}
use Rattle.script.specs.Decode.{decode}
use Rattle.script.specs.Syntax.{Script}
use Rattle.script.specs.Steps.{steps_of, readings_of}
use Rattle.script.specs.Names.{crowded}
use Rattle.script.specs.Questions.{Passes}

-- questions 1 to 4 have nothing against the text, whose tokens are these
pub record Scanned (text : List ℕ) (ts : List Tok) : Type 0 where
  pub are : tokens text ≡ Ok ts
  pub room : past_tokens ts ≡ None
  pub pass : Passes 5 text

-- nor have 5 and 6: the tokens are those of the script that the rows are
pub record Parsed (text : List ℕ) (rs : List Row) : Type 0 where
  pub are : tokens text ≡ Ok (map token rs)
  pub whole : rs ≡ rows (decode rs)
  pub nested : nesting (map token rs) ≡ None
  pub few : length rs ≤ 2048
  pub pass : Passes 7 text

-- nor have 7 to 11
pub record Named (text : List ℕ) (rs : List Row) : Type 0 where
  pub room : crowded 0 0 rs ≡ None
  pub pass : Passes 12 text

-- the script has too many steps or readings
abbrev pub Unbounded : Script → Type 0
Unbounded s = (1000000 < steps_of s) ⊎ (4096 < readings_of s)

-- how many steps and readings the script has, where both are within their bounds
pub record Bounded (s : Script) (step_count reading_count : ℕ) : Type 0 where
  pub steps_are : step_count ≡ steps_of s
  pub readings_are : reading_count ≡ readings_of s
  pub steps_few : step_count ≤ 1000000
  pub readings_few : reading_count ≤ 4096
