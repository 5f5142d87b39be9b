-- What all thirteen questions together say of a text. Assumes nothing.
use Rattle.std.specs.Prelude.{◌≡◌, ℕ, ◌⊎◌, List, [], Some}
use Rattle.script.specs.declared.fault.Fault.{Fault}
use Rattle.script.specs.declared.row.Row.{Row}
use Rattle.script.specs.Faults.{fault}
use Rattle.script.specs.Decode.{decode}
use Rattle.script.specs.Stand.{all_refused, first_refused}
use Rattle.script.specs.Questions.{FirstNo}
use Rattle.reader.specs.Holding.{Holds}

-- the rows are those read from the text, and no use in them is refused
abbrev pub Taken : List ℕ → List Row → Type 0
Taken text rs = Holds text rs × (all_refused (decode rs) ≡ [])

-- one of questions 1 to 12 is the first to say no; or none of them does, and the place is the first refused use
abbrev pub TurnedDown : List ℕ → Fault → Type 0
TurnedDown text f =
    FirstNo text f
    ⊎ ((rs : List Row) × Holds text rs × (f ≡ fault 13 f.place) × (first_refused (decode rs) ≡ Some f.place))
