-- Roles told apart by number, and the rows of a role. Assumes nothing.
use Rattle.std.specs.Prelude.{ℕ, Bool, cond, ◌||◌, List, [], ◌∷◌, Some, None, Option, ◌==◌}
use Rattle.script.specs.declared.row.Role.{Role}
use Rattle.script.specs.declared.row.Role.TheVariants as role
use Rattle.script.specs.declared.row.Row.{Row}

abbrev pub role_number : Role → ℕ
role_number role.CellWord = 0
role_number role.CellName = 1
role_number role.CellIs = 2
role_number role.CellMinus = 3
role_number role.CellNumber = 4
role_number role.CellEnd = 5
role_number role.VarWord = 6
role_number role.VarName = 7
role_number role.VarEnd = 8
role_number role.FreshWord = 9
role_number role.FreshName = 10
role_number role.FreshEnd = 11
role_number role.MainWord = 12
role_number role.MainOpen = 13
role_number role.MainClose = 14
role_number role.Target = 15
role_number role.Becomes = 16
role_number role.SetEnd = 17
role_number role.InWord = 18
role_number role.Channel = 19
role_number role.ReadEnd = 20
role_number role.IfWord = 21
role_number role.ThenOpen = 22
role_number role.WhenClose = 23
role_number role.ThenClose = 24
role_number role.ElseWord = 25
role_number role.ElseOpen = 26
role_number role.ElseClose = 27
role_number role.RepeatWord = 28
role_number role.Count = 29
role_number role.BodyOpen = 30
role_number role.BodyClose = 31
role_number role.AtomicWord = 32
role_number role.RegionOpen = 33
role_number role.RegionClose = 34
role_number role.TogetherWord = 35
role_number role.Listed = 36
role_number role.Comma = 37
role_number role.TogetherEnd = 38
role_number role.Operand = 39
role_number role.Literal = 40
role_number role.Negate = 41
role_number role.Negated = 42
role_number role.ParenOpen = 43
role_number role.ParenClose = 44
role_number role.Times = 45
role_number role.Over = 46
role_number role.Plus = 47
role_number role.Minus = 48
role_number role.Less = 49
role_number role.Same = 50

abbrev pub is : Role → Role → Bool
is a b = role_number a == role_number b

-- a local is what `var` or `fresh` declares
abbrev pub declares_cell : Role → Bool
declares_cell r = is r role.CellName

abbrev pub declares_local : Role → Bool
declares_local r = is r role.VarName || is r role.FreshName

abbrev pub declares : Role → Bool
declares r = declares_cell r || declares_local r

-- a name in main: a target, an operand of an expression, or listed in a together
abbrev pub mentions : Role → Bool
mentions r = is r role.Target || (is r role.Operand || is r role.Listed)

-- the rows whose role the test holds of, in their order
abbrev pub those : (Role → Bool) → List Row → List Row
those test [] = []
those test (r ∷ rs) = cond (test r.role) (r ∷ those test rs) (those test rs)

-- the place of the first row that the test holds of
abbrev pub first_row : (Row → Bool) → List Row → Option ℕ
first_row test [] = None
first_row test (r ∷ rs) = cond (test r) (Some r.place) (first_row test rs)
