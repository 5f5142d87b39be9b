-- The numbers of the cells by one walk of the rows, up to main. Assumes nothing.
use Rattle.std.specs.Prelude.{ℕ, Bool, cond, List, [], ◌∷◌, take, ℤ, pos, neg_ℤ}
use Rattle.script.specs.declared.row.Role.TheVariants as role
use Rattle.script.specs.declared.row.Row.{Row}
use Rattle.script.specs.Roles.{is}
use Rattle.reader.specs.declared.firsts.Declared.{Declared}

-- a number, below 0 after a minus
abbrev pub signed : Bool → ℕ → ℤ
signed minus v = cond minus (neg_ℤ (pos v)) (pos v)

-- the numbers in the rows before main, where `minus` says whether the row before was a minus
abbrev pub listed : Bool → List Row → List ℤ
listed minus [] = []
listed minus (r ∷ rs) =
    cond (is r.role role.MainWord) []
    (cond (is r.role role.CellNumber) (signed minus r.value ∷ listed (is r.role role.CellMinus) rs)
    (listed (is r.role role.CellMinus) rs))

-- the numbers that were found
abbrev pub numbers_in : Declared → List ℤ
numbers_in d = take d.len d.values
