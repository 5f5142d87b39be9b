-- The numbers in a script: those that its cells are declared with, and how great each is at most. Assumes nothing.
use Rattle.std.specs.Prelude.{Bool, true, cond, ◌&&◌, ◌||◌, List, [], ◌∷◌, ℤ, pos, neg_ℤ, nat_le}
use Rattle.script.specs.declared.row.Role.{Role}
use Rattle.script.specs.declared.row.Role.TheVariants as role
use Rattle.script.specs.declared.row.Row.{Row}
use Rattle.script.specs.Roles.{is}
use Rattle.script.specs.Syntax.{Decls, no_decl, cell, minus_cell, var, fresh}

-- the numbers of the cells, in the order of their declarations; `- 0` is 0
abbrev pub declared : Decls → List ℤ
declared no_decl = []
declared (cell _ _ _ n _ ds) = pos n.value ∷ declared ds
declared (minus_cell _ _ _ _ n _ ds) = neg_ℤ (pos n.value) ∷ declared ds
declared (var _ _ _ ds) = declared ds
declared (fresh _ _ _ ds) = declared ds

-- a written number: a cell's, a channel, a count, or one in an expression
abbrev pub is_number : Role → Bool
is_number r = is r role.CellNumber || (is r role.Channel || (is r role.Count || (is r role.Literal || is r role.Negated)))

-- each is at most 2147483647
abbrev pub all_fit : List Row → Bool
all_fit [] = true
all_fit (r ∷ rs) = cond (is_number r.role) (nat_le r.value 2147483647 && all_fit rs) (all_fit rs)
