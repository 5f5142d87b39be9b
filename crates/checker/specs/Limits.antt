-- What the check assumes of the rows: few open braces, and few names. Assumes nothing.
use Rattle.std.specs.Prelude.{ℕ, suc, pred, Bool, true, cond, ◌&&◌, List, [], ◌∷◌, nat_lt}
use Rattle.script.specs.declared.row.Role.TheVariants as role
use Rattle.script.specs.declared.row.Row.{Row}
use Rattle.script.specs.Nesting.{opens, closes}
use Rattle.script.specs.Roles.{is}
use Rattle.script.specs.Written.{sym_of}

-- after d open ones, never more than 16 are open
abbrev pub shallow : ℕ → List Row → Bool
shallow d [] = true
shallow d (r ∷ rs) =
    cond (opens (sym_of r.role)) (nat_lt d 16 && shallow (suc d) rs)
    (cond (closes (sym_of r.role)) (shallow (pred d) rs) (shallow d rs))

-- each name declared fresh has a number below 128
abbrev pub numbered : List Row → Bool
numbered [] = true
numbered (r ∷ rs) = cond (is r.role role.FreshName) (nat_lt r.value 128 && numbered rs) (numbered rs)
