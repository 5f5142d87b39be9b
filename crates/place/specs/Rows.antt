-- The rows of a script by what a run finds there. Nothing need be believed of this file: the runner's promises speak of scripts. Assumes
-- nothing.
use Rattle.std.specs.Prelude.{ℕ, suc, ◌+◌, ◌-◌, Bool, cond, ◌&&◌, ◌||◌, List, [], ◌∷◌, length, drop, Some, None, Option, ◌==◌, nat_le, slice_index_or, slice_range, take_while}
use Rattle.script.specs.declared.row.Role.{Role}
use Rattle.script.specs.declared.row.Role.TheVariants as role
use Rattle.script.specs.declared.row.Row.{Row}
use Rattle.script.specs.Roles.{is}
use Rattle.place.specs.declared.types.Head.{Head}
use Rattle.place.specs.declared.types.Head.TheVariants as head

abbrev pub head_of : Role → Head
head_of r =
    cond (is r role.Target) head.Target
    (cond (is r role.IfWord) head.If
    (cond (is r role.RepeatWord) head.Repeat
    (cond (is r role.AtomicWord) head.Region
    (cond (is r role.TogetherWord) head.Together
    (cond (is r role.WhenClose || is r role.ElseClose) head.EndIf
    (cond (is r role.ThenClose) head.EndThen
    (cond (is r role.BodyClose) head.EndBody
    (cond (is r role.RegionClose) head.EndRegion head.Other))))))))

-- a part of an expression, or of the names that a together lists
abbrev pub part : Role → Bool
part r =
    is r role.Operand || (is r role.Literal || (is r role.Negate || (is r role.Negated || (is r role.ParenOpen || (is r role.ParenClose
    || (is r role.Times || (is r role.Over || (is r role.Plus || (is r role.Minus || (is r role.Less || (is r role.Same
    || (is r role.Listed || is r role.Comma))))))))))))

abbrev pub opens : Role → Bool
opens r = is r role.ThenOpen || (is r role.ElseOpen || (is r role.BodyOpen || is r role.RegionOpen))

abbrev pub closes : Role → Bool
closes r = is r role.WhenClose || (is r role.ThenClose || (is r role.ElseClose || (is r role.BodyClose || (is r role.RegionClose || is r role.MainClose))))

-- what stands past the last row
abbrev pub no_row : Row
no_row = record { role = role.MainClose; place = 0; len = 0; value = 0 }

abbrev pub row_at : List Row → ℕ → Row
row_at rs i = slice_index_or rs i no_row

-- how many parts stand in front
abbrev pub parts : List Row → ℕ
parts rs = length (take_while (λ (r : Row). part r.role) rs)

-- how many blocks are open after a row, where d were before it; none where it closes the first
abbrev pub depth_after : Role → ℕ → Option ℕ
depth_after r d = cond (opens r) (Some (d + 1)) (cond (closes r) (cond (d == 0) None (Some (d - 1))) (Some d))

abbrev pub one_more : Option ℕ → (ℕ → ℕ) → ℕ
one_more None more = 0
one_more (Some d) more = suc (more d)

-- how many rows stand before the one that closes the block, where d blocks inside it are open
abbrev pub closing : ℕ → List Row → ℕ
closing d [] = 0
closing d (r ∷ rs) = one_more (depth_after r.role d) (λ e. closing e rs)

-- the row that closes the block whose first row is at i
abbrev pub block_end : List Row → ℕ → ℕ
block_end rs i = i + closing 0 (drop i rs)

-- the row past the parts that begin at i
abbrev pub parts_end : List Row → ℕ → ℕ
parts_end rs i = i + parts (drop i rs)

-- the rows from one to below another; none where there are not so many
abbrev pub slice : List Row → ℕ → ℕ → List Row
slice rs from to = cond (nat_le from to && nat_le to (length rs)) (slice_range rs from to) []
