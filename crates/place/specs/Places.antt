-- A place in the rows, and what is over at it: the end of an if, and a repeat with no more turns. Nothing need be believed of this file.
-- Assumes nothing.
use Rattle.std.specs.Prelude.{ℕ, zero, suc, ◌+◌, min, Bool, true, false, cond, ◌&&◌, List, [], ◌∷◌, length, take, Some, None, Option, nat_lt, slice_index_or, slice_set, fold, map, filter, count_by, reverse}
use Rattle.script.specs.declared.row.Role.TheVariants as role
use Rattle.script.specs.declared.row.Row.{Row}
use Rattle.script.specs.Roles.{is}
use Rattle.place.specs.declared.types.Head.{Head}
use Rattle.place.specs.declared.types.Head.TheVariants as head
use Rattle.place.specs.declared.types.Frame.{Frame}
use Rattle.place.specs.declared.types.Frame.TheVariants.{Turn, Join, Close}
use Rattle.place.specs.declared.types.Oldest.{Oldest}
use Rattle.place.specs.declared.types.Place.{Place}
use Rattle.place.specs.Rows.{head_of, row_at, block_end, slice}

-- ---- the first power call among readings

-- for each name the first power call among the readings behind it
abbrev pub behind_of : Oldest → List ℕ
behind_of o = o.of

-- where there is no reading
abbrev pub never : ℕ
never = 4294967295

abbrev pub of_name : List ℕ → ℕ → ℕ
of_name o x = slice_index_or o x never

-- the first power call among those of the readings behind the names that the rows read
abbrev pub first_in : List ℕ → List Row → ℕ
first_in o rs = fold min never (map (λ (r : Row). of_name o r.value) (filter (λ (r : Row). is r.role role.Operand) rs))

-- a name that is assigned in the branches of an if gets the readings behind its condition, of which the first falls in the call c
abbrev pub join_row : ℕ → Row → List ℕ → List ℕ
join_row c r o = cond (is r.role role.Target) (slice_set o r.value (min (of_name o r.value) c)) o

abbrev pub join_rows : ℕ → List Row → List ℕ → List ℕ
join_rows c rs o = fold (λ p r. join_row c r p) o rs

-- whether a row is a use: of a name declared fresh in an expression, of any name in a together
abbrev pub counts : List Bool → Row → Bool
counts fresh r = cond (is r.role role.Operand) (slice_index_or fresh r.value false) (is r.role role.Listed)

-- how many of the uses in the rows have a reading of a call before n behind them
abbrev pub is_stale : List Bool → List ℕ → ℕ → Row → Bool
is_stale fresh o n r = counts fresh r && nat_lt (of_name o r.value) n

abbrev pub stale_in : List Bool → List ℕ → ℕ → List Row → ℕ
stale_in fresh o n rs = count_by (is_stale fresh o n) rs

-- ---- places

-- a row, and the braces that are open around it, the innermost first
pub record Spot : Type 0 where
  pub row : ℕ
  pub frames : List Frame

abbrev pub spot : ℕ → List Frame → Spot
spot i fs = record { row = i; frames = fs }

abbrev pub spot_of : Place → Spot
spot_of p = spot p.row (reverse (take p.depth p.frames))

-- at most 16 braces are open
abbrev pub pushed : Frame → List Frame → List Frame
pushed f fs = cond (nat_lt (length fs) 16) (f ∷ fs) fs

abbrev pub popped : List Frame → List Frame
popped [] = []
popped (f ∷ fs) = fs

abbrev pub top_of : List Frame → Option Frame
top_of [] = None
top_of (f ∷ fs) = Some f

-- ---- what is over

-- a place, and the first power calls behind the names there
pub record Left : Type 0 where
  pub spot : Spot
  pub oldest : List ℕ

abbrev pub left : Spot → List ℕ → Left
left s o = record { spot = s; oldest = o }

-- whether something was over, and what is left
pub record Slip : Type 0 where
  pub moved : Bool
  pub left : Left

abbrev pub slipped : ℕ → List Frame → List ℕ → Slip
slipped i fs o = record { moved = true; left = left (spot i fs) o }

abbrev pub stays : Left → Slip
stays t = record { moved = false; left = t }

-- the end of an if that closes at the row e
abbrev pub ends_if : Option Frame → List Row → ℕ → Left → Slip
ends_if None all e t = stays t
ends_if (Some (Turn n i)) all e t = stays t
ends_if (Some (Join i c)) all e t = slipped (e + 1) (popped t.spot.frames) (join_rows c (slice all i e) t.oldest)
ends_if (Some (Close b)) all e t = stays t

-- the end of a turn: over where it was the last
abbrev pub ends_body : Option Frame → Left → Slip
ends_body None t = stays t
ends_body (Some (Turn zero i)) t = slipped (t.spot.row + 1) (popped t.spot.frames) t.oldest
ends_body (Some (Turn (suc n) i)) t = stays t
ends_body (Some (Join i c)) t = stays t
ends_body (Some (Close b)) t = stays t

-- at the end of a first block the second, with its `else {`, is passed over
abbrev pub slips : Head → List Row → Left → Slip
slips head.Target all t = stays t
slips head.If all t = stays t
slips head.Repeat all t = stays t
slips head.Region all t = stays t
slips head.Together all t = stays t
slips head.EndIf all t = ends_if (top_of t.spot.frames) all t.spot.row t
slips head.EndThen all t = ends_if (top_of t.spot.frames) all (block_end all (t.spot.row + 3)) t
slips head.EndBody all t = ends_body (top_of t.spot.frames) t
slips head.EndRegion all t = stays t
slips head.Other all t = stays t

abbrev pub slip : List Row → Left → Slip
slip all t = slips (head_of (row_at all t.spot.row).role) all t

-- until nothing is over, at most so many times
unfoldable pub tidied : ℕ → List Row → Left → Left
tidied zero all t = t
tidied (suc n) all t = cond (slip all t).moved (tidied n all (slip all t).left) (slip all t).left
