-- What one row does to the check, and what all rows do. Assumes nothing.
use Rattle.std.specs.Prelude.{ℕ, ◌+◌, ◌-◌, min, Bool, true, false, cond, not, ◌&&◌, ◌||◌, List, [], ◌∷◌, map, length, take, replicate, Some, None, Option, nat_lt, slice_index_or, slice_set}
use Rattle.std.specs.List.{list_any, zip}
use Rattle.script.specs.declared.row.Role.{Role}
use Rattle.script.specs.declared.row.Role.TheVariants as role
use Rattle.script.specs.declared.row.Row.{Row}
use Rattle.script.specs.declared.standing.Standing.{Standing}
use Rattle.script.specs.declared.standing.Standing.TheVariants.{Clean}
use Rattle.script.specs.Stand.{Table, higher, both, raised, aged, reading_at, is_old, lesser}
use Rattle.script.specs.Roles.{is, those}
use Rattle.checker.specs.Order.{rank}

-- what is kept of where a brace opened: the table, the condition's standing, the rows behind the brace,
-- the number of the next repeat, and whether it stood in a region
pub record Opened : Type 0 where
  pub table : Table
  pub level : Standing
  pub from : List Row
  pub number : ℕ
  pub inside : Bool

-- between two rows: the standings, which names are fresh, the name to be set, if any, and how high
-- what it is set to stands so far, the open braces, the repeats' entries with the number of the next repeat,
-- whether an entry rose, and the first use that stood old
pub record State : Type 0 where
  pub table : Table
  pub fresh : List Bool
  pub target : Option ℕ
  pub level : Standing
  pub inside : Bool
  pub stack : List Opened
  pub entries : List Table
  pub number : ℕ
  pub rose : Bool
  pub first : Option ℕ

-- ---- one part changed

abbrev pub with_table : Table → State → State
with_table x st = record { table = x; fresh = st.fresh; target = st.target; level = st.level; inside = st.inside; stack = st.stack; entries = st.entries; number = st.number; rose = st.rose; first = st.first }

abbrev pub with_fresh : List Bool → State → State
with_fresh x st = record { table = st.table; fresh = x; target = st.target; level = st.level; inside = st.inside; stack = st.stack; entries = st.entries; number = st.number; rose = st.rose; first = st.first }

abbrev pub with_target : Option ℕ → State → State
with_target x st = record { table = st.table; fresh = st.fresh; target = x; level = st.level; inside = st.inside; stack = st.stack; entries = st.entries; number = st.number; rose = st.rose; first = st.first }

abbrev pub with_level : Standing → State → State
with_level x st = record { table = st.table; fresh = st.fresh; target = st.target; level = x; inside = st.inside; stack = st.stack; entries = st.entries; number = st.number; rose = st.rose; first = st.first }

abbrev pub with_inside : Bool → State → State
with_inside x st = record { table = st.table; fresh = st.fresh; target = st.target; level = st.level; inside = x; stack = st.stack; entries = st.entries; number = st.number; rose = st.rose; first = st.first }

abbrev pub with_stack : List Opened → State → State
with_stack x st = record { table = st.table; fresh = st.fresh; target = st.target; level = st.level; inside = st.inside; stack = x; entries = st.entries; number = st.number; rose = st.rose; first = st.first }

abbrev pub with_entries : List Table → State → State
with_entries x st = record { table = st.table; fresh = st.fresh; target = st.target; level = st.level; inside = st.inside; stack = st.stack; entries = x; number = st.number; rose = st.rose; first = st.first }

abbrev pub with_number : ℕ → State → State
with_number x st = record { table = st.table; fresh = st.fresh; target = st.target; level = st.level; inside = st.inside; stack = st.stack; entries = st.entries; number = x; rose = st.rose; first = st.first }

abbrev pub with_rose : Bool → State → State
with_rose x st = record { table = st.table; fresh = st.fresh; target = st.target; level = st.level; inside = st.inside; stack = st.stack; entries = st.entries; number = st.number; rose = x; first = st.first }

abbrev pub with_first : Option ℕ → State → State
with_first x st = record { table = st.table; fresh = st.fresh; target = st.target; level = st.level; inside = st.inside; stack = st.stack; entries = st.entries; number = st.number; rose = st.rose; first = x }

-- ---- the stack of open braces, at most 16; a brace that closes none does nothing

abbrev pub pushed : Opened → List Opened → List Opened
pushed f fs = cond (nat_lt (length fs) 16) (f ∷ fs) fs

abbrev pub opened : List Row → State → Opened
opened rs st = record { table = st.table; level = st.level; from = rs; number = st.number; inside = st.inside }

abbrev pub opens : List Row → State → State
opens rs st = with_stack (pushed (opened rs st) st.stack) st

-- ---- what each row does

-- a use at place p of a name that stands at s
abbrev pub noted : Bool → Standing → ℕ → State → State
noted used s p st = with_first (cond (used && is_old s) (lesser p st.first) st.first) st

abbrev pub marks : Row → State → State
marks r st = with_fresh (slice_set st.fresh r.value true) st

abbrev pub aims : Row → State → State
aims r st = with_target (Some r.value) st

abbrev pub reads_name : Row → State → State
reads_name r st =
    with_level (higher st.level (slice_index_or st.table r.value Clean))
    (noted (slice_index_or st.fresh r.value false) (slice_index_or st.table r.value Clean) r.place st)

abbrev pub lists : Row → State → State
lists r st = noted true (slice_index_or st.table r.value Clean) r.place st

abbrev pub reads_channel : State → State
reads_channel st = with_level (reading_at st.inside) st

-- the name, if any, stands at s
abbrev pub stood : Option ℕ → Standing → Table → Table
stood None s t = t
stood (Some x) s t = slice_set t x s

abbrev pub sets : State → State
sets st = with_target None (with_level Clean (with_table (stood st.target st.level st.table) st))

abbrev pub branches : List Row → State → State
branches rs st = with_level Clean (opens rs st)

-- the names that the rows set
abbrev pub targets : List Row → List ℕ
targets rs = map (λ r. r.value) (those (λ k. is k role.Target) rs)

-- the names set in the rows `from`, up to the rows `here`
abbrev pub set_between : List Row → List Row → List ℕ
set_between from here = targets (take (length from - length here) from)

-- the end of an if: joined with its entry or, behind an else, with the first branch's end
abbrev pub joins : List Opened → List Row → State → State
joins [] here st = st
joins (f ∷ fs) here st = with_stack fs (with_table (raised f.level (set_between f.from here) (both st.table f.table)) st)

-- the first branch's end is kept in the place of the entry, with which the second begins
abbrev pub swaps : List Opened → State → State
swaps [] st = st
swaps (f ∷ fs) st =
    with_stack (pushed (record { table = st.table; level = f.level; from = f.from; number = f.number; inside = f.inside }) fs)
    (with_table f.table st)

-- whether a name of u stands higher than in t
abbrev pub exceeds : Table → Table → Bool
exceeds t u = list_any (λ p. nat_lt (rank p.0) (rank p.1)) (zip t u)

-- the entry of the repeat n rises to the table
abbrev pub rises : ℕ → State → State
rises n st =
    with_rose (st.rose || exceeds (slice_index_or st.entries n st.table) st.table)
    (with_entries (slice_set st.entries n (both (slice_index_or st.entries n st.table) st.table)) st)

-- the entry of the repeat n is e, and becomes t
abbrev pub enters_with : Table → Table → ℕ → State → State
enters_with e t n st = with_rose (st.rose || exceeds e st.table) (with_entries (slice_set st.entries n t) (with_table t st))

-- a repeat's body is walked with the higher of the table and the repeat's entry
abbrev pub enters : List Row → State → State
enters rs st =
    with_number (min (st.number + 1) 512) (with_stack (pushed (opened rs st) st.stack)
    (enters_with (slice_index_or st.entries st.number st.table) (both st.table (slice_index_or st.entries st.number st.table)) st.number st))

-- at its end the entry rises to it
abbrev pub leaves : List Opened → State → State
leaves [] st = st
leaves (f ∷ fs) st = with_stack fs (rises f.number st)

abbrev pub begins_region : List Row → State → State
begins_region rs st = with_stack (pushed (opened rs st) st.stack) (with_inside true (with_table (aged (not st.inside) st.table) st))

abbrev pub ends_region : List Opened → State → State
ends_region [] st = st
ends_region (f ∷ fs) st = with_stack fs (with_inside f.inside (with_table (aged (not f.inside) st.table) st))

-- the row r, which the rows rs follow; the others say nothing of how names stand
abbrev pub acts : Role → Row → List Row → State → State
acts role.FreshName r rs st = marks r st
acts role.Target r rs st = aims r st
acts role.SetEnd r rs st = sets st
acts role.Channel r rs st = reads_channel st
acts role.ReadEnd r rs st = sets st
acts role.ThenOpen r rs st = branches rs st
acts role.WhenClose r rs st = joins st.stack (r ∷ rs) st
acts role.ThenClose r rs st = swaps st.stack st
acts role.ElseClose r rs st = joins st.stack (r ∷ rs) st
acts role.BodyOpen r rs st = enters rs st
acts role.BodyClose r rs st = leaves st.stack st
acts role.RegionOpen r rs st = begins_region rs st
acts role.RegionClose r rs st = ends_region st.stack st
acts role.Listed r rs st = lists r st
acts role.Operand r rs st = reads_name r st
acts _ r rs st = st

abbrev pub step : Row → List Row → State → State
step r rs st = acts r.role r rs st

abbrev pub run : List Row → State → State
run [] st = st
run (r ∷ rs) st = run rs (step r rs st)

-- before the first row: all names clean, none fresh, and the entries of the passes before
abbrev pub begun : List Table → State
begun entries = record { table = replicate 128 Clean; fresh = replicate 128 false; target = None; level = Clean; inside = false; stack = []; entries = entries; number = 0; rose = false; first = None }
