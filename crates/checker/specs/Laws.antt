-- The laws of the check, which `accept` answers for. Assumes nothing.
use Rattle.std.specs.Prelude.{◌≡◌, ℕ, Bool, Ok, Result}
use Rattle.script.specs.declared.fault.Fault.{Fault}
use Rattle.script.specs.Syntax.{Code, nothing, region, Script, code}
use Rattle.script.specs.Stand.{Table, settle, walk, refused, least, fresh_in}
use Rattle.checker.specs.Order.{Le}
use Rattle.checker.specs.Last.{refused_last}
use Rattle.checker.specs.Apart.{Apart}

-- where the table before some statements rises, the table after them does not fall
abbrev pub NeverLowers : Type 0
NeverLowers = (inside : Bool) (k : Code) (t u : Table) → Le t u → Le (walk inside k t) (walk inside k u)

-- the table that a repeat's body is walked with at last is at or above its entry,
-- the body does not raise it, and it is the least such table
abbrev pub SettlesLeast : Type 0
SettlesLeast =
    (inside : Bool) (b : Code) (t : Table) → Le t (settle (walk inside b) t)
    × Le (walk inside b (settle (walk inside b) t)) (settle (walk inside b) t)
    × ((v : Table) → Le t v → Le (walk inside b v) v → Le (settle (walk inside b) t) v)

-- the first refused use over all walks is the first of the last walks
abbrev pub LastWalksTell : Type 0
LastWalksTell = (marked : ℕ → Bool) (inside : Bool) (k : Code) (t : Table) → least (refused marked inside k t) ≡ least (refused_last marked inside k t)

-- a script whose whole main is one region is always accepted
abbrev pub OneRegionAccepted : Script → Result (Unit {0}) Fault → Type 0
OneRegionAccepted s r = (b : Code) → code s.main ≡ region b nothing → r ≡ Ok tt

-- a script whose uses have no reading behind them is accepted: where some names are apart from all readings,
-- and every use is of one of them
abbrev pub ApartAccepted : Script → Result (Unit {0}) Fault → Type 0
ApartAccepted s r = (apart : ℕ → Bool) → Apart apart (fresh_in s.decls) (code s.main) → r ≡ Ok tt
