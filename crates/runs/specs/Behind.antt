-- The readings behind each name, the uses that a run makes, and when a use is stale. Assumes nothing.
use Rattle.std.specs.Prelude.{◌≡◌, ℕ, suc, Bool, true, false, cond, List, [], ◌∷◌, ◌++◌, replicate, nat_lt, slice_index_or, slice_set}
use Rattle.script.specs.Syntax.{Leaf}
use Rattle.runs.specs.declared.types.Reading.{Reading}

-- for each name, at the name's number, the readings behind it
abbrev pub Behind : Type 0
Behind = List (List Reading)

-- no name has any at first; there are at most 128 names
abbrev pub none_behind : Behind
none_behind = replicate 128 []

-- the readings behind an expression are those of all its names
abbrev pub behind_all : Behind → List Leaf → List Reading
behind_all β [] = []
behind_all β (x ∷ xs) = slice_index_or β x.value [] ++ behind_all β xs

-- each of the names xs also has the readings cs behind it
abbrev pub joined : List Reading → List ℕ → Behind → Behind
joined cs [] β = β
joined cs (x ∷ xs) β = joined cs xs (slice_set β x (slice_index_or β x [] ++ cs))

-- a use that was made: the power call that its step began in, and the readings behind the name then
pub record Used : Type 0 where
  pub call : ℕ
  pub behind : List Reading

-- the uses of a step that begins in the power call n, of these names
abbrev pub used : ℕ → Behind → List Leaf → List Used
used n β [] = []
used n β (x ∷ xs) = record { call = n; behind = slice_index_or β x.value [] } ∷ used n β xs

-- whether one of the readings falls in a power call before n
abbrev pub earlier : ℕ → List Reading → Bool
earlier n [] = false
earlier n (r ∷ rs) = cond (nat_lt r.call n) true (earlier n rs)

-- how many of the uses are stale: a reading behind them falls in an earlier power call
abbrev pub stale : List Used → ℕ
stale [] = 0
stale (u ∷ us) = cond (earlier u.call u.behind) (suc (stale us)) (stale us)

-- every reading falls in the power call n
abbrev pub AllIn : ℕ → List Reading → Type 0
AllIn n [] = Unit {0}
AllIn n (r ∷ rs) = (r.call ≡ n) × AllIn n rs

-- every use falls in the power call of every reading behind it
abbrev pub Fresh : List Used → Type 0
Fresh [] = Unit {0}
Fresh (u ∷ us) = AllIn u.call u.behind × Fresh us
