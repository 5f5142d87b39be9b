-- The order of tables of standings. Assumes nothing.
use Rattle.std.specs.Prelude.{ℕ, ◌≤◌, [], ◌∷◌}
use Rattle.script.specs.declared.standing.Standing.{Standing}
use Rattle.script.specs.declared.standing.Standing.TheVariants.{Clean, Now, Old}
use Rattle.script.specs.Stand.{Table}

abbrev pub rank : Standing → ℕ
rank Clean = 0
rank Now = 1
rank Old = 2

-- no standing of t is above u's, and they have as many
abbrev pub Le : Table → Table → Type 0
Le [] [] = Unit {0}
Le [] (u ∷ us) = ⊥
Le (t ∷ ts) [] = ⊥
Le (t ∷ ts) (u ∷ us) = (rank t ≤ rank u) × Le ts us
