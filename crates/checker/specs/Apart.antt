-- Names that no reading comes to: what the statements have to keep for that. Assumes nothing.
use Rattle.std.specs.Prelude.{◌≡◌, ℕ, Bool, true, false, ◌||◌, List, [], ◌∷◌}
use Rattle.script.specs.Syntax.{Leaf, reads, Code, nothing, put, read, fork, turns, region, uses}
use Rattle.script.specs.Stand.{assigned, uses_in}

-- all the names are apart
abbrev pub AllApart : (ℕ → Bool) → List Leaf → Type 0
AllApart apart [] = Unit {0}
AllApart apart (x ∷ xs) = (apart x.value ≡ true) × AllApart apart xs

-- one of the names is apart
abbrev pub some_apart : (ℕ → Bool) → List ℕ → Bool
some_apart apart [] = false
some_apart apart (x ∷ xs) = apart x || some_apart apart xs

-- no reading is into a name that is apart; such a name is set only from such names, and only under
-- conditions that read such names; and every use is of such a name
abbrev pub Apart : (ℕ → Bool) → (ℕ → Bool) → Code → Type 0
Apart apart marked nothing = Unit {0}
Apart apart marked (put x e k) = (apart x.value ≡ true → AllApart apart (reads e [])) × AllApart apart (uses_in marked e) × Apart apart marked k
Apart apart marked (read x c k) = (apart x.value ≡ false) × Apart apart marked k
Apart apart marked (fork e a b k) =
    (some_apart apart (assigned a (assigned b [])) ≡ true → AllApart apart (reads e []))
    × AllApart apart (uses_in marked e) × Apart apart marked a × Apart apart marked b × Apart apart marked k
Apart apart marked (turns n b k) = Apart apart marked b × Apart apart marked k
Apart apart marked (region b k) = Apart apart marked b × Apart apart marked k
Apart apart marked (uses xs k) = AllApart apart xs × Apart apart marked k
