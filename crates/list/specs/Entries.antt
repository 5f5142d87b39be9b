-- What adding to a list and cutting it back make of its entries. Assumes nothing.
use Rattle.std.specs.Prelude.{ℕ, ◌-◌, Option, cond, List, [], ◌∷◌, ◌++◌, length, take, nat_le, nat_lt}
use Rattle.std.specs.List.{slice_get}

-- the entries with x at the end; a full list stays as it is
abbrev pub added : {X : Type 0} → List X → ℕ → X → List X
added xs room x = cond (nat_lt (length xs) room) (xs ++ x ∷ []) xs

-- the first n entries; a list with fewer stays as it is
abbrev pub cut_back : {X : Type 0} → List X → ℕ → List X
cut_back xs n = cond (nat_le n (length xs)) (take n xs) xs

-- the last entry, where there is one
abbrev pub last : {X : Type 0} → List X → Option X
last xs = slice_get xs (length xs - 1)
