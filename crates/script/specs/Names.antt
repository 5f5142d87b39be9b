-- What questions 7 to 11 ask of the rows of a script, and how its names are numbered. Assumes nothing.
use Rattle.std.specs.Prelude.{ℕ, suc, ◌+◌, Bool, true, cond, not, ◌&&◌, ◌||◌, List, [], ◌∷◌, ◌++◌, map, length, Some, None, Option, nat_le, nat_lt}
use Rattle.std.specs.Str.{bytes_eq}
use Rattle.script.specs.declared.row.Role.TheVariants as role
use Rattle.script.specs.declared.row.Row.{Row}
use Rattle.script.specs.Tokens.{spelled}
use Rattle.script.specs.Roles.{is, declares_cell, declares_local, declares, mentions, those}

-- two names are the same where their bytes are
abbrev pub same_name : List ℕ → Row → Row → Bool
same_name text a b = bytes_eq (spelled text a.place a.len) (spelled text b.place b.len)

-- where the name stands first among the names, or how many there are
abbrev pub index_of : List ℕ → Row → List Row → ℕ
index_of text x [] = 0
index_of text x (y ∷ ys) = cond (same_name text x y) 0 (suc (index_of text x ys))

abbrev pub among : List ℕ → Row → List Row → Bool
among text x ys = nat_lt (index_of text x ys) (length ys)

-- the declared names: the cells in their order, then the locals in theirs
abbrev pub names : List Row → List Row
names rs = those declares_cell rs ++ those declares_local rs

-- one more where it counts
abbrev pub counted : Bool → ℕ → ℕ
counted b n = cond b (n + 1) n

-- whether there is no room for one more cell or local, after so many of each
abbrev pub full : ℕ → ℕ → Row → Bool
full cells locals r = (declares_cell r.role && nat_le 64 cells) || (declares_local r.role && nat_le 64 locals)

-- 7: the first cell past 64, or the first local past 64, after so many of each
abbrev pub crowded : ℕ → ℕ → List Row → Option ℕ
crowded cells locals [] = None
crowded cells locals (r ∷ rs) =
    cond (full cells locals r) (Some r.place)
    (crowded (counted (declares_cell r.role) cells) (counted (declares_local r.role) locals) rs)

-- 8: the first name that was declared before, where those of `seen` were
abbrev pub twice : List ℕ → List Row → List Row → Option ℕ
twice text seen [] = None
twice text seen (r ∷ rs) =
    cond (declares r.role) (cond (among text r seen) (Some r.place) (twice text (seen ++ r ∷ []) rs))
    (twice text seen rs)

-- 9: a name in main that is not declared
abbrev pub undeclared : List ℕ → List Row → Row → Bool
undeclared text ys r = mentions r.role && not (among text r ys)

-- 10: the first target of a reading that is among the cells, where `last` is the target before
abbrev pub into_cell : List ℕ → List Row → Row → List Row → Option ℕ
into_cell text cells last [] = None
into_cell text cells last (r ∷ rs) =
    cond (is r.role role.Target) (into_cell text cells r rs)
    (cond (is r.role role.InWord && among text last cells) (Some last.place) (into_cell text cells last rs))

-- 11: a count is from 1 to 1000, a channel from 0 to 15
abbrev pub out_of_range : Row → Bool
out_of_range r =
    (is r.role role.Count && not (nat_le 1 r.value && nat_le r.value 1000))
    || (is r.role role.Channel && not (nat_le r.value 15))

-- each name's row gets the name's number: where it stands among the declared names
abbrev pub numbered : List ℕ → List Row → Row → Row
numbered text ys r =
    cond (declares r.role || mentions r.role)
    (record { role = r.role; place = r.place; len = r.len; value = index_of text r ys }) r

abbrev pub number_all : List ℕ → List Row → List Row
number_all text rs = map (numbered text (names rs)) rs

-- the row before any
abbrev pub no_row : Row
no_row = record { role = role.MainWord; place = 0; len = 0; value = 0 }

-- each declared name has a number below 128
abbrev pub all_numbered : List Row → Bool
all_numbered [] = true
all_numbered (r ∷ rs) = cond (declares r.role) (nat_lt r.value 128 && all_numbered rs) (all_numbered rs)

-- each count of a repeat is at least 1
abbrev pub all_repeat : List Row → Bool
all_repeat [] = true
all_repeat (r ∷ rs) = cond (is r.role role.Count) (nat_le 1 r.value && all_repeat rs) (all_repeat rs)
