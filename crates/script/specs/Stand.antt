-- The standing of names, and the uses that are refused. Assumes nothing.
use Rattle.std.specs.Prelude.{ℕ, zero, suc, ◌*◌, min, Bool, true, false, cond, not, ◌||◌, List, [], ◌∷◌, ◌++◌, map, length, replicate, Some, None, Option, ◌==◌, slice_index_or, slice_set}
use Rattle.script.specs.declared.standing.Standing.{Standing}
use Rattle.script.specs.declared.standing.Standing.TheVariants.{Clean, Now, Old}
use Rattle.script.specs.Syntax.{Leaf, Expr, reads, Code, nothing, put, read, fork, turns, region, uses, Decls, no_decl, cell, minus_cell, var, fresh, Script, code}

-- one table holds a standing for each name, at the name's number
abbrev pub Table : Type 0
Table = List Standing

abbrev pub higher : Standing → Standing → Standing
higher Clean s = s
higher Now Clean = Now
higher Now Now = Now
higher Now Old = Old
higher Old s = Old

-- the higher of both, name by name
abbrev pub both : Table → Table → Table
both [] us = []
both (t ∷ ts) [] = t ∷ ts
both (t ∷ ts) (u ∷ us) = higher t u ∷ both ts us

-- as high as the highest of the names; clean where there is none
abbrev pub highest : Table → List Leaf → Standing
highest t [] = Clean
highest t (x ∷ xs) = higher (slice_index_or t x.value Clean) (highest t xs)

-- an expression stands as its highest name
abbrev pub of_expr : Table → Expr → Standing
of_expr t e = highest t (reads e [])

-- the names xs stand at least as high as s
abbrev pub raised : Standing → List ℕ → Table → Table
raised s [] t = t
raised s (x ∷ xs) t = raised s xs (slice_set t x (higher (slice_index_or t x Clean) s))

abbrev pub older : Standing → Standing
older Clean = Clean
older Now = Old
older Old = Old

-- opening and closing an outermost region turns now into old
abbrev pub aged : Bool → Table → Table
aged true t = map older t
aged false t = t

-- a reading stands now inside a region, and old outside
abbrev pub reading_at : Bool → Standing
reading_at inside = cond inside Now Old

-- the names assigned in the text of the statements, in its order, before others
abbrev pub assigned : Code → List ℕ → List ℕ
assigned nothing xs = xs
assigned (put x e k) xs = x.value ∷ assigned k xs
assigned (read x c k) xs = x.value ∷ assigned k xs
assigned (fork e a b k) xs = assigned a (assigned b (assigned k xs))
assigned (turns n b k) xs = assigned b (assigned k xs)
assigned (region b k) xs = assigned b (assigned k xs)
assigned (uses ys k) xs = assigned k xs

-- the higher of entry and body end, so many times
unfoldable pub climb : ℕ → (Table → Table) → Table → Table
climb zero f t = t
climb (suc n) f t = climb n f (both t (f t))

-- until nothing rises: each name can rise twice
abbrev pub settle : (Table → Table) → Table → Table
settle f t = climb (2 * length t) f t

-- the table after the statements, inside a region or not
abbrev pub walk : Bool → Code → Table → Table
walk inside nothing t = t
walk inside (put x e k) t = walk inside k (slice_set t x.value (of_expr t e))
walk inside (read x c k) t = walk inside k (slice_set t x.value (reading_at inside))
walk inside (fork e a b k) t = walk inside k (raised (of_expr t e) (assigned a (assigned b [])) (both (walk inside a t) (walk inside b t)))
walk inside (turns n b k) t = walk inside k (walk inside b (settle (walk inside b) t))
walk inside (region b k) t = walk inside k (aged (not inside) (walk true b (aged (not inside) t)))
walk inside (uses xs k) t = walk inside k t

abbrev pub is_old : Standing → Bool
is_old Clean = false
is_old Now = false
is_old Old = true

-- the places of those names that stand old
abbrev pub olds : Table → List Leaf → List ℕ
olds t [] = []
olds t (x ∷ xs) = cond (is_old (slice_index_or t x.value Clean)) (x.place ∷ olds t xs) (olds t xs)

-- the uses in an expression: each place where a name declared fresh is read
abbrev pub fresh_of : (ℕ → Bool) → List Leaf → List Leaf
fresh_of marked [] = []
fresh_of marked (x ∷ xs) = cond (marked x.value) (x ∷ fresh_of marked xs) (fresh_of marked xs)

abbrev pub uses_in : (ℕ → Bool) → Expr → List Leaf
uses_in marked e = fresh_of marked (reads e [])

-- what g says of each table that the body f is walked with, from the first to the last
unfoldable pub walks : ℕ → (Table → Table) → (Table → List ℕ) → Table → List ℕ
walks zero f g t = g t
walks (suc n) f g t = g t ++ walks n f g (both t (f t))

-- the places of the uses that stand old, over all walks
abbrev pub refused : (ℕ → Bool) → Bool → Code → Table → List ℕ
refused marked inside nothing t = []
refused marked inside (put x e k) t = olds t (uses_in marked e) ++ refused marked inside k (slice_set t x.value (of_expr t e))
refused marked inside (read x c k) t = refused marked inside k (slice_set t x.value (reading_at inside))
refused marked inside (fork e a b k) t =
    olds t (uses_in marked e) ++ (refused marked inside a t ++ (refused marked inside b t
    ++ refused marked inside k (raised (of_expr t e) (assigned a (assigned b [])) (both (walk inside a t) (walk inside b t)))))
refused marked inside (turns n b k) t =
    walks (2 * length t) (walk inside b) (refused marked inside b) t
    ++ refused marked inside k (walk inside b (settle (walk inside b) t))
refused marked inside (region b k) t =
    refused marked true b (aged (not inside) t)
    ++ refused marked inside k (aged (not inside) (walk true b (aged (not inside) t)))
refused marked inside (uses xs k) t = olds t xs ++ refused marked inside k t

abbrev pub lesser : ℕ → Option ℕ → Option ℕ
lesser p None = Some p
lesser p (Some q) = Some (min p q)

-- the first in the text
abbrev pub least : List ℕ → Option ℕ
least [] = None
least (p ∷ ps) = lesser p (least ps)

-- whether the name of a number is declared fresh
abbrev pub fresh_in : Decls → ℕ → Bool
fresh_in no_decl x = false
fresh_in (cell _ _ _ _ _ ds) x = fresh_in ds x
fresh_in (minus_cell _ _ _ _ _ _ ds) x = fresh_in ds x
fresh_in (var _ _ _ ds) x = fresh_in ds x
fresh_in (fresh _ y _ ds) x = y.value == x || fresh_in ds x

-- the places of a script's refused uses: all names begin clean, and there are at most 128
abbrev pub all_refused : Script → List ℕ
all_refused s = refused (fresh_in s.decls) false (code s.main) (replicate 128 Clean)

-- the first refused use of a script
abbrev pub first_refused : Script → Option ℕ
first_refused s = least (all_refused s)
