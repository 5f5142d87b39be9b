-- The script that rows are. Each row, from the last to the first, adds what it is to what follows it.
-- Nothing need be believed of this file: reading a script promises that the rows of every script come back as that
-- script, and that what it holds are a script's rows. Of other rows the answer means nothing. Assumes nothing.
use Rattle.std.specs.Prelude.{List, [], ◌∷◌, Some, None, Option}
use Rattle.script.specs.declared.row.Role.{Role}
use Rattle.script.specs.declared.row.Role.TheVariants as role
use Rattle.script.specs.declared.row.Row.{Row}
use Rattle.script.specs.Syntax.{Leaf, Expr, alone, less, same, Sum, sum, Terms, no_term, plus, minus, Term, term, Factors, no_factor, times, over, Factor, number, negative, name, paren, Names, no_name, comma, Block, done, assign, reading, when, either, loop, atomic, together, Decls, no_decl, cell, minus_cell, var, fresh, Script}

abbrev pub blank : Leaf
blank = record { place = 0; len = 0; value = 0 }

-- ---- expressions, one level for each that is not begun yet

-- the second half of a comparison
pub data Half : Type 0 where
  no_half : Half
  less_half : Leaf → Sum → Half
  same_half : Leaf → Sum → Half

-- what is read of an expression: the factor just read, what follows it, and the parenthesis that closes it
pub record Level : Type 0 where
  pub factor : Factor
  pub factors : Factors
  pub terms : Terms
  pub half : Half
  pub close : Leaf

abbrev pub level : Leaf → Level
level c = record { factor = number blank; factors = no_factor; terms = no_term; half = no_half; close = c }

abbrev pub with_factor : Factor → Level → Level
with_factor f l = record { factor = f; factors = l.factors; terms = l.terms; half = l.half; close = l.close }

abbrev pub with_factors : Factors → Level → Level
with_factors fs l = record { factor = number blank; factors = fs; terms = l.terms; half = l.half; close = l.close }

abbrev pub with_terms : Terms → Level → Level
with_terms ts l = record { factor = number blank; factors = no_factor; terms = ts; half = l.half; close = l.close }

abbrev pub with_half : Half → Level → Level
with_half h l = record { factor = number blank; factors = no_factor; terms = no_term; half = h; close = l.close }

abbrev pub term_of : Level → Term
term_of l = term l.factor l.factors

abbrev pub sum_of : Level → Sum
sum_of l = sum (term_of l) l.terms

abbrev pub joined : Sum → Half → Expr
joined s no_half = alone s
joined s (less_half o u) = less s o u
joined s (same_half o u) = same s o u

-- the expression of a level
abbrev pub expr_of : Level → Expr
expr_of l = joined (sum_of l) l.half

-- a number with its minus
abbrev pub negated : Leaf → Factor → Factor
negated m (number n) = negative m n
negated m (negative a b) = negative m b
negated m (name x) = negative m x
negated m (paren o e c) = negative m c

abbrev pub top_level : List Level → Level
top_level [] = level blank
top_level (l ∷ ls) = l

abbrev pub below : List Level → List Level
below [] = []
below (l ∷ ls) = ls

abbrev pub on_top : (Level → Level) → List Level → List Level
on_top f ls = f (top_level ls) ∷ below ls

-- ---- blocks, one entry for each that is not begun yet

-- what follows an if's first block
pub data Follows : Type 0 where
  no_else : Follows
  with_else : (word open' : Leaf) → Block → (close : Leaf) → Follows

pub record Entry : Type 0 where
  pub block : Block
  pub follows : Follows

abbrev pub entry : Block → Follows → Entry
entry k f = record { block = k; follows = f }

abbrev pub top_entry : List Entry → Entry
top_entry [] = entry done no_else
top_entry (e ∷ es) = e

abbrev pub under : List Entry → List Entry
under [] = []
under (e ∷ es) = es

abbrev pub top_block : List Entry → Block
top_block es = (top_entry es).block

-- a statement in front of the block on top
abbrev pub before : (Block → Block) → List Entry → List Entry
before f es = entry (f (top_block es)) (top_entry es).follows ∷ under es

abbrev pub if_of : Leaf → Expr → Leaf → Block → Leaf → Follows → Block → Block
if_of i e o a c no_else k = when i e o a c k
if_of i e o a c (with_else w o' b c') k = either i e o a c w o' b c' k

-- what a name becomes
pub data Source : Type 0 where
  by_expr : Source
  by_input : (word channel end : Leaf) → Source

abbrev pub cell_of : Option Leaf → Leaf → Leaf → Leaf → Leaf → Leaf → Decls → Decls
cell_of None w x q n z ds = cell w x q n z ds
cell_of (Some m) w x q n z ds = minus_cell w x q m n z ds

-- ---- what is read so far; `leaves` are the marks and words that what stands before them takes up

pub record Build : Type 0 where
  pub leaves : List Leaf
  pub levels : List Level
  pub entries : List Entry
  pub names : Names
  pub source : Source
  pub minus_sign : Option Leaf
  pub script : Script

abbrev pub leaf : List Leaf → Leaf
leaf [] = blank
leaf (l ∷ ls) = l

abbrev pub past : List Leaf → List Leaf
past [] = []
past (l ∷ ls) = ls

abbrev pub with_leaves : List Leaf → Build → Build
with_leaves ls b = record { leaves = ls; levels = b.levels; entries = b.entries; names = b.names; source = b.source; minus_sign = b.minus_sign; script = b.script }

abbrev pub with_levels : List Level → Build → Build
with_levels ls b = record { leaves = b.leaves; levels = ls; entries = b.entries; names = b.names; source = b.source; minus_sign = b.minus_sign; script = b.script }

abbrev pub with_entries : List Entry → Build → Build
with_entries es b = record { leaves = b.leaves; levels = b.levels; entries = es; names = b.names; source = b.source; minus_sign = b.minus_sign; script = b.script }

abbrev pub with_names : Names → Build → Build
with_names xs b = record { leaves = b.leaves; levels = b.levels; entries = b.entries; names = xs; source = b.source; minus_sign = b.minus_sign; script = b.script }

abbrev pub with_source : Source → Build → Build
with_source s b = record { leaves = b.leaves; levels = b.levels; entries = b.entries; names = b.names; source = s; minus_sign = b.minus_sign; script = b.script }

abbrev pub with_minus : Option Leaf → Build → Build
with_minus m b = record { leaves = b.leaves; levels = b.levels; entries = b.entries; names = b.names; source = b.source; minus_sign = m; script = b.script }

abbrev pub with_decls : (Decls → Decls) → Build → Build
with_decls f b = record { leaves = b.leaves; levels = b.levels; entries = b.entries; names = b.names; source = b.source; minus_sign = b.minus_sign; script = record { decls = f b.script.decls; word = b.script.word; open' = b.script.open'; main = b.script.main; close = b.script.close } }

abbrev pub with_script : Script → Build → Build
with_script s b = record { leaves = b.leaves; levels = b.levels; entries = b.entries; names = b.names; source = b.source; minus_sign = b.minus_sign; script = s }

-- a mark or a word that is taken up later
abbrev pub keep : Leaf → Build → Build
keep l b = with_leaves (l ∷ b.leaves) b

-- the leaves on top are taken up
abbrev pub drop₁ : Build → Build
drop₁ b = with_leaves (past b.leaves) b

abbrev pub drop₂ : Build → Build
drop₂ b = with_leaves (past (past b.leaves)) b

abbrev pub drop₃ : Build → Build
drop₃ b = with_leaves (past (past (past b.leaves))) b

abbrev pub drop₄ : Build → Build
drop₄ b = with_leaves (past (past (past (past b.leaves)))) b

abbrev pub leaf₀ : Build → Leaf
leaf₀ b = leaf b.leaves

abbrev pub leaf₁ : Build → Leaf
leaf₁ b = leaf (past b.leaves)

abbrev pub leaf₂ : Build → Leaf
leaf₂ b = leaf (past (past b.leaves))

abbrev pub leaf₃ : Build → Leaf
leaf₃ b = leaf (past (past (past b.leaves)))

-- a block that ends here, and an expression that ends here
abbrev pub block_ends : Build → Build
block_ends b = with_entries (entry done no_else ∷ b.entries) b

abbrev pub expr_ends : Leaf → Build → Build
expr_ends c b = with_levels (level c ∷ b.levels) b

abbrev pub to_level : (Level → Level) → Build → Build
to_level f b = with_levels (on_top f b.levels) b

abbrev pub top_expr : Build → Expr
top_expr b = expr_of (top_level b.levels)

abbrev pub expr_begins : Build → Build
expr_begins b = with_levels (below b.levels) b

-- the parenthesis is a factor of the expression around it
abbrev pub paren_begins : Leaf → Build → Build
paren_begins o b = to_level (with_factor (paren o (top_expr b) (top_level b.levels).close)) (expr_begins b)

abbrev pub statement : (Block → Block) → Build → Build
statement f b = with_entries (before f b.entries) b

-- a statement with the block on top, in front of the block under it
abbrev pub nested : (Block → Block → Block) → Build → Build
nested f b = with_entries (before (f (top_block b.entries)) (under b.entries)) b

-- an if that begins here: what is kept is where its first block opens and closes
abbrev pub if_begins : Leaf → Build → Build
if_begins i b = drop₂ (expr_begins (nested (λ a k. if_of i (top_expr b) (leaf₀ b) a (leaf₁ b) (top_entry b.entries).follows k) b))

-- an if's first block that ends here, with the else that follows it
abbrev pub then_ends : Leaf → Build → Build
then_ends c b = keep c (drop₃ (with_entries (entry done (with_else (leaf₀ b) (leaf₁ b) (top_block b.entries) (leaf₂ b)) ∷ under b.entries) b))

-- an assignment or a reading that begins here
abbrev pub set_by : Source → Leaf → Build → Build
set_by by_expr x b = drop₂ (expr_begins (statement (assign x (leaf₀ b) (top_expr b) (leaf₁ b)) b))
set_by (by_input i c z) x b = drop₁ (with_source by_expr (statement (reading x (leaf₀ b) i c z) b))

-- ---- what each row adds

abbrev pub add : Role → Leaf → Build → Build
add role.CellWord l b = drop₄ (with_minus None (with_decls (cell_of b.minus_sign l (leaf₀ b) (leaf₁ b) (leaf₂ b) (leaf₃ b)) b))
add role.CellName l b = keep l b
add role.CellIs l b = keep l b
add role.CellMinus l b = with_minus (Some l) b
add role.CellNumber l b = keep l b
add role.CellEnd l b = keep l b
add role.VarWord l b = drop₂ (with_decls (var l (leaf₀ b) (leaf₁ b)) b)
add role.VarName l b = keep l b
add role.VarEnd l b = keep l b
add role.FreshWord l b = drop₂ (with_decls (fresh l (leaf₀ b) (leaf₁ b)) b)
add role.FreshName l b = keep l b
add role.FreshEnd l b = keep l b
add role.MainWord l b = with_script (record { decls = no_decl; word = l; open' = leaf₀ b; main = top_block b.entries; close = leaf₁ b }) (drop₂ b)
add role.MainOpen l b = keep l b
add role.MainClose l b = keep l (block_ends b)
add role.Target l b = set_by b.source l b
add role.Becomes l b = keep l b
add role.SetEnd l b = keep l (expr_ends blank b)
add role.InWord l b = with_source (by_input l (leaf₀ b) (leaf₁ b)) (drop₂ b)
add role.Channel l b = keep l b
add role.ReadEnd l b = keep l b
add role.IfWord l b = if_begins l b
add role.ThenOpen l b = keep l (expr_ends blank b)
add role.WhenClose l b = keep l (block_ends b)
add role.ThenClose l b = then_ends l b
add role.ElseWord l b = keep l b
add role.ElseOpen l b = keep l b
add role.ElseClose l b = keep l (block_ends b)
add role.RepeatWord l b = drop₃ (nested (λ k. loop l (leaf₀ b) (leaf₁ b) k (leaf₂ b)) b)
add role.Count l b = keep l b
add role.BodyOpen l b = keep l b
add role.BodyClose l b = keep l (block_ends b)
add role.AtomicWord l b = drop₂ (nested (λ k. atomic l (leaf₀ b) k (leaf₁ b)) b)
add role.RegionOpen l b = keep l b
add role.RegionClose l b = keep l (block_ends b)
add role.TogetherWord l b = drop₂ (with_names no_name (statement (together l (leaf₀ b) b.names (leaf₁ b)) b))
add role.Listed l b = keep l b
add role.Comma l b = drop₁ (with_names (comma l (leaf₀ b) b.names) b)
add role.TogetherEnd l b = keep l b
add role.Operand l b = to_level (with_factor (name l)) b
add role.Literal l b = to_level (with_factor (number l)) b
add role.Negate l b = to_level (λ v. with_factor (negated l v.factor) v) b
add role.Negated l b = to_level (with_factor (number l)) b
add role.ParenOpen l b = paren_begins l b
add role.ParenClose l b = expr_ends l b
add role.Times l b = to_level (λ v. with_factors (times l v.factor v.factors) v) b
add role.Over l b = to_level (λ v. with_factors (over l v.factor v.factors) v) b
add role.Plus l b = to_level (λ v. with_terms (plus l (term_of v) v.terms) v) b
add role.Minus l b = to_level (λ v. with_terms (minus l (term_of v) v.terms) v) b
add role.Less l b = to_level (λ v. with_half (less_half l (sum_of v)) v) b
add role.Same l b = to_level (λ v. with_half (same_half l (sum_of v)) v) b

abbrev pub nothing_yet : Build
nothing_yet = record { leaves = []; levels = []; entries = []; names = no_name; source = by_expr; minus_sign = None; script = record { decls = no_decl; word = blank; open' = blank; main = done; close = blank } }

abbrev pub built : List Row → Build
built [] = nothing_yet
built (r ∷ rs) = add r.role (record { place = r.place; len = r.len; value = r.value }) (built rs)

-- the script of the rows
abbrev pub decode : List Row → Script
decode rs = (built rs).script
