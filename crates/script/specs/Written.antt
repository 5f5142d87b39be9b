-- The grammar: how a script is written, token by token, each token with its role. Assumes nothing.
use Rattle.std.specs.Prelude.{◌≡◌, ℕ, ◌⊎◌, List, [], ◌∷◌, ◌++◌, map}
use Rattle.script.specs.declared.row.Role.{Role}
use Rattle.script.specs.declared.row.Role.TheVariants as role
use Rattle.script.specs.declared.row.Row.{Row}
use Rattle.script.specs.declared.token.Sym.{Sym}
use Rattle.script.specs.declared.token.Sym.TheVariants as sym
use Rattle.script.specs.declared.token.Tok.{Tok}
use Rattle.script.specs.Syntax.{Leaf, Expr, alone, less, same, Sum, sum, Terms, no_term, plus, minus, Term, term, Factors, no_factor, times, over, Factor, number, negative, name, paren, Names, no_name, comma, Block, done, assign, reading, when, either, loop, atomic, together, Decls, no_decl, cell, minus_cell, var, fresh, Script}

-- ---- the token that each role is written by

abbrev pub sym_of : Role → Sym
sym_of role.CellWord = sym.Cell
sym_of role.CellName = sym.Name
sym_of role.CellIs = sym.Assign
sym_of role.CellMinus = sym.Minus
sym_of role.CellNumber = sym.Number
sym_of role.CellEnd = sym.Semicolon
sym_of role.VarWord = sym.Var
sym_of role.VarName = sym.Name
sym_of role.VarEnd = sym.Semicolon
sym_of role.FreshWord = sym.Fresh
sym_of role.FreshName = sym.Name
sym_of role.FreshEnd = sym.Semicolon
sym_of role.MainWord = sym.Main
sym_of role.MainOpen = sym.BraceOpen
sym_of role.MainClose = sym.BraceClose
sym_of role.Target = sym.Name
sym_of role.Becomes = sym.Assign
sym_of role.SetEnd = sym.Semicolon
sym_of role.InWord = sym.In
sym_of role.Channel = sym.Number
sym_of role.ReadEnd = sym.Semicolon
sym_of role.IfWord = sym.If
sym_of role.ThenOpen = sym.BraceOpen
sym_of role.WhenClose = sym.BraceClose
sym_of role.ThenClose = sym.BraceClose
sym_of role.ElseWord = sym.Else
sym_of role.ElseOpen = sym.BraceOpen
sym_of role.ElseClose = sym.BraceClose
sym_of role.RepeatWord = sym.Repeat
sym_of role.Count = sym.Number
sym_of role.BodyOpen = sym.BraceOpen
sym_of role.BodyClose = sym.BraceClose
sym_of role.AtomicWord = sym.Atomic
sym_of role.RegionOpen = sym.BraceOpen
sym_of role.RegionClose = sym.BraceClose
sym_of role.TogetherWord = sym.Together
sym_of role.Listed = sym.Name
sym_of role.Comma = sym.Comma
sym_of role.TogetherEnd = sym.Semicolon
sym_of role.Operand = sym.Name
sym_of role.Literal = sym.Number
sym_of role.Negate = sym.Minus
sym_of role.Negated = sym.Number
sym_of role.ParenOpen = sym.ParenOpen
sym_of role.ParenClose = sym.ParenClose
sym_of role.Times = sym.Times
sym_of role.Over = sym.Over
sym_of role.Plus = sym.Plus
sym_of role.Minus = sym.Minus
sym_of role.Less = sym.Less
sym_of role.Same = sym.Same

abbrev pub row : Role → Leaf → Row
row r l = record { role = r; place = l.place; len = l.len; value = l.value }

-- the token of a row
abbrev pub token : Row → Tok
token r = record { sym = sym_of r.role; place = r.place; len = r.len; value = r.value }

-- ---- how each part is written, before what follows it

abbrev mutual
  pub text_expr : Expr → List Row → List Row
  text_expr (alone s) rs = text_sum s rs
  text_expr (less s o u) rs = text_sum s (row role.Less o ∷ text_sum u rs)
  text_expr (same s o u) rs = text_sum s (row role.Same o ∷ text_sum u rs)

  pub text_sum : Sum → List Row → List Row
  text_sum (sum t ts) rs = text_term t (text_terms ts rs)

  pub text_terms : Terms → List Row → List Row
  text_terms no_term rs = rs
  text_terms (plus o t ts) rs = row role.Plus o ∷ text_term t (text_terms ts rs)
  text_terms (minus o t ts) rs = row role.Minus o ∷ text_term t (text_terms ts rs)

  pub text_term : Term → List Row → List Row
  text_term (term f fs) rs = text_factor f (text_factors fs rs)

  pub text_factors : Factors → List Row → List Row
  text_factors no_factor rs = rs
  text_factors (times o f fs) rs = row role.Times o ∷ text_factor f (text_factors fs rs)
  text_factors (over o f fs) rs = row role.Over o ∷ text_factor f (text_factors fs rs)

  pub text_factor : Factor → List Row → List Row
  text_factor (number n) rs = row role.Literal n ∷ rs
  text_factor (negative m n) rs = row role.Negate m ∷ row role.Negated n ∷ rs
  text_factor (name x) rs = row role.Operand x ∷ rs
  text_factor (paren o e c) rs = row role.ParenOpen o ∷ text_expr e (row role.ParenClose c ∷ rs)

abbrev pub text_names : Names → List Row → List Row
text_names no_name rs = rs
text_names (comma c x xs) rs = row role.Comma c ∷ row role.Listed x ∷ text_names xs rs

abbrev pub text : Block → List Row → List Row
text done rs = rs
text (assign x q e z k) rs = row role.Target x ∷ row role.Becomes q ∷ text_expr e (row role.SetEnd z ∷ text k rs)
text (reading x q i c z k) rs = row role.Target x ∷ row role.Becomes q ∷ row role.InWord i ∷ row role.Channel c ∷ row role.ReadEnd z ∷ text k rs
text (when i e o a c k) rs = row role.IfWord i ∷ text_expr e (row role.ThenOpen o ∷ text a (row role.WhenClose c ∷ text k rs))
text (either i e o a c w o' b c' k) rs =
    row role.IfWord i ∷ text_expr e (row role.ThenOpen o ∷ text a (row role.ThenClose c ∷ row role.ElseWord w ∷ row role.ElseOpen o' ∷ text b (row role.ElseClose c' ∷ text k rs)))
text (loop r n o b c k) rs = row role.RepeatWord r ∷ row role.Count n ∷ row role.BodyOpen o ∷ text b (row role.BodyClose c ∷ text k rs)
text (atomic a o b c k) rs = row role.AtomicWord a ∷ row role.RegionOpen o ∷ text b (row role.RegionClose c ∷ text k rs)
text (together t x xs z k) rs = row role.TogetherWord t ∷ row role.Listed x ∷ text_names xs (row role.TogetherEnd z ∷ text k rs)

abbrev pub text_decls : Decls → List Row → List Row
text_decls no_decl rs = rs
text_decls (cell w x q n z ds) rs = row role.CellWord w ∷ row role.CellName x ∷ row role.CellIs q ∷ row role.CellNumber n ∷ row role.CellEnd z ∷ text_decls ds rs
text_decls (minus_cell w x q m n z ds) rs = row role.CellWord w ∷ row role.CellName x ∷ row role.CellIs q ∷ row role.CellMinus m ∷ row role.CellNumber n ∷ row role.CellEnd z ∷ text_decls ds rs
text_decls (var w x z ds) rs = row role.VarWord w ∷ row role.VarName x ∷ row role.VarEnd z ∷ text_decls ds rs
text_decls (fresh w x z ds) rs = row role.FreshWord w ∷ row role.FreshName x ∷ row role.FreshEnd z ∷ text_decls ds rs

-- the rows of a script
abbrev pub rows : Script → List Row
rows s = text_decls s.decls (row role.MainWord s.word ∷ row role.MainOpen s.open' ∷ text s.main (row role.MainClose s.close ∷ []))

-- ---- what question 6 asks of the tokens

-- the tokens are those of the script s
abbrev pub Writes : List Tok → Script → Type 0
Writes ts s = ts ≡ map token (rows s)

-- some script begins with the tokens
abbrev pub Begins : List Tok → Type 0
Begins ts = (more : List Tok) × (s : Script) × Writes (ts ++ more) s

-- the token at p is the first that no script has there
abbrev pub Stray : List Tok → ℕ → Type 0
Stray ts p =
    (before : List Tok) × (t : Tok) × (behind : List Tok) × (ts ≡ before ++ t ∷ behind) × (t.place ≡ p) × Begins before × (Begins (before ++ t ∷ []) → ⊥)

-- the tokens of a text of so many bytes are no script, and p is where they cease to begin one, else the text's end
abbrev pub Breaks : ℕ → List Tok → ℕ → Type 0
Breaks end ts p = ((s : Script) → Writes ts s → ⊥) × (Stray ts p ⊎ ((p ≡ end) × Begins ts))
