-- What is left of a script in each state of the reader. Assumes nothing.
use Rattle.std.proofs.Common.{◌≡◌, Bool, true, false, ◌⊎◌, List, [], ◌∷◌, ap, ◌∙◌, inl, inr}
use Rattle.script.specs.declared.row.Role.{Role}
use Rattle.script.specs.declared.row.Role.TheVariants as role
use Rattle.script.specs.declared.row.Row.{Row}
use Rattle.script.specs.Syntax.{Leaf, Expr, alone, less, same, Sum, sum, Terms, term, Factors, Factor, Names, Block, Decls}
use Rattle.script.specs.Written.{row, text_expr, text_sum, text_terms, text_factors, text_factor, text_names, text, text_decls}
use Rattle.parser.specs.declared.machine.Ends.{Ends}
use Rattle.parser.specs.declared.machine.Ends.TheVariants as ends
use Rattle.parser.specs.declared.machine.Want.{Want}
use Rattle.parser.specs.declared.machine.Want.TheVariants as want
use Rattle.parser.specs.declared.machine.Frame.{Frame}
use Rattle.parser.specs.declared.machine.Frame.TheVariants as frame

abbrev pub Rest : Type 1
Rest = List Row → Type 0

-- a row of the role, and then P
abbrev pub One : Role → Rest → Rest
One r P rs = (l : Leaf) × (us : List Row) × (rs ≡ row r l ∷ us) × P us

-- the statements of a block, and then P
pub record In (P : Rest) (rs : List Row) : Type 0 where
  pub body : Block
  pub rest : List Row
  pub writes : rs ≡ text body rest
  pub then : P rest

-- the end of the block on top of the stack, and what follows it
abbrev pub Shuts : List Frame → Rest
Shuts [] rs = ⊥
Shuts (frame.Main ∷ fs) rs = One role.MainClose (λ us. us ≡ []) rs
Shuts (frame.Then ∷ fs) rs = One role.WhenClose (In (Shuts fs)) rs ⊎ One role.ThenClose (One role.ElseWord (One role.ElseOpen (In (One role.ElseClose (In (Shuts fs)))))) rs
Shuts (frame.Other ∷ fs) rs = One role.ElseClose (In (Shuts fs)) rs
Shuts (frame.Body ∷ fs) rs = One role.BodyClose (In (Shuts fs)) rs
Shuts (frame.Region ∷ fs) rs = One role.RegionClose (In (Shuts fs)) rs
Shuts (frame.Paren e c ∷ fs) rs = ⊥

-- ---- expressions

abbrev pub Factored : Rest → Rest
Factored P rs = (f : Factor) × (us : List Row) × (rs ≡ text_factor f us) × P us

abbrev pub Summed : Rest → Rest
Summed P rs = (s : Sum) × (us : List Row) × (rs ≡ text_sum s us) × P us

abbrev pub Expressed : Rest → Rest
Expressed P rs = (e : Expr) × (us : List Row) × (rs ≡ text_expr e us) × P us

-- the other factors of a term and the other terms of a sum, and then P
pub record Sums (P : Rest) (rs : List Row) : Type 0 where
  pub factors : Factors
  pub terms : Terms
  pub rest : List Row
  pub writes : rs ≡ text_factors factors (text_terms terms rest)
  pub then : P rest

-- a comparison, unless there was one, and then P
abbrev pub Compared : Bool → Rest → Rest
Compared true P rs = P rs
Compared false P rs = P rs ⊎ (One role.Less (Summed P) rs ⊎ One role.Same (Summed P) rs)

abbrev pub Tailed : Bool → Rest → Rest
Tailed c P rs = Sums (Compared c P) rs

abbrev pub Set : List Frame → Rest
Set fs rs = One role.SetEnd (In (Shuts fs)) rs

abbrev pub Tested : List Frame → Rest
Tested fs rs = One role.ThenOpen (In (Shuts (frame.Then ∷ fs))) rs

-- the end of the parenthesis on top of the stack, and what follows it
abbrev pub Leaves : List Frame → Rest
Leaves [] rs = ⊥
Leaves (frame.Main ∷ fs) rs = ⊥
Leaves (frame.Then ∷ fs) rs = ⊥
Leaves (frame.Other ∷ fs) rs = ⊥
Leaves (frame.Body ∷ fs) rs = ⊥
Leaves (frame.Region ∷ fs) rs = ⊥
Leaves (frame.Paren ends.Semi c ∷ fs) rs = One role.ParenClose (Tailed c (Set fs)) rs
Leaves (frame.Paren ends.Brace c ∷ fs) rs = One role.ParenClose (Tailed c (Tested fs)) rs
Leaves (frame.Paren ends.Paren c ∷ fs) rs = One role.ParenClose (Tailed c (Leaves fs)) rs

-- the end of the expression, and what follows it
abbrev pub Fin : Ends → List Frame → Rest
Fin ends.Semi fs rs = Set fs rs
Fin ends.Brace fs rs = Tested fs rs
Fin ends.Paren fs rs = Leaves fs rs

abbrev pub Tail : Ends → Bool → List Frame → Rest
Tail e c fs rs = Tailed c (Fin e fs) rs

pub leave : (e : Ends) (c : Bool) (fs : List Frame) (rs : List Row) → One role.ParenClose (Tail e c fs) rs → Leaves (frame.Paren e c ∷ fs) rs
leave ends.Semi c fs rs h = h
leave ends.Brace c fs rs h = h
leave ends.Paren c fs rs h = h

pub left : (e : Ends) (c : Bool) (fs : List Frame) (rs : List Row) → Leaves (frame.Paren e c ∷ fs) rs → One role.ParenClose (Tail e c fs) rs
left ends.Semi c fs rs h = h
left ends.Brace c fs rs h = h
left ends.Paren c fs rs h = h

pub to_sum : (P : Rest) (rs : List Row) → Factored (Sums P) rs → Summed P rs
to_sum P rs h =
    let s = h.3 in
    (sum (term h.0 s.factors) s.terms, s.rest, h.2 ∙ ap (text_factor h.0) s.writes, s.then)

pub to_expr : (P : Rest) (rs : List Row) → Factored (Tailed false P) rs → Expressed P rs
to_expr P rs h = by (to_sum (Compared false P) rs h)
  where
    by : Summed (Compared false P) rs → Expressed P rs
    by s = at s.3
      where
        at : Compared false P s.1 → Expressed P rs
        at (inl p) = (alone s.0, s.1, s.2, p)
        at (inr (inl q)) = let u = q.3 in (less s.0 q.0 u.0, u.1, s.2 ∙ ap (text_sum s.0) (q.2 ∙ ap (λ y. row role.Less q.0 ∷ y) u.2), u.3)
        at (inr (inr q)) = let u = q.3 in (same s.0 q.0 u.0, u.1, s.2 ∙ ap (text_sum s.0) (q.2 ∙ ap (λ y. row role.Same q.0 ∷ y) u.2), u.3)

-- ---- the other parts

abbrev pub Sourced : List Frame → Rest
Sourced fs rs = One role.InWord (One role.Channel (One role.ReadEnd (In (Shuts fs)))) rs ⊎ Factored (Tail ends.Semi false fs) rs

abbrev pub Naming : List Frame → Rest
Naming fs rs = (xs : Names) × (z : Leaf) × (us : List Row) × (rs ≡ text_names xs (row role.TogetherEnd z ∷ us)) × In (Shuts fs) us

pub record Declared (fs : List Frame) (rs : List Row) : Type 0 where
  pub decls : Decls
  pub word : Leaf
  pub open' : Leaf
  pub rest : List Row
  pub writes : rs ≡ text_decls decls (row role.MainWord word ∷ row role.MainOpen open' ∷ rest)
  pub then : In (Shuts (frame.Main ∷ fs)) rest

abbrev pub Valued : Rest → Rest
Valued P rs = One role.CellMinus (One role.CellNumber (One role.CellEnd P)) rs ⊎ One role.CellNumber (One role.CellEnd P) rs

-- after an if's first block; the flag says that an else comes next
abbrev pub Overed : Bool → List Frame → Rest
Overed true fs rs = One role.ElseWord (One role.ElseOpen (In (Shuts (frame.Other ∷ fs)))) rs
Overed false fs rs = In (Shuts fs) rs

abbrev pub Left : Want → List Frame → Bool → Rest
Left want.Decl fs b rs = Declared fs rs
Left want.CellName fs b rs = One role.CellName (One role.CellIs (Valued (Declared fs))) rs
Left want.CellIs fs b rs = One role.CellIs (Valued (Declared fs)) rs
Left want.CellValue fs b rs = Valued (Declared fs) rs
Left want.CellNumber fs b rs = One role.CellNumber (One role.CellEnd (Declared fs)) rs
Left want.CellEnd fs b rs = One role.CellEnd (Declared fs) rs
Left want.VarName fs b rs = One role.VarName (One role.VarEnd (Declared fs)) rs
Left want.VarEnd fs b rs = One role.VarEnd (Declared fs) rs
Left want.FreshName fs b rs = One role.FreshName (One role.FreshEnd (Declared fs)) rs
Left want.FreshEnd fs b rs = One role.FreshEnd (Declared fs) rs
Left want.MainOpen fs b rs = One role.MainOpen (In (Shuts (frame.Main ∷ fs))) rs
Left want.Stmt fs b rs = In (Shuts fs) rs
Left want.Over fs b rs = Overed b fs rs
Left want.Becomes fs b rs = One role.Becomes (Sourced fs) rs
Left want.Source fs b rs = Sourced fs rs
Left want.Channel fs b rs = One role.Channel (One role.ReadEnd (In (Shuts fs))) rs
Left want.ReadEnd fs b rs = One role.ReadEnd (In (Shuts fs)) rs
Left (want.Operand e c) fs b rs = Factored (Tail e c fs) rs
Left (want.Negated e c) fs b rs = One role.Negated (Tail e c fs) rs
Left (want.More e c) fs b rs = Tail e c fs rs
Left want.Count fs b rs = One role.Count (One role.BodyOpen (In (Shuts (frame.Body ∷ fs)))) rs
Left want.BodyOpen fs b rs = One role.BodyOpen (In (Shuts (frame.Body ∷ fs))) rs
Left want.RegionOpen fs b rs = One role.RegionOpen (In (Shuts (frame.Region ∷ fs))) rs
Left want.ElseOpen fs b rs = One role.ElseOpen (In (Shuts (frame.Other ∷ fs))) rs
Left want.Listed fs b rs = One role.Listed (Naming fs) rs
Left want.ListMore fs b rs = Naming fs rs
Left want.End fs b rs = rs ≡ []
