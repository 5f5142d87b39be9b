-- Where the machine stops, no script goes on. Assumes nothing.
use Rattle.std.proofs.Common.{◌≡◌, ℕ, Bool, true, false, cond, ◌⊎◌, List, [], ◌∷◌, ◌++◌, map, Some, None, Ok, Err, Option, sym as sym', refl, ap, ◌∙◌, inl, inr, append_assoc}
use Rattle.script.specs.declared.fault.Fault.{Fault}
use Rattle.script.specs.declared.row.Role.{Role}
use Rattle.script.specs.declared.row.Row.{Row}
use Rattle.script.specs.declared.token.Sym.{Sym}
use Rattle.script.specs.declared.token.Sym.TheVariants as sym
use Rattle.script.specs.declared.token.Tok.{Tok}
use Rattle.script.specs.Faults.{fault}
use Rattle.script.specs.Syntax.{Script}
use Rattle.script.specs.Written.{token, Writes, Begins, Breaks}
use Rattle.parser.specs.declared.machine.Ends.{Ends}
use Rattle.parser.specs.declared.machine.Ends.TheVariants as ends
use Rattle.parser.specs.declared.machine.Want.{Want}
use Rattle.parser.specs.declared.machine.Want.TheVariants as want
use Rattle.parser.specs.declared.machine.Frame.{Frame}
use Rattle.parser.specs.declared.machine.Frame.TheVariants as frame
use Rattle.parser.specs.declared.machine.Mark.TheVariants as mark
use Rattle.parser.specs.declared.machine.Move.{Move}
use Rattle.parser.specs.declared.machine.Move.TheVariants.{Pop}
use Rattle.parser.specs.Machine as machine
use Rattle.parser.specs.Machine.{State, at, run, goes, put, marked, given, moved, otherwise, start, is, on, rule, is_end}
use Rattle.parser.proofs.Sound.{Res, err_ok, script_of}
use Rattle.parser.proofs.Kept.{kept}
use Rattle.parser.proofs.Complete.{script_read}

-- ---- the stacks that the reader can have

-- a block is on top, and main's is below
abbrev Opened : List Frame → Type 0
Opened [] = ⊥
Opened (frame.Main ∷ fs) = Unit {0}
Opened (frame.Then ∷ fs) = Opened fs
Opened (frame.Other ∷ fs) = Opened fs
Opened (frame.Body ∷ fs) = Opened fs
Opened (frame.Region ∷ fs) = Opened fs
Opened (frame.Paren e c ∷ fs) = ⊥

-- a parenthesis is on top
abbrev Inside : List Frame → Type 0
Inside [] = ⊥
Inside (frame.Main ∷ fs) = ⊥
Inside (frame.Then ∷ fs) = ⊥
Inside (frame.Other ∷ fs) = ⊥
Inside (frame.Body ∷ fs) = ⊥
Inside (frame.Region ∷ fs) = ⊥
Inside (frame.Paren ends.Semi c ∷ fs) = Opened fs
Inside (frame.Paren ends.Brace c ∷ fs) = Opened fs
Inside (frame.Paren ends.Paren c ∷ fs) = Inside fs

abbrev Sits : Ends → List Frame → Type 0
Sits ends.Semi fs = Opened fs
Sits ends.Brace fs = Opened fs
Sits ends.Paren fs = Inside fs

abbrev Rooted : Want → List Frame → Type 0
Rooted want.Decl fs = Unit {0}
Rooted want.CellName fs = Unit {0}
Rooted want.CellIs fs = Unit {0}
Rooted want.CellValue fs = Unit {0}
Rooted want.CellNumber fs = Unit {0}
Rooted want.CellEnd fs = Unit {0}
Rooted want.VarName fs = Unit {0}
Rooted want.VarEnd fs = Unit {0}
Rooted want.FreshName fs = Unit {0}
Rooted want.FreshEnd fs = Unit {0}
Rooted want.MainOpen fs = Unit {0}
Rooted want.Stmt fs = Opened fs
Rooted want.Over fs = Opened fs
Rooted want.Becomes fs = Opened fs
Rooted want.Source fs = Opened fs
Rooted want.Channel fs = Opened fs
Rooted want.ReadEnd fs = Opened fs
Rooted (want.Operand e c) fs = Sits e fs
Rooted (want.Negated e c) fs = Sits e fs
Rooted (want.More e c) fs = Sits e fs
Rooted want.Count fs = Opened fs
Rooted want.BodyOpen fs = Opened fs
Rooted want.RegionOpen fs = Opened fs
Rooted want.ElseOpen fs = Opened fs
Rooted want.Listed fs = Opened fs
Rooted want.ListMore fs = Opened fs
Rooted want.End fs = Unit {0}

-- ---- from each such state the script can be ended

abbrev any : Sym → Tok
any s = record { sym = s; place = 0; len = 0; value = 0 }

abbrev closers : List Frame → List Tok
closers [] = []
closers (frame.Main ∷ fs) = any sym.BraceClose ∷ []
closers (frame.Then ∷ fs) = any sym.BraceClose ∷ closers fs
closers (frame.Other ∷ fs) = any sym.BraceClose ∷ closers fs
closers (frame.Body ∷ fs) = any sym.BraceClose ∷ closers fs
closers (frame.Region ∷ fs) = any sym.BraceClose ∷ closers fs
closers (frame.Paren e c ∷ fs) = []

abbrev semi : List Frame → List Tok
semi fs = any sym.Semicolon ∷ closers fs

abbrev empty : List Frame → List Tok
empty fs = any sym.BraceOpen ∷ any sym.BraceClose ∷ closers fs

abbrev outs : List Frame → List Tok
outs [] = []
outs (frame.Main ∷ fs) = []
outs (frame.Then ∷ fs) = []
outs (frame.Other ∷ fs) = []
outs (frame.Body ∷ fs) = []
outs (frame.Region ∷ fs) = []
outs (frame.Paren ends.Semi c ∷ fs) = any sym.ParenClose ∷ semi fs
outs (frame.Paren ends.Brace c ∷ fs) = any sym.ParenClose ∷ empty fs
outs (frame.Paren ends.Paren c ∷ fs) = any sym.ParenClose ∷ outs fs

abbrev ending : Ends → List Frame → List Tok
ending ends.Semi fs = semi fs
ending ends.Brace fs = empty fs
ending ends.Paren fs = outs fs

abbrev Reads : ℕ → List Tok → State → Type 0
Reads end ts s = (rs : List Row) × (run end ts s ≡ Ok rs)

module _ (end : ℕ) where
  step : (t : Tok) (ts : List Tok) (s s' : State) → moved (rule s.want t.sym) s.stack ≡ Some s' → Reads end ts s' → Reads end (t ∷ ts) s
  step t ts s s' e r =
      let g : Role = given (rule s.want t.sym) s.stack (otherwise ts) in
      (marked g t ∷ r.0, ap (λ o. goes t g o (run end ts)) e ∙ ap (put (marked g t)) r.1)

  -- the blocks that are open are closed, after a statement or after an if's first block
  closes : (fs : List Frame) → Opened fs → Reads end (closers fs) (at want.Stmt fs) × Reads end (closers fs) (at want.Over fs)
  closes [] h = absurd h
  closes (frame.Main ∷ fs) h =
      let r : Reads end [] (at want.End fs) = ([], refl) in
      (step (any sym.BraceClose) [] (at want.Stmt (frame.Main ∷ fs)) (at want.End fs) refl r, step (any sym.BraceClose) [] (at want.Over (frame.Main ∷ fs)) (at want.End fs) refl r)
  closes (frame.Then ∷ fs) h =
      let r = (closes fs h).1 in
      (step (any sym.BraceClose) (closers fs) (at want.Stmt (frame.Then ∷ fs)) (at want.Over fs) refl r, step (any sym.BraceClose) (closers fs) (at want.Over (frame.Then ∷ fs)) (at want.Over fs) refl r)
  closes (frame.Other ∷ fs) h =
      let r = (closes fs h).0 in
      (step (any sym.BraceClose) (closers fs) (at want.Stmt (frame.Other ∷ fs)) (at want.Stmt fs) refl r, step (any sym.BraceClose) (closers fs) (at want.Over (frame.Other ∷ fs)) (at want.Stmt fs) refl r)
  closes (frame.Body ∷ fs) h =
      let r = (closes fs h).0 in
      (step (any sym.BraceClose) (closers fs) (at want.Stmt (frame.Body ∷ fs)) (at want.Stmt fs) refl r, step (any sym.BraceClose) (closers fs) (at want.Over (frame.Body ∷ fs)) (at want.Stmt fs) refl r)
  closes (frame.Region ∷ fs) h =
      let r = (closes fs h).0 in
      (step (any sym.BraceClose) (closers fs) (at want.Stmt (frame.Region ∷ fs)) (at want.Stmt fs) refl r, step (any sym.BraceClose) (closers fs) (at want.Over (frame.Region ∷ fs)) (at want.Stmt fs) refl r)
  closes (frame.Paren e c ∷ fs) h = absurd h

  stmts : (fs : List Frame) → Opened fs → Reads end (closers fs) (at want.Stmt fs)
  stmts fs h = (closes fs h).0

  -- an empty block
  block : (w : Want) (f : Frame) (fs : List Frame) → moved (rule w sym.BraceOpen) fs ≡ Some (at want.Stmt (f ∷ fs)) → Reads end (any sym.BraceClose ∷ closers fs) (at want.Stmt (f ∷ fs)) → Reads end (empty fs) (at w fs)
  block w f fs e r = step (any sym.BraceOpen) (any sym.BraceClose ∷ closers fs) (at w fs) (at want.Stmt (f ∷ fs)) e r

  semi_read : (c : Bool) (fs : List Frame) → Opened fs → Reads end (semi fs) (at (want.More ends.Semi c) fs)
  semi_read true fs h = step (any sym.Semicolon) (closers fs) (at (want.More ends.Semi true) fs) (at want.Stmt fs) refl (stmts fs h)
  semi_read false fs h = step (any sym.Semicolon) (closers fs) (at (want.More ends.Semi false) fs) (at want.Stmt fs) refl (stmts fs h)

  empty_read : (c : Bool) (fs : List Frame) → Opened fs → Reads end (empty fs) (at (want.More ends.Brace c) fs)
  empty_read true fs h = block (want.More ends.Brace true) frame.Then fs refl (stmts (frame.Then ∷ fs) h)
  empty_read false fs h = block (want.More ends.Brace false) frame.Then fs refl (stmts (frame.Then ∷ fs) h)

  outs_read : (fs : List Frame) (c : Bool) → Inside fs → Reads end (outs fs) (at (want.More ends.Paren c) fs)
  outs_read [] c h = absurd h
  outs_read (frame.Main ∷ fs) c h = absurd h
  outs_read (frame.Then ∷ fs) c h = absurd h
  outs_read (frame.Other ∷ fs) c h = absurd h
  outs_read (frame.Body ∷ fs) c h = absurd h
  outs_read (frame.Region ∷ fs) c h = absurd h
  outs_read (frame.Paren ends.Semi d ∷ fs) true h = step (any sym.ParenClose) (semi fs) (at (want.More ends.Paren true) (frame.Paren ends.Semi d ∷ fs)) (at (want.More ends.Semi d) fs) refl (semi_read d fs h)
  outs_read (frame.Paren ends.Semi d ∷ fs) false h = step (any sym.ParenClose) (semi fs) (at (want.More ends.Paren false) (frame.Paren ends.Semi d ∷ fs)) (at (want.More ends.Semi d) fs) refl (semi_read d fs h)
  outs_read (frame.Paren ends.Brace d ∷ fs) true h = step (any sym.ParenClose) (empty fs) (at (want.More ends.Paren true) (frame.Paren ends.Brace d ∷ fs)) (at (want.More ends.Brace d) fs) refl (empty_read d fs h)
  outs_read (frame.Paren ends.Brace d ∷ fs) false h = step (any sym.ParenClose) (empty fs) (at (want.More ends.Paren false) (frame.Paren ends.Brace d ∷ fs)) (at (want.More ends.Brace d) fs) refl (empty_read d fs h)
  outs_read (frame.Paren ends.Paren d ∷ fs) true h = step (any sym.ParenClose) (outs fs) (at (want.More ends.Paren true) (frame.Paren ends.Paren d ∷ fs)) (at (want.More ends.Paren d) fs) refl (outs_read fs d h)
  outs_read (frame.Paren ends.Paren d ∷ fs) false h = step (any sym.ParenClose) (outs fs) (at (want.More ends.Paren false) (frame.Paren ends.Paren d ∷ fs)) (at (want.More ends.Paren d) fs) refl (outs_read fs d h)

  ending_read : (e : Ends) (c : Bool) (fs : List Frame) → Sits e fs → Reads end (ending e fs) (at (want.More e c) fs)
  ending_read ends.Semi c fs h = semi_read c fs h
  ending_read ends.Brace c fs h = empty_read c fs h
  ending_read ends.Paren c fs h = outs_read fs c h

  -- one more token in front
  by : (s : Sym) (w w' : Want) (fs : List Frame) → moved (rule w s) fs ≡ Some (at w' fs) → (ts : List Tok) × Reads end ts (at w' fs) → (ts : List Tok) × Reads end ts (at w fs)
  by s w w' fs e r = (any s ∷ r.0, step (any s) r.0 (at w fs) (at w' fs) e r.1)

  opening : (w : Want) (f : Frame) (fs : List Frame) → moved (rule w sym.BraceOpen) fs ≡ Some (at want.Stmt (f ∷ fs)) → (ts : List Tok) × Reads end ts (at want.Stmt (f ∷ fs)) → (ts : List Tok) × Reads end ts (at w fs)
  opening w f fs e r = (any sym.BraceOpen ∷ r.0, step (any sym.BraceOpen) r.0 (at w fs) (at want.Stmt (f ∷ fs)) e r.1)

  to_main : (fs : List Frame) → (ts : List Tok) × Reads end ts (at want.MainOpen fs)
  to_main fs = opening want.MainOpen frame.Main fs refl (closers (frame.Main ∷ fs), stmts (frame.Main ∷ fs) tt)

  to_decl : (fs : List Frame) → (ts : List Tok) × Reads end ts (at want.Decl fs)
  to_decl fs = by sym.Main want.Decl want.MainOpen fs refl (to_main fs)

  to_cell_end : (fs : List Frame) → (ts : List Tok) × Reads end ts (at want.CellEnd fs)
  to_cell_end fs = by sym.Semicolon want.CellEnd want.Decl fs refl (to_decl fs)

  to_value : (fs : List Frame) → (ts : List Tok) × Reads end ts (at want.CellValue fs)
  to_value fs = by sym.Number want.CellValue want.CellEnd fs refl (to_cell_end fs)

  to_is : (fs : List Frame) → (ts : List Tok) × Reads end ts (at want.CellIs fs)
  to_is fs = by sym.Assign want.CellIs want.CellValue fs refl (to_value fs)

  to_stmt : (fs : List Frame) → Opened fs → (ts : List Tok) × Reads end ts (at want.Stmt fs)
  to_stmt fs h = (closers fs, stmts fs h)

  to_more : (e : Ends) (c : Bool) (fs : List Frame) → Sits e fs → (ts : List Tok) × Reads end ts (at (want.More e c) fs)
  to_more e c fs h = (ending e fs, ending_read e c fs h)

  to_source : (fs : List Frame) → Opened fs → (ts : List Tok) × Reads end ts (at want.Source fs)
  to_source fs h = by sym.Name want.Source (want.More ends.Semi false) fs refl (to_more ends.Semi false fs h)

  to_read_end : (fs : List Frame) → Opened fs → (ts : List Tok) × Reads end ts (at want.ReadEnd fs)
  to_read_end fs h = by sym.Semicolon want.ReadEnd want.Stmt fs refl (to_stmt fs h)

  to_body : (fs : List Frame) → Opened fs → (ts : List Tok) × Reads end ts (at want.BodyOpen fs)
  to_body fs h = opening want.BodyOpen frame.Body fs refl (to_stmt (frame.Body ∷ fs) h)

  to_list : (fs : List Frame) → Opened fs → (ts : List Tok) × Reads end ts (at want.ListMore fs)
  to_list fs h = by sym.Semicolon want.ListMore want.Stmt fs refl (to_stmt fs h)

  completes : (w : Want) (fs : List Frame) → Rooted w fs → (ts : List Tok) × Reads end ts (at w fs)
  completes want.Decl fs h = to_decl fs
  completes want.CellName fs h = by sym.Name want.CellName want.CellIs fs refl (to_is fs)
  completes want.CellIs fs h = to_is fs
  completes want.CellValue fs h = to_value fs
  completes want.CellNumber fs h = by sym.Number want.CellNumber want.CellEnd fs refl (to_cell_end fs)
  completes want.CellEnd fs h = to_cell_end fs
  completes want.VarName fs h = by sym.Name want.VarName want.VarEnd fs refl (by sym.Semicolon want.VarEnd want.Decl fs refl (to_decl fs))
  completes want.VarEnd fs h = by sym.Semicolon want.VarEnd want.Decl fs refl (to_decl fs)
  completes want.FreshName fs h = by sym.Name want.FreshName want.FreshEnd fs refl (by sym.Semicolon want.FreshEnd want.Decl fs refl (to_decl fs))
  completes want.FreshEnd fs h = by sym.Semicolon want.FreshEnd want.Decl fs refl (to_decl fs)
  completes want.MainOpen fs h = to_main fs
  completes want.Stmt fs h = to_stmt fs h
  completes want.Over fs h = (closers fs, (closes fs h).1)
  completes want.Becomes fs h = by sym.Assign want.Becomes want.Source fs refl (to_source fs h)
  completes want.Source fs h = to_source fs h
  completes want.Channel fs h = by sym.Number want.Channel want.ReadEnd fs refl (to_read_end fs h)
  completes want.ReadEnd fs h = to_read_end fs h
  completes (want.Operand e c) fs h = by sym.Name (want.Operand e c) (want.More e c) fs refl (to_more e c fs h)
  completes (want.Negated e c) fs h = by sym.Number (want.Negated e c) (want.More e c) fs refl (to_more e c fs h)
  completes (want.More e c) fs h = to_more e c fs h
  completes want.Count fs h = by sym.Number want.Count want.BodyOpen fs refl (to_body fs h)
  completes want.BodyOpen fs h = to_body fs h
  completes want.RegionOpen fs h = opening want.RegionOpen frame.Region fs refl (to_stmt (frame.Region ∷ fs) h)
  completes want.ElseOpen fs h = opening want.ElseOpen frame.Other fs refl (to_stmt (frame.Other ∷ fs) h)
  completes want.Listed fs h = by sym.Name want.Listed want.ListMore fs refl (to_list fs h)
  completes want.ListMore fs h = to_list fs h
  completes want.End fs h = ([], ([], refl))

-- ---- a move leads from such a state to such a state

abbrev Holds : Option State → Type 0
Holds None = Unit {0}
Holds (Some s) = Rooted s.want s.stack

either : (s t : Sym) (y n : Move) (fs : List Frame) → Holds (moved y fs) → Holds (moved n fs) → Holds (moved (on s t y n) fs)
either s t y n fs p q = elim (is s t) as (λ b. Holds (moved (cond b y n) fs)) [ true ↦ p | false ↦ q ]

pops : (fs : List Frame) → Opened fs → Holds (moved (Pop mark.Brace) fs)
pops [] h = absurd h
pops (frame.Main ∷ fs) h = tt
pops (frame.Then ∷ fs) h = h
pops (frame.Other ∷ fs) h = h
pops (frame.Body ∷ fs) h = h
pops (frame.Region ∷ fs) h = h
pops (frame.Paren e c ∷ fs) h = absurd h

pops_paren : (fs : List Frame) → Inside fs → Holds (moved (Pop mark.Paren) fs)
pops_paren [] h = absurd h
pops_paren (frame.Main ∷ fs) h = absurd h
pops_paren (frame.Then ∷ fs) h = absurd h
pops_paren (frame.Other ∷ fs) h = absurd h
pops_paren (frame.Body ∷ fs) h = absurd h
pops_paren (frame.Region ∷ fs) h = absurd h
pops_paren (frame.Paren ends.Semi c ∷ fs) h = h
pops_paren (frame.Paren ends.Brace c ∷ fs) h = h
pops_paren (frame.Paren ends.Paren c ∷ fs) h = h

nests : (e : Ends) (c : Bool) (fs : List Frame) → Sits e fs → Inside (frame.Paren e c ∷ fs)
nests ends.Semi c fs h = h
nests ends.Brace c fs h = h
nests ends.Paren c fs h = h

stmt_holds : (s : Sym) (fs : List Frame) → Opened fs → Holds (moved (machine.stmt s) fs)
stmt_holds s fs h =
    either s sym.Name _ _ fs h
    (either s sym.If _ _ fs h
    (either s sym.Repeat _ _ fs h
    (either s sym.Atomic _ _ fs h
    (either s sym.Together _ _ fs h
    (either s sym.BraceClose _ _ fs (pops fs h) tt)))))

operand_holds : (e : Ends) (c : Bool) (s : Sym) (fs : List Frame) → Sits e fs → Holds (moved (machine.operand e c s) fs)
operand_holds e c s fs h =
    either s sym.Number _ _ fs h
    (either s sym.Minus _ _ fs h
    (either s sym.Name _ _ fs h
    (either s sym.ParenOpen _ _ fs (nests e c fs h) tt)))

finish_holds : (e : Ends) (s : Sym) (fs : List Frame) → Sits e fs → Holds (moved (machine.finish e s) fs)
finish_holds ends.Semi s fs h = either s sym.Semicolon _ _ fs h tt
finish_holds ends.Brace s fs h = either s sym.BraceOpen _ _ fs h tt
finish_holds ends.Paren s fs h = either s sym.ParenClose _ _ fs (pops_paren fs h) tt

compared_holds : (e : Ends) (c : Bool) (s : Sym) (fs : List Frame) → Sits e fs → Holds (moved (machine.compared e c s) fs)
compared_holds e true s fs h = finish_holds e s fs h
compared_holds e false s fs h = either s sym.Less _ _ fs h (either s sym.Same _ _ fs h (finish_holds e s fs h))

more_holds : (e : Ends) (c : Bool) (s : Sym) (fs : List Frame) → Sits e fs → Holds (moved (machine.more e c s) fs)
more_holds e c s fs h =
    either s sym.Times _ _ fs h
    (either s sym.Over _ _ fs h
    (either s sym.Plus _ _ fs h
    (either s sym.Minus _ _ fs h (compared_holds e c s fs h))))

holds : (w : Want) (s : Sym) (fs : List Frame) → Rooted w fs → Holds (moved (rule w s) fs)
holds want.Decl s fs h = either s sym.Cell _ _ fs tt (either s sym.Var _ _ fs tt (either s sym.Fresh _ _ fs tt (either s sym.Main _ _ fs tt tt)))
holds want.CellName s fs h = either s sym.Name _ _ fs tt tt
holds want.CellIs s fs h = either s sym.Assign _ _ fs tt tt
holds want.CellValue s fs h = either s sym.Minus _ _ fs tt (either s sym.Number _ _ fs tt tt)
holds want.CellNumber s fs h = either s sym.Number _ _ fs tt tt
holds want.CellEnd s fs h = either s sym.Semicolon _ _ fs tt tt
holds want.VarName s fs h = either s sym.Name _ _ fs tt tt
holds want.VarEnd s fs h = either s sym.Semicolon _ _ fs tt tt
holds want.FreshName s fs h = either s sym.Name _ _ fs tt tt
holds want.FreshEnd s fs h = either s sym.Semicolon _ _ fs tt tt
holds want.MainOpen s fs h = either s sym.BraceOpen _ _ fs tt tt
holds want.Stmt s fs h = stmt_holds s fs h
holds want.Over s fs h = either s sym.Else _ _ fs h (stmt_holds s fs h)
holds want.Becomes s fs h = either s sym.Assign _ _ fs h tt
holds want.Source s fs h = either s sym.In _ _ fs h (operand_holds ends.Semi false s fs h)
holds want.Channel s fs h = either s sym.Number _ _ fs h tt
holds want.ReadEnd s fs h = either s sym.Semicolon _ _ fs h tt
holds (want.Operand e c) s fs h = operand_holds e c s fs h
holds (want.Negated e c) s fs h = either s sym.Number _ _ fs h tt
holds (want.More e c) s fs h = more_holds e c s fs h
holds want.Count s fs h = either s sym.Number _ _ fs h tt
holds want.BodyOpen s fs h = either s sym.BraceOpen _ _ fs h tt
holds want.RegionOpen s fs h = either s sym.BraceOpen _ _ fs h tt
holds want.ElseOpen s fs h = either s sym.BraceOpen _ _ fs h tt
holds want.Listed s fs h = either s sym.Name _ _ fs h tt
holds want.ListMore s fs h = either s sym.Comma _ _ fs h (either s sym.Semicolon _ _ fs h tt)
holds want.End s fs h = tt

-- ---- where a run stops

-- at a token: what stands before it can be ended, and it can not stand there
pub record Stuck (end : ℕ) (ts : List Tok) (s : State) (f : Fault) : Type 0 where
  pub pre : List Tok
  pub token : Tok
  pub post : List Tok
  pub parts : ts ≡ pre ++ token ∷ post
  pub is_fault : f ≡ fault 6 token.place
  pub onward : List Tok
  pub before : Reads end (pre ++ onward) s
  pub never : (q : List Tok) → run end (pre ++ token ∷ q) s ≡ Err f

-- at the end of the text
pub record Short (end : ℕ) (ts : List Tok) (s : State) (f : Fault) : Type 0 where
  pub is_fault : f ≡ fault 6 end
  pub onward : List Tok
  pub before : Reads end (ts ++ onward) s

err_err : (f g : Fault) → ◌≡◌ {A = Res} (Err f) (Err g) → g ≡ f
err_err f g e = cc

same_err : (r : Row) (q : Res) (f : Fault) → put r q ≡ Err f → q ≡ Err f
same_err r (Ok rs) f h = err_ok f (r ∷ rs) (sym' h)
same_err r (Err g) f h = h

module _ (end : ℕ) (t : Tok) (ts : List Tok) (s : State) (f : Fault) where
  step_on : (s' : State) → moved (rule s.want t.sym) s.stack ≡ Some s' → Stuck end ts s' f ⊎ Short end ts s' f → Stuck end (t ∷ ts) s f ⊎ Short end (t ∷ ts) s f
  step_on s' e (inl k) = inl (record {
    pre = t ∷ k.pre;
    token = k.token;
    post = k.post;
    parts = ap (λ l. t ∷ l) k.parts;
    is_fault = k.is_fault;
    onward = k.onward;
    before = step end t (k.pre ++ k.onward) s s' e k.before;
    never = λ q.
        let us : List Tok = k.pre ++ k.token ∷ q in
        let g : Role = given (rule s.want t.sym) s.stack (otherwise us) in
        ap (λ o. goes t g o (run end us)) e ∙ ap (put (marked g t)) (k.never q);
  })
  step_on s' e (inr k) = inr (record { is_fault = k.is_fault; onward = k.onward; before = step end t (ts ++ k.onward) s s' e k.before })

at_nil : (b : Bool) (f g : Fault) → cond {A = Res} b (Ok []) (Err f) ≡ Err g → g ≡ f
at_nil true f g h = err_ok g [] (sym' h)
at_nil false f g h = err_err f g h

viable : (end : ℕ) (ts : List Tok) (s : State) (f : Fault) → Rooted s.want s.stack → run end ts s ≡ Err f → Stuck end ts s f ⊎ Short end ts s f
viable end [] s f h e = let r = completes end s.want s.stack h in inr (record { is_fault = at_nil (is_end s.want) _ f e; onward = r.0; before = r.1 })
viable end (t ∷ ts) s f h e = by_move (moved (rule s.want t.sym) s.stack) refl (holds s.want t.sym s.stack h) (viable end ts) e
  where
    by_move : (o : Option State) → moved (rule s.want t.sym) s.stack ≡ o → Holds o → ((s' : State) (x : Fault) → Rooted s'.want s'.stack → run end ts s' ≡ Err x → Stuck end ts s' x ⊎ Short end ts s' x) → goes t (given (rule s.want t.sym) s.stack (otherwise ts)) o (run end ts) ≡ Err f → Stuck end (t ∷ ts) s f ⊎ Short end (t ∷ ts) s f
    by_move None i k ih d =
        let r = completes end s.want s.stack h in
        inl (record { pre = []; token = t; post = ts; parts = refl; is_fault = err_err _ f d; onward = r.0; before = r.1; never = λ q. ap (λ o. goes t (given (rule s.want t.sym) s.stack (otherwise q)) o (run end q)) i ∙ d })
    by_move (Some s') i k ih d = step_on end t ts s f s' i (ih s' f k (same_err _ (run end ts s') f d))

-- ---- and in the grammar's words

begins : (end : ℕ) (ts q : List Tok) → Reads end (ts ++ q) start → Begins ts
begins end ts q r =
    let s = script_of end (ts ++ q) r.0 r.1 in
    (q, s.0, kept end (ts ++ q) start r.0 r.1 ∙ ap (map token) s.1)

pub breaks : (end : ℕ) (ts : List Tok) (f : Fault) → run end ts start ≡ Err f → (f ≡ fault 6 f.place) × Breaks end ts f.place
breaks end ts f e = by_end (viable end ts start f tt e)
  where
    never : (us : List Tok) (s : Script) → run end us start ≡ Err f → Writes us s → ⊥
    never us s d w = err_ok f _ (sym' d ∙ ap (λ l. run end l start) w ∙ script_read end s)

    whole : (p : ℕ) → f ≡ fault 6 p → f ≡ fault 6 f.place
    whole p d = d ∙ ap (λ x. fault 6 x.place) (sym' d)

    by_end : Stuck end ts start f ⊎ Short end ts start f → (f ≡ fault 6 f.place) × Breaks end ts f.place
    by_end (inl k) = (
      whole _ k.is_fault,
      (
        λ s w. never ts s e w,
        inl (
          k.pre,
          k.token,
          k.post,
          k.parts,
          ap (λ x. x.place) (sym' k.is_fault),
          begins end k.pre k.onward k.before,
          λ b. never _ b.1 (ap (λ l. run end l start) (append_assoc k.pre (k.token ∷ []) b.0) ∙ k.never b.0) b.2,
        ),
      ),
    )
    by_end (inr k) = (whole _ k.is_fault, (λ s w. never ts s e w, inr (ap (λ x. x.place) k.is_fault, begins end ts k.onward k.before)))
