-- What each move of the table asks of its token. Assumes nothing.
use Rattle.std.proofs.Common.{◌≡◌, Bool, true, false, cond, sym as sym', refl, subst}
use Rattle.script.specs.declared.token.Sym.{Sym}
use Rattle.script.specs.declared.token.Sym.TheVariants as sym
use Rattle.script.specs.Written.{sym_of}
use Rattle.parser.specs.declared.machine.Ends.{Ends}
use Rattle.parser.specs.declared.machine.Ends.TheVariants as ends
use Rattle.parser.specs.declared.machine.Want.{Want}
use Rattle.parser.specs.declared.machine.Want.TheVariants as want
use Rattle.parser.specs.declared.machine.Mark.TheVariants as mark
use Rattle.parser.specs.declared.machine.Move.{Move}
use Rattle.parser.specs.declared.machine.Move.TheVariants.{Stay, Push, Pop, Refuse}
use Rattle.script.specs.Nesting.{opens, closes}
use Rattle.parser.specs.Machine.{is, on, rule, stmt, operand, more, compared, finish}
use Rattle.parser.proofs.Symbols.{same}

-- the role is the token's, and the stack grows and shrinks with what opens and closes
abbrev pub Fits : Move → Sym → Type 0
Fits (Stay r w) s = (sym_of r ≡ s) × (opens s ≡ false) × (closes s ≡ false)
Fits (Push r f w) s = (sym_of r ≡ s) × (opens s ≡ true)
Fits (Pop mark.Brace) s = s ≡ sym.BraceClose
Fits (Pop mark.Paren) s = s ≡ sym.ParenClose
Fits Refuse s = Unit {0}

by : (s t : Sym) (y n : Move) → Fits y t → Fits n s → Fits (on s t y n) s
by s t y n p q = at (is s t) refl
  where
    at : (b : Bool) → is s t ≡ b → Fits (cond b y n) s
    at true e = let P : Sym → Type 0 = λ u. Fits y u in subst P (sym' (same s t e)) p
    at false e = q

fits_stmt : (s : Sym) → Fits (stmt s) s
fits_stmt s =
    by s sym.Name _ _ (refl, refl, refl)
    (by s sym.If _ _ (refl, refl, refl)
    (by s sym.Repeat _ _ (refl, refl, refl)
    (by s sym.Atomic _ _ (refl, refl, refl)
    (by s sym.Together _ _ (refl, refl, refl)
    (by s sym.BraceClose _ _ refl tt)))))

fits_operand : (e : Ends) (c : Bool) (s : Sym) → Fits (operand e c s) s
fits_operand e c s =
    by s sym.Number _ _ (refl, refl, refl)
    (by s sym.Minus _ _ (refl, refl, refl)
    (by s sym.Name _ _ (refl, refl, refl)
    (by s sym.ParenOpen _ _ (refl, refl) tt)))

fits_finish : (e : Ends) (s : Sym) → Fits (finish e s) s
fits_finish ends.Semi s = by s sym.Semicolon _ _ (refl, refl, refl) tt
fits_finish ends.Brace s = by s sym.BraceOpen _ _ (refl, refl) tt
fits_finish ends.Paren s = by s sym.ParenClose _ _ refl tt

fits_compared : (e : Ends) (c : Bool) (s : Sym) → Fits (compared e c s) s
fits_compared e false s = by s sym.Less _ _ (refl, refl, refl) (by s sym.Same _ _ (refl, refl, refl) (fits_finish e s))
fits_compared e true s = fits_finish e s

fits_more : (e : Ends) (c : Bool) (s : Sym) → Fits (more e c s) s
fits_more e c s =
    by s sym.Times _ _ (refl, refl, refl)
    (by s sym.Over _ _ (refl, refl, refl)
    (by s sym.Plus _ _ (refl, refl, refl)
    (by s sym.Minus _ _ (refl, refl, refl) (fits_compared e c s))))

pub fits : (w : Want) (s : Sym) → Fits (rule w s) s
fits want.Decl s =
    by s sym.Cell _ _ (refl, refl, refl)
    (by s sym.Var _ _ (refl, refl, refl)
    (by s sym.Fresh _ _ (refl, refl, refl)
    (by s sym.Main _ _ (refl, refl, refl) tt)))
fits want.CellName s = by s sym.Name _ _ (refl, refl, refl) tt
fits want.CellIs s = by s sym.Assign _ _ (refl, refl, refl) tt
fits want.CellValue s = by s sym.Minus _ _ (refl, refl, refl) (by s sym.Number _ _ (refl, refl, refl) tt)
fits want.CellNumber s = by s sym.Number _ _ (refl, refl, refl) tt
fits want.CellEnd s = by s sym.Semicolon _ _ (refl, refl, refl) tt
fits want.VarName s = by s sym.Name _ _ (refl, refl, refl) tt
fits want.VarEnd s = by s sym.Semicolon _ _ (refl, refl, refl) tt
fits want.FreshName s = by s sym.Name _ _ (refl, refl, refl) tt
fits want.FreshEnd s = by s sym.Semicolon _ _ (refl, refl, refl) tt
fits want.MainOpen s = by s sym.BraceOpen _ _ (refl, refl) tt
fits want.Stmt s = fits_stmt s
fits want.Over s = by s sym.Else _ _ (refl, refl, refl) (fits_stmt s)
fits want.Becomes s = by s sym.Assign _ _ (refl, refl, refl) tt
fits want.Source s = by s sym.In _ _ (refl, refl, refl) (fits_operand ends.Semi false s)
fits want.Channel s = by s sym.Number _ _ (refl, refl, refl) tt
fits want.ReadEnd s = by s sym.Semicolon _ _ (refl, refl, refl) tt
fits (want.Operand e c) s = fits_operand e c s
fits (want.Negated e c) s = by s sym.Number _ _ (refl, refl, refl) tt
fits (want.More e c) s = fits_more e c s
fits want.Count s = by s sym.Number _ _ (refl, refl, refl) tt
fits want.BodyOpen s = by s sym.BraceOpen _ _ (refl, refl) tt
fits want.RegionOpen s = by s sym.BraceOpen _ _ (refl, refl) tt
fits want.ElseOpen s = by s sym.BraceOpen _ _ (refl, refl) tt
fits want.Listed s = by s sym.Name _ _ (refl, refl, refl) tt
fits want.ListMore s = by s sym.Comma _ _ (refl, refl, refl) (by s sym.Semicolon _ _ (refl, refl, refl) tt)
fits want.End s = tt
