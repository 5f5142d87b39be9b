-- Two symbols of one number are the same. Assumes nothing.
use Rattle.std.proofs.Common.{◌≡◌, ℕ, true, cond, eqb, sym as sym', refl, ap, ◌∙◌}
use Rattle.std.proofs.lemmas.Bool.{eqb-true}
use Rattle.script.specs.declared.token.Sym.{Sym}
use Rattle.script.specs.declared.token.Sym.TheVariants as sym
use Rattle.parser.specs.Machine.{code, is}

abbrev uncode : ℕ → Sym
uncode n =
    cond (eqb n 0) sym.Cell
    (cond (eqb n 1) sym.Var
    (cond (eqb n 2) sym.Fresh
    (cond (eqb n 3) sym.Main
    (cond (eqb n 4) sym.In
    (cond (eqb n 5) sym.If
    (cond (eqb n 6) sym.Else
    (cond (eqb n 7) sym.Repeat
    (cond (eqb n 8) sym.Atomic
    (cond (eqb n 9) sym.Together
    (cond (eqb n 10) sym.BraceOpen
    (cond (eqb n 11) sym.BraceClose
    (cond (eqb n 12) sym.ParenOpen
    (cond (eqb n 13) sym.ParenClose
    (cond (eqb n 14) sym.Semicolon
    (cond (eqb n 15) sym.Comma
    (cond (eqb n 16) sym.Assign
    (cond (eqb n 17) sym.Less
    (cond (eqb n 18) sym.Same
    (cond (eqb n 19) sym.Plus
    (cond (eqb n 20) sym.Minus
    (cond (eqb n 21) sym.Times
    (cond (eqb n 22) sym.Over
    (cond (eqb n 23) sym.Name
    sym.Number)))))))))))))))))))))))

uncode_code : (s : Sym) → uncode (code s) ≡ s
uncode_code sym.Cell = refl
uncode_code sym.Var = refl
uncode_code sym.Fresh = refl
uncode_code sym.Main = refl
uncode_code sym.In = refl
uncode_code sym.If = refl
uncode_code sym.Else = refl
uncode_code sym.Repeat = refl
uncode_code sym.Atomic = refl
uncode_code sym.Together = refl
uncode_code sym.BraceOpen = refl
uncode_code sym.BraceClose = refl
uncode_code sym.ParenOpen = refl
uncode_code sym.ParenClose = refl
uncode_code sym.Semicolon = refl
uncode_code sym.Comma = refl
uncode_code sym.Assign = refl
uncode_code sym.Less = refl
uncode_code sym.Same = refl
uncode_code sym.Plus = refl
uncode_code sym.Minus = refl
uncode_code sym.Times = refl
uncode_code sym.Over = refl
uncode_code sym.Name = refl
uncode_code sym.Number = refl

pub same : (s t : Sym) → is s t ≡ true → s ≡ t
same s t e = sym' (uncode_code s) ∙ ap uncode (eqb-true (code s) (code t) e) ∙ uncode_code t
