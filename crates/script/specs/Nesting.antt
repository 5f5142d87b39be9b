-- What question 5 asks of the tokens: how deep braces and parentheses stand in each other. Assumes nothing.
use Rattle.std.specs.Prelude.{ℕ, ◌+◌, ◌-◌, Bool, true, false, cond, List, [], ◌∷◌, Some, None, Option, ◌==◌, nat_le}
use Rattle.script.specs.declared.token.Sym.{Sym}
use Rattle.script.specs.declared.token.Sym.TheVariants as sym
use Rattle.script.specs.declared.token.Tok.{Tok}

-- whether a token opens a block or a parenthesis
abbrev pub opens : Sym → Bool
opens sym.Cell = false
opens sym.Var = false
opens sym.Fresh = false
opens sym.Main = false
opens sym.In = false
opens sym.If = false
opens sym.Else = false
opens sym.Repeat = false
opens sym.Atomic = false
opens sym.Together = false
opens sym.BraceOpen = true
opens sym.BraceClose = false
opens sym.ParenOpen = true
opens sym.ParenClose = false
opens sym.Semicolon = false
opens sym.Comma = false
opens sym.Assign = false
opens sym.Less = false
opens sym.Same = false
opens sym.Plus = false
opens sym.Minus = false
opens sym.Times = false
opens sym.Over = false
opens sym.Name = false
opens sym.Number = false

-- whether a token closes one
abbrev pub closes : Sym → Bool
closes sym.Cell = false
closes sym.Var = false
closes sym.Fresh = false
closes sym.Main = false
closes sym.In = false
closes sym.If = false
closes sym.Else = false
closes sym.Repeat = false
closes sym.Atomic = false
closes sym.Together = false
closes sym.BraceOpen = false
closes sym.BraceClose = true
closes sym.ParenOpen = false
closes sym.ParenClose = true
closes sym.Semicolon = false
closes sym.Comma = false
closes sym.Assign = false
closes sym.Less = false
closes sym.Same = false
closes sym.Plus = false
closes sym.Minus = false
closes sym.Times = false
closes sym.Over = false
closes sym.Name = false
closes sym.Number = false

-- how many are open after a token, where n were open before it: never more than 16, nor fewer than none
abbrev pub open_after : Sym → ℕ → Option ℕ
open_after s n =
    cond (opens s) (cond (nat_le 16 n) None (Some (n + 1)))
    (cond (closes s) (cond (n == 0) None (Some (n - 1))) (Some n))

abbrev pub or_stop : ℕ → Option ℕ → (ℕ → Option ℕ) → Option ℕ
or_stop place None more = Some place
or_stop place (Some n) more = more n

-- the place of the first token that would break this, where n are open so far
abbrev pub nesting_from : ℕ → List Tok → Option ℕ
nesting_from n [] = None
nesting_from n (t ∷ ts) = or_stop t.place (open_after t.sym n) (λ m. nesting_from m ts)

abbrev pub nesting : List Tok → Option ℕ
nesting ts = nesting_from 0 ts
