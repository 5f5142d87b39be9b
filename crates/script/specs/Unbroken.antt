-- The unbroken run: a script that no power failure stops. It is fed its first cells and a list of channels with values, and takes
-- main's steps once, in order. Assumes nothing.
use Rattle.std.specs.Prelude.{ℕ, zero, suc, ◌-◌, Bool, true, false, cond, List, [], ◌∷◌, replicate, ℤ, pos, negsuc, Some, None, Option, ◌==◌, nat_lt, slice_index_or, slice_set}
use Rattle.script.specs.Syntax.{Code, nothing, put, read, fork, turns, region, uses, Script, code}
use Rattle.script.specs.Steps.{cells}
use Rattle.script.specs.Values.{value}

-- an entry of the list: the channel that was read, and the value that it gave
pub record Fed : Type 0 where
  pub channel : ℕ
  pub value : ℤ

-- what an unbroken run has: its cells, its locals, and the rest of the list
pub record Env : Type 0 where
  pub cells : List ℤ
  pub locals : List ℤ
  pub feed : List Fed

abbrev pub env : List ℤ → List ℤ → List Fed → Env
env cs ls fs = record { cells = cs; locals = ls; feed = fs }

-- the value of a name by its number: the first n numbers are the cells, those after them the locals
abbrev pub valued : ℕ → List ℤ → List ℤ → ℕ → ℤ
valued n cs ls x = cond (nat_lt x n) (slice_index_or cs x (pos 0)) (slice_index_or ls (x - n) (pos 0))

-- an assignment sets its name
abbrev pub sets : ℕ → ℕ → ℤ → Env → Env
sets n x v e = cond (nat_lt x n) (env (slice_set e.cells x v) e.locals e.feed) (env e.cells (slice_set e.locals (x - n) v) e.feed)

-- a reading takes off the first entry, which has to be of its channel, and gives the local its value
abbrev pub takes : ℕ → ℕ → ℕ → List ℤ → List ℤ → List Fed → Option Env
takes n x c cs ls [] = None
takes n x c cs ls (f ∷ fs) = cond (f.channel == c) (Some (env cs (slice_set ls (x - n) f.value) fs)) None

abbrev pub is_zero : ℤ → Bool
is_zero (pos zero) = true
is_zero (pos (suc n)) = false
is_zero (negsuc n) = false

abbrev pub then_on : Option Env → (Env → Option Env) → Option Env
then_on None next = None
then_on (Some e) next = next e

-- so many turns
abbrev pub times : ℕ → (Env → Option Env) → Env → Option Env
times zero f e = Some e
times (suc m) f e = then_on (f e) (times m f)

-- the statements of a block, with n cells: there is no run where a reading finds no entry, or one of another channel
abbrev pub exec : ℕ → Code → Env → Option Env
exec n nothing e = Some e
exec n (put x a k) e = exec n k (sets n x.value (value (valued n e.cells e.locals) a) e)
exec n (read x c k) e = then_on (takes n x.value c.value e.cells e.locals e.feed) (exec n k)
exec n (fork a b c k) e = then_on (cond (is_zero (value (valued n e.cells e.locals) a)) (exec n c e) (exec n b e)) (exec n k)
exec n (turns m b k) e = then_on (times m.value (exec n b) e) (exec n k)
exec n (region b k) e = then_on (exec n b e) (exec n k)
exec n (uses xs k) e = exec n k e

-- the locals start at 0
abbrev pub no_locals : List ℤ
no_locals = replicate 64 (pos 0)

-- the cells at the end; there is no run where an entry is left
abbrev pub cells_after : List Fed → List ℤ → Option (List ℤ)
cells_after [] cs = Some cs
cells_after (f ∷ fs) cs = None

abbrev pub end_of : Option Env → Option (List ℤ)
end_of None = None
end_of (Some e) = cells_after e.feed e.cells

-- the cells at the end of the unbroken run of a script from these first cells, fed this list
abbrev pub unbroken : Script → List ℤ → List Fed → Option (List ℤ)
unbroken s first feed = end_of (exec (cells s.decls) (code s.main) (env first no_locals feed))
