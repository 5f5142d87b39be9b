-- A script that keeps the limits, and whose use is refused in the second turn only. Assumes nothing.
use Rattle.std.proofs.Common.{◌≡◌, ℕ, Some, refl, lit≤}
use Rattle.script.specs.Syntax.{Leaf, Expr, alone, sum, no_term, term, no_factor, name, done, assign, reading, loop, no_decl, var, fresh, Script}
use Rattle.script.specs.Stand.{walks, first_refused}
use Rattle.checker.proofs.Whole.{Small}

abbrev at : ℕ → ℕ → Leaf
at p v = record { place = p; len = 1; value = v }

abbrev only : Leaf → Expr
only x = alone (sum (term (name x) no_factor) no_term)

-- fresh x; var y; var z; main { repeat 2 { x = y; z = x; y = in 0; } }
abbrev turned : Script
turned = record {
  decls = fresh (at 0 0) (at 6 0) (at 7 0) (var (at 9 0) (at 13 1) (at 14 0) (var (at 16 0) (at 20 2) (at 21 0) no_decl));
  word = at 23 0;
  open' = at 28 0;
  main = loop (at 30 0) (at 37 2) (at 39 0)
      (assign (at 41 0) (at 43 0) (only (at 45 1)) (at 46 0)
      (assign (at 48 2) (at 50 0) (only (at 52 0)) (at 53 0)
      (reading (at 55 1) (at 57 0) (at 59 0) (at 62 0) (at 63 0) done)))
      (at 65 0) done;
  close = at 67 0;
}

pub turned_small : Small turned
turned_small = record { long = lit≤ tt; deep = refl; known = refl }

pub turned_refused : first_refused turned ≡ Some 52
unfolding walks
turned_refused = refl
