-- Each script is read, to its rows. Assumes nothing.
use Rattle.std.proofs.Common.{◌≡◌, ℕ, Bool, true, false, List, [], ◌∷◌, map, Ok, refl, ap, ◌∙◌}
use Rattle.script.specs.declared.row.Role.TheVariants as role
use Rattle.script.specs.declared.row.Row.{Row}
use Rattle.script.specs.Syntax.{Leaf, Expr, alone, less, same, Sum, sum, Terms, no_term, plus, minus, Term, term, Factors, no_factor, times, over, Factor, number, negative, name, paren, Names, no_name, comma, Block, done, assign, reading, when, either, loop, atomic, together, Decls, no_decl, cell, minus_cell, var, fresh, Script}
use Rattle.script.specs.Written.{row, token, text_expr, text_sum, text_terms, text_term, text_factors, text_factor, text_names, text, text_decls, rows}
use Rattle.parser.specs.declared.machine.Ends.{Ends}
use Rattle.parser.specs.declared.machine.Ends.TheVariants as ends
use Rattle.parser.specs.declared.machine.Want.{Want}
use Rattle.parser.specs.declared.machine.Want.TheVariants as want
use Rattle.parser.specs.declared.machine.Frame.{Frame}
use Rattle.parser.specs.declared.machine.Frame.TheVariants as frame
use Rattle.parser.specs.Machine.{at, run, put, start, otherwise, closing}

-- the rows are what their tokens are read to
abbrev Self : ℕ → Want → List Frame → List Row → Type 0
Self end w fs rs = run end (map token rs) (at w fs) ≡ Ok rs

-- the rows of the rest of a block, which no else begins
record Ready (end : ℕ) (fs : List Frame) (rs : List Row) : Type 0 where
  pub self : Self end want.Stmt fs rs
  pub over : Self end want.Over fs rs
  pub no_else : otherwise (map token rs) ≡ false

module _ (end : ℕ) where
  mutual
    read_factor : (f : Factor) (e : Ends) (c : Bool) (fs : List Frame) (rs : List Row) → Self end (want.More e c) fs rs → Self end (want.Operand e c) fs (text_factor f rs)
    read_factor (number n) e c fs rs h = ap (put (row role.Literal n)) h
    read_factor (negative m n) e c fs rs h = ap (λ q. put (row role.Negate m) (put (row role.Negated n) q)) h
    read_factor (name x) e c fs rs h = ap (put (row role.Operand x)) h
    read_factor (paren o x z) e c fs rs h =
        ap (put (row role.ParenOpen o))
        (read_expr x ends.Paren (frame.Paren e c ∷ fs) (row role.ParenClose z ∷ rs) (ap (put (row role.ParenClose z)) h) (ap (put (row role.ParenClose z)) h))

    read_factors : (f : Factors) (e : Ends) (c : Bool) (fs : List Frame) (rs : List Row) → Self end (want.More e c) fs rs → Self end (want.More e c) fs (text_factors f rs)
    read_factors no_factor e c fs rs h = h
    read_factors (times o f k) e c fs rs h = ap (put (row role.Times o)) (read_factor f e c fs _ (read_factors k e c fs rs h))
    read_factors (over o f k) e c fs rs h = ap (put (row role.Over o)) (read_factor f e c fs _ (read_factors k e c fs rs h))

    read_term : (t : Term) (e : Ends) (c : Bool) (fs : List Frame) (rs : List Row) → Self end (want.More e c) fs rs → Self end (want.Operand e c) fs (text_term t rs)
    read_term (term f k) e c fs rs h = read_factor f e c fs _ (read_factors k e c fs rs h)

    read_terms : (t : Terms) (e : Ends) (c : Bool) (fs : List Frame) (rs : List Row) → Self end (want.More e c) fs rs → Self end (want.More e c) fs (text_terms t rs)
    read_terms no_term e c fs rs h = h
    read_terms (plus o t k) e c fs rs h = ap (put (row role.Plus o)) (read_term t e c fs _ (read_terms k e c fs rs h))
    read_terms (minus o t k) e c fs rs h = ap (put (row role.Minus o)) (read_term t e c fs _ (read_terms k e c fs rs h))

    read_sum : (s : Sum) (e : Ends) (c : Bool) (fs : List Frame) (rs : List Row) → Self end (want.More e c) fs rs → Self end (want.Operand e c) fs (text_sum s rs)
    read_sum (sum t k) e c fs rs h = read_term t e c fs _ (read_terms k e c fs rs h)

    read_expr : (x : Expr) (e : Ends) (fs : List Frame) (rs : List Row) → Self end (want.More e false) fs rs → Self end (want.More e true) fs rs → Self end (want.Operand e false) fs (text_expr x rs)
    read_expr (alone s) e fs rs h k = read_sum s e false fs rs h
    read_expr (less s o u) e fs rs h k = read_sum s e false fs _ (ap (put (row role.Less o)) (read_sum u e true fs rs k))
    read_expr (same s o u) e fs rs h k = read_sum s e false fs _ (ap (put (row role.Same o)) (read_sum u e true fs rs k))

  read_names : (xs : Names) (fs : List Frame) (rs : List Row) → Self end want.ListMore fs rs → Self end want.ListMore fs (text_names xs rs)
  read_names no_name fs rs h = h
  read_names (comma c x xs) fs rs h = ap (λ q. put (row role.Comma c) (put (row role.Listed x) q)) (read_names xs fs rs h)

  -- what a name becomes by an expression is read as any expression
  abbrev Alike : List Frame → List Row → Type 0
  Alike fs rs = run end (map token rs) (at want.Source fs) ≡ run end (map token rs) (at (want.Operand ends.Semi false) fs)

  alike_factor : (f : Factor) (fs : List Frame) (rs : List Row) → Alike fs (text_factor f rs)
  alike_factor (number n) fs rs = refl
  alike_factor (negative m n) fs rs = refl
  alike_factor (name x) fs rs = refl
  alike_factor (paren o x z) fs rs = refl

  alike_sum : (s : Sum) (fs : List Frame) (rs : List Row) → Alike fs (text_sum s rs)
  alike_sum (sum (term f k) t) fs rs = alike_factor f fs _

  alike : (x : Expr) (fs : List Frame) (rs : List Row) → Alike fs (text_expr x rs)
  alike (alone s) fs rs = alike_sum s fs rs
  alike (less s o u) fs rs = alike_sum s fs _
  alike (same s o u) fs rs = alike_sum s fs _

  -- an if's block is closed where no else follows
  when_shut : (c : Leaf) (fs : List Frame) (rs : List Row) → Ready end fs rs → Ready end (frame.Then ∷ fs) (row role.WhenClose c ∷ rs)
  when_shut c fs rs h =
      let e : put (row (closing frame.Then (otherwise (map token rs))) c) (run end (map token rs) (at want.Over fs)) ≡ Ok (row role.WhenClose c ∷ rs) =
      ap (λ b. put (row (closing frame.Then b) c) (run end (map token rs) (at want.Over fs))) h.no_else ∙ ap (put (row role.WhenClose c)) h.over
      in
      record { self = e; over = e; no_else = refl }

  read_block : (k : Block) (fs : List Frame) (rs : List Row) → Ready end fs rs → Ready end fs (text k rs)
  read_block done fs rs h = h
  read_block (assign x q e z k) fs rs h =
      let w : Self end want.Stmt fs (text k rs) = (read_block k fs rs h).self in
      let v = ap (λ y. put (row role.Target x) (put (row role.Becomes q) y)) (alike e fs (row role.SetEnd z ∷ text k rs) ∙ read_expr e ends.Semi fs (row role.SetEnd z ∷ text k rs) (ap (put (row role.SetEnd z)) w) (ap (put (row role.SetEnd z)) w)) in
      record { self = v; over = v; no_else = refl }
  read_block (reading x q i c z k) fs rs h =
      let v = ap (λ y. put (row role.Target x) (put (row role.Becomes q) (put (row role.InWord i) (put (row role.Channel c) (put (row role.ReadEnd z) y))))) (read_block k fs rs h).self in
      record { self = v; over = v; no_else = refl }
  read_block (when i e o a c k) fs rs h =
      let w : Self end want.Stmt (frame.Then ∷ fs) (text a (row role.WhenClose c ∷ text k rs)) = (read_block a (frame.Then ∷ fs) _ (when_shut c fs _ (read_block k fs rs h))).self in
      let v = ap (put (row role.IfWord i)) (read_expr e ends.Brace fs _ (ap (put (row role.ThenOpen o)) w) (ap (put (row role.ThenOpen o)) w)) in
      record { self = v; over = v; no_else = refl }
  read_block (either i e o a c w o' b c' k) fs rs h =
      let u = ap (put (row role.ElseClose c')) (read_block k fs rs h).self in
      let y : Ready end (frame.Other ∷ fs) (row role.ElseClose c' ∷ text k rs) = record { self = u; over = u; no_else = refl } in
      let t = ap (λ p. put (row role.ThenClose c) (put (row role.ElseWord w) (put (row role.ElseOpen o') p))) (read_block b (frame.Other ∷ fs) _ y).self in
      let s : Ready end (frame.Then ∷ fs) (row role.ThenClose c ∷ row role.ElseWord w ∷ row role.ElseOpen o' ∷ text b (row role.ElseClose c' ∷ text k rs)) = record { self = t; over = t; no_else = refl } in
      let r = (read_block a (frame.Then ∷ fs) _ s).self in
      let v = ap (put (row role.IfWord i)) (read_expr e ends.Brace fs _ (ap (put (row role.ThenOpen o)) r) (ap (put (row role.ThenOpen o)) r)) in
      record { self = v; over = v; no_else = refl }
  read_block (loop r n o b c k) fs rs h =
      let u = ap (put (row role.BodyClose c)) (read_block k fs rs h).self in
      let y : Ready end (frame.Body ∷ fs) (row role.BodyClose c ∷ text k rs) = record { self = u; over = u; no_else = refl } in
      let v = ap (λ p. put (row role.RepeatWord r) (put (row role.Count n) (put (row role.BodyOpen o) p))) (read_block b (frame.Body ∷ fs) _ y).self in
      record { self = v; over = v; no_else = refl }
  read_block (atomic a o b c k) fs rs h =
      let u = ap (put (row role.RegionClose c)) (read_block k fs rs h).self in
      let y : Ready end (frame.Region ∷ fs) (row role.RegionClose c ∷ text k rs) = record { self = u; over = u; no_else = refl } in
      let v = ap (λ p. put (row role.AtomicWord a) (put (row role.RegionOpen o) p)) (read_block b (frame.Region ∷ fs) _ y).self in
      record { self = v; over = v; no_else = refl }
  read_block (together t x xs z k) fs rs h =
      let v = ap (λ p. put (row role.TogetherWord t) (put (row role.Listed x) p)) (read_names xs fs _ (ap (put (row role.TogetherEnd z)) (read_block k fs rs h).self)) in
      record { self = v; over = v; no_else = refl }

  read_decls : (ds : Decls) (fs : List Frame) (rs : List Row) → Self end want.Decl fs rs → Self end want.Decl fs (text_decls ds rs)
  read_decls no_decl fs rs h = h
  read_decls (cell w x q n z ds) fs rs h = ap (λ p. put (row role.CellWord w) (put (row role.CellName x) (put (row role.CellIs q) (put (row role.CellNumber n) (put (row role.CellEnd z) p))))) (read_decls ds fs rs h)
  read_decls (minus_cell w x q m n z ds) fs rs h = ap (λ p. put (row role.CellWord w) (put (row role.CellName x) (put (row role.CellIs q) (put (row role.CellMinus m) (put (row role.CellNumber n) (put (row role.CellEnd z) p)))))) (read_decls ds fs rs h)
  read_decls (var w x z ds) fs rs h = ap (λ p. put (row role.VarWord w) (put (row role.VarName x) (put (row role.VarEnd z) p))) (read_decls ds fs rs h)
  read_decls (fresh w x z ds) fs rs h = ap (λ p. put (row role.FreshWord w) (put (row role.FreshName x) (put (row role.FreshEnd z) p))) (read_decls ds fs rs h)

  pub script_read : (s : Script) → run end (map token (rows s)) start ≡ Ok (rows s)
  script_read s =
      let y : Ready end (frame.Main ∷ []) (row role.MainClose s.close ∷ []) = record { self = refl; over = refl; no_else = refl } in
      read_decls s.decls [] _ (ap (λ p. put (row role.MainWord s.word) (put (row role.MainOpen s.open') p)) (read_block s.main (frame.Main ∷ []) _ y).self)
