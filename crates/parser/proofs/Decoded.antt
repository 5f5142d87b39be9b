-- A script is read back from its rows. Assumes nothing.
use Rattle.std.proofs.Common.{◌≡◌, List, [], ◌∷◌, None, refl, ap, ◌∙◌}
use Rattle.script.specs.declared.row.Role.TheVariants as role
use Rattle.script.specs.declared.row.Row.{Row}
use Rattle.script.specs.Syntax.{Leaf, Expr, alone, less, same, Sum, sum, Terms, no_term, plus, minus, Term, term, Factors, no_factor, times, over, Factor, number, negative, name, paren, Names, no_name, comma, Block, done, assign, reading, when, either, loop, atomic, together, Decls, no_decl, cell, minus_cell, var, fresh, Script}
use Rattle.script.specs.Written.{row, text_expr, text_sum, text_terms, text_term, text_factors, text_factor, text_names, text, text_decls, rows}
use Rattle.script.specs.Decode.{blank, Half, no_half, less_half, same_half, Level, level, with_factor, expr_of, Follows, no_else, with_else, Entry, entry, by_expr, Build, with_levels, add, built, decode}

-- ---- expressions: the level once the rows in front of it are read

-- a level at which nothing is read of the factors, of the terms
abbrev on_half : Half → Leaf → Level
on_half h c = record { factor = number blank; factors = no_factor; terms = no_term; half = h; close = c }

abbrev on_terms : Terms → Half → Leaf → Level
on_terms ts h c = record { factor = number blank; factors = no_factor; terms = ts; half = h; close = c }

abbrev on_factors : Factors → Terms → Half → Leaf → Level
on_factors fs ts h c = record { factor = number blank; factors = fs; terms = ts; half = h; close = c }

abbrev summed : Sum → Half → Leaf → Level
summed (sum (term f fs) ts) h c = record { factor = f; factors = fs; terms = ts; half = h; close = c }

abbrev level_of : Expr → Leaf → Level
level_of (alone s) c = summed s no_half c
level_of (less s o u) c = summed s (less_half o u) c
level_of (same s o u) c = summed s (same_half o u) c

abbrev At : List Row → Build → Level → List Level → Type 0
At rs b l ls = built rs ≡ with_levels (l ∷ ls) b

expr_back : (e : Expr) (c : Leaf) → expr_of (level_of e c) ≡ e
expr_back (alone (sum (term f fs) ts)) c = refl
expr_back (less (sum (term f fs) ts) o u) c = refl
expr_back (same (sum (term f fs) ts) o u) c = refl

-- the other half of a comparison
half_back : (u : Sum) (rs : List Row) (b : Build) (c : Leaf) (ls : List Level) (o : Leaf) → At rs b (summed u no_half c) ls → At (row role.Less o ∷ rs) b (on_half (less_half o u) c) ls
half_back (sum (term f fs) ts) rs b c ls o h = ap (add role.Less o) h

same_back : (u : Sum) (rs : List Row) (b : Build) (c : Leaf) (ls : List Level) (o : Leaf) → At rs b (summed u no_half c) ls → At (row role.Same o ∷ rs) b (on_half (same_half o u) c) ls
same_back (sum (term f fs) ts) rs b c ls o h = ap (add role.Same o) h

plus_back : (t : Term) (k : Terms) (rs : List Row) (b : Build) (w : Half) (c : Leaf) (ls : List Level) (o : Leaf) → At rs b (summed (sum t k) w c) ls → At (row role.Plus o ∷ rs) b (on_terms (plus o t k) w c) ls
plus_back (term f fs) k rs b w c ls o h = ap (add role.Plus o) h

minus_back : (t : Term) (k : Terms) (rs : List Row) (b : Build) (w : Half) (c : Leaf) (ls : List Level) (o : Leaf) → At rs b (summed (sum t k) w c) ls → At (row role.Minus o ∷ rs) b (on_terms (minus o t k) w c) ls
minus_back (term f fs) k rs b w c ls o h = ap (add role.Minus o) h

close_back : (e : Expr) (c : Leaf) → (level_of e c).close ≡ c
close_back (alone (sum (term f fs) ts)) c = refl
close_back (less (sum (term f fs) ts) o u) c = refl
close_back (same (sum (term f fs) ts) o u) c = refl

paren_back : (e : Expr) (c o : Leaf) (b : Build) (l : Level) (ls : List Level) → add role.ParenOpen o (with_levels (level_of e c ∷ l ∷ ls) b) ≡ with_levels (with_factor (paren o e c) l ∷ ls) b
paren_back e c o b l ls = ap (λ x. with_levels (with_factor (paren o x (level_of e c).close) l ∷ ls) b) (expr_back e c) ∙ ap (λ x. with_levels (with_factor (paren o e x) l ∷ ls) b) (close_back e c)

mutual
  factor_back : (f : Factor) (rs : List Row) (b : Build) (l : Level) (ls : List Level) → At rs b l ls → At (text_factor f rs) b (with_factor f l) ls
  factor_back (number n) rs b l ls h = ap (add role.Literal n) h
  factor_back (negative m n) rs b l ls h = ap (λ y. add role.Negate m (add role.Negated n y)) h
  factor_back (name x) rs b l ls h = ap (add role.Operand x) h
  factor_back (paren o e c) rs b l ls h =
      ap (add role.ParenOpen o) (expr_at e (row role.ParenClose c ∷ rs) b c (l ∷ ls) (ap (add role.ParenClose c) h))
      ∙ paren_back e c o b l ls

  factors_back : (fs : Factors) (rs : List Row) (b : Build) (ts : Terms) (h : Half) (c : Leaf) (ls : List Level) → At rs b (on_terms ts h c) ls → At (text_factors fs rs) b (on_factors fs ts h c) ls
  factors_back no_factor rs b ts h c ls e = e
  factors_back (times o f fs) rs b ts h c ls e = ap (add role.Times o) (factor_back f (text_factors fs rs) b (on_factors fs ts h c) ls (factors_back fs rs b ts h c ls e))
  factors_back (over o f fs) rs b ts h c ls e = ap (add role.Over o) (factor_back f (text_factors fs rs) b (on_factors fs ts h c) ls (factors_back fs rs b ts h c ls e))

  term_back : (t : Term) (rs : List Row) (b : Build) (ts : Terms) (h : Half) (c : Leaf) (ls : List Level) → At rs b (on_terms ts h c) ls → At (text_term t rs) b (summed (sum t ts) h c) ls
  term_back (term f fs) rs b ts h c ls e = factor_back f (text_factors fs rs) b (on_factors fs ts h c) ls (factors_back fs rs b ts h c ls e)

  terms_back : (ts : Terms) (rs : List Row) (b : Build) (h : Half) (c : Leaf) (ls : List Level) → At rs b (on_half h c) ls → At (text_terms ts rs) b (on_terms ts h c) ls
  terms_back no_term rs b h c ls e = e
  terms_back (plus o t k) rs b h c ls e = plus_back t k (text_term t (text_terms k rs)) b h c ls o (term_back t (text_terms k rs) b k h c ls (terms_back k rs b h c ls e))
  terms_back (minus o t k) rs b h c ls e = minus_back t k (text_term t (text_terms k rs)) b h c ls o (term_back t (text_terms k rs) b k h c ls (terms_back k rs b h c ls e))

  sum_back : (s : Sum) (rs : List Row) (b : Build) (h : Half) (c : Leaf) (ls : List Level) → At rs b (on_half h c) ls → At (text_sum s rs) b (summed s h c) ls
  sum_back (sum t ts) rs b h c ls e = term_back t (text_terms ts rs) b ts h c ls (terms_back ts rs b h c ls e)

  expr_at : (e : Expr) (rs : List Row) (b : Build) (c : Leaf) (ls : List Level) → At rs b (level c) ls → At (text_expr e rs) b (level_of e c) ls
  expr_at (alone s) rs b c ls h = sum_back s rs b no_half c ls h
  expr_at (less s o u) rs b c ls h = sum_back s (row role.Less o ∷ text_sum u rs) b (less_half o u) c ls (half_back u (text_sum u rs) b c ls o (sum_back u rs b no_half c ls h))
  expr_at (same s o u) rs b c ls h = sum_back s (row role.Same o ∷ text_sum u rs) b (same_half o u) c ls (same_back u (text_sum u rs) b c ls o (sum_back u rs b no_half c ls h))

-- ---- statements

-- between two statements
abbrev st : List Leaf → List Entry → Script → Build
st ls es s = record { leaves = ls; levels = []; entries = es; names = no_name; source = by_expr; minus_sign = None; script = s }

abbrev naming : Names → List Leaf → List Entry → Script → Build
naming xs ls es s = record { leaves = ls; levels = []; entries = es; names = xs; source = by_expr; minus_sign = None; script = s }

names_back : (xs : Names) (rs : List Row) (ls : List Leaf) (es : List Entry) (s : Script) → built rs ≡ st ls es s → built (text_names xs rs) ≡ naming xs ls es s
names_back no_name rs ls es s h = h
names_back (comma c x xs) rs ls es s h = ap (λ y. add role.Comma c (add role.Listed x y)) (names_back xs rs ls es s h)

module _ (s : Script) where
  block_back : (k : Block) (rs : List Row) (ls : List Leaf) (f : Follows) (es : List Entry) → built rs ≡ st ls (entry done f ∷ es) s → built (text k rs) ≡ st ls (entry k f ∷ es) s
  block_back done rs ls f es h = h
  block_back (assign x q e z k) rs ls f es h =
      let w = ap (add role.SetEnd z) (block_back k rs ls f es h) in
      ap (λ y. add role.Target x (add role.Becomes q y)) (expr_at e (row role.SetEnd z ∷ text k rs) (st (z ∷ ls) (entry k f ∷ es) s) blank [] w)
      ∙ ap (λ v. st ls (entry (assign x q v z k) f ∷ es) s) (expr_back e blank)
  block_back (reading x q i c z k) rs ls f es h =
      ap (λ y. add role.Target x (add role.Becomes q (add role.InWord i (add role.Channel c (add role.ReadEnd z y))))) (block_back k rs ls f es h)
  block_back (when i e o a c k) rs ls f es h =
      let w = block_back a (row role.WhenClose c ∷ text k rs) (c ∷ ls) no_else (entry k f ∷ es) (ap (add role.WhenClose c) (block_back k rs ls f es h)) in
      ap (add role.IfWord i) (expr_at e (row role.ThenOpen o ∷ text a (row role.WhenClose c ∷ text k rs)) (st (o ∷ c ∷ ls) (entry a no_else ∷ entry k f ∷ es) s) blank [] (ap (add role.ThenOpen o) w))
      ∙ ap (λ v. st ls (entry (when i v o a c k) f ∷ es) s) (expr_back e blank)
  block_back (either i e o a c w o' b c' k) rs ls f es h =
      let r = row role.ElseClose c' ∷ text k rs in
      let q = row role.ThenClose c ∷ row role.ElseWord w ∷ row role.ElseOpen o' ∷ text b r in
      let u = block_back b r (c' ∷ ls) no_else (entry k f ∷ es) (ap (add role.ElseClose c') (block_back k rs ls f es h)) in
      let v = ap (λ y. add role.ThenClose c (add role.ElseWord w (add role.ElseOpen o' y))) u in
      let t = block_back a q (c ∷ ls) (with_else w o' b c') (entry k f ∷ es) v in
      ap (add role.IfWord i) (expr_at e (row role.ThenOpen o ∷ text a q) (st (o ∷ c ∷ ls) (entry a (with_else w o' b c') ∷ entry k f ∷ es) s) blank [] (ap (add role.ThenOpen o) t))
      ∙ ap (λ y. st ls (entry (either i y o a c w o' b c' k) f ∷ es) s) (expr_back e blank)
  block_back (loop r n o b c k) rs ls f es h =
      ap (λ y. add role.RepeatWord r (add role.Count n (add role.BodyOpen o y))) (block_back b (row role.BodyClose c ∷ text k rs) (c ∷ ls) no_else (entry k f ∷ es) (ap (add role.BodyClose c) (block_back k rs ls f es h)))
  block_back (atomic a o b c k) rs ls f es h =
      ap (λ y. add role.AtomicWord a (add role.RegionOpen o y)) (block_back b (row role.RegionClose c ∷ text k rs) (c ∷ ls) no_else (entry k f ∷ es) (ap (add role.RegionClose c) (block_back k rs ls f es h)))
  block_back (together t x xs z k) rs ls f es h =
      ap (λ y. add role.TogetherWord t (add role.Listed x y)) (names_back xs (row role.TogetherEnd z ∷ text k rs) (z ∷ ls) (entry k f ∷ es) s (ap (add role.TogetherEnd z) (block_back k rs ls f es h)))

-- ---- declarations and scripts

abbrev declared : Decls → Script → Script
declared ds s = record { decls = ds; word = s.word; open' = s.open'; main = s.main; close = s.close }

decls_back : (ds : Decls) (rs : List Row) (ls : List Leaf) (es : List Entry) (s : Script) → built rs ≡ st ls es (declared no_decl s) → built (text_decls ds rs) ≡ st ls es (declared ds s)
decls_back no_decl rs ls es s h = h
decls_back (cell w x q n z ds) rs ls es s h = ap (λ y. add role.CellWord w (add role.CellName x (add role.CellIs q (add role.CellNumber n (add role.CellEnd z y))))) (decls_back ds rs ls es s h)
decls_back (minus_cell w x q m n z ds) rs ls es s h = ap (λ y. add role.CellWord w (add role.CellName x (add role.CellIs q (add role.CellMinus m (add role.CellNumber n (add role.CellEnd z y)))))) (decls_back ds rs ls es s h)
decls_back (var w x z ds) rs ls es s h = ap (λ y. add role.VarWord w (add role.VarName x (add role.VarEnd z y))) (decls_back ds rs ls es s h)
decls_back (fresh w x z ds) rs ls es s h = ap (λ y. add role.FreshWord w (add role.FreshName x (add role.FreshEnd z y))) (decls_back ds rs ls es s h)

pub decoded : (s : Script) → decode (rows s) ≡ s
decoded s =
    let w = ap (λ y. add role.MainWord s.word (add role.MainOpen s.open' y)) (block_back (built []).script s.main (row role.MainClose s.close ∷ []) (s.close ∷ []) no_else [] refl) in
    ap (λ b. b.script) (decls_back s.decls (row role.MainWord s.word ∷ row role.MainOpen s.open' ∷ text s.main (row role.MainClose s.close ∷ [])) [] (entry s.main no_else ∷ []) s w)
