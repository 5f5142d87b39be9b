-- What is read are the rows of a script. Assumes nothing.
use Rattle.std.proofs.Common.{◌≡◌, ℕ, Bool, true, false, cond, ◌⊎◌, List, [], ◌∷◌, Ok, Err, Result, sym as sym', refl, ap, ◌∙◌, inl, inr, arith}
use Rattle.script.specs.declared.fault.Fault.{Fault}
use Rattle.script.specs.declared.row.Role.{Role}
use Rattle.script.specs.declared.row.Role.TheVariants as role
use Rattle.script.specs.declared.row.Row.{Row}
use Rattle.script.specs.declared.token.Sym.TheVariants as sym
use Rattle.script.specs.declared.token.Tok.{Tok}
use Rattle.script.specs.Syntax.{Leaf, Expr, no_term, plus, minus, term, no_factor, times, over, number, negative, name, paren, no_name, comma, Block, done, assign, reading, when, either, loop, atomic, together, no_decl, cell, minus_cell, var, fresh, Script}
use Rattle.script.specs.Written.{row, text_expr, text_factor, text_names, text, text_decls, rows}
use Rattle.parser.specs.declared.machine.Ends.{Ends}
use Rattle.parser.specs.declared.machine.Ends.TheVariants as ends
use Rattle.parser.specs.declared.machine.Want.{Want}
use Rattle.parser.specs.declared.machine.Want.TheVariants as want
use Rattle.parser.specs.declared.machine.Frame.{Frame}
use Rattle.parser.specs.declared.machine.Frame.TheVariants as frame
use Rattle.parser.specs.declared.machine.Mark.TheVariants as mark
use Rattle.parser.specs.declared.machine.Move.{Move}
use Rattle.parser.specs.declared.machine.Move.TheVariants.{Stay, Push, Pop, Refuse}
use Rattle.parser.specs.Machine as machine
use Rattle.parser.specs.Machine.{at, run, turn, put, marked, otherwise, start, is, on}
use Rattle.parser.proofs.Left.{Rest, One, In, Shuts, Factored, Expressed, Sums, Compared, Tailed, Set, Tested, Leaves, Fin, Tail, leave, left, to_sum, to_expr, Sourced, Naming, Declared, Valued, Overed, Left}

abbrev pub Res : Type 0
Res = Result (List Row) Fault

pub err_ok : {X : Type 0} (f : Fault) (rs : List Row) → ◌≡◌ {A = Res} (Err f) (Ok rs) → X
err_ok f rs e = absurd (let z : ◌≡◌ {A = ℕ} 0 1 = cc in omega arith)

pub ok_ok : (rs us : List Row) → ◌≡◌ {A = Res} (Ok rs) (Ok us) → rs ≡ us
ok_ok rs us e = cc

pub put_ok : (r : Row) (q : Res) (rs : List Row) → put r q ≡ Ok rs → (us : List Row) × (q ≡ Ok us) × (rs ≡ r ∷ us)
put_ok r (Ok us) rs h = (us, refl, sym' (ok_ok _ _ h))
put_ok r (Err f) rs h = err_ok f rs h

abbrev pub leaf_of : Tok → Leaf
leaf_of t = record { place = t.place; len = t.len; value = t.value }

-- how an if is written, from its parts: up to the end of its first block, and from there on
if_text : {i o : Leaf} {rs us vs ws : List Row} (e : Expr) (a : Block) (xs : List Row) → rs ≡ row role.IfWord i ∷ us → us ≡ text_expr e vs → vs ≡ row role.ThenOpen o ∷ ws → ws ≡ text a xs → rs ≡ row role.IfWord i ∷ text_expr e (row role.ThenOpen o ∷ text a xs)
if_text {i} {o} e a xs p q r s = p ∙ ap (λ y. row role.IfWord i ∷ y) (q ∙ ap (text_expr e) (r ∙ ap (λ y. row role.ThenOpen o ∷ y) s))

when_text : {c : Leaf} {rs us : List Row} (k : Block) (vs : List Row) → rs ≡ row role.WhenClose c ∷ us → us ≡ text k vs → rs ≡ row role.WhenClose c ∷ text k vs
when_text {c} k vs p q = p ∙ ap (λ y. row role.WhenClose c ∷ y) q

else_text : {c w o z : Leaf} {rs us vs ws xs ys : List Row} (b k : Block) (zs : List Row) → rs ≡ row role.ThenClose c ∷ us → us ≡ row role.ElseWord w ∷ vs → vs ≡ row role.ElseOpen o ∷ ws → ws ≡ text b xs → xs ≡ row role.ElseClose z ∷ ys → ys ≡ text k zs → rs ≡ row role.ThenClose c ∷ row role.ElseWord w ∷ row role.ElseOpen o ∷ text b (row role.ElseClose z ∷ text k zs)
else_text {c} {w} {o} {z} b k zs p q r s t u =
    p ∙ ap (λ y. row role.ThenClose c ∷ y) (q ∙ ap (λ y. row role.ElseWord w ∷ y) (r ∙ ap (λ y. row role.ElseOpen o ∷ y) (s ∙ ap (text b) (t ∙ ap (λ y. row role.ElseClose z ∷ y) u))))

-- how a loop is written
loop_text : {r n o z : Leaf} {rs us vs ws xs ys : List Row} (b k : Block) (zs : List Row) → rs ≡ row role.RepeatWord r ∷ us → us ≡ row role.Count n ∷ vs → vs ≡ row role.BodyOpen o ∷ ws → ws ≡ text b xs → xs ≡ row role.BodyClose z ∷ ys → ys ≡ text k zs → rs ≡ row role.RepeatWord r ∷ row role.Count n ∷ row role.BodyOpen o ∷ text b (row role.BodyClose z ∷ text k zs)
loop_text {r} {n} {o} {z} b k zs p q s t u v =
    p ∙ ap (λ y. row role.RepeatWord r ∷ y) (q ∙ ap (λ y. row role.Count n ∷ y) (s ∙ ap (λ y. row role.BodyOpen o ∷ y) (t ∙ ap (text b) (u ∙ ap (λ y. row role.BodyClose z ∷ y) v))))

-- how a region is written
atomic_text : {a o z : Leaf} {rs us vs ws xs : List Row} (b k : Block) (zs : List Row) → rs ≡ row role.AtomicWord a ∷ us → us ≡ row role.RegionOpen o ∷ vs → vs ≡ text b ws → ws ≡ row role.RegionClose z ∷ xs → xs ≡ text k zs → rs ≡ row role.AtomicWord a ∷ row role.RegionOpen o ∷ text b (row role.RegionClose z ∷ text k zs)
atomic_text {a} {o} {z} b k zs p q r s t =
    p ∙ ap (λ y. row role.AtomicWord a ∷ y) (q ∙ ap (λ y. row role.RegionOpen o ∷ y) (r ∙ ap (text b) (s ∙ ap (λ y. row role.RegionClose z ∷ y) t)))

-- what is known of the tokens that follow
abbrev Knows : ℕ → List Tok → Type 0
Knows end ts = (w : Want) (fs : List Frame) (rs : List Row) → run end ts (at w fs) ≡ Ok rs → Left w fs (otherwise ts) rs

-- ---- what each token adds, by the move it makes

module _ (end : ℕ) (ts : List Tok) (ih : Knows end ts) (t : Tok) (rs : List Row) where
  abbrev Turns : Move → List Frame → Type 0
  Turns m fs = turn t m fs (otherwise ts) (run end ts) ≡ Ok rs

  one : (r : Role) (w : Want) (fs : List Frame) → put (marked r t) (run end ts (at w fs)) ≡ Ok rs → One r (Left w fs (otherwise ts)) rs
  one r w fs h = let a = put_ok (marked r t) (run end ts (at w fs)) rs h in (leaf_of t, a.0, a.2, ih w fs a.0 a.1)

  none : {X : Type 0} (fs : List Frame) → Turns Refuse fs → X
  none fs h = err_ok _ rs h

  -- a move that depends on a test
  pick : {X : Type 0} (b : Bool) (y n : Move) (fs : List Frame) → Turns (cond b y n) fs → (Turns y fs → X) → (Turns n fs → X) → X
  pick true y n fs h yes' no' = yes' h
  pick false y n fs h yes' no' = no' h

  -- the one token that stays
  only : (b : Bool) (r : Role) (w : Want) (fs : List Frame) → Turns (cond b (Stay r w) Refuse) fs → One r (Left w fs (otherwise ts)) rs
  only true r w fs h = one r w fs h
  only false r w fs h = none fs h

  -- the one token that opens
  open_only : (b : Bool) (r : Role) (f : Frame) (w : Want) (fs : List Frame) → Turns (cond b (Push r f w) Refuse) fs → One r (Left w (f ∷ fs) (otherwise ts)) rs
  open_only true r f w fs h = one r w (f ∷ fs) h
  open_only false r f w fs h = none fs h

  -- ---- expressions

  at_operand : (e : Ends) (c : Bool) (fs : List Frame) → Turns (machine.operand e c t.sym) fs → Factored (Tail e c fs) rs
  at_operand e c fs h =
      pick (is t.sym sym.Number) _ _ fs h (λ g. let a = one role.Literal (want.More e c) fs g in (number a.0, a.1, a.2, a.3)) (λ h₁.
      pick (is t.sym sym.Minus) _ _ fs h₁ (λ g. let a = one role.Negate (want.Negated e c) fs g in let n = a.3 in (negative a.0 n.0, n.1, a.2 ∙ ap (λ y. row role.Negate a.0 ∷ y) n.2, n.3)) (λ h₂.
      pick (is t.sym sym.Name) _ _ fs h₂ (λ g. let a = one role.Operand (want.More e c) fs g in (name a.0, a.1, a.2, a.3)) (λ h₃.
      pick (is t.sym sym.ParenOpen) _ _ fs h₃ (λ g.
      let a = one role.ParenOpen (want.Operand ends.Paren false) (frame.Paren e c ∷ fs) g in
      let x = to_expr (Leaves (frame.Paren e c ∷ fs)) a.1 a.3 in
      let z = left e c fs x.1 x.3 in
      (paren a.0 x.0 z.0, z.1, a.2 ∙ ap (λ y. row role.ParenOpen a.0 ∷ y) (x.2 ∙ ap (text_expr x.0) z.2), z.3)) (none fs))))

  ended : (c : Bool) (P : Rest) → P rs → Tailed c P rs
  ended true P p = record { factors = no_factor; terms = no_term; rest = rs; writes = refl; then = p }
  ended false P p = record { factors = no_factor; terms = no_term; rest = rs; writes = refl; then = inl p }

  at_leave : (fs : List Frame) → Turns (Pop mark.Paren) fs → Leaves fs rs
  at_leave [] h = err_ok _ rs h
  at_leave (frame.Main ∷ fs) h = err_ok _ rs h
  at_leave (frame.Then ∷ fs) h = err_ok _ rs h
  at_leave (frame.Other ∷ fs) h = err_ok _ rs h
  at_leave (frame.Body ∷ fs) h = err_ok _ rs h
  at_leave (frame.Region ∷ fs) h = err_ok _ rs h
  at_leave (frame.Paren e c ∷ fs) h = leave e c fs rs (one role.ParenClose (want.More e c) fs h)

  at_finish : (e : Ends) (fs : List Frame) → Turns (machine.finish e t.sym) fs → Fin e fs rs
  at_finish ends.Semi fs h = only (is t.sym sym.Semicolon) role.SetEnd want.Stmt fs h
  at_finish ends.Brace fs h = open_only (is t.sym sym.BraceOpen) role.ThenOpen frame.Then want.Stmt fs h
  at_finish ends.Paren fs h = pick (is t.sym sym.ParenClose) _ _ fs h (at_leave fs) (none fs)

  halved : (P : Rest) → One role.Less (Factored (Sums P)) rs ⊎ One role.Same (Factored (Sums P)) rs → Tailed false P rs
  halved P (inl a) = record { factors = no_factor; terms = no_term; rest = rs; writes = refl; then = inr (inl (a.0, a.1, a.2, to_sum P a.1 a.3)) }
  halved P (inr a) = record { factors = no_factor; terms = no_term; rest = rs; writes = refl; then = inr (inr (a.0, a.1, a.2, to_sum P a.1 a.3)) }

  at_compared : (e : Ends) (c : Bool) (fs : List Frame) → Turns (machine.compared e c t.sym) fs → Tail e c fs rs
  at_compared e true fs h = ended true (Fin e fs) (at_finish e fs h)
  at_compared e false fs h =
      pick (is t.sym sym.Less) _ _ fs h (λ g. halved (Fin e fs) (inl (one role.Less (want.Operand e true) fs g))) (λ h₁.
      pick (is t.sym sym.Same) _ _ fs h₁ (λ g. halved (Fin e fs) (inr (one role.Same (want.Operand e true) fs g))) (λ h₂.
      ended false (Fin e fs) (at_finish e fs h₂)))

  timesed : (P : Rest) → One role.Times (Factored (Sums P)) rs → Sums P rs
  timesed P a = let f = a.3 in let s = f.3 in
      record { factors = times a.0 f.0 s.factors; terms = s.terms; rest = s.rest; writes = a.2 ∙ ap (λ y. row role.Times a.0 ∷ y) (f.2 ∙ ap (text_factor f.0) s.writes); then = s.then }

  overed : (P : Rest) → One role.Over (Factored (Sums P)) rs → Sums P rs
  overed P a = let f = a.3 in let s = f.3 in
      record { factors = over a.0 f.0 s.factors; terms = s.terms; rest = s.rest; writes = a.2 ∙ ap (λ y. row role.Over a.0 ∷ y) (f.2 ∙ ap (text_factor f.0) s.writes); then = s.then }

  plussed : (P : Rest) → One role.Plus (Factored (Sums P)) rs → Sums P rs
  plussed P a = let f = a.3 in let s = f.3 in
      record { factors = no_factor; terms = plus a.0 (term f.0 s.factors) s.terms; rest = s.rest; writes = a.2 ∙ ap (λ y. row role.Plus a.0 ∷ y) (f.2 ∙ ap (text_factor f.0) s.writes); then = s.then }

  minused : (P : Rest) → One role.Minus (Factored (Sums P)) rs → Sums P rs
  minused P a = let f = a.3 in let s = f.3 in
      record { factors = no_factor; terms = minus a.0 (term f.0 s.factors) s.terms; rest = s.rest; writes = a.2 ∙ ap (λ y. row role.Minus a.0 ∷ y) (f.2 ∙ ap (text_factor f.0) s.writes); then = s.then }

  at_more : (e : Ends) (c : Bool) (fs : List Frame) → Turns (machine.more e c t.sym) fs → Tail e c fs rs
  at_more e c fs h =
      pick (is t.sym sym.Times) _ _ fs h (λ g. timesed (Compared c (Fin e fs)) (one role.Times (want.Operand e c) fs g)) (λ h₁.
      pick (is t.sym sym.Over) _ _ fs h₁ (λ g. overed (Compared c (Fin e fs)) (one role.Over (want.Operand e c) fs g)) (λ h₂.
      pick (is t.sym sym.Plus) _ _ fs h₂ (λ g. plussed (Compared c (Fin e fs)) (one role.Plus (want.Operand e c) fs g)) (λ h₃.
      pick (is t.sym sym.Minus) _ _ fs h₃ (λ g. minused (Compared c (Fin e fs)) (one role.Minus (want.Operand e c) fs g)) (at_compared e c fs))))

  at_source : (fs : List Frame) → Turns (machine.source t.sym) fs → Sourced fs rs
  at_source fs h = pick (is t.sym sym.In) _ _ fs h (λ g. inl (one role.InWord want.Channel fs g)) (λ g. inr (at_operand ends.Semi false fs g))

  -- ---- statements

  at_name : (fs : List Frame) → One role.Target (One role.Becomes (Sourced fs)) rs → In (Shuts fs) rs
  at_name fs a = by a.3.3
    where
      by : Sourced fs a.3.1 → In (Shuts fs) rs
      by (inl i) = let c = i.3 in let z = c.3 in let k = z.3 in
          record {
            body = reading a.0 a.3.0 i.0 c.0 z.0 k.body;
            rest = k.rest;
            then = k.then;
            writes = a.2 ∙ ap (λ y. row role.Target a.0 ∷ y) (a.3.2 ∙ ap (λ y. row role.Becomes a.3.0 ∷ y) (i.2 ∙ ap (λ y. row role.InWord i.0 ∷ y) (c.2 ∙ ap (λ y. row role.Channel c.0 ∷ y) (z.2 ∙ ap (λ y. row role.ReadEnd z.0 ∷ y) k.writes))));
          }
      by (inr f) = let x = to_expr (Set fs) a.3.1 f in let z = x.3 in let k = z.3 in
          record {
            body = assign a.0 a.3.0 x.0 z.0 k.body;
            rest = k.rest;
            then = k.then;
            writes = a.2 ∙ ap (λ y. row role.Target a.0 ∷ y) (a.3.2 ∙ ap (λ y. row role.Becomes a.3.0 ∷ y) (x.2 ∙ ap (text_expr x.0) (z.2 ∙ ap (λ y. row role.SetEnd z.0 ∷ y) k.writes)));
          }

  at_if : (fs : List Frame) → One role.IfWord (Factored (Tail ends.Brace false fs)) rs → In (Shuts fs) rs
  at_if fs a = by (to_expr (Tested fs) a.1 a.3)
    where
      by : Expressed (Tested fs) a.1 → In (Shuts fs) rs
      by x = shut x.3.3.then
        where
          shut : Shuts (frame.Then ∷ fs) x.3.3.rest → In (Shuts fs) rs
          shut (inl c) = let o = x.3 in let b = o.3 in let k = c.3 in
              record {
                body = when a.0 x.0 o.0 b.body c.0 k.body;
                rest = k.rest;
                then = k.then;
                writes = if_text x.0 b.body b.rest a.2 x.2 o.2 b.writes ∙ ap (λ y. row role.IfWord a.0 ∷ text_expr x.0 (row role.ThenOpen o.0 ∷ text b.body y)) (when_text k.body k.rest c.2 k.writes);
              }
          shut (inr c) = let o = x.3 in let b = o.3 in let w = c.3 in let p = w.3 in let d = p.3 in let z = d.then in let k = z.3 in
              record {
                body = either a.0 x.0 o.0 b.body c.0 w.0 p.0 d.body z.0 k.body;
                rest = k.rest;
                then = k.then;
                writes = if_text x.0 b.body b.rest a.2 x.2 o.2 b.writes ∙ ap (λ y. row role.IfWord a.0 ∷ text_expr x.0 (row role.ThenOpen o.0 ∷ text b.body y)) (else_text d.body k.body k.rest c.2 w.2 p.2 d.writes z.2 k.writes);
              }

  at_repeat : (fs : List Frame) → One role.RepeatWord (One role.Count (One role.BodyOpen (In (Shuts (frame.Body ∷ fs))))) rs → In (Shuts fs) rs
  at_repeat fs a = let n = a.3 in let o = n.3 in let b = o.3 in let z = b.then in let k = z.3 in
      record {
        body = loop a.0 n.0 o.0 b.body z.0 k.body;
        rest = k.rest;
        then = k.then;
        writes = loop_text b.body k.body k.rest a.2 n.2 o.2 b.writes z.2 k.writes;
      }

  at_atomic : (fs : List Frame) → One role.AtomicWord (One role.RegionOpen (In (Shuts (frame.Region ∷ fs)))) rs → In (Shuts fs) rs
  at_atomic fs a = let o = a.3 in let b = o.3 in let z = b.then in let k = z.3 in
      record {
        body = atomic a.0 o.0 b.body z.0 k.body;
        rest = k.rest;
        then = k.then;
        writes = atomic_text b.body k.body k.rest a.2 o.2 b.writes z.2 k.writes;
      }

  at_together : (fs : List Frame) → One role.TogetherWord (One role.Listed (Naming fs)) rs → In (Shuts fs) rs
  at_together fs a = let x = a.3 in let n = x.3 in let k = n.4 in
      record {
        body = together a.0 x.0 n.0 n.1 k.body;
        rest = k.rest;
        then = k.then;
        writes = a.2 ∙ ap (λ y. row role.TogetherWord a.0 ∷ y) (x.2 ∙ ap (λ y. row role.Listed x.0 ∷ y) (n.3 ∙ ap (λ y. text_names n.0 (row role.TogetherEnd n.1 ∷ y)) k.writes));
      }

  shut_then : (b : Bool) (fs : List Frame) (us : List Row) → rs ≡ marked (cond b role.ThenClose role.WhenClose) t ∷ us → Overed b fs us → Shuts (frame.Then ∷ fs) rs
  shut_then true fs us e h = inr (leaf_of t, us, e, h)
  shut_then false fs us e h = inl (leaf_of t, us, e, h)

  at_close : (fs : List Frame) → Turns (Pop mark.Brace) fs → Shuts fs rs
  at_close [] h = err_ok _ rs h
  at_close (frame.Main ∷ fs) h = one role.MainClose want.End fs h
  at_close (frame.Then ∷ fs) h =
      let a = put_ok (marked (cond (otherwise ts) role.ThenClose role.WhenClose) t) (run end ts (at want.Over fs)) rs h in
      shut_then (otherwise ts) fs a.0 a.2 (ih want.Over fs a.0 a.1)
  at_close (frame.Other ∷ fs) h = one role.ElseClose want.Stmt fs h
  at_close (frame.Body ∷ fs) h = one role.BodyClose want.Stmt fs h
  at_close (frame.Region ∷ fs) h = one role.RegionClose want.Stmt fs h
  at_close (frame.Paren e c ∷ fs) h = err_ok _ rs h

  at_stmt : (fs : List Frame) → Turns (machine.stmt t.sym) fs → In (Shuts fs) rs
  at_stmt fs h =
      pick (is t.sym sym.Name) _ _ fs h (λ g. at_name fs (one role.Target want.Becomes fs g)) (λ h₁.
      pick (is t.sym sym.If) _ _ fs h₁ (λ g. at_if fs (one role.IfWord (want.Operand ends.Brace false) fs g)) (λ h₂.
      pick (is t.sym sym.Repeat) _ _ fs h₂ (λ g. at_repeat fs (one role.RepeatWord want.Count fs g)) (λ h₃.
      pick (is t.sym sym.Atomic) _ _ fs h₃ (λ g. at_atomic fs (one role.AtomicWord want.RegionOpen fs g)) (λ h₄.
      pick (is t.sym sym.Together) _ _ fs h₄ (λ g. at_together fs (one role.TogetherWord want.Listed fs g)) (λ h₅.
      pick (is t.sym sym.BraceClose) _ _ fs h₅ (λ g. record { body = done; rest = rs; writes = refl; then = at_close fs g }) (none fs))))))

  at_over : (b : Bool) (fs : List Frame) → Turns (cond b (Stay role.ElseWord want.ElseOpen) (machine.stmt t.sym)) fs → Overed b fs rs
  at_over true fs h = one role.ElseWord want.ElseOpen fs h
  at_over false fs h = at_stmt fs h

  at_list : (fs : List Frame) → Turns (on t.sym sym.Comma (Stay role.Comma want.Listed) (on t.sym sym.Semicolon (Stay role.TogetherEnd want.Stmt) Refuse)) fs → Naming fs rs
  at_list fs h =
      pick (is t.sym sym.Comma) _ _ fs h (λ g.
      let a = one role.Comma want.Listed fs g in let x = a.3 in let n = x.3 in
      (comma a.0 x.0 n.0, n.1, n.2, a.2 ∙ ap (λ y. row role.Comma a.0 ∷ y) (x.2 ∙ ap (λ y. row role.Listed x.0 ∷ y) n.3), n.4)) (λ h₁.
      let z = only (is t.sym sym.Semicolon) role.TogetherEnd want.Stmt fs h₁ in
      (no_name, z.0, z.1, z.2, z.3))

  -- ---- declarations

  at_cell : (fs : List Frame) → One role.CellWord (One role.CellName (One role.CellIs (Valued (Declared fs)))) rs → Declared fs rs
  at_cell fs a = by a.3.3.3
    where
      by : Valued (Declared fs) a.3.3.1 → Declared fs rs
      by (inl m) = let x = a.3 in let q = x.3 in let n = m.3 in let z = n.3 in let d = z.3 in
          record {
            decls = minus_cell a.0 x.0 q.0 m.0 n.0 z.0 d.decls;
            word = d.word;
            open' = d.open';
            rest = d.rest;
            then = d.then;
            writes = a.2 ∙ ap (λ y. row role.CellWord a.0 ∷ y) (x.2 ∙ ap (λ y. row role.CellName x.0 ∷ y) (q.2 ∙ ap (λ y. row role.CellIs q.0 ∷ y) (m.2 ∙ ap (λ y. row role.CellMinus m.0 ∷ y) (n.2 ∙ ap (λ y. row role.CellNumber n.0 ∷ y) (z.2 ∙ ap (λ y. row role.CellEnd z.0 ∷ y) d.writes)))));
          }
      by (inr n) = let x = a.3 in let q = x.3 in let z = n.3 in let d = z.3 in
          record {
            decls = cell a.0 x.0 q.0 n.0 z.0 d.decls;
            word = d.word;
            open' = d.open';
            rest = d.rest;
            then = d.then;
            writes = a.2 ∙ ap (λ y. row role.CellWord a.0 ∷ y) (x.2 ∙ ap (λ y. row role.CellName x.0 ∷ y) (q.2 ∙ ap (λ y. row role.CellIs q.0 ∷ y) (n.2 ∙ ap (λ y. row role.CellNumber n.0 ∷ y) (z.2 ∙ ap (λ y. row role.CellEnd z.0 ∷ y) d.writes))));
          }

  at_decl : (fs : List Frame) → Turns (machine.rule want.Decl t.sym) fs → Declared fs rs
  at_decl fs h =
      pick (is t.sym sym.Cell) _ _ fs h (λ g. at_cell fs (one role.CellWord want.CellName fs g)) (λ h₁.
      pick (is t.sym sym.Var) _ _ fs h₁ (λ g.
      let a = one role.VarWord want.VarName fs g in let x = a.3 in let z = x.3 in let d = z.3 in
      record {
        decls = var a.0 x.0 z.0 d.decls;
        word = d.word;
        open' = d.open';
        rest = d.rest;
        then = d.then;
        writes = a.2 ∙ ap (λ y. row role.VarWord a.0 ∷ y) (x.2 ∙ ap (λ y. row role.VarName x.0 ∷ y) (z.2 ∙ ap (λ y. row role.VarEnd z.0 ∷ y) d.writes));
      }) (λ h₂.
      pick (is t.sym sym.Fresh) _ _ fs h₂ (λ g.
      let a = one role.FreshWord want.FreshName fs g in let x = a.3 in let z = x.3 in let d = z.3 in
      record {
        decls = fresh a.0 x.0 z.0 d.decls;
        word = d.word;
        open' = d.open';
        rest = d.rest;
        then = d.then;
        writes = a.2 ∙ ap (λ y. row role.FreshWord a.0 ∷ y) (x.2 ∙ ap (λ y. row role.FreshName x.0 ∷ y) (z.2 ∙ ap (λ y. row role.FreshEnd z.0 ∷ y) d.writes));
      }) (λ h₃.
      let a = only (is t.sym sym.Main) role.MainWord want.MainOpen fs h₃ in let o = a.3 in
      record { decls = no_decl; word = a.0; open' = o.0; rest = o.1; then = o.3; writes = a.2 ∙ ap (λ y. row role.MainWord a.0 ∷ y) o.2 })))

  cons_sound : (w : Want) (fs : List Frame) → Turns (machine.rule w t.sym) fs → Left w fs (is t.sym sym.Else) rs
  cons_sound want.Decl fs h = at_decl fs h
  cons_sound want.CellName fs h = only (is t.sym sym.Name) role.CellName want.CellIs fs h
  cons_sound want.CellIs fs h = only (is t.sym sym.Assign) role.CellIs want.CellValue fs h
  cons_sound want.CellValue fs h = pick (is t.sym sym.Minus) _ _ fs h (λ g. inl (one role.CellMinus want.CellNumber fs g)) (λ g. inr (only (is t.sym sym.Number) role.CellNumber want.CellEnd fs g))
  cons_sound want.CellNumber fs h = only (is t.sym sym.Number) role.CellNumber want.CellEnd fs h
  cons_sound want.CellEnd fs h = only (is t.sym sym.Semicolon) role.CellEnd want.Decl fs h
  cons_sound want.VarName fs h = only (is t.sym sym.Name) role.VarName want.VarEnd fs h
  cons_sound want.VarEnd fs h = only (is t.sym sym.Semicolon) role.VarEnd want.Decl fs h
  cons_sound want.FreshName fs h = only (is t.sym sym.Name) role.FreshName want.FreshEnd fs h
  cons_sound want.FreshEnd fs h = only (is t.sym sym.Semicolon) role.FreshEnd want.Decl fs h
  cons_sound want.MainOpen fs h = open_only (is t.sym sym.BraceOpen) role.MainOpen frame.Main want.Stmt fs h
  cons_sound want.Stmt fs h = at_stmt fs h
  cons_sound want.Over fs h = at_over (is t.sym sym.Else) fs h
  cons_sound want.Becomes fs h = only (is t.sym sym.Assign) role.Becomes want.Source fs h
  cons_sound want.Source fs h = at_source fs h
  cons_sound want.Channel fs h = only (is t.sym sym.Number) role.Channel want.ReadEnd fs h
  cons_sound want.ReadEnd fs h = only (is t.sym sym.Semicolon) role.ReadEnd want.Stmt fs h
  cons_sound (want.Operand e c) fs h = at_operand e c fs h
  cons_sound (want.Negated e c) fs h = only (is t.sym sym.Number) role.Negated (want.More e c) fs h
  cons_sound (want.More e c) fs h = at_more e c fs h
  cons_sound want.Count fs h = only (is t.sym sym.Number) role.Count want.BodyOpen fs h
  cons_sound want.BodyOpen fs h = open_only (is t.sym sym.BraceOpen) role.BodyOpen frame.Body want.Stmt fs h
  cons_sound want.RegionOpen fs h = open_only (is t.sym sym.BraceOpen) role.RegionOpen frame.Region want.Stmt fs h
  cons_sound want.ElseOpen fs h = open_only (is t.sym sym.BraceOpen) role.ElseOpen frame.Other want.Stmt fs h
  cons_sound want.Listed fs h = only (is t.sym sym.Name) role.Listed want.ListMore fs h
  cons_sound want.ListMore fs h = at_list fs h
  cons_sound want.End fs h = none fs h

nil_sound : (end : ℕ) (w : Want) (fs : List Frame) (rs : List Row) → run end [] (at w fs) ≡ Ok rs → Left w fs false rs
nil_sound end want.Decl fs rs h = err_ok _ rs h
nil_sound end want.CellName fs rs h = err_ok _ rs h
nil_sound end want.CellIs fs rs h = err_ok _ rs h
nil_sound end want.CellValue fs rs h = err_ok _ rs h
nil_sound end want.CellNumber fs rs h = err_ok _ rs h
nil_sound end want.CellEnd fs rs h = err_ok _ rs h
nil_sound end want.VarName fs rs h = err_ok _ rs h
nil_sound end want.VarEnd fs rs h = err_ok _ rs h
nil_sound end want.FreshName fs rs h = err_ok _ rs h
nil_sound end want.FreshEnd fs rs h = err_ok _ rs h
nil_sound end want.MainOpen fs rs h = err_ok _ rs h
nil_sound end want.Stmt fs rs h = err_ok _ rs h
nil_sound end want.Over fs rs h = err_ok _ rs h
nil_sound end want.Becomes fs rs h = err_ok _ rs h
nil_sound end want.Source fs rs h = err_ok _ rs h
nil_sound end want.Channel fs rs h = err_ok _ rs h
nil_sound end want.ReadEnd fs rs h = err_ok _ rs h
nil_sound end (want.Operand e c) fs rs h = err_ok _ rs h
nil_sound end (want.Negated e c) fs rs h = err_ok _ rs h
nil_sound end (want.More e c) fs rs h = err_ok _ rs h
nil_sound end want.Count fs rs h = err_ok _ rs h
nil_sound end want.BodyOpen fs rs h = err_ok _ rs h
nil_sound end want.RegionOpen fs rs h = err_ok _ rs h
nil_sound end want.ElseOpen fs rs h = err_ok _ rs h
nil_sound end want.Listed fs rs h = err_ok _ rs h
nil_sound end want.ListMore fs rs h = err_ok _ rs h
nil_sound end want.End fs rs h = sym' (ok_ok _ _ h)

sound : (end : ℕ) (ts : List Tok) → Knows end ts
sound end [] w fs rs h = nil_sound end w fs rs h
sound end (t ∷ ts) w fs rs h = cons_sound end ts (sound end ts) t rs w fs h

-- what is read are the rows of a script
pub script_of : (end : ℕ) (ts : List Tok) (rs : List Row) → run end ts start ≡ Ok rs → (s : Script) × (rs ≡ rows s)
script_of end ts rs h =
    let d = sound end ts want.Decl [] rs h in
    let b = d.then in
    let z = b.then in (
      record { decls = d.decls; word = d.word; open' = d.open'; main = b.body; close = z.0 },
      d.writes ∙ ap (λ y. text_decls d.decls (row role.MainWord d.word ∷ row role.MainOpen d.open' ∷ y)) (b.writes ∙ ap (text b.body) (z.2 ∙ ap (λ y. row role.MainClose z.0 ∷ y) z.3)),
    )
