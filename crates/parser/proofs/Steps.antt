-- The steps of the reader's loop. Assumes nothing.
use Rattle.std.proofs.Common.{◌≡◌, ℕ, ◌+◌, ◌-◌, ◌<◌, ◌≤◌, Bool, true, false, cond, eqb, leb, ltb, List, [], ◌∷◌, ◌++◌, length, reverse, get_or, drop, Some, None, Ok, Err, Result, sym, refl, ap, ◌∙◌, subst, inl, inr, append_assoc, arith, length-append, append-nil, MatchResult}
use Rattle.std.proofs.lemmas.List.{at_drop_more, at_drop_all}
use Rattle.std.proofs.lemmas.Bool.{lt-leb, eqb-true, ltb-true}
use Rattle.list.specs.Entries.{added}
use Rattle.list.proofs.Fixing.{reverse_pushed}
use Rattle.std.proofs.lemmas.Result.{MatchResult-weaker}
use Rattle.script.specs.declared.fault.Fault.{Fault}
use Rattle.script.specs.declared.row.Role.{Role}
use Rattle.script.specs.declared.row.Row.{Row}
use Rattle.script.specs.declared.token.Sym.{Sym}
use Rattle.script.specs.declared.token.Tok.{Tok}
use Rattle.script.specs.Faults.{fault}
use Rattle.parser.specs.declared.machine.Frame.{Frame}
use Rattle.parser.specs.declared.machine.Machine.{Machine}
use Rattle.parser.specs.declared.machine.Mark.{Mark}
use Rattle.parser.specs.declared.machine.Mark.TheVariants as mark
use Rattle.parser.specs.declared.machine.Move.{Move}
use Rattle.parser.specs.declared.machine.Move.TheVariants.{Push, Pop}
use Rattle.parser.specs.declared.machine.Want.{Want}
use Rattle.script.specs.Nesting.{opens, closes, open_after, nesting}
use Rattle.parser.specs.Machine.{at, run, goes, turn, put, marked, given, moved, popped, otherwise, rule_of, start, depth_of, view_of, is_end, is, Goes, Stops, Pops}
use Rattle.parser.proofs.Table.{Fits, fits}
use Rattle.parser.proofs.Depth.{Counted, counted_on, counted_off}

-- ---- how many are open, by the move

opened : (s : Sym) (n : ℕ) → opens s ≡ true → n < 16 → open_after s n ≡ Some (n + 1)
opened s n e h = ap (λ b. cond b (cond (leb 16 n) None (Some (n + 1))) (cond (closes s) (cond (eqb n 0) None (Some (n - 1))) (Some n))) e ∙ ap (λ b. cond b None (Some (n + 1))) (lt-leb 16 n h)

shut_by : (n : ℕ) → 0 < n → cond (eqb n 0) None (Some (n - 1)) ≡ Some (n - 1)
shut_by n h = by (eqb n 0) refl
  where
    by : (b : Bool) → eqb n 0 ≡ b → cond b None (Some (n - 1)) ≡ Some (n - 1)
    by true e = absurd (omega (arith, eqb-true n 0 e))
    by false e = refl

shut : (m : Mark) (s : Sym) (n : ℕ) → Fits (Pop m) s → 0 < n → open_after s n ≡ Some (n - 1)
shut mark.Brace s n e h = ap (λ u. open_after u n) e ∙ shut_by n h
shut mark.Paren s n e h = ap (λ u. open_after u n) e ∙ shut_by n h

-- ---- one token

module _ (m : Machine) (t : Tok) (b : Bool) where
  fit : (v : Move) → v ≡ rule_of m t → Fits v t.sym
  fit v e = let P : Move → Type 0 = λ u. Fits u t.sym in subst P (sym e) (fits m.want t.sym)

  module _ (r : Role) (f : Frame) (w : Want) (e : Push r f w ≡ rule_of m t) where
    pub pushes : (row : Row) (m' : Machine) → row ≡ marked r t → ltb (depth_of m) 16 ≡ true → m'.want ≡ w → m'.stack.items ≡ added m.stack.items 16 f → Goes m t b row m'
    pushes row m' g h v is =
        let u : m'.stack.items ≡ m.stack.items ++ f ∷ [] = is ∙ ap (λ c. cond c (m.stack.items ++ f ∷ []) m.stack.items) h in
        let top : reverse m'.stack.items ≡ f ∷ reverse m.stack.items = ap reverse u ∙ reverse_pushed m.stack.items f in
        let more : depth_of m' ≡ depth_of m + 1 = ap length u ∙ length-append m.stack.items (f ∷ []) in
        record {
          state = ap (λ u. moved u (view_of m).stack) (sym e) ∙ sym (ap Some (λ i. at (v i) (top i)));
          row = g ∙ ap (λ u. marked (given u (view_of m).stack b) t) e;
          depth = opened t.sym (depth_of m) (fit _ e).1 (ltb-true _ _ h) ∙ ap Some (sym more);
        }

  module _ (k : Mark) where
    pub pops : (r : Result Row Fault) (m' : Machine) → Pop k ≡ rule_of m t → MatchResult r (λ row. Pops m k t b row m') (λ f. (popped k (view_of m).stack ≡ None) × (f ≡ fault 6 t.place)) → MatchResult r (λ row. Goes m t b row m') (λ f. Stops m t f)
    pops r m' e c =
        MatchResult-weaker r c
        (λ row p. record {
          state = ap (λ u. moved u (view_of m).stack) (sym e) ∙ p.state;
          row = p.row ∙ ap (λ u. marked (given u (view_of m).stack b) t) e;
          depth = shut k t.sym (depth_of m) (fit _ e) p.before ∙ ap Some p.depth;
        })
        (λ f p. inl (ap (λ u. moved u (view_of m).stack) (sym e) ∙ p.0, p.1))

-- ---- the loop

abbrev pub join : List Row → Result (List Row) Fault → Result (List Row) Fault
join ts (Ok us) = Ok (ts ++ us)
join ts (Err f) = Err f

join_put : (rs : List Row) (r : Row) (q : Result (List Row) Fault) → join rs (put r q) ≡ join (rs ++ r ∷ []) q
join_put rs r (Ok us) = ap Ok (sym (append_assoc rs (r ∷ []) us))
join_put rs r (Err f) = refl

-- the rows are those of the first i tokens
pub record Sofar (end : ℕ) (toks : List Tok) (m : Machine) (rows : List Row) (i : ℕ) : Type 0 where
  pub count : Counted toks (depth_of m) i
  pub long : length rows ≡ i
  pub same : join rows (run end (drop i toks) (view_of m)) ≡ run end toks start

module _ {end : ℕ} {toks : List Tok} {m : Machine} {rows : List Row} {i : ℕ} (so : Sofar end toks m rows i) where
  module _ (lt : i < length toks) (t : Tok) (is_t : get_or toks i t ≡ t) where
    to : join rows (turn t (rule_of m t) (view_of m).stack (otherwise (drop (i + 1) toks)) (run end (drop (i + 1) toks))) ≡ run end toks start
    to = sym (ap (join rows) (at_drop_more (λ l. run end l (view_of m)) toks i t lt ∙ ap (λ u. run end (u ∷ drop (i + 1) toks) (view_of m)) is_t)) ∙ so.same

    pub stops : (f : Fault) → nesting toks ≡ None → Stops m t f → run end toks start ≡ Err f
    stops f n (inl p) = sym to ∙ ap (λ o. join rows (goes t (given (rule_of m t) (view_of m).stack (otherwise (drop (i + 1) toks))) o (run end (drop (i + 1) toks)))) p.0 ∙ ap Err (sym p.1)
    stops f n (inr p) = let e = counted_off so.count lt t is_t p in let z : ◌≡◌ {A = ℕ} 0 1 = cc in absurd (omega arith)

    pub sofar_more : (m' : Machine) (r : Row) (us : List Row) (n : ℕ) (b : Bool) → b ≡ otherwise (drop (i + 1) toks) → Goes m t b r m' → ltb (length rows) n ≡ true → us ≡ added rows n r → Sofar end toks m' us (i + 1)
    sofar_more m' r us n b o g h is =
        let u : us ≡ rows ++ r ∷ [] = is ∙ ap (λ c. cond c (rows ++ r ∷ []) rows) h in
        record {
          count = counted_on so.count lt t is_t (depth_of m') g.depth;
          long = ap length u ∙ length-append rows (r ∷ []) ∙ ap (λ k. k + 1) so.long;
          same = ap (λ l. join l (run end (drop (i + 1) toks) (view_of m'))) u ∙ sym (join_put rows r _) ∙ ap (λ x. join rows (put x (run end (drop (i + 1) toks) (view_of m')))) (g.row ∙ ap (λ x. marked (given (rule_of m t) (view_of m).stack x) t) o) ∙ sym (ap (λ o. join rows (goes t (given (rule_of m t) (view_of m).stack (otherwise (drop (i + 1) toks))) o (run end (drop (i + 1) toks)))) g.state) ∙ to;
        }

  at_end : length toks ≤ i → join rows (cond (is_end m.want) (Ok []) (Err (fault 6 end))) ≡ run end toks start
  at_end h = sym (ap (join rows) (at_drop_all (λ l. run end l (view_of m)) toks i h)) ∙ so.same

  pub ends : length toks ≤ i → is_end m.want ≡ true → run end toks start ≡ Ok rows
  ends h e = sym (at_end h) ∙ ap (λ b. join rows (cond b (Ok []) (Err (fault 6 end)))) e ∙ ap Ok (append-nil rows)

  pub short : length toks ≤ i → is_end m.want ≡ false → run end toks start ≡ Err (fault 6 end)
  short h e = sym (at_end h) ∙ ap (λ b. join rows (cond b (Ok []) (Err (fault 6 end)))) e
