-- Each row has its token. Assumes nothing.
use Rattle.std.proofs.Common.{◌≡◌, ℕ, Bool, true, false, cond, List, [], ◌∷◌, map, Ok, Err, sym as sym', ap, ◌∙◌, ap₂}
use Rattle.script.specs.declared.fault.Fault.{Fault}
use Rattle.script.specs.declared.row.Role.{Role}
use Rattle.script.specs.declared.row.Role.TheVariants as role
use Rattle.script.specs.declared.row.Row.{Row}
use Rattle.script.specs.declared.token.Sym.TheVariants as sym
use Rattle.script.specs.declared.token.Tok.{Tok}
use Rattle.script.specs.Written.{sym_of, token}
use Rattle.parser.specs.declared.machine.Frame.{Frame}
use Rattle.parser.specs.declared.machine.Frame.TheVariants as frame
use Rattle.parser.specs.declared.machine.Mark.TheVariants as mark
use Rattle.parser.specs.declared.machine.Move.{Move}
use Rattle.parser.specs.declared.machine.Move.TheVariants.{Stay, Push, Pop, Refuse}
use Rattle.parser.specs.declared.machine.Want.TheVariants as want
use Rattle.parser.specs.Machine.{State, at, run, turn, put, marked, otherwise, rule, is_end}
use Rattle.parser.proofs.Sound.{Res, err_ok, ok_ok, put_ok}
use Rattle.parser.proofs.Table.{Fits, fits}

-- a turn that goes on writes its token's row
abbrev Wrote : Tok → (State → Res) → List Row → Type 0
Wrote t k rs = (r : Role) × (s : State) × (us : List Row) × (sym_of r ≡ t.sym) × (k s ≡ Ok us) × (rs ≡ marked r t ∷ us)

module _ (t : Tok) (k : State → Res) (rs : List Row) where
  wrote : (r : Role) (s : State) → sym_of r ≡ t.sym → put (marked r t) (k s) ≡ Ok rs → Wrote t k rs
  wrote r s e h = let a = put_ok (marked r t) (k s) rs h in (r, s, a.0, e, a.1, a.2)

  wrote_close : (fs : List Frame) (b : Bool) → t.sym ≡ sym.BraceClose → turn t (Pop mark.Brace) fs b k ≡ Ok rs → Wrote t k rs
  wrote_close [] b e h = err_ok _ rs h
  wrote_close (frame.Main ∷ fs) b e h = wrote role.MainClose (at want.End fs) (sym' e) h
  wrote_close (frame.Then ∷ fs) true e h = wrote role.ThenClose (at want.Over fs) (sym' e) h
  wrote_close (frame.Then ∷ fs) false e h = wrote role.WhenClose (at want.Over fs) (sym' e) h
  wrote_close (frame.Other ∷ fs) b e h = wrote role.ElseClose (at want.Stmt fs) (sym' e) h
  wrote_close (frame.Body ∷ fs) b e h = wrote role.BodyClose (at want.Stmt fs) (sym' e) h
  wrote_close (frame.Region ∷ fs) b e h = wrote role.RegionClose (at want.Stmt fs) (sym' e) h
  wrote_close (frame.Paren x c ∷ fs) b e h = err_ok _ rs h

  wrote_paren : (fs : List Frame) (b : Bool) → t.sym ≡ sym.ParenClose → turn t (Pop mark.Paren) fs b k ≡ Ok rs → Wrote t k rs
  wrote_paren [] b e h = err_ok _ rs h
  wrote_paren (frame.Main ∷ fs) b e h = err_ok _ rs h
  wrote_paren (frame.Then ∷ fs) b e h = err_ok _ rs h
  wrote_paren (frame.Other ∷ fs) b e h = err_ok _ rs h
  wrote_paren (frame.Body ∷ fs) b e h = err_ok _ rs h
  wrote_paren (frame.Region ∷ fs) b e h = err_ok _ rs h
  wrote_paren (frame.Paren x c ∷ fs) b e h = wrote role.ParenClose (at (want.More x c) fs) (sym' e) h

  turned : (m : Move) (fs : List Frame) (b : Bool) → Fits m t.sym → turn t m fs b k ≡ Ok rs → Wrote t k rs
  turned (Stay r w) fs b e h = wrote r (at w fs) e.0 h
  turned (Push r f w) fs b e h = wrote r (at w (f ∷ fs)) e.0 h
  turned (Pop mark.Brace) fs b e h = wrote_close fs b e h
  turned (Pop mark.Paren) fs b e h = wrote_paren fs b e h
  turned Refuse fs b e h = err_ok _ rs h

nothing : (b : Bool) (f : Fault) (rs : List Row) → cond b (Ok []) (Err f) ≡ Ok rs → [] ≡ map token rs
nothing true f rs h = ap (map token) (ok_ok [] rs h)
nothing false f rs h = err_ok f rs h

pub kept : (end : ℕ) (ts : List Tok) (s : State) (rs : List Row) → run end ts s ≡ Ok rs → ts ≡ map token rs
kept end [] s rs h = nothing (is_end s.want) _ rs h
kept end (t ∷ ts) s rs h = by (turned t (run end ts) rs (rule s.want t.sym) s.stack (otherwise ts) (fits s.want t.sym) h) (kept end ts)
  where
    by : Wrote t (run end ts) rs → ((s' : State) (us : List Row) → run end ts s' ≡ Ok us → ts ≡ map token us) → t ∷ ts ≡ map token rs
    by w ih =
        let tok : t ≡ token (marked w.0 t) = λ i. record { sym = sym' w.3 i; place = t.place; len = t.len; value = t.value } in
        ap₂ ◌∷◌ tok (ih w.1 w.2 w.4) ∙ ap (map token) (sym' w.5)
