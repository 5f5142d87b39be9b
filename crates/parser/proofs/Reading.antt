-- What is read is a script, and only one. Assumes nothing.
use Rattle.std.proofs.Common.{◌≡◌, ℕ, List, map, Ok, sym, ap, ◌∙◌}
use Rattle.script.specs.declared.row.Row.{Row}
use Rattle.script.specs.declared.token.Tok.{Tok}
use Rattle.script.specs.Syntax.{Script}
use Rattle.script.specs.Written.{token, rows, Writes}
use Rattle.script.specs.Decode.{decode}
use Rattle.parser.specs.Machine.{run, start}
use Rattle.parser.specs.Reading.{Read}
use Rattle.parser.proofs.Complete.{script_read}
use Rattle.parser.proofs.Decoded.{decoded}
use Rattle.parser.proofs.Kept.{kept}
use Rattle.parser.proofs.Sound.{ok_ok, script_of}

-- rows of a script are those of the script that they decode to
pub whole : (s : Script) (rs : List Row) → rs ≡ rows s → rs ≡ rows (decode rs)
whole s rs e = e ∙ ap rows (sym (ap decode e ∙ decoded s))

pub read : (end : ℕ) (ts : List Tok) (rs : List Row) → run end ts start ≡ Ok rs → Read ts rs
read end ts rs h = let s = script_of end ts rs h in (whole s.0 rs s.1, kept end ts start rs h)

-- tokens are those of one script at most
pub one_script : (ts : List Tok) (s s' : Script) → Writes ts s → Writes ts s' → s ≡ s'
one_script ts s s' p q =
    let e = ok_ok _ _ (sym (script_read 0 s) ∙ ap (λ l. run 0 l start) (sym p ∙ q) ∙ script_read 0 s') in
    sym (decoded s) ∙ ap decode e ∙ decoded s'

-- the tokens of a script are read, to its rows
pub script_only : (ts : List Tok) (rs : List Row) (s : Script) → Read ts rs → Writes ts s → decode rs ≡ s
script_only ts rs s r w = one_script ts (decode rs) s (r.1 ∙ ap (map token) r.0) w
