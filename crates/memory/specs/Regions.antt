-- What the rules come to for a region: however it is cut, once it is mended it is as if it had not begun.
use Rattle.std.specs.Prelude.{◌≡◌, ℕ, Bool, true, false, ◌&&◌, List, [], ◌∷◌}
use Rattle.memory.specs.Spent.{is_done}
use Rattle.memory.specs.Calls.{Call, Put, Open, Close, Mend}
use Rattle.memory.specs.Model.{Model, after}

-- a call with the units that it is told are left
pub record Event : Type 0 where
  pub call : Call
  pub units : ℕ

-- the state after some calls, one after the other
abbrev pub run : (m : Model) → m.State → List Event → m.State
run m w [] = w
run m w (e ∷ es) = run m (after m w e.call e.units) es

-- whether the call can end a region: a put does not, and an open is refused there
abbrev pub ending : Call → Bool
ending (Put i x) = false
ending Open = false
ending Close = true
ending Mend = true

-- none of the calls ends the region: each close and each mend among them is cut, or refused
abbrev pub GoesOn : (m : Model) → m.State → List Event → Type 0
GoesOn m w [] = Unit {0}
GoesOn m w (e ∷ es) = ((ending e.call && is_done (m.act w e.call e.units).answer) ≡ false) × GoesOn m (after m w e.call e.units) es

-- from the opened state w' on, calls that do not end the region and then a mend that is done lead back to what w means
abbrev pub BackTo : (m : Model) → m.State → m.State → Type 0
BackTo m w w' =
    (es : List Event) (u : ℕ) → GoesOn m w' es → is_done (m.act (run m w' es) Mend u).answer ≡ true → m.means (m.act (run m w' es) Mend u).after ≡ m.means w

-- so it is wherever a closed memory is opened
abbrev pub AsIfNotBegun : Model → Type 0
AsIfNotBegun m =
    (w : m.State) (u : ℕ) → m.fine w → (m.means w).is_open ≡ false → is_done (m.act w Open u).answer ≡ true → BackTo m w (m.act w Open u).after
