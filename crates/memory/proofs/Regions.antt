-- Every lawful memory keeps a region that is cut and mended from having begun.
use Rattle.std.proofs.Common.{◌≡◌, ℕ, Bool, true, false, cond, not, ◌&&◌, List, [], ◌∷◌, ℤ, sym, refl, ap, ◌∙◌}
use Rattle.memory.specs.Meaning.{Meaning, after_put}
use Rattle.memory.specs.Spent.{is_done}
use Rattle.memory.specs.Calls.{Call, Put, Open, Close, Mend, can}
use Rattle.memory.specs.Model.{Model, Lawful, after}
use Rattle.memory.specs.Regions.{Event, run, ending, GoesOn, AsIfNotBegun}
use Rattle.memory.proofs.Plans.{meaning_eq, no_way}

module _ (m : Model) (law : Lawful m) where
  -- a fine state of an open memory that keeps these cells
  pub record Holds (kept : List ℤ) (w : m.State) : Type 0 where
    pub fine : m.fine w
    pub keeps : (m.means w).kept ≡ kept
    pub up : (m.means w).is_open ≡ true

  module _ (kept : List ℤ) (w : m.State) (h : Holds kept w) where
    -- a call that is taken and does not end the region
    cut : (a : Call) (u : ℕ) → can (m.means w) a ≡ true → is_done (m.act w a u).answer ≡ false → Holds kept (m.act w a u).after
    cut a u c d =
        let r = law.rules w a u h.fine c in
        record { fine = law.stays_fine w a u h.fine c; keeps = r.keeps d ∙ h.keeps; up = r.stays d ∙ h.up }

    put_done : (i : ℕ) (x : ℤ) (u : ℕ) → can (m.means w) (Put i x) ≡ true → is_done (m.act w (Put i x) u).answer ≡ true → Holds kept (m.act w (Put i x) u).after
    put_done i x u c d =
        let e = (law.rules w (Put i x) u h.fine c).effect d in
        record {
          fine = law.stays_fine w (Put i x) u h.fine c;
          keeps = ap (λ (v : Meaning). v.kept) e ∙ ap (λ (b : Bool). cond b (m.means w).kept (after_put (m.means w) i x).current) h.up ∙ h.keeps;
          up = ap (λ (v : Meaning). v.is_open) e ∙ h.up;
        }

    taken : (a : Call) (u : ℕ) → can (m.means w) a ≡ true → (ending a && is_done (m.act w a u).answer) ≡ false → Holds kept (m.act w a u).after
    taken (Put i x) u c g = by (is_done (m.act w (Put i x) u).answer) refl
      where
        by : (b : Bool) → is_done (m.act w (Put i x) u).answer ≡ b → Holds kept (m.act w (Put i x) u).after
        by true d = put_done i x u c d
        by false d = cut (Put i x) u c d
    taken Open u c g = no_way (sym c ∙ ap not h.up)
    taken Close u c g = cut Close u c g
    taken Mend u c g = cut Mend u c g

    one : (e : Event) → (ending e.call && is_done (m.act w e.call e.units).answer) ≡ false → Holds kept (after m w e.call e.units)
    one e g = by (can (m.means w) e.call) refl
      where
        by : (b : Bool) → can (m.means w) e.call ≡ b → Holds kept (cond b (m.act w e.call e.units).after w)
        by true c = taken e.call e.units c g
        by false c = h

  all : (kept : List ℤ) (w : m.State) (es : List Event) → Holds kept w → GoesOn m w es → Holds kept (run m w es)
  all kept w [] h g = h
  all kept w (e ∷ es) h g = all kept (after m w e.call e.units) es (one kept w h e g.0) g.1

  mended : (kept : List ℤ) (w : m.State) (u : ℕ) → Holds kept w → is_done (m.act w Mend u).answer ≡ true → m.means (m.act w Mend u).after ≡ record { kept = kept; current = kept; is_open = false }
  mended kept w u h d = (law.rules w Mend u h.fine refl).effect d ∙ meaning_eq h.keeps h.keeps refl

  pub as_if_not_begun : AsIfNotBegun m
  as_if_not_begun w u fine shut d es v g done =
      let c : can (m.means w) Open ≡ true = ap not shut in
      let w' = (m.act w Open u).after in
      let e = (law.rules w Open u fine c).effect d in
      let h : Holds (m.means w).kept w' = record { fine = law.stays_fine w Open u fine c; keeps = ap (λ (x : Meaning). x.kept) e; up = ap (λ (x : Meaning). x.is_open) e } in
      mended (m.means w).kept (run m w' es) v (all (m.means w).kept w' es h g) done
      ∙ meaning_eq refl ((law.sound w fine).same shut) (sym shut)
