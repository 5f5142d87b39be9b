-- What a contract sees of a list in an array. Assumes nothing.
use Rattle.std.specs.Prelude.{List, refl}
use Rattle.std.specs.Coded.{Coded, code_by, coded×, coded_list}

-- the entries, in order, and what lies in the unused room, of which no clause says anything
pub record Held (T : Type 0) : Type 0 where
  pub items : List T
  pub spare : List T

abbrev pub held_code : {T : Type 0} → Coded T → Coded (Held T)
held_code {T} code = code_by (List T × List T) (coded× (coded_list code) (coded_list code)) (λ h. (h.items, h.spare)) (λ p. record { items = p.0; spare = p.1 }) (λ _. refl)
