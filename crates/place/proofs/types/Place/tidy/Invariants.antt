use Rattle.std.proofs.Common.{◌≡◌, ◌-◌}
use Rattle.place.specs.Places.{spot_of, left, tidied}
use Rattle.place.proofs.types.Place.tidy.Given as goal

abbrev pub invariant-loop : goal.invariant-loop
invariant-loop l = tidied (16 - l.counter) l.rows (left (spot_of l.self) l.oldest.of) ≡ tidied 16 l.rows (left (spot_of l.initial.self) l.initial.oldest.of)
