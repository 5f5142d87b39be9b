use Rattle.std.proofs.Common.{ap, ◌∙◌, arith}
use Rattle.place.specs.Places.{Spot, spot, popped}
use Rattle.place.proofs.Framed.{popped_depth}
use Rattle.place.proofs.types.Place.leave.Goals as goal

pub returns-then-self-gt0 : goal.returns-then-self-gt0
returns-then-self-gt0 c =
    let s = c.go.new.self in
    ap (spot s.row) (popped_depth s.depth s.frames (omega (arith, s.deep, s.long)) (omega (arith, c.if-self-gt0.true)))
    ∙ ap (λ (s : Spot). spot s.row (popped s.frames)) c.go.ensures
