use Rattle.std.proofs.Common.{◌≡◌, ◌||◌, set, sym, ap, ◌∙◌}
use Rattle.std.proofs.lemmas.List.{map-set}
use Rattle.checker.specs.Machine.{exceeds}
use Rattle.checker.specs.States.{state_of, tables}
use Rattle.checker.proofs.Stacks.{risen}
use Rattle.checker.proofs.types.Check.rise.Goals as goal
use Rattle.checker.proofs.types.Check.rise.Goals.{then-self, else-self}

pub returns-clause-moves : goal.returns-clause-moves
returns-clause-moves c = λ all.
    let x = exceeds c.entry-entry.result.of c.args.self.now.table.of in
    let rose : c.if-self.self ≡ (c.args.self.now.rose || x) = elim c.if-self.branch [
      | then-self w ↦ w.self-is ∙ w.if-self.true ∙ ap (λ b. b || x) (sym w.if-self.true)
      | else-self w ↦ w.self-is ∙ w.is_exceeded-self.ensures ∙ ap (λ b. b || x) (sym w.if-self.false)
    ] in
    risen (state_of all c.args.self.now) c.args.repeat c.entry-entry.result.of _ _ c.entry-entry.ensures rose
    (ap tables c.set_at.ensures ∙ map-set _ c.args.self.now.entries c.args.repeat _ ∙ ap (set (tables c.args.self.now.entries) c.args.repeat) c.join.ensures)
