use Rattle.std.proofs.Common.{ap, ◌∙◌, rules}
use Rattle.script.specs.Faults.{answer}
use Rattle.script.specs.Names.{undeclared}
use Rattle.reader.proofs.names.table.Names.declared.Goals as goal

pub returns : goal.returns
returns c = c.answer.ensures ∙ ap (answer 9) (c.first_place.ensures (undeclared c.args.self.now.text.now c.args.self.now.list.items) (λ r b e. search rules))
