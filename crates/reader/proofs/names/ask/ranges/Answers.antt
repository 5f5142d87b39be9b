use Rattle.std.proofs.Common.{ap, ◌∙◌, rules}
use Rattle.script.specs.Faults.{answer}
use Rattle.script.specs.Names.{out_of_range}
use Rattle.reader.proofs.names.ask.ranges.Goals as goal

pub returns : goal.returns
returns c = c.answer.ensures ∙ ap (answer 11) (c.first_place.ensures out_of_range (λ r b e. search rules))
