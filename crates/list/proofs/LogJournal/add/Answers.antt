use Rattle.std.proofs.Common.{refl, length-set, rules}
use Rattle.std.proofs.lemmas.List.{take_more_set, length-take-le, take_all}
use Rattle.list.proofs.LogJournal.add.Goals as goal

pub returns : goal.returns
returns g c = record { said = search (rules, length-take-le); list = search (rules, take_more_set, length-take-le); kept = search (rules, length-set) }

pub returns-then-self : goal.returns-then-self
returns-then-self g c = record { said = search (rules, take_all); list = search (rules, take_all); kept = refl }
