use Rattle.std.proofs.Common.{◌≡◌, Bor, Option, Some, None, refl, ap, ◌∙◌, rules}
use borrow.Author.Tests.{tests}
use Rattle.std.specs.Option.{option_map}
use Rattle.std.proofs.lemmas.Iterator.{YieldsList-from_slice}
use Rattle.std.proofs.lemmas.Iterator.Search.{find_from_yields_List}
use Rattle.script.specs.declared.row.Row.{Row}
use Rattle.reader.proofs.Listing.{first_place}
use Rattle.reader.proofs.names.ask.first_place.Goals as goal

place : (o : Option (Bor Row)) → option_map (λ (b : Bor Row). b.now.place) o ≡ option_map (λ (r : Row). r.place) (option_map (λ (b : Bor Row). b.now) o)
place None = refl
place (Some b) = refl

pub returns : goal.returns
returns g c = λ p is.
    let e = find_from_yields_List p _ _ c.find.result c.find.ensures.ran (YieldsList-from_slice c.args.rows.now cc) (λ x b q k. (search (rules, tests), is x.now b (search (rules, tests)))) in
    let m : c.map.result ≡ option_map (λ (b : Bor Row). b.now.place) c.find.result = search rules in
    m ∙ place c.find.result ∙ ap (option_map (λ (r : Row). r.place)) e ∙ first_place p c.args.rows.now
