use Rattle.std.proofs.Common.{◌+◌, ◌*◌, min, ap, ◌∙◌}
use Rattle.reader.proofs.Caps.{cap_product}
use Rattle.reader.proofs.count.Total.multiply.Goals as goal

pub returns : goal.returns
returns c =
    let n = c.args.n in
    let a = c.args.self.steps in
    let turn = c.add.ensures ∙ ap (λ x. min (x + a) 1000001) c.new.ensures in
    let steps = c.mul.ensures ∙ ap (λ x. min (n * x) 1000001) turn ∙ cap_product n (1 + a) 1000001 in
    let readings = c.mul-2.ensures in
    λ i. record { steps = steps i; readings = readings i }
