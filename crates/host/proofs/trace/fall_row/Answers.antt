use Rattle.std.proofs.Common.{◌≡◌, ◌+◌, ap, ◌∙◌, rules}
use Rattle.std.specs.Option.{option_map}
use Rattle.host.proofs.Samples.{falls}
use Rattle.host.proofs.trace.fall_row.Goals as goal

pub returns : goal.returns
returns c =
    let mapped : c.map.result ≡ option_map (λ k. k + 1) c.peak_row.result = search rules in
    mapped ∙ ap (option_map (λ k. k + 1)) c.peak_row.ensures.found ∙ falls c.args.rows.now
