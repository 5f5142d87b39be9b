use Rattle.std.proofs.Common.{◌≡◌, ◌∙◌, rules}
use Rattle.std.specs.Option.{option_copied, option_map_or}
use Rattle.host.specs.declared.table.Sample.{Sample}
use Rattle.host.specs.Traces.{before_first}
use Rattle.host.proofs.Samples.{looked_up}
use Rattle.host.proofs.trace.Trace.last.Goals as goal

pub returns : goal.returns
returns c =
    let mapped : c.map_or.result ≡ option_map_or (λ (s : Sample). s.value) (option_copied c.latest.result) before_first = search rules in
    let found = looked_up c.args.channel c.args.tick c.args.self.now.samples.items c.upto.result.now (option_copied c.latest.result) c.upto.ensures c.latest.ensures in
    search (rules, mapped ∙ found)
