use Rattle.std.proofs.Common.{leb, rules}
use Rattle.std.proofs.lemmas.List.Sorted.{IsPartitionPoint-from_clause, IsPartitionedBy-leb}
use Rattle.host.specs.declared.table.Sample.{Sample}
use Rattle.host.proofs.Samples.{split}
use Rattle.host.proofs.trace.Trace.upto.Goals as goal

pub returns : goal.returns
returns c =
    let parted = IsPartitionedBy-leb (λ (s : Sample). s.tick) c.args.self.now.samples.items c.args.tick c.args.self.now.ordered in
    let point = IsPartitionPoint-from_clause (λ (s : Sample). leb s.tick c.args.tick) c.as_slice-samples.result.now _ c.partition_point.ensures.partitioned (rw c.as_slice-samples.ensures.value parted) (λ a r q k. search rules) in
    rw (← c.as_slice-samples.ensures.value) (split c.args.tick c.as_slice-samples.result.now c.partition_point.result c.partition_point.ensures.bound point)
