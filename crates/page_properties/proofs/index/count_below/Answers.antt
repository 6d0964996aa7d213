use Rattle.std.proofs.Common.{arith, rules}
use Rattle.std.specs.Prelude.{nat_lt}
use Rattle.std.proofs.lemmas.List.Sorted.{IsPartitionPoint-from_clause}
use Rattle.page_properties.proofs.Indexes.{smaller_first, point_is_front}
use Rattle.page_properties.proofs.index.count_below.Goals as goal

pub returns-clause-value : goal.returns-clause-value
returns-clause-value c =
    point_is_front c.args.id c.args.entries.now c.partition_point.result
    (IsPartitionPoint-from_clause (λ s. nat_lt s.id c.args.id) c.args.entries.now c.partition_point.result c.partition_point.ensures.partitioned (smaller_first c.args.id c.args.entries.now c.requires) (λ a r q k. search rules))
    (omega (arith, c.partition_point.ensures.bound))
