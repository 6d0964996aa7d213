-- The keys of the row are cut out by two searches.
use Rattle.std.proofs.Common.{nat_lt, nat_le, rules}
use Rattle.std.proofs.lemmas.List.Sorted.{IsPartitionPoint-from_clause, IsPartitionedBy-ltb, IsPartitionedBy-leb}
use Rattle.page_layers.proofs.KeyRows.{cut_twice, rest_rises}
use Rattle.page_layers.proofs.missing.in_row.Goals as goal

pub returns : goal.returns
returns c =
    let keys = c.args.keys.now in
    let rest = c.split_at.result.1.now in
    let first =
    IsPartitionPoint-from_clause (λ k. nat_lt k.y c.args.row) keys c.partition_point.result c.partition_point.ensures.partitioned
    (IsPartitionedBy-ltb (λ k. k.y) keys c.args.row c.requires) (λ a r q k. search rules) in
    let second =
    IsPartitionPoint-from_clause (λ k. nat_le k.y c.args.row) rest c.partition_point-2.result c.partition_point-2.ensures.partitioned
    (IsPartitionedBy-leb (λ k. k.y) rest c.args.row (rest_rises keys rest c.partition_point.result c.split_at.ensures.back c.requires)) (λ a r q k. search rules) in
    cut_twice c.args.row keys rest c.split_at-2.result.0.now c.partition_point.result c.partition_point-2.result c.split_at.ensures.back c.split_at-2.ensures.front
    first c.partition_point.ensures.bound second c.partition_point-2.ensures.bound
