-- The tiles of the layer are cut out by two searches.
use Rattle.std.proofs.Common.{nat_lt, nat_le, rules}
use Rattle.std.proofs.lemmas.List.Sorted.{IsPartitionPoint-from_clause, IsPartitionedBy-ltb, IsPartitionedBy-leb}
use Rattle.viz_quads.proofs.ByLayer.{cut_twice, rest_rises}
use Rattle.viz_quads.proofs.layer_quads.tiles_on.Goals as goal

pub returns : goal.returns
returns c =
    let xs = c.args.shown.now in
    let rest = c.split_at.result.1.now in
    let first =
    IsPartitionPoint-from_clause (λ s. nat_lt s.key.layer c.args.id) xs c.partition_point.result c.partition_point.ensures.partitioned
    (IsPartitionedBy-ltb (λ s. s.key.layer) xs c.args.id c.requires) (λ a r q k. search rules) in
    let second =
    IsPartitionPoint-from_clause (λ s. nat_le s.key.layer c.args.id) rest c.partition_point-2.result c.partition_point-2.ensures.partitioned
    (IsPartitionedBy-leb (λ s. s.key.layer) rest c.args.id (rest_rises xs rest c.partition_point.result c.split_at.ensures.back c.requires)) (λ a r q k. search rules) in
    cut_twice c.args.id xs rest c.split_at-2.result.0.now c.partition_point.result c.partition_point-2.result c.split_at.ensures.back c.split_at-2.ensures.front
    first c.partition_point.ensures.bound second c.partition_point-2.ensures.bound
