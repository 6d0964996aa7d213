-- Bins, ranks and their order.
use Rattle.std.specs.Prelude.{ℕ, Option, Some, None}
use Rattle.std.specs.declared.cmp.Ordering.{Ordering}
use Rattle.std.specs.Ordering.{nat_cmp, on, then_cmp, match_ordering}
use Rattle.geom.specs.KeyOrder.{key_cmp}
use Rattle.tile_priority.specs.declared.rank.Bin.{Bin}
use Rattle.tile_priority.specs.declared.rank.Bin.TheVariants as bin
use Rattle.tile_priority.specs.declared.rank.Rank.{Rank}

-- the order of the bins: what is visible now, what is needed soon, what is needed eventually
abbrev pub bin_number : Bin → ℕ
bin_number bin.Now = 0
bin_number bin.Soon = 1
bin_number bin.Eventually = 2

abbrev pub bin_cmp : Bin → Bin → Ordering
bin_cmp = on bin_number nat_cmp

-- ranks compare by bin, then tree, then distance, then key
abbrev pub rank_cmp : Rank → Rank → Ordering
rank_cmp = then_cmp (on (λ r. r.bin) bin_cmp) (then_cmp (on (λ r. r.tree) nat_cmp) (then_cmp (on (λ r. r.distance) nat_cmp) (on (λ r. r.key) key_cmp)))

-- the better of two ranks, either of which may be missing
abbrev pub least : Option Rank → Option Rank → Option Rank
least (Some a) (Some b) = match_ordering (rank_cmp b a) (Some b) (Some a) (Some a)
least (Some a) None = Some a
least None b = b
