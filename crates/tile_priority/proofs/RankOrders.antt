-- Keys, ranks and evictable tiles are totally ordered.
use Rattle.std.proofs.Common.{◌≡◌, inl, inr, Option, Some, None, List, [], ◌∷◌, refl, sym, ◌∙◌, ap}
use Rattle.std.specs.declared.cmp.Ordering.{Ordering}
use Rattle.std.specs.Ordering.{ordering_reverse, nat_cmp, match_ordering}
use Rattle.std.specs.declared.cmp.Ordering.TheVariants.{Less, Equal, Greater}
use Rattle.std.specs.Cmp.{IsTotalOrder, then_total, on_total}
use Rattle.std.specs.FinSet.{nat_cmp-IsAntisymmetric}
use Rattle.std.proofs.lemmas.Cmp.{nat_cmp_total}
use Rattle.geom.specs.KeyOrder.{key_cmp}
use Rattle.geom.proofs.KeyOrders.{ties_both, key_total, key_ties}
use Rattle.tile_priority.specs.declared.rank.Bin.{Bin}
use Rattle.tile_priority.specs.declared.rank.Bin.TheVariants as bin
use Rattle.tile_priority.specs.declared.rank.Rank.{Rank}
use Rattle.tile_priority.specs.Ranks.{bin_number, bin_cmp, rank_cmp, least}
use Rattle.tile_priority.specs.Choice.{Evictable, unranked, ranked, worst_cmp, least_of}
use Rattle.tile_priority.specs.Ordered.{In, IsLeast}
use Rattle.tile_priority.specs.Laws.{IsOrder}
use Rattle.tile_priority.proofs.InOrder.{not_both, not_itself, flips}

pub key_order : IsOrder key_cmp
key_order = record { total = key_total; ties_are_equal = key_ties }

bin_ties : (a b : Bin) → bin_cmp a b ≡ Equal → a ≡ b
bin_ties bin.Now bin.Now h = refl
bin_ties bin.Now bin.Soon h = cc
bin_ties bin.Now bin.Eventually h = cc
bin_ties bin.Soon bin.Now h = cc
bin_ties bin.Soon bin.Soon h = refl
bin_ties bin.Soon bin.Eventually h = cc
bin_ties bin.Eventually bin.Now h = cc
bin_ties bin.Eventually bin.Soon h = cc
bin_ties bin.Eventually bin.Eventually h = refl

rank_total : IsTotalOrder rank_cmp
rank_total = then_total (on_total (λ r. r.bin) (on_total bin_number nat_cmp_total)) (then_total (on_total (λ r. r.tree) nat_cmp_total) (then_total (on_total (λ r. r.distance) nat_cmp_total) (on_total (λ r. r.key) key_total)))

rank_ties : (r s : Rank) → rank_cmp r s ≡ Equal → r ≡ s
rank_ties r s h =
    let a = ties_both (bin_cmp r.bin s.bin) _ h in
    let b = ties_both (nat_cmp r.tree s.tree) _ a.1 in
    let c = ties_both (nat_cmp r.distance s.distance) _ b.1 in
    let b' : r.bin ≡ s.bin = bin_ties r.bin s.bin a.0 in
    let tree : r.tree ≡ s.tree = nat_cmp-IsAntisymmetric r.tree s.tree b.0 in
    let distance : r.distance ≡ s.distance = nat_cmp-IsAntisymmetric r.distance s.distance c.0 in
    let key : r.key ≡ s.key = key_ties r.key s.key c.1 in
    λ i. record { bin = b' i; tree = tree i; distance = distance i; key = key i }

pub rank_order : IsOrder rank_cmp
rank_order = record { total = rank_total; ties_are_equal = rank_ties }

worst_ties : (u v : Evictable) → worst_cmp u v ≡ Equal → u ≡ v
worst_ties (unranked k) (unranked l) h = ap unranked (sym (key_ties l k h))
worst_ties (unranked k) (ranked s) h = cc
worst_ties (ranked r) (unranked l) h = cc
worst_ties (ranked r) (ranked s) h = ap ranked (sym (rank_ties s r h))

worst_antisymm : (u v : Evictable) → worst_cmp u v ≡ ordering_reverse (worst_cmp v u)
worst_antisymm (unranked k) (unranked l) = key_total.antisymm l k
worst_antisymm (unranked k) (ranked s) = refl
worst_antisymm (ranked r) (unranked l) = refl
worst_antisymm (ranked r) (ranked s) = rank_total.antisymm s r

worst_trans : (u v w : Evictable) → worst_cmp u v ≡ Less → worst_cmp v w ≡ Less → worst_cmp u w ≡ Less
worst_trans (unranked k) (unranked l) (unranked m) g h = key_total.trans m l k h g
worst_trans (unranked k) (unranked l) (ranked s) g h = refl
worst_trans (unranked k) (ranked r) (unranked m) g h = cc
worst_trans (unranked k) (ranked r) (ranked s) g h = refl
worst_trans (ranked q) (unranked l) w g h = cc
worst_trans (ranked q) (ranked r) (unranked m) g h = cc
worst_trans (ranked q) (ranked r) (ranked s) g h = rank_total.trans s r q h g

pub worst_order : IsOrder worst_cmp
worst_order = record {
  total = record { antisymm = worst_antisymm; trans = worst_trans; congr = λ u v w h. ap (λ t. worst_cmp t w) (worst_ties u v h) };
  ties_are_equal = worst_ties;
}

-- the least of a list of ranks is its least element, and is missing only where there is none
abbrev pub IsLeastOf : List Rank → Option Rank → Type 0
IsLeastOf rs None = (r : Rank) → In r rs → ⊥
IsLeastOf rs (Some r) = IsLeast rank_cmp r rs

least_some : (r s : Rank) (rs : List Rank) (t : Ordering) → rank_cmp s r ≡ t → IsLeast rank_cmp s rs
    → IsLeastOf (r ∷ rs) (match_ordering t (Some s) (Some r) (Some r))
least_some r s rs Less h l = record {
  one = inr l.one;
  none_before = λ y i k. elim i [
    | inl e ↦ not_both rank_cmp rank_order r s (ap (λ z. rank_cmp z s) (sym e) ∙ k) h
    | inr j ↦ l.none_before y j k
  ];
}
least_some r s rs Equal h l =
    let e : s ≡ r = rank_ties s r h in
    record {
      one = inl refl;
      none_before = λ y i k. elim i [
        | inl d ↦ not_itself rank_cmp rank_order r (ap (λ z. rank_cmp z r) (sym d) ∙ k)
        | inr j ↦ l.none_before y j (ap (rank_cmp y) e ∙ k)
      ];
    }
least_some r s rs Greater h l = record {
  one = inl refl;
  none_before = λ y i k. elim i [
    | inl d ↦ not_itself rank_cmp rank_order r (ap (λ z. rank_cmp z r) (sym d) ∙ k)
    | inr j ↦ l.none_before y j (rank_total.trans y r s k (flips rank_cmp rank_order s r h))
  ];
}

least_step : (r : Rank) (rs : List Rank) (o : Option Rank) → IsLeastOf rs o → IsLeastOf (r ∷ rs) (least (Some r) o)
least_step r rs None f = record {
  one = inl refl;
  none_before = λ y i k. elim i [
    | inl d ↦ not_itself rank_cmp rank_order r (ap (λ z. rank_cmp z r) (sym d) ∙ k)
    | inr j ↦ f y j
  ];
}
least_step r rs (Some s) l = least_some r s rs (rank_cmp s r) refl l

pub least_of_is : (rs : List Rank) → IsLeastOf rs (least_of rs)
least_of_is [] = λ r i. i
least_of_is (r ∷ rs) = least_step r rs (least_of rs) (least_of_is rs)
