-- Keys are totally ordered, and keys that tie are equal.
use Rattle.std.proofs.Common.{◌≡◌, refl}
use Rattle.std.specs.declared.cmp.Ordering.{Ordering}
use Rattle.std.specs.declared.cmp.Ordering.TheVariants.{Less, Equal, Greater}
use Rattle.std.specs.Ordering.{ordering_then, nat_cmp}
use Rattle.std.specs.Cmp.{IsTotalOrder, then_total, on_total}
use Rattle.std.specs.FinSet.{nat_cmp-IsAntisymmetric}
use Rattle.std.proofs.lemmas.Cmp.{nat_cmp_total}
use Rattle.geom.specs.declared.tile.TileKey.{TileKey}
use Rattle.geom.specs.KeyOrder.{key_cmp}

-- a chain of comparisons ties where both do
pub ties_both : (a b : Ordering) → ordering_then a b ≡ Equal → (a ≡ Equal) × (b ≡ Equal)
ties_both Less b h = cc
ties_both Equal b h = (refl, h)
ties_both Greater b h = cc

pub key_total : IsTotalOrder key_cmp
key_total = then_total (on_total (λ k. k.layer) nat_cmp_total) (then_total (on_total (λ k. k.y) nat_cmp_total) (then_total (on_total (λ k. k.x) nat_cmp_total) (on_total (λ k. k.stamp) nat_cmp_total)))

pub key_ties : (k l : TileKey) → key_cmp k l ≡ Equal → k ≡ l
key_ties k l h =
    let a = ties_both (nat_cmp k.layer l.layer) _ h in
    let b = ties_both (nat_cmp k.y l.y) _ a.1 in
    let c = ties_both (nat_cmp k.x l.x) _ b.1 in
    let layer : k.layer ≡ l.layer = nat_cmp-IsAntisymmetric k.layer l.layer a.0 in
    let y : k.y ≡ l.y = nat_cmp-IsAntisymmetric k.y l.y b.0 in
    let x : k.x ≡ l.x = nat_cmp-IsAntisymmetric k.x l.x c.0 in
    let stamp : k.stamp ≡ l.stamp = nat_cmp-IsAntisymmetric k.stamp l.stamp c.1 in
    λ i. record { layer = layer i; x = x i; y = y i; stamp = stamp i }
