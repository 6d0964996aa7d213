-- One row that is kept for all needs no places.
use Rattle.std.proofs.Common.{ℕ, List, sym, subst, arith}
use Rattle.std.specs.Prelude.{⊤}
use Rattle.tile_raster.specs.inner.Bands.{IsCount, AreKept}
use Rattle.tile_raster.proofs.KeptRows.{one_for_all}
use Rattle.tile_raster.proofs.picture_rows.with_ends.Goals as goal

pub returns-then-kept_count-le1-clause-kept : goal.returns-then-kept_count-le1-clause-kept
returns-then-kept_count-le1-clause-kept c =
    let places : List ℕ = c.args.places.items in
    let last : IsCount places c.kept_count.result = subst (λ (ps : List ℕ). IsCount ps c.kept_count.result) c.deref.ensures.value c.kept_count.ensures.last in
    subst (λ (ps : List ℕ). AreKept c.args._list.now c.args.rect ps c.args.bytes.items) (sym c.new.ensures.items)
    (one_for_all (λ y. ⊤) c.args._list.now c.args.rect places c.args.bytes.items c.kept_count.result c.requires.steps last (omega (arith, c.if-kept_count-le1.true)) c.requires.kept)
