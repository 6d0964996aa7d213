-- The rows that share a place are equal.
use Rattle.std.proofs.Common.{◌<◌, ◌+◌, sym, subst, arith}
use Rattle.page_display_list.specs.Bitmaps.{near}
use Rattle.tile_raster.specs.Images.{Image}
use Rattle.tile_raster.specs.Images.{AreSameRows}
use Rattle.tile_raster.proofs.KeptRows.{kept_agree}
use Rattle.tile_raster.proofs.image.TileImage.same.Goals as goal

pub returns-clause-equal : goal.returns-clause-equal
returns-clause-equal c = λ k lt.
    let below : c.args.y < near c.self.inside.rect.h = subst (λ (i : Image). c.args.y < near i.rect.h) (sym c.self.view_is) c.requires in
    let kept = c.self.invariant.1 in
    let stop = c.end_of.ensures in
    let inside = stop.inside in
    let agree =
    kept_agree c.self.inside.list.value c.self.inside.rect c.self.inside.rows.places.items c.self.inside.rows.bytes.items c.args.y (c.args.y + k) kept below
    (omega arith) (stop.equal (c.args.y + k) (omega arith) (omega arith)) in
    subst (λ (i : Image). AreSameRows i.list i.rect c.args.y (c.args.y + k)) c.self.view_is agree
