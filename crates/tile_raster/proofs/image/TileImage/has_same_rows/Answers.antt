-- Pictures with equal rows or one colour show the same.
use Rattle.std.proofs.Common.{◌≡◌, Option, sym, subst}
use Rattle.pixel.specs.Colours.{Parts}
use Rattle.tile_raster.specs.Images.{Image, ShowAlike}
use Rattle.tile_raster.specs.inner.Bands.{IsSolid}
use Rattle.tile_raster.proofs.Alike.{kept_alike, solid_alike}
use Rattle.tile_raster.proofs.image.TileImage.has_same_rows.Goals as goal

pub returns-in-Some-Some : goal.returns-in-Some-Some
returns-in-Some-Some c = λ yes.
    let one = subst (λ (s : Option Parts). IsSolid c.self.inside.list.value c.self.inside.rect s) c.in-Some-Some.is-0 c.self.invariant.3 in
    let two = subst (λ (s : Option Parts). IsSolid c.other.inside.list.value c.other.inside.rect s) c.in-Some-Some.is-1 c.other.invariant.3 in
    let i : Image = record { key = c.self.inside.key; rect = c.self.inside.rect; list = c.self.inside.list.value } in
    let j : Image = record { key = c.other.inside.key; rect = c.other.inside.rect; list = c.other.inside.list.value } in
    let rect : i.rect ≡ j.rect =
    subst (λ (b : Image). i.rect ≡ b.rect) (sym c.other.view_is) (subst (λ (a : Image). a.rect ≡ c.args.other.now.rect) (sym c.self.view_is) c.requires) in
    let same = solid_alike i j c.in-Some-Some.colour c.in-Some-Some.second rect (c.is_same_colour.ensures.0 yes) one two in
    subst (λ (b : Image). ShowAlike c.args.self.now.rect c.args.self.now.list b.list) c.other.view_is
    (subst (λ (a : Image). ShowAlike a.rect a.list j.list) c.self.view_is same)

pub returns-in-None-None : goal.returns-in-None-None
returns-in-None-None c = λ yes.
    let i : Image = record { key = c.self.inside.key; rect = c.self.inside.rect; list = c.self.inside.list.value } in
    let j : Image = record { key = c.other.inside.key; rect = c.other.inside.rect; list = c.other.inside.list.value } in
    let rect : i.rect ≡ j.rect =
    subst (λ (b : Image). i.rect ≡ b.rect) (sym c.other.view_is) (subst (λ (a : Image). a.rect ≡ c.args.other.now.rect) (sym c.self.view_is) c.requires) in
    let same =
    kept_alike i j c.self.inside.rows.places.items c.other.inside.rows.places.items c.self.inside.rows.bytes.items c.other.inside.rows.bytes.items rect
    (c.are_same_rows.ensures.places yes) (c.are_same_rows.ensures.bytes yes) c.self.invariant.1 c.other.invariant.1 in
    subst (λ (b : Image). ShowAlike c.args.self.now.rect c.args.self.now.list b.list) c.other.view_is
    (subst (λ (a : Image). ShowAlike a.rect a.list j.list) c.self.view_is same)
