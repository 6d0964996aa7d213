-- The rows that have one place have one end.
use Rattle.std.proofs.Common.{◌≡◌, ◌+◌, length, sym, ◌∙◌, arith, rules}
use Rattle.tile_raster.proofs.Ends.{ends_more, ends_all}
use Rattle.tile_raster.proofs.picture_rows.ends_of.Goals as goal

pub loop-ends-preserved : goal.loop-ends-preserved
loop-ends-preserved c =
    let old = c.loop-ends.ends.items in
    let new = c.resize.new.self.items in
    let found = c.equal_places_at.ensures in
    let size = c.loop-ends.ends.ok.0 in
    let first : c.len-row.result ≡ length old = c.len-row.ensures ∙ size in
    let index = c.in_ok-resize.ensures.by_index in
    let many : length new ≡ c.len-row.result + c.equal_places_at.result = sym c.resize.new.self.ok.0 ∙ c.in_ok-resize.ensures.len in
    record {
      count = omega (arith, many, found.inside);
      each = λ y lt.
          ends_more c.args.places.now old new c.len-row.result c.equal_places_at.result first c.loop-ends.invariant.each found.inside found.equal
          (λ k low. index.0 k 0 (omega (arith, first, low)) (omega (arith, size, low)))
          (λ k low high. index.1 k 0 (search rules) (omega (arith, size, low)) high) y (omega (arith, many, lt));
    }

pub returns : goal.returns
returns c = ends_all c.args.places.now c.loop-ends.ends.items (omega (arith, c.loop-ends.invariant.count, c.loop-ends-test.false, c.loop-ends.ends.ok.0)) c.loop-ends.invariant.each
