-- What the tests of both axes say together.
use Rattle.std.proofs.Common.{◌≡◌, ◌↔◌, ℕ, ℤ, pos, ◌+ℤ◌, ◌≤ℤ◌, Bool, ◌&&◌, true, arith}
use Rattle.std.specs.Prelude.{IsTrue}
use Rattle.std.proofs.lemmas.Int.{ints}
use Rattle.geom.specs.declared.rect.Rect.{Rect}
use Rattle.geom.specs.declared.rect.Point.{Point}
use Rattle.geom.proofs.Spans.{both, both_of}
use Rattle.tile_raster.specs.Images.{Image}
use Rattle.viz_scene.specs.Sound.{IsIn, IsTaken}
use Rattle.viz_scene.specs.inner.Tests.{is_span_in, is_part_of}

record IsSpanIn (at len side : ℤ) : Type 0 where
  start : pos 0 ≤ℤ at
  length : pos 0 ≤ℤ len
  end : (at +ℤ len) ≤ℤ side

span_in : (at len side : ℤ) → is_span_in at len side ≡ true → IsSpanIn at len side
unfolding is_span_in
span_in at len side h = record { start = grind (arith, ints); length = grind (arith, ints); end = grind (arith, ints) }

span_tested : (at len side : ℤ) → IsSpanIn at len side → is_span_in at len side ≡ true
unfolding is_span_in
span_tested at len side s = let a = s.start in let l = s.length in let e = s.end in grind (arith, ints)

record IsPartOf (from len whole : ℤ) : Type 0 where
  start : pos 0 ≤ℤ from
  end : (from +ℤ len) ≤ℤ whole

part_of : (from len whole : ℤ) → is_part_of from len whole ≡ true → IsPartOf from len whole
unfolding is_part_of
part_of from len whole h = record { start = grind (arith, ints); end = grind (arith, ints) }

part_tested : (from len whole : ℤ) → IsPartOf from len whole → is_part_of from len whole ≡ true
unfolding is_part_of
part_tested from len whole s = let a = s.start in let e = s.end in grind (arith, ints)

in_where_tested : (w h : ℕ) (at : Rect) → IsTrue (is_span_in at.x at.w (pos w) && is_span_in at.y at.h (pos h)) ↔ IsIn w h at
in_where_tested w h at = (
  λ t. let b = both _ _ t in let x = span_in at.x at.w (pos w) b.0 in let y = span_in at.y at.h (pos h) b.1 in
      record { left = x.start; top = y.start; width = x.length; height = y.length; right = x.end; bottom = y.end },
  λ i. both_of _ _ (span_tested at.x at.w (pos w) (record { start = i.left; length = i.width; end = i.right }))
      (span_tested at.y at.h (pos h) (record { start = i.top; length = i.height; end = i.bottom })),
)

taken_where_tested : (image : Image) (at : Rect) (from : Point)
    → IsTrue (is_part_of from.x at.w image.rect.w && is_part_of from.y at.h image.rect.h) ↔ IsTaken image at from
taken_where_tested image at from = (
  λ t. let b = both _ _ t in let x = part_of from.x at.w image.rect.w b.0 in let y = part_of from.y at.h image.rect.h b.1 in
      record { left = x.start; top = y.start; right = x.end; bottom = y.end },
  λ i. both_of _ _ (part_tested from.x at.w image.rect.w (record { start = i.left; end = i.right }))
      (part_tested from.y at.h image.rect.h (record { start = i.top; end = i.bottom })),
)

pub in_decided : (w h : ℕ) (at : Rect) (t : Bool) → t ≡ (is_span_in at.x at.w (pos w) && is_span_in at.y at.h (pos h)) → IsTrue t ↔ IsIn w h at
in_decided w h at t e = rw e (in_where_tested w h at)

pub taken_decided : (image : Image) (at : Rect) (from : Point) (t : Bool)
    → t ≡ (is_part_of from.x at.w image.rect.w && is_part_of from.y at.h image.rect.h) → IsTrue t ↔ IsTaken image at from
taken_decided image at from t e = rw e (taken_where_tested image at from)
