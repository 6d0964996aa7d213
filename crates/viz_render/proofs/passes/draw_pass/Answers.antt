-- The vector holds what was drawn into its bytes.
use Rattle.std.proofs.Common.{◌≡◌, ◌++◌, length, drop, take, arith, ap, refl}
use Rattle.std.proofs.lemmas.List.{take_at}
use Rattle.viz_render.specs.inner.Drawing.{SurfaceView}
use Rattle.viz_render.proofs.passes.draw_pass.Goals as goal

pub returns : goal.returns
returns c =
    let new = c.draw_over.new.bytes in
    let whole : take c.surface.inside.bytes.len (new ++ drop (length new) c.surface.inside.bytes.items) ≡ new =
    take_at new (drop (length new) c.surface.inside.bytes.items) c.surface.inside.bytes.len (omega arith) in
    rw whole (record { rect = refl; pixels = c.draw_over.ensures.pixels; size = omega (arith, ap length c.as_mut_slice.ensures.value, ap (λ (s : SurfaceView). length s.bytes) c.surface.view_is) })
