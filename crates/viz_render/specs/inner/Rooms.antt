-- The room that surfaces have.
use Rattle.std.specs.Prelude.{ℕ, ◌+◌, ◌*◌, ◌≤◌, ◌≡◌, length}
use Rattle.viz_render.specs.declared.pass_surfaces.PassSurfaces.{PassSurfaces}
use Rattle.viz_render.specs.inner.Drawing.{AreRoomy}

-- the given number of passes have a surface each, and each surface has at least the given number of bytes
pub record HasRoom (n passes : ℕ) (s : PassSurfaces) : Type 0 where
  pub count : length s.passes.items + 1 ≡ passes
  pub inner : AreRoomy n s.passes.items
  pub root : n ≤ length s.root.bytes

-- what surfaces keep: each has room for a strip of this width and this number of rows
pub record AreSurfaces (width rows : ℕ) (s : PassSurfaces) : Type 0 where
  pub some : 1 ≤ rows
  pub low : rows ≤ 64
  pub room : HasRoom (4 * (width * rows)) (length s.passes.items + 1) s
