-- What is found of nodes and kept.
use Rattle.std.specs.Prelude.{ℕ, Bool}
use Rattle.geom.specs.declared.rect.Point.{Point}
use Rattle.page_properties.specs.Placement.{clip_of}
use Rattle.page_properties.specs.Trees.{Trees}
use Rattle.page_layers.specs.TreePainting.{lets_through}

-- the clip of a clip node lets a point through
abbrev pub is_open_at : (ℕ → Point) → Trees → Point → ℕ → Bool
is_open_at offset t p id = lets_through (clip_of offset t.transforms t.clips id) p.x p.y
