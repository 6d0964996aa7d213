-- Offsets that are set from the oldest value to the newest are the values.
use Rattle.std.proofs.Common.{ℕ, ◌≡◌, sym, subst}
use Rattle.geom.specs.declared.rect.Point.{Point}
use Rattle.page_properties.specs.OffsetMap.{IsOffset, AreOffsets}
use Rattle.page_layers.specs.Effects.{main_point}
use Rattle.page_layers.specs.Pages.{Page}
use Rattle.page_layers.specs.Sound.{IsPage}
use Rattle.page_layers.proofs.NodeKeeps.{values-offset}

-- the values of a page are offsets
pub values_are_offsets : (p : Page) (offset : ℕ → Point) → IsPage p → ((id : ℕ) → offset id ≡ main_point p id) → AreOffsets offset
values_are_offsets p offset is same id = subst IsOffset (sym (same id)) (values-offset id p.props.scrollers p.values is.values)
