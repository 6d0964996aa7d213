-- The values of a page are offsets.
use Rattle.std.proofs.Common.{ℕ, List, ap, ◌∙◌}
use Rattle.geom.specs.declared.rect.Point.{Point}
use Rattle.page_properties.specs.Entries.{find}
use Rattle.page_properties.specs.OffsetMap.{offset_at}
use Rattle.page_layers.specs.Scrolls.{or_origin}
use Rattle.page_layers.proofs.KeptPages.{weaken}
use Rattle.page_layers.proofs.MainValues.{values_are_offsets}
use Rattle.page_layers.proofs.value_offsets.main_offsets.Goals as goal

pub returns-clause-in_range : goal.returns-clause-in_range
returns-clause-in_range c =
    weaken c.offsets_of.result
    (λ o set. values_are_offsets c.args.tree.now (offset_at o) c.is_page.ensures (λ id. set id ∙ ap (λ (vs : List (ℕ × Point)). or_origin (find id vs)) c.values.ensures))
    c.offsets_of.ensures
