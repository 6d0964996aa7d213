-- The rects, moved and cut, are where the layer shows them.
use Rattle.std.proofs.Common.{ap, ◌∙◌}
use Rattle.page_properties.specs.OffsetMap.{offset_at}
use Rattle.page_properties.specs.Placement.{translation}
use Rattle.page_properties.specs.Trees.{Trees as Props}
use Rattle.page_layers.specs.Layers.{parts_of}
use Rattle.cc.proofs.ScreenRects.{on_screen}
use Rattle.cc.proofs.edits.rects_on_screen.Goals as goal

pub returns : goal.returns
returns c =
    on_screen c.args.page.now (parts_of c.args.layer.now) c.args.rects.now (offset_at c.in-Ok.offsets) c.translation-by.result c.clip_in.result c.moved_into.result c.in-Ok.ensures.values
    (c.translation-by.ensures.value ∙ ap (λ (t : Props). translation (offset_at c.in-Ok.offsets) t.transforms c.args.layer.now.transform) c.props.ensures)
    c.clip_in.ensures.value c.moved_into.ensures
