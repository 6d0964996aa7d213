use Rattle.page_properties.specs.OffsetMap.{offset_at}
use Rattle.page_properties.specs.Placement.{clip_of}
use Rattle.tile_visible.proofs.SeenPlaces.{back_sound}
use Rattle.impl_ranks.proofs.layer.SeenLayer.new.Goals as goal

pub moved_back-clip_inside-requires-clause-result_sound : goal.moved_back-clip_inside-requires-clause-result_sound
moved_back-clip_inside-requires-clause-result_sound c =
    let p = c.args.page.now in
    back_sound p.view (clip_of (offset_at c.args.offsets.now) p.props.transforms p.props.clips c.args.layer.now.clip) c.clip_in-clip.result c.translation-by.result c.is_page.ensures.view c.clip_in-clip.ensures.value c.translation-by.ensures.near
