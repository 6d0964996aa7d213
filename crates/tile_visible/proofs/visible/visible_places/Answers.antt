-- The places that the clip touches are those that are seen.
use Rattle.std.proofs.Common.{ℕ, ◌≡◌, true, false, ap, sym, ◌∙◌, subst, rules}
use Rattle.std.specs.Prelude.{neg_ℤ}
use Rattle.geom.specs.declared.rect.Rect.{Rect}
use Rattle.geom.specs.Covers.{IsSound}
use Rattle.geom.specs.Gaps.{shifted}
use Rattle.geom.specs.Grids.{places_touching}
use Rattle.geom.specs.Sides.{Sides}
use Rattle.page_properties.specs.OffsetMap.{offset_at}
use Rattle.page_properties.specs.Placement.{translation, clip_of, draws}
use Rattle.page_properties.specs.Trees.{Trees as Props}
use Rattle.page_layers.specs.Layers.{parts_of}
use Rattle.page_layers.proofs.KeptPages.{weaken}
use Rattle.tile_visible.proofs.SeenPlaces.{back_sound, none_seen, touched_seen}
use Rattle.tile_visible.proofs.visible.visible_places.Goals as goal

pub returns-then-not-draws : goal.returns-then-not-draws
returns-then-not-draws c =
    let hidden : c.draws.result ≡ false = search rules in
    c.new.ensures.items
    ∙ sym (none_seen c.args.tree.now (offset_at c.args.offsets.now) (parts_of c.args.layer.now) (ap (λ (t : Props). draws t.effects c.args.layer.now.effect) (sym c.props-props.ensures) ∙ sym c.draws.ensures ∙ hidden))

pub moved_back-requires-clause-result_sound : goal.moved_back-requires-clause-result_sound
moved_back-requires-clause-result_sound c =
    let p = c.args.tree.now in
    back_sound p.view (clip_of (offset_at c.args.offsets.now) p.props.transforms p.props.clips c.args.layer.now.clip) c.clip_in-clip.result c.translation-by.result c.is_page.ensures.view c.clip_in-clip.ensures.value c.translation-by.ensures.near

pub places_touching-requires : goal.places_touching-requires
places_touching-requires c =
    let p = c.args.tree.now in
    subst IsSound (sym c.moved_back.ensures)
    (back_sound p.view (clip_of (offset_at c.args.offsets.now) p.props.transforms p.props.clips c.args.layer.now.clip) c.clip_in-clip.result c.translation-by.result c.is_page.ensures.view c.clip_in-clip.ensures.value c.translation-by.ensures.near)

pub returns : goal.returns
returns c =
    let p = c.args.tree.now in
    let offset : ℕ → _ = offset_at c.args.offsets.now in
    let l = c.args.layer.now in
    let drawn : c.draws.result ≡ true = search rules in
    weaken c.places_touching.result
    (λ v items.
    items
    ∙ ap (λ (area : Rect). places_touching c.grid_of-grid.result area) c.moved_back.ensures
    ∙ ap (λ (g : Sides). places_touching g (shifted c.clip_in-clip.result (record { x = neg_ℤ c.translation-by.result.x; y = neg_ℤ c.translation-by.result.y }))) c.grid_of-grid.ensures
    ∙ touched_seen p offset (parts_of l) c.clip_in-clip.result c.translation-by.result
    (ap (λ (t : Props). draws t.effects l.effect) (sym c.props-props.ensures) ∙ sym c.draws.ensures ∙ drawn)
    c.clip_in-clip.ensures.value
    (c.translation-by.ensures.value ∙ ap (λ (t : Props). translation offset t.transforms l.transform) c.props-props.ensures))
    c.places_touching.ensures
