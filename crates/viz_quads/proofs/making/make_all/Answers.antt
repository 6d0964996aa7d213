-- The tiles are those that the page shows, and each has its image.
use Rattle.std.proofs.Common.{List, ap, sym, ◌∙◌, subst, rules}
use Rattle.page_properties.specs.OffsetMap.{offset_at}
use Rattle.page_layers.proofs.KeptPages.{weaken}
use Rattle.viz_quads.specs.ShownTiles.{PageTile, missing_keys, AreShownTiles}
use Rattle.viz_quads.proofs.MadeRight.{made_right, none_missing}
use Rattle.viz_quads.proofs.making.make_all.Goals as goal

pub returns-clause-tiles : goal.returns-clause-tiles
returns-clause-tiles c = search rules

pub returns-clause-right : goal.returns-clause-right
returns-clause-right c =
    let p = c.args.tree.now in
    weaken c.made_in.result (λ tiles is. subst (λ (ts : List PageTile). AreShownTiles p (offset_at c.args.offsets.now) ts) (sym is) (made_right p (offset_at c.args.offsets.now) c.is_page.ensures.distinct)) (returns-clause-tiles c)

pub returns-clause-whole : goal.returns-clause-whole
returns-clause-whole c =
    let p = c.args.tree.now in
    weaken c.made_in.result (λ tiles is. ap missing_keys is ∙ none_missing p (offset_at c.args.offsets.now)) (returns-clause-tiles c)
