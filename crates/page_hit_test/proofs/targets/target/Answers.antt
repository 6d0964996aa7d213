use Rattle.std.proofs.Common.{◌≡◌, true, false, sym, rules}
use Rattle.page_properties.specs.OffsetMap.{offset_at}
use Rattle.page_layers.specs.Hits.{target}
use Rattle.page_hit_test.specs.inner.Screens.{is_in_view}
use Rattle.page_hit_test.proofs.TopmostSteps.{none_outside, on_screen}
use Rattle.page_hit_test.proofs.targets.target.Goals as goal

pub returns-then-not-box_covers : goal.returns-then-not-box_covers
unfolding target
returns-then-not-box_covers c =
    let v : is_in_view c.args.tree.now c.args.p.x c.args.p.y ≡ false = search rules in
    sym (none_outside c.args.tree.now (offset_at c.args.offsets.now) c.args.p.x c.args.p.y c.args.tree.now.layers v)

pub topmost-requires-clause-screen : goal.topmost-requires-clause-screen
topmost-requires-clause-screen c =
    let v : is_in_view c.args.tree.now c.args.p.x c.args.p.y ≡ true = search rules in
    on_screen c.args.tree.now c.args.p.x c.args.p.y c.is_page.ensures v
