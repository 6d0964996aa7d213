use Rattle.std.proofs.Common.{ℕ, List, Option, false, ◌≡◌, ◌+ℤ◌, sym, ap, ◌∙◌}
use Rattle.std.specs.Prelude.{is_some}
use Rattle.geom.specs.declared.rect.Point.{Point}
use Rattle.page_properties.specs.declared.nodes.ScrollNode.{ScrollNode}
use Rattle.page_properties.specs.Trees.{Trees}
use Rattle.page_properties.specs.Entries.{find}
use Rattle.page_layers.specs.Pages.{Page}
use Rattle.page_layers.specs.Effects.{clamped_in, main_point}
use Rattle.page_layers.proofs.NodeKeeps.{values-known, not_changed}
use Rattle.model_history.proofs.frame.pull_one.Goals as goal

pub returns-in-None : goal.returns-in-None
returns-in-None c =
    let p : Page = c.args.tree.now in
    let lacks : is_some (find c.args.pull.scroller p.props.scrollers) ≡ false = ap (λ (t : Trees). is_some (find c.args.pull.scroller t.scrollers)) (sym c.props.ensures) ∙ ap (λ (o : Option ScrollNode). is_some o) (sym c.in-None.ensures) in
    let none : is_some (find c.args.pull.scroller p.values) ≡ false = values-known c.args.pull.scroller p.props.scrollers p.values c.is_page.ensures.values ∙ lacks in
    ap (λ (vs : List (ℕ × Point)). record p { values = vs })
    (sym (not_changed c.args.pull.scroller (λ (v : Point). clamped_in (find c.args.pull.scroller p.props.scrollers) ((main_point p c.args.pull.scroller).x +ℤ c.args.pull.dx) ((main_point p c.args.pull.scroller).y +ℤ c.args.pull.dy)) p.values none))
