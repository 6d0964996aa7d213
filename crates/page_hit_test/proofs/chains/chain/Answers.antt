-- The chain of the layer with this id.
use Rattle.std.proofs.Common.{◌≡◌, ℕ, List, Some, option_map, sym, ◌∙◌, ap}
use Rattle.std.specs.Prelude.{find}
use Rattle.page_properties.specs.Trees.{Trees as Props}
use Rattle.page_layers.specs.Layers.{PageLayer, has_id}
use Rattle.page_layers.specs.Hits.{nearest_scroller, scrollers_from}
use Rattle.page_layers.proofs.KeptPages.{weaken}
use Rattle.page_hit_test.proofs.ChainWalks.{chain_found}
use Rattle.page_hit_test.proofs.chains.chain.Goals as goal

pub returns-in-Some : goal.returns-in-Some
returns-in-Some c =
    let p = c.args.tree.now in
    let t = c.in-Some.transform in
    let found : option_map (λ (l : PageLayer). l.transform) (find (has_id c.args.layer) p.layers) ≡ Some t =
    sym (c.transform_of.ensures ∙ ap (λ (ls : List PageLayer). option_map (λ (l : PageLayer). l.transform) (find (has_id c.args.layer) ls)) c.layers.ensures) ∙ c.in-Some.is in
    weaken c.scrollers_from.result
    (λ v items.
    items
    ∙ ap (λ (q : Props). scrollers_from q.scrollers c.nearest_scroller.result) c.props-props.ensures
    ∙ ap (λ (n : ℕ). scrollers_from p.props.scrollers n) (c.nearest_scroller.ensures ∙ ap (λ (q : Props). nearest_scroller q.transforms t) c.props-props.ensures)
    ∙ chain_found p (find (has_id c.args.layer) p.layers) t found)
    c.scrollers_from.ensures
