-- The sheets show the tree.
use Rattle.std.proofs.Common.{◌≡◌, List, map, All, ap, sym, ◌∙◌}
use Rattle.std.proofs.lemmas.List.Elements.{All-map}
use Rattle.std.proofs.lemmas.Simd.{map-map}
use Rattle.page_properties.specs.OffsetMap.{offset_at}
use Rattle.page_layers.specs.declared.paint.Group.{Group}
use Rattle.page_layers.specs.Layers.{PageLayer, parts_of}
use Rattle.page_layers.specs.Paintings.{placed_colour}
use Rattle.page_layers.specs.TreePainting.{groups_in, opacity_in, layer_colour_at}
use Rattle.page_layers.proofs.Placing.{sizes}
use Rattle.recording_check.specs.inner.Sheets.{SheetModel}
use Rattle.recording_check.proofs.sheet.sheets_of.Goals as goal

pub sheets_in-requires-clause-sizes : goal.sheets_in-requires-clause-sizes
sheets_in-requires-clause-sizes c = sizes c.args.tree.now.props c.args.tree.now.used c.layers.result.now c.args.tree.now.layers c.layers.ensures c.is_page.ensures.layers

pub returns : goal.returns
returns c =
    let tree = c.args.tree.now in
    let sheets = c.in_ok-sheets.sheets.items in
    let offset = offset_at c.args.offsets.now in
    record {
      colours = λ x y.
          map-map (placed_colour tree.view.tile x y) (λ (s : SheetModel). s.placed) sheets
          ∙ c.in_ok-sheets.ensures.colours x y
          ∙ sym (map-map (layer_colour_at tree offset c.args.missing.now x y) parts_of c.layers.result.now)
          ∙ ap (λ (ls : List PageLayer). map (layer_colour_at tree offset c.args.missing.now x y) ls) c.layers.ensures;
      groups =
          map-map (λ (gs : List Group). map (λ (g : Group). g.effect) gs) (λ (s : SheetModel). s.groups) sheets
          ∙ c.in_ok-sheets.ensures.groups
          ∙ sym (map-map (λ (l : PageLayer). groups_in tree.props.effects l.effect) parts_of c.layers.result.now)
          ∙ ap (λ (ls : List PageLayer). map (λ (l : PageLayer). groups_in tree.props.effects l.effect) ls) c.layers.ensures;
      opacities = All-map (λ (gs : List Group). All (λ (g : Group). opacity_in tree.props.effects g.effect ≡ g.opacity) gs) (λ (s : SheetModel). s.groups) sheets c.in_ok-sheets.ensures.opacities;
    }
