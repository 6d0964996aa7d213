-- A layer more is in its place, with its groups.
use Rattle.std.proofs.Common.{◌≡◌, All}
use Rattle.std.proofs.lemmas.List.Elements.{All-push, All-same}
use Rattle.page_properties.specs.OffsetMap.{offset_at}
use Rattle.page_layers.specs.Layers.{parts_of}
use Rattle.page_layers.specs.TreePainting.{groups_in, opacity_in, layer_colour_at}
use Rattle.page_layers.proofs.MappedLists.{mapped_more}
use Rattle.recording_check.specs.inner.Sheets.{SheetModel, effects_of, colour_in}
use Rattle.recording_check.proofs.sheet.sheets_in.Goals as goal

pub loop-layer-preserved : goal.loop-layer-preserved
loop-layer-preserved c =
    let l = c.loop-layer in
    let tree = c.args.tree.now in
    let sheet = c.in_ok-sheet_of in
    let new = c.push.new.self.items in
    let pushed = c.in_ok-push.ensures.items in
    record {
      colours = λ x y.
          mapped_more (colour_in tree.view.tile x y) (λ k. layer_colour_at tree (offset_at c.args.offsets.now) c.args.missing.now x y (parts_of k))
          l.sheets.items new sheet.field-0 c.args.layers.now l.layer-index c.layer-item.result
          pushed c.loop-layer-test.true c.layer-item.is (sheet.ensures.colours x y) (l.invariant.colours x y);
      groups =
          mapped_more effects_of (λ k. groups_in tree.props.effects k.effect)
          l.sheets.items new sheet.field-0 c.args.layers.now l.layer-index c.layer-item.result
          pushed c.loop-layer-test.true c.layer-item.is sheet.ensures.groups l.invariant.groups;
      opacities =
          let P = λ (s : SheetModel). All (λ g. opacity_in tree.props.effects g.effect ≡ g.opacity) s.groups in
          All-same P new _ pushed (All-push P l.sheets.items _ l.invariant.opacities sheet.ensures.opacities);
    }
