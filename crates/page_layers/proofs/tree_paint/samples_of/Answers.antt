-- A layer more has its groups.
use Rattle.std.proofs.Common.{◌≡◌, ◌≤◌, ◌+◌, length, ap, ◌∙◌, arith}
use Rattle.std.specs.Prelude.{All}
use Rattle.std.proofs.lemmas.List.{length-append}
use Rattle.std.proofs.lemmas.List.Elements.{All-push, All-same}
use Rattle.page_layers.specs.declared.paint.LayerSample.{LayerSample}
use Rattle.page_layers.specs.inner.LayerSamples.{groups_of}
use Rattle.page_layers.specs.TreePainting.{groups_in, opacity_in}
use Rattle.page_layers.proofs.MappedLists.{mapped_more}
use Rattle.page_layers.proofs.tree_paint.samples_of.Goals as goal

pub loop-layer-preserved : goal.loop-layer-preserved
loop-layer-preserved c =
    let l = c.loop-layer in
    let effects = c.args.props.now.effects in
    let groups = c.in_ok-groups in
    let new = c.push.new.self.items in
    let pushed = c.in_ok-push.ensures.items in
    record {
      groups =
          mapped_more groups_of (λ k. groups_in effects k.effect) l.samples.items new _ c.args.layers.now l.layer-index c.layer-item.result
          pushed c.loop-layer-test.true c.layer-item.is groups.ensures.effects l.invariant.groups;
      opacities =
          let P = λ (s : LayerSample). All (λ g. opacity_in effects g.effect ≡ g.opacity) s.groups.items in
          All-same P new _ pushed (All-push P l.samples.items _ l.invariant.opacities groups.ensures.opacities);
      few =
          let P = λ (s : LayerSample). length s.groups.items ≤ 256 in
          All-same P new _ pushed (All-push P l.samples.items _ l.invariant.few (omega (arith, groups.ensures.few, groups.groups.ok.0)));
      count = ap length pushed ∙ length-append l.samples.items _ ∙ ap (λ n. n + 1) l.invariant.count;
    }
