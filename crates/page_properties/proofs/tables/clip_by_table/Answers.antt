-- Each goal is a lemma on the way up.
use Rattle.std.proofs.Common.{refl, sym}
use Rattle.page_properties.specs.declared.nodes.ClipNode.{ClipNode}
use Rattle.page_properties.specs.OffsetMap.{offset_at}
use Rattle.page_properties.specs.Placement.{both, clip_of, translation}
use Rattle.page_properties.specs.Trees.{IsClip}
use Rattle.page_properties.proofs.Chains.{parent_below, fits_found, translation_root}
use Rattle.page_properties.proofs.Walks.{clipped_step, clipped_all}
use Rattle.page_properties.proofs.tables.clip_by_table.Goals as goal

pub loop-node-init : goal.loop-node-init
loop-node-init c = record {
  clips = record { sound = c.requires.below; value = refl };
  table = c.root_table-table.ensures (translation (offset_at c.args.offsets.now) c.args.transforms.now) (translation_root (offset_at c.args.offsets.now) c.args.transforms.now c.requires.transforms);
}

pub narrowed-requires-clause-in_range : goal.narrowed-requires-clause-in_range
narrowed-requires-clause-in_range c = fits_found (λ (n : ClipNode). n.parent) IsClip c.args.nodes.now c.requires.family c.loop-node.clip c.in-Some.node.now (sym c.in-Some.ensures)

pub loop-node-smaller : goal.loop-node-smaller
loop-node-smaller c = parent_below (λ (n : ClipNode). n.parent) IsClip c.args.nodes.now c.requires.family c.loop-node.clip c.in-Some.node.now (sym c.in-Some.ensures)

pub loop-node-preserved : goal.loop-node-preserved
loop-node-preserved c = record {
  clips =
      clipped_step (offset_at c.args.offsets.now) c.args.transforms.now c.args.nodes.now
      (both (clip_of (offset_at c.args.offsets.now) c.args.transforms.now c.args.nodes.now c.args.clip) c.args.below) c.loop-node.clip c.loop-node.inner c.loop-node.invariant.clips c.requires.family
      c.in-Some.node.now (sym c.in-Some.ensures) c.translation_by_table-by.result c.narrowed.result c.translation_by_table-by.ensures.value c.narrowed.ensures.value c.narrowed.ensures.sound;
  table = c.translation_by_table-by.ensures.table;
}

pub returns-clause-value : goal.returns-clause-value
returns-clause-value c =
    clipped_all (offset_at c.args.offsets.now) c.args.transforms.now c.args.nodes.now
    (both (clip_of (offset_at c.args.offsets.now) c.args.transforms.now c.args.nodes.now c.args.clip) c.args.below) c.loop-node.clip c.loop-node.inner c.loop-node.invariant.clips (sym c.in_default.ensures)
