-- Each goal is a lemma on the way up.
use Rattle.std.proofs.Common.{sym}
use Rattle.page_properties.specs.declared.nodes.ClipNode.{ClipNode}
use Rattle.page_properties.specs.OffsetMap.{offset_at}
use Rattle.page_properties.specs.Placement.{clip_of}
use Rattle.page_properties.specs.Trees.{IsClip}
use Rattle.page_properties.proofs.Chains.{fits_found}
use Rattle.page_properties.proofs.Walks.{clipped_none, clipped_step, clipped_all}
use Rattle.page_properties.proofs.placement.clip_in.Goals as goal

pub loop-init : goal.loop-init
loop-init c = clipped_none (offset_at c.args.offsets.now) c.args.transforms.now c.args.nodes.now c.args.clip

pub returns-in_default-clause-value : goal.returns-in_default-clause-value
returns-in_default-clause-value c =
    clipped_all (offset_at c.args.offsets.now) c.args.transforms.now c.args.nodes.now (clip_of (offset_at c.args.offsets.now) c.args.transforms.now c.args.nodes.now c.args.clip)
    c.loop.clip c.loop.inner c.loop.invariant (sym c.in_default.ensures)

pub narrowed-requires-clause-in_range : goal.narrowed-requires-clause-in_range
narrowed-requires-clause-in_range c = fits_found (λ (n : ClipNode). n.parent) IsClip c.args.nodes.now c.requires.family c.loop.clip c.in-Some.node.now (sym c.in-Some.ensures)

pub loop-preserved : goal.loop-preserved
loop-preserved c =
    clipped_step (offset_at c.args.offsets.now) c.args.transforms.now c.args.nodes.now (clip_of (offset_at c.args.offsets.now) c.args.transforms.now c.args.nodes.now c.args.clip)
    c.loop.clip c.loop.inner c.loop.invariant c.requires.family c.in-Some.node.now (sym c.in-Some.ensures) c.translation_in-by.result c.narrowed.result
    c.translation_in-by.ensures.value c.narrowed.ensures.value c.narrowed.ensures.sound
