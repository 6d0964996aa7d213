-- Each goal is a lemma on the layers so far.
use Rattle.std.proofs.Common.{◌≡◌, ◌∙◌, false, sym, refl, arith, slice_index, inl, inr}
use Rattle.page_properties.specs.declared.nodes.EffectNode.{EffectNode}
use Rattle.page_properties.specs.Nesting.{lies_in}
use Rattle.page_properties.specs.Trees.{IsEffect}
use Rattle.page_properties.proofs.Families.{family_few}
use Rattle.page_properties.proofs.Marks.{IsMeeting, met_none, met_apart, met_more, met_all}
use Rattle.page_properties.proofs.nesting.nested_in.Goals as goal
use Rattle.page_properties.proofs.nesting.nested_in.Goals.{else-meeting-ne0-via-then-meeting-ne0+else-not-is_in, else-meeting-ne0-via-else-meeting-ne0}

pub loop-effect-init : goal.loop-effect-init
loop-effect-init c = met_none c.args.effects.now c.args.layers.now 256 (family_few (λ (n : EffectNode). n.parent) IsEffect c.args.effects.now c.requires)

pub returns-then-not-is_in : goal.returns-then-not-is_in
returns-then-not-is_in c =
    let w : IsMeeting c.args.effects.now c.loop-effect.met c.meet-meeting.new.met (slice_index c.args.layers.now c.loop-effect.effect-index) c.meet-meeting.result =
    record { now_marked = c.meet-meeting.ensures.marks; stop = c.meet-meeting.ensures.stop; fresh = c.meet-meeting.ensures.fresh } in
    let out : lies_in c.args.effects.now c.meet-meeting.result c.loop-effect.last ≡ false = sym c.is_in.ensures ∙ c.if-not-is_in.true in (
      λ h. absurd (cc h),
      λ nested.
          absurd
          (met_apart c.args.effects.now c.requires c.args.layers.now c.loop-effect.effect-index c.loop-effect.met c.meet-meeting.new.met c.loop-effect.last
          (slice_index c.args.layers.now c.loop-effect.effect-index) c.meet-meeting.result c.loop-effect.invariant w refl c.if-meeting-ne0.true c.loop-effect-test.true out
          nested),
    )

pub loop-effect-preserved : goal.loop-effect-preserved
loop-effect-preserved c =
    let w : IsMeeting c.args.effects.now c.loop-effect.met c.meet-meeting.new.met (slice_index c.args.layers.now c.loop-effect.effect-index) c.meet-meeting.result =
    record { now_marked = c.meet-meeting.ensures.marks; stop = c.meet-meeting.ensures.stop; fresh = c.meet-meeting.ensures.fresh } in
    elim c.else-meeting-ne0.branch [
      | else-meeting-ne0-via-then-meeting-ne0+else-not-is_in b ↦
          met_more c.args.effects.now c.requires c.args.layers.now c.loop-effect.effect-index c.loop-effect.met c.meet-meeting.new.met c.loop-effect.last
          (slice_index c.args.layers.now c.loop-effect.effect-index) c.meet-meeting.result c.loop-effect.invariant w refl (inr (sym b.is_in.ensures ∙ b.if-not-is_in.false)) (omega (arith, c.loop-effect.invariant.room))
      | else-meeting-ne0-via-else-meeting-ne0 b ↦
          met_more c.args.effects.now c.requires c.args.layers.now c.loop-effect.effect-index c.loop-effect.met c.meet-meeting.new.met c.loop-effect.last
          (slice_index c.args.layers.now c.loop-effect.effect-index) c.meet-meeting.result c.loop-effect.invariant w refl (inl (omega (arith, b.if-meeting-ne0.false))) (omega (arith, c.loop-effect.invariant.room))
    ]

pub returns : goal.returns
returns c = (λ t. met_all c.args.effects.now c.args.layers.now c.loop-effect.effect-index c.loop-effect.met c.loop-effect.last c.loop-effect.invariant (omega arith), λ n. refl)
