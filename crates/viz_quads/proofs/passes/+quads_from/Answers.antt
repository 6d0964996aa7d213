-- A layer, or the run of layers in a group, is added to what was built.
use Rattle.std.proofs.Common.{ℕ, ◌≡◌, ◌+◌, ◌-◌, ◌*◌, ◌≤◌, suc, List, [], ◌∷◌, ◌++◌, length, take, drop, ap, sym, ◌∙◌, subst, arith, add-one}
use Rattle.std.proofs.lemmas.List.{length-map, length-append}
use Rattle.std.proofs.lemmas.List.Elements.{All-drop, All-head, All-rest, All-same, All-take}
use Rattle.viz_scene.specs.Views.{QuadView, grouped, pass_view, passes_view, quads_view}
use Rattle.viz_quads.specs.declared.parts.LayerParts.{LayerParts}
use Rattle.viz_quads.specs.inner.Passes.{AreBuilt}
use Rattle.viz_quads.proofs.Built.{Building, begun, finished, layer_turn, group_turn, run_not_empty}
use Rattle.viz_quads.proofs.Rooms.{room_run, room_after, room_layer}
use Rattle.viz_quads.proofs.passes.+quads_from.Goals as goal

abbrev FewGroups : LayerParts → Type 0
FewGroups l = length l.groups.items ≤ 256

pub loop-first-init : goal.loop-first-init
loop-first-init t c = record {
  few = c.requires.few;
  room = omega arith;
  built = λ w h view all. subst (λ (qs : List QuadView). Building w h view c.args.depth c.args.layers.now c.args.layers.now (passes_view c.args.passes.now.items) (passes_view c.args.passes.now.items) qs) (sym (ap quads_view c.new-quads.ensures.items)) (begun w h view c.args.depth c.args.layers.now (passes_view c.args.passes.now.items) all);
}

pub quads_from-requires : goal.quads_from-requires
quads_from-requires t c =
    let first : length c.in-Some.first.now.groups.items ≤ 256 = All-head FewGroups c.in-Some.first.now c.in-Some.tail.now (All-same FewGroups _ c.loop-first.rest.now (sym c.in-Some.ensures.cases.0) c.loop-first.invariant.few) in
    let deep : c.args.depth + 1 ≤ 256 = omega (arith, first) in
    let levels : 256 - c.args.depth ≡ (256 - (c.args.depth + 1)) + 1 = omega (arith, deep) in
    let room : length c.loop-first.passes.items + length c.loop-first.rest.now * (256 - c.args.depth) ≤ 16384 = omega (arith, c.loop-first.invariant.room, c.requires.room) in
    let part : length c.split_at.result.0.now ≤ length c.loop-first.rest.now = omega (arith, c.split_at.ensures.front_len, c.run_len.ensures.within) in (
      omega (arith, c.decreases),
      (
        All-same FewGroups c.split_at.result.0.now (take c.run_len.result c.loop-first.rest.now) c.split_at.ensures.front (All-take FewGroups c.run_len.result c.loop-first.rest.now c.loop-first.invariant.few),
        (
          deep,
          room_run (length c.loop-first.passes.items) (length c.loop-first.rest.now) (length c.split_at.result.0.now) (256 - (c.args.depth + 1)) 16384 part (subst (λ (n : ℕ). length c.loop-first.passes.items + length c.loop-first.rest.now * n ≤ 16384) levels room),
        ),
      ),
    )

pub loop-first-smaller-then-depth-len : goal.loop-first-smaller-then-depth-len
loop-first-smaller-then-depth-len t c =
    let some : 1 ≤ c.run_len.result = run_not_empty c.args.depth c.run_len.result c.loop-first.rest.now c.in-Some.tail.now c.in-Some.first.now c.index-group.result.now c.in-Some.ensures.cases.0 (omega arith) c.index-group.ensures c.run_len.ensures.value in
    omega (arith, some)

pub loop-first-preserved-then-depth-len : goal.loop-first-preserved-then-depth-len
loop-first-preserved-then-depth-len t c =
    let first : length c.in-Some.first.now.groups.items ≤ 256 = All-head FewGroups c.in-Some.first.now c.in-Some.tail.now (All-same FewGroups _ c.loop-first.rest.now (sym c.in-Some.ensures.cases.0) c.loop-first.invariant.few) in
    let some : 1 ≤ c.run_len.result = run_not_empty c.args.depth c.run_len.result c.loop-first.rest.now c.in-Some.tail.now c.in-Some.first.now c.index-group.result.now c.in-Some.ensures.cases.0 (omega arith) c.index-group.ensures c.run_len.ensures.value in
    let levels : 256 - c.args.depth ≡ (256 - (c.args.depth + 1)) + 1 = omega (arith, first) in
    let next : c.args.depth + 1 ≡ suc c.args.depth = add-one c.args.depth in
    let passes = c.in_ok-push_group.ensures.passes in
    let long : length c.push_group.new.passes.items ≡ length c.quads_from.new.passes.items + 1 =
    sym (length-map c.push_group.new.passes.items pass_view) ∙ ap length passes ∙ length-append (passes_view c.quads_from.new.passes.items) (quads_view c.in_ok-inner.inner.items ∷ []) ∙ ap (λ (n : ℕ). n + 1) (length-map c.quads_from.new.passes.items pass_view) in
    let parts : length c.loop-first.rest.now ≡ length c.split_at.result.0.now + length c.split_at.result.1.now = omega (arith, c.split_at.ensures.front_len, c.split_at.ensures.back_len, c.run_len.ensures.within) in
    let run : length c.split_at.result.0.now ≡ c.run_len.result = c.split_at.ensures.front_len in
    record {
      few = All-same FewGroups c.split_at.result.1.now (drop c.run_len.result c.loop-first.rest.now) c.split_at.ensures.back (All-drop FewGroups c.run_len.result c.loop-first.rest.now c.loop-first.invariant.few);
      room = subst (λ (n : ℕ). n + length c.split_at.result.1.now * (256 - c.args.depth) ≤ length c.args.passes.now.items + length c.args.layers.now * (256 - c.args.depth)) (sym long)
          (subst (λ (k : ℕ). (length c.quads_from.new.passes.items + 1) + length c.split_at.result.1.now * k ≤ length c.args.passes.now.items + length c.args.layers.now * (256 - c.args.depth)) (sym levels)
          (room_after (length c.loop-first.passes.items) (length c.quads_from.new.passes.items) (length c.loop-first.rest.now) (length c.split_at.result.1.now) (length c.split_at.result.0.now) (256 - (c.args.depth + 1)) (length c.args.passes.now.items + length c.args.layers.now * (256 - c.args.depth)) (omega (arith, some, run)) parts c.in_ok-inner.ensures.grown
          (subst (λ (k : ℕ). length c.loop-first.passes.items + length c.loop-first.rest.now * k ≤ length c.args.passes.now.items + length c.args.layers.now * (256 - c.args.depth)) levels c.loop-first.invariant.room)));
      built = λ w h view all.
          group_turn w h view c.args.depth c.run_len.result c.args.layers.now c.loop-first.rest.now c.split_at.result.0.now c.split_at.result.1.now c.in-Some.tail.now c.in-Some.first.now c.index-group.result.now
          (passes_view c.args.passes.now.items) (passes_view c.loop-first.passes.items) (passes_view c.quads_from.new.passes.items) (passes_view c.push_group.new.passes.items) (quads_view c.loop-first.quads.items) (quads_view c.in_ok-inner.inner.items) (quads_view c.push_group.new.quads.items)
          c.in-Some.ensures.cases.0 (omega arith) c.index-group.ensures c.run_len.ensures.value c.split_at.ensures.front c.split_at.ensures.back
          (λ each. subst (λ (d : ℕ). AreBuilt w h view d c.split_at.result.0.now (passes_view c.loop-first.passes.items) (passes_view c.quads_from.new.passes.items) (quads_view c.in_ok-inner.inner.items)) next (c.in_ok-inner.ensures.built w h view each))
          passes
          (c.in_ok-push_group.ensures.quads ∙ ap (λ (n : ℕ). quads_view c.loop-first.quads.items ++ grouped n c.index-group.result.now.opacity ∷ []) (sym (length-map c.quads_from.new.passes.items pass_view)))
          (c.loop-first.invariant.built w h view all);
    }

pub loop-first-preserved : goal.loop-first-preserved
loop-first-preserved t c = record {
  few = All-rest FewGroups c.in-Some.first.now c.in-Some.tail.now c.loop-first.rest.now c.in-Some.ensures.cases.0 c.loop-first.invariant.few;
  room = room_layer (length c.loop-first.passes.items) (length c.loop-first.rest.now) (length c.in-Some.tail.now) (256 - c.args.depth) (length c.args.passes.now.items + length c.args.layers.now * (256 - c.args.depth)) (ap length c.in-Some.ensures.cases.0 ∙ omega arith) c.loop-first.invariant.room;
  built = λ w h view all.
      layer_turn w h view c.args.depth c.args.layers.now c.loop-first.rest.now c.in-Some.tail.now c.in-Some.first.now (passes_view c.args.passes.now.items) (passes_view c.loop-first.passes.items) (quads_view c.loop-first.quads.items) (quads_view c.push_copies.new.quads.items)
      c.in-Some.ensures.cases.0 (omega arith) (c.in_ok-push_copies.ensures ∙ ap (λ (qs : List _). quads_view c.loop-first.quads.items ++ quads_view qs) c.as_slice.ensures.value)
      (c.loop-first.invariant.built w h view all);
}

pub returns-clause-built : goal.returns-clause-built
returns-clause-built t c = λ w h view all.
    finished w h view c.args.depth c.args.layers.now c.loop-first.rest.now (passes_view c.args.passes.now.items) (passes_view c.loop-first.passes.items) (quads_view c.loop-first.quads.items) c.in_default.ensures.cases (c.loop-first.invariant.built w h view all)
