-- Each pass is drawn into the surface of its number.
use Rattle.std.proofs.Common.{◌≤◌, ◌++◌, length, take, set, ◌∙◌, ap, arith}
use Rattle.std.proofs.lemmas.List.Elements.{All-set}
use Rattle.page_display_list.specs.Bitmaps.{byte_count}
use Rattle.viz_render.specs.inner.Drawing.{SurfaceView}
use Rattle.viz_render.proofs.PassSteps.{joined_set, room_behind, passes_more, passes_all, pass_drawable}
use Rattle.viz_render.proofs.passes.draw_passes.Goals as goal

pub loop-i-preserved : goal.loop-i-preserved
loop-i-preserved c =
    let s = c.loop-i.surfaces in
    let i = c.loop-i.i in
    let own = c.draw_inner_pass.new.surface in
    let front = c.split_at_mut-before.ensures.front in
    let back = c.split_at_mut-before.ensures.back in
    let joined = ap (λ xs. xs ++ set c.split_at_mut-before.result.1.now 0 own) front ∙ ap (λ xs. take i s ++ set xs 0 own) back ∙ joined_set s i own (omega arith) in
    let drawn = rw (front, c.deref.ensures.value) at c.draw_inner_pass.ensures.pixels in
    rw joined (record {
      pixels =
          passes_more c.args.area c.args.root.mask.now.tops c.args.root.number c.args.passes.now s i c.index-passes-i.result own c.loop-i-test.true (omega arith) c.index-passes-i.is c.loop-i.invariant.pixels drawn;
      room = λ n had.
          let room = c.loop-i.invariant.room n had in
          let behind = room_behind n s c.split_at_mut-before.result.1.now i c.index-rest-0.result room (omega arith) back in
          All-set (λ (xs : SurfaceView). n ≤ length xs.bytes) s i own (omega arith) room;
    })

pub draw_inner_pass-requires : goal.draw_inner_pass-requires
draw_inner_pass-requires c = record {
  area = c.requires.area;
  low = c.requires.low;
  quads =
      rw (c.split_at_mut-before.ensures.front_len, c.deref.ensures.value)
      (pass_drawable c.args.passes.now c.loop-i.i c.index-passes-i.result c.requires.quads c.loop-i-test.true c.index-passes-i.is);
  room =
      room_behind (byte_count c.args.area.w c.args.area.h) c.loop-i.surfaces c.split_at_mut-before.result.1.now c.loop-i.i c.index-rest-0.result
      (c.loop-i.invariant.room (byte_count c.args.area.w c.args.area.h) c.requires.room) (omega arith)
      c.split_at_mut-before.ensures.back;
}

pub returns : goal.returns
returns c = record {
  pixels = passes_all c.args.area c.args.root.mask.now.tops c.args.root.number c.args.passes.now c.loop-i.surfaces c.loop-i.i c.loop-i-test.false (omega arith) c.loop-i.invariant.pixels;
  room = c.loop-i.invariant.room;
}
