-- An area of which both parts are drawn is drawn.
use Rattle.std.proofs.Common.{◌≡◌, length, ◌∙◌, rules, arith}
use Rattle.std.proofs.lemmas.Int.{clamps}
use Rattle.viz_canvas.proofs.TwoBands.{bands_drawn, lower_in, first_ready, second_ready, both_ready}
use Rattle.viz_canvas.proofs.parts.+halves.Goals as goal

pub draw_parts-draw_halves-requires-clause-first : goal.draw_parts-draw_halves-requires-clause-first
draw_parts-draw_halves-requires-clause-first g t c κs within =
    first_ready c.args.scene.now c.args.surfaces.now c.split_at_mut-first.result.0.now c.split_at_mut-first.result.1.now c.split_at_mut-first.ensures.value
    (let len = c.split_at_mut-first.ensures.front_len in omega arith) c.requires.ready

pub draw_parts-draw_halves-requires-clause-second : goal.draw_parts-draw_halves-requires-clause-second
draw_parts-draw_halves-requires-clause-second g t c κs within =
    second_ready c.args.scene.now c.args.surfaces.now c.split_at_mut-first.result.0.now c.split_at_mut-first.result.1.now c.split_at_mut-first.ensures.value
    (let len = c.split_at_mut-first.ensures.back_len in omega (arith, clamps)) c.requires.ready

pub draw_parts-draw_halves-requires-clause-lower : goal.draw_parts-draw_halves-requires-clause-lower
draw_parts-draw_halves-requires-clause-lower g t c κs within =
    let back = rw (c.start_of-start.ensures.value) at c.split_at_mut-above.ensures.back_len in
    rw (c.lower_of-lower.ensures)
    (lower_in g.F.PixelFormat.DEPTH g.F.PixelFormat.bytes_of c.args.scene.now c.args.place.band c.args.place.at c.share_of-rows.result c.requires.place.inside c.share_of-rows.ensures
    c.split_at_mut-above.result.1.now c.requires.place.wide c.requires.place.end (back ∙ c.requires.place.size))

pub draw_parts-returns-clause-drawn : goal.draw_parts-returns-clause-drawn
draw_parts-returns-clause-drawn g t c =
    let d = g.F.PixelFormat.DEPTH in
    let band = c.args.place.band in
    let at = c.args.place.at in
    let rows = c.share_of-rows.result in
    let long = rw (c.start_of-start.ensures.value) at c.split_at_mut-above.ensures.front_len in
    let back = rw (c.start_of-start.ensures.value) at c.split_at_mut-above.ensures.back_len in
    let same : length c.draw_halves.new.above ≡ length c.split_at_mut-above.result.0.now = search rules in
    let rest : length c.draw_halves.new.below ≡ length c.split_at_mut-above.result.1.now = search rules in
    let upper = rw (c.upper_of-upper.ensures) at c.draw_halves.ensures.upper in
    let lower = rw (c.lower_of-lower.ensures) at c.draw_halves.ensures.lower in
    let lower_place =
    lower_in d g.F.PixelFormat.bytes_of c.args.scene.now band at rows c.requires.place.inside c.share_of-rows.ensures
    c.split_at_mut-above.result.1.now c.requires.place.wide c.requires.place.end (back ∙ c.requires.place.size) in
    rw (c.split_at_mut-above.ensures.value)
    (bands_drawn d g.F.PixelFormat.bytes_of c.args.scene.now band at rows c.requires.place.inside c.share_of-rows.ensures
    c.split_at_mut-above.result.0.now c.split_at_mut-above.result.1.now c.draw_halves.new.above c.draw_halves.new.below long (same ∙ long) lower_place.size rest upper lower)

pub draw_parts-returns-clause-ready : goal.draw_parts-returns-clause-ready
draw_parts-returns-clause-ready g t c =
    both_ready c.args.scene.now c.draw_halves.new.first c.draw_halves.new.second c.draw_halves.ensures.first c.draw_halves.ensures.second
