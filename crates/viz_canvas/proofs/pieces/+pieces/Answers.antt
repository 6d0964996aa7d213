-- Each piece shows what is left of the quads, and the pieces make the area.
use Rattle.std.proofs.Common.{◌≡◌, ◌+◌, ◌-◌, length, refl, ◌∙◌, rules, arith}
use Rattle.viz_scene.specs.Views.{quad_view, quads_view}
use Rattle.viz_render.specs.inner.Drawing.{rows_from, columns_from}
use Rattle.viz_canvas.specs.inner.Fresh.{IsPlaced}
use Rattle.viz_canvas.proofs.PieceSteps.{all_before, all_last, only_seen, only_split, reached_inside, piece_in, rows_inside, columns_inside, above_shows, under_shows, left_shows, right_shows, top_here, three_drawn, rows_cut, columns_cut}
use Rattle.viz_canvas.proofs.pieces.+pieces.Goals as goal

-- ---- the topmost quad

pub draw_below-large_part-requires-clause-quad : goal.draw_below-large_part-requires-clause-quad
draw_below-large_part-requires-clause-quad g t c =
    all_last IsPlaced quad_view c.seen_quads-seen.result.now c.in-Some.below.now c.in-Some.top.now c.in-Some.ensures.cases.0 c.seen_quads-seen.ensures.placed

pub draw_below-draw_pieces-requires : goal.draw_below-draw_pieces-requires
draw_below-draw_pieces-requires g t c κs within = (
  omega (arith, c.decreases, c.seen_quads-seen.ensures.few, c.in-Some.ensures.cases.1),
  (
    search rules,
    (
      search rules,
      (
        search rules,
        (
          (all_last IsPlaced quad_view c.seen_quads-seen.result.now c.in-Some.below.now c.in-Some.top.now c.in-Some.ensures.cases.0 c.seen_quads-seen.ensures.placed),
          (
            (all_before IsPlaced quad_view c.seen_quads-seen.result.now c.in-Some.below.now c.in-Some.top.now c.in-Some.ensures.cases.0 c.seen_quads-seen.ensures.placed),
            (
              (rw (c.rect_of-area.ensures.value) at c.in-Some-large_part.ensures),
              (
                  (let alike = rw (c.rect_of-area.ensures.value) at c.seen_quads-seen.ensures.alike in
                  only_split c.args.scene.now c.args.band c.args.at c.seen_quads-seen.result.now c.in-Some.below.now c.in-Some.top.now c.in-Some.ensures.cases.0
                  (only_seen c.args.scene.now c.args.band c.args.at (quads_view c.args.quads.now) (quads_view c.seen_quads-seen.result.now) alike c.requires.shown))
                  ),
            ),
          ),
        ),
      ),
    ),
  ),
)

-- ---- the rows above, beside and below it

pub draw_pieces-draw_below-requires : goal.draw_pieces-draw_below-requires
draw_pieces-draw_below-requires g t c κs within = (
  omega (arith, c.decreases),
  (
    search rules,
    (
      (let at = c.args.place.at in
          let part = c.args.top.part in
          let down = (reached_inside (quad_view c.args.top.quad.now) c.args.place.band at part c.requires.part).down in
          rw (c.strip_of-above.ensures)
          (piece_in g.F.PixelFormat.DEPTH c.args.scene.now c.args.place.band at (rows_from at 0 part.at.y) c.args.bytes.now c.args.bytes.now c.requires.place refl
          (rows_inside at c.args.scene.now.w c.args.place.band.rows 0 part.at.y c.requires.place.inside (omega (arith, down))))),
      (
        search rules,
        (
          search rules,
          (
              (rw (c.strip_of-above.ensures)
              (above_shows c.args.scene.now c.args.place.band c.args.place.at c.args.top.part (quads_view c.args.top.below.now) (quad_view c.args.top.quad.now) c.requires.part
              (reached_inside (quad_view c.args.top.quad.now) c.args.place.band c.args.place.at c.args.top.part c.requires.part) c.requires.shown))
              ),
        ),
      ),
    ),
  ),
)

pub draw_pieces-draw_beside-requires : goal.draw_pieces-draw_beside-requires
draw_pieces-draw_beside-requires g t c κs within = (
  omega (arith, c.decreases),
  (
    search rules,
    (
      (let at = c.args.place.at in
          let part = c.args.top.part in
          let same : length c.draw_below.new.bytes ≡ length c.args.bytes.now = search rules in
          let down = (reached_inside (quad_view c.args.top.quad.now) c.args.place.band at part c.requires.part).down in
          rw (c.strip_of-beside.ensures)
          (piece_in g.F.PixelFormat.DEPTH c.args.scene.now c.args.place.band at (rows_from at part.at.y part.at.h) c.args.bytes.now c.draw_below.new.bytes c.requires.place same
          (rows_inside at c.args.scene.now.w c.args.place.band.rows part.at.y part.at.h c.requires.place.inside (omega (arith, down))))),
      (
        search rules,
        (
          search rules,
          (
            (let across = (reached_inside (quad_view c.args.top.quad.now) c.args.place.band c.args.place.at c.args.top.part c.requires.part).across in
                rw (c.strip_of-beside.ensures) across),
            (
              (rw (c.strip_of-beside.ensures)
                  (top_here c.args.scene.now c.args.place.band c.args.place.at c.args.top.part (quads_view c.args.top.below.now) (quad_view c.args.top.quad.now) c.requires.top c.requires.part c.requires.shown)),
              (
                (rw (c.strip_of-beside.ensures)
                    (left_shows c.args.scene.now c.args.place.band c.args.place.at c.args.top.part (quads_view c.args.top.below.now) (quad_view c.args.top.quad.now) c.requires.part
                    (reached_inside (quad_view c.args.top.quad.now) c.args.place.band c.args.place.at c.args.top.part c.requires.part) c.requires.shown)),
                (
                    (rw (c.strip_of-beside.ensures)
                    (right_shows c.args.scene.now c.args.place.band c.args.place.at c.args.top.part (quads_view c.args.top.below.now) (quad_view c.args.top.quad.now) c.requires.part
                    (reached_inside (quad_view c.args.top.quad.now) c.args.place.band c.args.place.at c.args.top.part c.requires.part) c.requires.shown))
                    ),
              ),
            ),
          ),
        ),
      ),
    ),
  ),
)

pub draw_pieces-draw_below-requires-2 : goal.draw_pieces-draw_below-requires-2
draw_pieces-draw_below-requires-2 g t c κs within = (
  omega (arith, c.decreases),
  (
    search rules,
    (
      (let at = c.args.place.at in
          let part = c.args.top.part in
          let first : length c.draw_below.new.bytes ≡ length c.args.bytes.now = search rules in
          let second : length c.draw_beside.new.bytes ≡ length c.draw_below.new.bytes = search rules in
          let down = (reached_inside (quad_view c.args.top.quad.now) c.args.place.band at part c.requires.part).down in
          let end = part.at.y + part.at.h in
          rw (c.strip_of-under.ensures)
          (piece_in g.F.PixelFormat.DEPTH c.args.scene.now c.args.place.band at (rows_from at end (at.h - end)) c.args.bytes.now c.draw_beside.new.bytes c.requires.place (second ∙ first)
          (rows_inside at c.args.scene.now.w c.args.place.band.rows end (at.h - end) c.requires.place.inside (omega (arith, down))))),
      (
        search rules,
        (
          search rules,
          (
              (rw (c.strip_of-under.ensures)
              (under_shows c.args.scene.now c.args.place.band c.args.place.at c.args.top.part (quads_view c.args.top.below.now) (quad_view c.args.top.quad.now) c.requires.part
              (reached_inside (quad_view c.args.top.quad.now) c.args.place.band c.args.place.at c.args.top.part c.requires.part) c.requires.shown))
              ),
        ),
      ),
    ),
  ),
)

pub draw_pieces-returns-clause-drawn : goal.draw_pieces-returns-clause-drawn
draw_pieces-returns-clause-drawn g t c =
    let at = c.args.place.at in
    let part = c.args.top.part in
    let end = part.at.y + part.at.h in
    let down = (reached_inside (quad_view c.args.top.quad.now) c.args.place.band at part c.requires.part).down in
    let one = rw (c.strip_of-above.ensures) at c.draw_below.ensures.drawn in
    let two = rw (c.strip_of-beside.ensures) at c.draw_beside.ensures.drawn in
    let three = rw (c.strip_of-under.ensures) at c.draw_below-2.ensures.drawn in
    three_drawn g.F.PixelFormat.DEPTH g.F.PixelFormat.bytes_of c.args.scene.now c.args.place.band (rows_from at 0 part.at.y) (rows_from at part.at.y part.at.h) (rows_from at end (at.h - end)) at
    c.args.bytes.now c.draw_below.new.bytes c.draw_beside.new.bytes c.draw_below-2.new.bytes (λ x y. rows_cut at part.at.y part.at.h x y down) one two three

-- ---- the columns beside it

pub draw_beside-draw_below-requires : goal.draw_beside-draw_below-requires
draw_beside-draw_below-requires g t c κs within = (
  omega (arith, c.decreases),
  (
    search rules,
    (
      (let at = c.args.place.at in
          let part = c.args.top.part in
          let fits = c.requires.inside in
          rw (c.columns_of-left.ensures)
          (piece_in g.F.PixelFormat.DEPTH c.args.scene.now c.args.place.band at (columns_from at 0 part.at.x) c.args.bytes.now c.args.bytes.now c.requires.place refl
          (columns_inside at c.args.scene.now.w c.args.place.band.rows 0 part.at.x c.requires.place.inside (omega (arith, fits))))),
      (
        search rules,
        (
          search rules,
          (
              (rw (c.columns_of-left.ensures) (c.requires.left))
              ),
        ),
      ),
    ),
  ),
)

pub draw_beside-draw_top-requires-clause-place : goal.draw_beside-draw_top-requires-clause-place
draw_beside-draw_top-requires-clause-place g t c =
    let at = c.args.place.at in
    let part = c.args.top.part in
    let same : length c.draw_below.new.bytes ≡ length c.args.bytes.now = search rules in
    rw (c.columns_of-here.ensures)
    (piece_in g.F.PixelFormat.DEPTH c.args.scene.now c.args.place.band at (columns_from at part.at.x part.at.w) c.args.bytes.now c.draw_below.new.bytes c.requires.place same
    (columns_inside at c.args.scene.now.w c.args.place.band.rows part.at.x part.at.w c.requires.place.inside c.requires.inside))

pub draw_beside-draw_top-requires-clause-top : goal.draw_beside-draw_top-requires-clause-top
draw_beside-draw_top-requires-clause-top g t c = rw (c.columns_of-here.ensures) (c.requires.here)

pub draw_beside-draw_below-requires-2 : goal.draw_beside-draw_below-requires-2
draw_beside-draw_below-requires-2 g t c κs within = (
  omega (arith, c.decreases),
  (
    search rules,
    (
      (let at = c.args.place.at in
          let part = c.args.top.part in
          let fits = c.requires.inside in
          let end = part.at.x + part.at.w in
          let first : length c.draw_below.new.bytes ≡ length c.args.bytes.now = search rules in
          let second : length c.draw_top.new.bytes ≡ length c.draw_below.new.bytes = search rules in
          rw (c.columns_of-right.ensures)
          (piece_in g.F.PixelFormat.DEPTH c.args.scene.now c.args.place.band at (columns_from at end (at.w - end)) c.args.bytes.now c.draw_top.new.bytes c.requires.place (second ∙ first)
          (columns_inside at c.args.scene.now.w c.args.place.band.rows end (at.w - end) c.requires.place.inside (omega (arith, fits))))),
      (
        search rules,
        (
          search rules,
          (
              (rw (c.columns_of-right.ensures) (c.requires.right))
              ),
        ),
      ),
    ),
  ),
)

pub draw_beside-returns-clause-drawn : goal.draw_beside-returns-clause-drawn
draw_beside-returns-clause-drawn g t c =
    let at = c.args.place.at in
    let part = c.args.top.part in
    let end = part.at.x + part.at.w in
    let one = rw (c.columns_of-left.ensures) at c.draw_below.ensures.drawn in
    let two = rw (c.columns_of-here.ensures) at c.draw_top.ensures.drawn in
    let three = rw (c.columns_of-right.ensures) at c.draw_below-2.ensures.drawn in
    three_drawn g.F.PixelFormat.DEPTH g.F.PixelFormat.bytes_of c.args.scene.now c.args.place.band (columns_from at 0 part.at.x) (columns_from at part.at.x part.at.w) (columns_from at end (at.w - end)) at
    c.args.bytes.now c.draw_below.new.bytes c.draw_top.new.bytes c.draw_below-2.new.bytes (λ x y. columns_cut at part.at.x part.at.w x y c.requires.inside) one two three
