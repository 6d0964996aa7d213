-- Rows without gaps are one run; of others the pixels are copied, row by row.
use Rattle.std.proofs.Common.{◌*◌, arith}
use Rattle.viz_canvas.specs.Formats.{bytes_at}
use Rattle.viz_canvas.proofs.Bytes.{no_more}
use Rattle.viz_canvas.proofs.RowMoves.{rows_had, gap_had}
use Rattle.viz_canvas.proofs.moving.copy_rows.Goals as goal

pub move_rows-requires-clause-small : goal.move_rows-requires-clause-small
move_rows-requires-clause-small g c =
    let some = no_more g.F.PixelFormat.DEPTH (c.args.across * c.args.scene.now.h) g.met.F.PixelFormat.some in
    rw (c.h.ensures.value) (omega (arith, some, c.requires.rows.size))

pub returns-then-across-width-clause-pixels : goal.returns-then-across-width-clause-pixels
returns-then-across-width-clause-pixels g c =
    let wide = c.requires.rows.wide in
    λ x y xw yh. c.move_rows.ensures x y (omega (arith, wide)) (omega arith)

pub returns-then-across-width-clause-gaps : goal.returns-then-across-width-clause-gaps
returns-then-across-width-clause-gaps g c =
    record { bytes = λ x y from xw yh. absurd (omega (arith, c.if-across-width.true, c.w-width.ensures.value)) }

pub returns-clause-pixels : goal.returns-clause-pixels
returns-clause-pixels g c =
    let moved = rw (c.band_of-band.ensures.value, c.rows_of.ensures) at c.move_area.ensures in
    λ x y xw yh.
    rows_had (bytes_at g.F.PixelFormat.DEPTH) c.args.across c.args.scene.now.h c.args.scene.now.w c.args.from c.args.to c.args.count
    c.args.bytes.now c.move_area.new.bytes moved c.requires.rows.wide x y xw yh

pub returns-clause-gaps : goal.returns-clause-gaps
returns-clause-gaps g c =
    let moved = rw (c.band_of-band.ensures.value, c.rows_of.ensures) at c.move_area.ensures in
    record {
      bytes = λ x y from xw yh.
          gap_had (bytes_at g.F.PixelFormat.DEPTH) c.args.across c.args.scene.now.h c.args.scene.now.w c.args.from c.args.to c.args.count
          c.args.bytes.now c.move_area.new.bytes moved x y from xw yh;
    }
