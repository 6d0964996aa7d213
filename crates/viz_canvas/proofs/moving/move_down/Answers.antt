-- Each row comes from one that has not been written yet.
use Rattle.std.proofs.Common.{ℕ, ◌-◌, ◌≡◌, subst, arith}
use Rattle.viz_canvas.specs.Formats.{bytes_at}
use Rattle.viz_canvas.specs.inner.MovedAreas.{moved_pixel}
use Rattle.viz_canvas.specs.inner.Parts.{EachOf}
use Rattle.viz_canvas.proofs.RowMoves.{only_from, row_above_moved, none_moved, all_moved}
use Rattle.viz_canvas.proofs.moving.move_down.Goals as goal

pub loop-left-init : goal.loop-left-init
loop-left-init g c = record {
  left = omega arith;
  moved =
      none_moved (bytes_at g.F.PixelFormat.DEPTH) c.args.band.across c.args.band.rows c.args.at c.args.from c.args.bytes.now c.args.bytes.now c.args.bytes.now;
}

pub loop-left-preserved : goal.loop-left-preserved
loop-left-preserved g c = record {
  left = omega (arith, c.loop-left.invariant.left);
  moved =
      row_above_moved (bytes_at g.F.PixelFormat.DEPTH) c.args.band.across c.args.band.rows c.args.at c.args.from c.args.bytes.now c.loop-left.bytes c.copy_row.new.bytes
      (c.loop-left.left - 1) c.loop-left.left (omega arith) c.requires.inside (omega (arith, c.loop-left.invariant.left)) c.requires.from c.requires.order
      c.loop-left.invariant.moved c.copy_row.ensures;
}

pub returns : goal.returns
returns g c =
    let end : c.loop-left.left ≡ 0 = omega arith in
    all_moved (bytes_at g.F.PixelFormat.DEPTH) c.args.band.across c.args.band.rows c.args.at c.args.from c.args.bytes.now c.args.bytes.now c.loop-left.bytes
    (subst
    (λ (n : ℕ). EachOf (bytes_at g.F.PixelFormat.DEPTH) c.args.band.across c.args.band.rows
    (only_from c.args.at n (moved_pixel (bytes_at g.F.PixelFormat.DEPTH) c.args.band.across c.args.at c.args.from c.args.bytes.now)) c.args.bytes.now c.loop-left.bytes)
    end c.loop-left.invariant.moved)
