-- One row more is copied.
use Rattle.std.proofs.Common.{◌≡◌, ◌≤◌, ◌-◌, ◌*◌, length, rules}
use Rattle.cc_c.proofs.CopiedRows.{rows_more, between_more}
use Rattle.cc_c.proofs.copying.copy_rows.Goals as goal

pub loop-y-preserved : goal.loop-y-preserved
loop-y-preserved c =
    let f = c.args.frame.now in
    let y = c.loop-y.y in
    let row = c.row_of.result.now in
    let from : c.args.top ≤ y = search rules in
    let start : c.row_start-start.result ≡ (y - c.args.top) * c.args.stride = search rules in
    let long : length c.copy_row.new.to ≡ length c.args.to.now = search rules in
    record {
      length = long;
      rows = rows_more f c.args.bgra c.args.top y c.args.stride c.row_start-start.result row c.loop-y.to c.copy_row.new.to from c.requires.apart start c.row_of.ensures.length c.row_of.ensures.pixels c.loop-y.invariant.rows c.copy_row.ensures.row;
      between = between_more c.args.bgra f.w c.args.top y c.args.stride c.row_start-start.result row c.args.to.now c.loop-y.to c.copy_row.new.to from start c.row_of.ensures.length c.loop-y.invariant.between c.copy_row.ensures.row;
    }
