-- One entry more, and all of them.
use Rattle.std.proofs.Common.{◌≡◌, ◌≤◌, List, length, Some, rules, arith}
use Rattle.std.specs.List.{slice_get}
use Rattle.model_history.specs.declared.history.Entry.{Entry}
use Rattle.player_uses.specs.Demos.{image_count, missing_count}
use Rattle.player_uses.proofs.Tallies.{images_more, missing_more, images_whole, missing_whole, over_whole}
use Rattle.player_uses.proofs.draw_counts.tally_of.Goals as goal

pub loop-at-preserved : goal.loop-at-preserved
loop-at-preserved c =
    let xs : List Entry = c.args.history.now.entries in
    let i = c.loop-at.invariant in
    let is : slice_get xs c.loop-at.at ≡ Some c.entry-entry.result.now = c.entry-entry.ensures in
    let counts = c.in_ok-tally.ensures in (
      images_more xs c.loop-at.at c.entry-entry.result.now c.loop-at.tally.images c.in_ok-tally.tally.images (image_count xs) is counts.0 i.0,
      missing_more xs c.loop-at.at c.entry-entry.result.now c.loop-at.tally.missing c.in_ok-tally.tally.missing (missing_count xs) is counts.1 i.1,
      omega (arith, c.loop-at-test.true, c.len-at-end.ensures),
    )

pub returns : goal.returns
returns c =
    let xs : List Entry = c.args.history.now.entries in
    let i = c.loop-at.invariant in
    let whole : length xs ≤ c.loop-at.at = omega (arith, c.loop-at-test.false, c.len-at-end.ensures) in
    (images_whole xs c.loop-at.at c.loop-at.tally.images (image_count xs) whole i.0, missing_whole xs c.loop-at.at c.loop-at.tally.missing (missing_count xs) whole i.1)

pub returns-in_err-tally : goal.returns-in_err-tally
returns-in_err-tally c =
    let xs : List Entry = c.args.history.now.entries in
    let i = c.loop-at.invariant in
    let is : slice_get xs c.loop-at.at ≡ Some c.entry-entry.result.now = c.entry-entry.ensures in
    let over = over_whole xs c.loop-at.at c.entry-entry.result.now 18446744073709551616 c.loop-at.tally.images c.loop-at.tally.missing is i.0 i.1 in
    search (rules, over, c.in_err-tally.ensures, c.from_residual.ensures)
