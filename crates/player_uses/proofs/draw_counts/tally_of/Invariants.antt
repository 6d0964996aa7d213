-- The counts so far and those of the entries that are left are the counts of all.
use Rattle.std.proofs.Common.{◌≡◌, ◌+◌, ◌≤◌, drop, length}
use Rattle.player_uses.specs.Demos.{image_count, missing_count}
use Rattle.player_uses.proofs.draw_counts.tally_of.Given as goal

abbrev pub invariant-loop-at : goal.invariant-loop-at
invariant-loop-at l =
    (l.tally.images + image_count (drop l.at l.history.entries) ≡ image_count l.history.entries)
    × (l.tally.missing + missing_count (drop l.at l.history.entries) ≡ missing_count l.history.entries)
    × (l.at ≤ length l.history.entries)
