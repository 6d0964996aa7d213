-- No tile of the row is missing, or a run more is drawn.
use Rattle.std.proofs.Common.{rules, arith, ◌≡◌, ◌≤◌, ◌+◌, ◌==◌, ◌/◌, pos, ◌+ℤ◌, unsigned_abs, cond, filter, length, inr, ap, ◌∙◌}
use Rattle.std.specs.List.{list_any}
use Rattle.geom.specs.declared.rect.Point.{Point}
use Rattle.geom.specs.declared.tile.Place.{Place}
use Rattle.geom.specs.declared.tile.TileKey.{TileKey}
use Rattle.pixel.specs.Colours.{Parts}
use Rattle.pixel.specs.Rows.{pixel}
use Rattle.recording_check.specs.inner.Sheets.{patched}
use Rattle.recording_check.proofs.MissingFacts.{run_drawn, run_patched, none_patched}
use Rattle.recording_check.proofs.missing.draw_missing.Goals as goal

pub returns-then-is_empty-clause-pixels : goal.returns-then-is_empty-clause-pixels
returns-then-is_empty-clause-pixels c = λ k lt.
    let placed = c.args.layer.now in
    let keys-are = c.missing_in-keys.ensures ∙ ap (λ (p : Place). filter (λ (q : TileKey). q.y == p.y) placed.missing) c.place_at.ensures in
    let none : length c.missing_in-keys.result.now ≡ 0 = search rules in
    none_patched c.args.tile placed c.args.from c.missing_in-keys.result.now keys-are none k (pixel c.args.row.now k)

pub loop-k-preserved : goal.loop-k-preserved
loop-k-preserved c =
    let tile = c.args.tile in
    let placed = c.args.layer.now in
    let from = c.args.from in
    let k = c.loop-k.k in
    let n = c.run_in_tile-n.result in
    let at = c.right_of-at.result in
    let keys = c.missing_in-keys.result.now in
    let fits = c.run_in_tile-n.ensures.within in
    let inside : k + n ≤ c.args.width = omega (arith, fits, c.loop-k.invariant.within) in
    let keys-are = c.missing_in-keys.ensures ∙ ap (λ (p : Place). filter (λ (q : TileKey). q.y == p.y) placed.missing) c.place_at.ensures in
    record {
      within = inside;
      before = run_drawn (λ j. patched tile placed (record { x = from.x +ℤ pos j; y = from.y })) k n c.args.width c.args.row.now c.loop-k.row c.draw_run.new.row inside
          (λ j low high.
          c.draw_run.ensures.there j low high
          ∙ ap (λ (p : Place). cond (list_any (λ (q : TileKey). q.x == p.x) keys) c.colour.result (pixel c.loop-k.row j)) c.place_at-in-loop-k.ensures
          ∙ ap (λ (colour : Parts). cond (list_any (λ (q : TileKey). q.x == unsigned_abs at.x / tile) keys) colour (pixel c.loop-k.row j)) c.colour.ensures
          ∙ run_patched tile placed from k n keys at.x keys-are (ap (λ (p : Point). p.x) c.right_of-at.ensures) c.run_in_tile-n.ensures.same j low high (pixel c.loop-k.row j))
          c.draw_run.ensures.others c.loop-k.invariant.before c.loop-k.invariant.behind;
      behind = λ j lt le. c.draw_run.ensures.others j lt (inr le) ∙ c.loop-k.invariant.behind j lt (omega (arith, le));
      premultiplied = λ old. c.draw_run.ensures.premultiplied (c.loop-k.invariant.premultiplied old);
    }
