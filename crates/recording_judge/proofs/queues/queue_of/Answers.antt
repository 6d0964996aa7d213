-- The keys that workers hold are those that are made.
use Rattle.std.proofs.Common.{◌≡◌, ◌∙◌, ap}
use Rattle.geom.specs.declared.tile.TileKey.{TileKey}
use Rattle.geom.specs.KeyLists.{has_key}
use Rattle.page_layers.proofs.KeptPages.{weaken}
use Rattle.recording_judge.specs.inner.Tiles.{held_keys}
use Rattle.recording_judge.proofs.QueueFacts.{tiles_at}
use Rattle.recording_judge.proofs.queues.queue_of.Goals as goal

pub rebuilt-requires : goal.rebuilt-requires
rebuilt-requires c =
    let r = c.requires in
    let s = c.args.plan.now in
    let t = c.args.tiles.now in
    let are : (q : TileKey) → has_key c.in_ok-flying.flying q ≡ has_key (held_keys t.held.items) q = λ q. c.in_ok-flying.ensures q ∙ ap (λ ks. has_key ks q) (c.as_slice-2.ensures ∙ (c.in_ok-held.ensures ∙ ap held_keys c.as_slice.ensures.value)) in
    record {
      workers = r.workers;
      past = r.past;
      legal = r.legal;
      seen_active = r.seen_active;
      seen_pending = r.seen_pending;
      tiles = tiles_at s r.workers r.past t r.legal r.holds c.in_ok-flying.flying c.args.in_flight are c.is_in_order.ensures.once c.is_in_order.ensures.order r.as_many;
    }

pub returns : goal.returns
returns c =
    let t = c.args.tiles.now in
    let are : (q : TileKey) → has_key c.in_ok-flying.flying q ≡ has_key (held_keys t.held.items) q = λ q. c.in_ok-flying.ensures q ∙ ap (λ ks. has_key ks q) (c.as_slice-2.ensures ∙ (c.in_ok-held.ensures ∙ ap held_keys c.as_slice.ensures.value)) in
    weaken c.rebuilt.result
    (λ queue stands s n h legal is holds seen_active seen_pending many.
    stands s n h legal is seen_active seen_pending (tiles_at s n h t legal holds c.in_ok-flying.flying c.args.in_flight are c.is_in_order.ensures.once c.is_in_order.ensures.order many))
    c.rebuilt.ensures
