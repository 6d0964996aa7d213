-- What holds of the variant that the first event is holds of that event.
use Rattle.std.proofs.Common.{◌≡◌, Bool, sym, subst}
use Rattle.std.specs.Bool.{Decides}
use Rattle.model_history.specs.declared.event.Event.{Event}
use Rattle.recording_judge.proofs.same_events.same_event.Goals as goal

by_variant : (same : Bool) (one variant other : Event) → one ≡ variant → Decides same (variant ≡ other) → Decides same (one ≡ other)
by_variant same one variant other is decides = subst (λ (e : Event). Decides same (e ≡ other)) (sym is) decides

pub returns-in-Begin : goal.returns-in-Begin
returns-in-Begin c = by_variant c.is_begin.result c.args.one.now _ c.args.other.now c.in-Begin.is c.is_begin.ensures

pub returns-in-Send : goal.returns-in-Send
returns-in-Send c = by_variant c.is_send.result c.args.one.now _ c.args.other.now c.in-Send.is c.is_send.ensures

pub returns-in-Ready : goal.returns-in-Ready
returns-in-Ready c = by_variant c.is_ready.result c.args.one.now _ c.args.other.now c.in-Ready.is c.is_ready.ensures

pub returns-in-Abort : goal.returns-in-Abort
returns-in-Abort c = by_variant c.is_abort.result c.args.one.now _ c.args.other.now c.in-Abort.is c.is_abort.ensures

pub returns-in-Commit : goal.returns-in-Commit
returns-in-Commit c = by_variant c.is_commit.result c.args.one.now _ c.args.other.now c.in-Commit.is c.is_commit.ensures

pub returns-in-Activate : goal.returns-in-Activate
returns-in-Activate c = by_variant c.is_activate.result c.args.one.now _ c.args.other.now c.in-Activate.is c.is_activate.ensures

pub returns-in-Start : goal.returns-in-Start
returns-in-Start c = by_variant c.is_start.result c.args.one.now _ c.args.other.now c.in-Start.is c.is_start.ensures

pub returns-in-DoneTile : goal.returns-in-DoneTile
returns-in-DoneTile c = by_variant c.is_done.result c.args.one.now _ c.args.other.now c.in-DoneTile.is c.is_done.ensures

pub returns-in-Draw : goal.returns-in-Draw
returns-in-Draw c = by_variant c.is_draw.result c.args.one.now _ c.args.other.now c.in-Draw.is c.is_draw.ensures

pub returns-in-Skip : goal.returns-in-Skip
returns-in-Skip c = by_variant c.is_skip.result c.args.one.now _ c.args.other.now c.in-Skip.is c.is_skip.ensures

pub returns-in-Await : goal.returns-in-Await
returns-in-Await c = by_variant c.is_await.result c.args.one.now _ c.args.other.now c.in-Await.is c.is_await.ensures

pub returns-in-Settle : goal.returns-in-Settle
returns-in-Settle c = by_variant c.is_settle.result c.args.one.now _ c.args.other.now c.in-Settle.is c.is_settle.ensures

pub returns-in-Stop : goal.returns-in-Stop
returns-in-Stop c = by_variant c.is_stop.result c.args.one.now _ c.args.other.now c.in-Stop.is c.is_stop.ensures
