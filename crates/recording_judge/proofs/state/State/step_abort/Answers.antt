-- The scrollers stand where the abort leaves them, and the queue goes where the pending tree moves.
use Rattle.std.proofs.Common.{◌≡◌, true, false, ◌∷◌, refl, sym, subst}
use Rattle.model_history.specs.declared.event.Event.TheVariants as event
use Rattle.model_history.proofs.BoolFacts.{by_test}
use Rattle.model_steps.specs.Events.{abort}
use Rattle.impl_log.specs.Runs.{past}
use Rattle.recording_judge.specs.declared.tile_keys.TileKeys.{TileKeys}
use Rattle.recording_judge.specs.inner.Tiles.{Holds}
use Rattle.recording_judge.proofs.MainSteps.{main_stays}
use Rattle.recording_judge.proofs.StateFacts.{abort_keys, abort_tiles}
use Rattle.recording_judge.proofs.state.State.step_abort.Goals as goal

pub abort_host-requires : goal.abort_host-requires
abort_host-requires c =
    let r = c.args.self.now.log in
    record { script = r.script; workers = r.workers; past = past r; actor = c.args.actor; frame = c.args.frame; playable = c.requires.playable; legal = c.requires.legal; hosts = c.requires.state.host }

pub returns : goal.returns
returns c =
    let r = c.args.self.now.log in
    let s = r.script in
    let n = r.workers in
    let h = past r in
    let a = c.args.actor in
    let k = c.args.frame in
    let old = c.args.self.now.tiles in
    let new = c.forget_where.new.tiles in
    let stay : c.sets_outright-moves.result ≡ false → Holds s n (abort a k ∷ h) new = λ f.
    subst (λ (t : TileKeys). Holds s n (abort a k ∷ h) t) (sym (c.forget_where.ensures.stays f))
    (abort_tiles s n h a k old c.requires.legal (c.sets_outright-moves.ensures s h c.requires.state.host f) c.requires.state.tiles) in
    let go : c.sets_outright-moves.result ≡ true → Holds s n (abort a k ∷ h) new = λ t. c.forget_where.ensures.forgets t s n h (abort a k ∷ h) c.requires.state.tiles (abort_keys s h a k) in
    record {
      log = refl;
      keeps = record {
        host = c.in_ok-abort_host.ensures s n h a k c.requires.legal c.requires.state.host;
        tiles = by_test c.sets_outright-moves.result go stay;
        main = main_stays s n h a c.args.self.now.main (event.Abort k) c.requires.legal refl c.requires.state.main;
      };
    }
