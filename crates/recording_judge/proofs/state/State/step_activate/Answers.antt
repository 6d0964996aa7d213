-- The pending tree becomes the active one.
use Rattle.std.proofs.Common.{◌≡◌, ◌∷◌, List, refl, sym, subst}
use Rattle.page_layers.specs.declared.moves.Move.{Move}
use Rattle.model_history.specs.declared.event.Event.TheVariants as event
use Rattle.model_history.specs.Legal.{Legal}
use Rattle.model_steps.specs.Events.{activate}
use Rattle.impl_host.specs.Hosts.{Hosts}
use Rattle.impl_log.specs.Runs.{past}
use Rattle.recording_judge.specs.inner.Hosts.{HostActivates}
use Rattle.recording_judge.specs.inner.Tiles.{Holds}
use Rattle.recording_judge.proofs.MainSteps.{main_stays}
use Rattle.recording_judge.proofs.StateFacts.{on_ok}
use Rattle.recording_judge.proofs.state.State.step_activate.Goals as goal

pub activate_tiles-requires : goal.activate_tiles-requires
activate_tiles-requires c =
    let r = c.args.self.now.log in
    subst (HostActivates c.args.self.now.host) (sym c.as_slice.ensures)
    (record { script = r.script; workers = r.workers; past = past r; actor = c.args.actor; frame = c.args.frame; playable = c.requires.playable; legal = c.requires.legal; hosts = c.requires.state.host })

pub activate_host-requires : goal.activate_host-requires
activate_host-requires c =
    let r = c.args.self.now.log in
    subst (HostActivates c.args.self.now.host) (sym c.as_slice-2.ensures)
    (record { script = r.script; workers = r.workers; past = past r; actor = c.args.actor; frame = c.args.frame; playable = c.requires.playable; legal = c.requires.legal; hosts = c.requires.state.host })

pub returns : goal.returns
returns c =
    let r = c.args.self.now.log in
    let s = r.script in
    let n = r.workers in
    let h = past r in
    let a = c.args.actor in
    let k = c.args.frame in
    let ms = c.args.moves.now in
    let legal_in : (l : List Move) → l ≡ ms → Legal s n (activate a k l ∷ h) = λ l e. subst (λ (z : List Move). Legal s n (activate a k z ∷ h)) (sym e) c.requires.legal in
    let tiles : Holds s n (activate a k ms ∷ h) c.activate_tiles.new.tiles =
    subst (λ (l : List Move). Holds s n (activate a k l ∷ h) c.activate_tiles.new.tiles) c.as_slice.ensures
    (c.in_ok-activate_tiles.ensures s n h a k c.requires.playable (legal_in c.as_slice.result.now c.as_slice.ensures) c.requires.state.host c.requires.state.tiles) in
    on_ok c.activate_host.result
    (λ stands.
    record {
      log = refl;
      keeps = record {
        host = subst (λ (l : List Move). Hosts s (activate a k l ∷ h) c.activate_host.new.host) c.as_slice-2.ensures (stands s n h a k (legal_in c.as_slice-2.result.now c.as_slice-2.ensures) c.requires.state.host);
        tiles = tiles;
        main = main_stays s n h a c.args.self.now.main (event.Activate k ms) c.requires.legal refl c.requires.state.main;
      };
    })
    c.activate_host.ensures
