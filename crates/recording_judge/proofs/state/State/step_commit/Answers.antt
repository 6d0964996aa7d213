-- The commit of the main side becomes the pending tree.
use Rattle.std.proofs.Common.{◌≡◌, ◌∷◌, ℕ, List, Option, refl, sym, ◌∙◌, subst}
use Rattle.model_history.specs.declared.event.Event.TheVariants as event
use Rattle.model_history.specs.declared.history.Entry.{Entry}
use Rattle.model_history.specs.Frames.{pulls_of}
use Rattle.model_steps.specs.Events.{commit}
use Rattle.impl_host.specs.Hosts.{Hosts}
use Rattle.impl_log.specs.Runs.{past}
use Rattle.main_host.specs.declared.main_end.MainEnd.{MainEnd}
use Rattle.recording_judge.specs.inner.Mains.{IsCommitted, IsMain}
use Rattle.recording_judge.specs.inner.Hosts.{HostCommits}
use Rattle.recording_judge.proofs.MainSteps.{main_committed, commit_there}
use Rattle.recording_judge.proofs.StateFacts.{commit_keys}
use Rattle.recording_judge.proofs.state.State.step_commit.Goals as goal

pub commit_to_host-requires : goal.commit_to_host-requires
commit_to_host-requires c =
    let r = c.args.self.now.log in
    let h = past r in
    let side = c.args.self.now.main in
    let there = commit_there r.script r.workers h c.args.actor c.args.frame side c.requires.legal c.requires.state.main in
    subst (λ (o : Option MainEnd). HostCommits c.args.self.now.host c.args.frame o) (sym c.take-end.ensures.value)
    (record { script = r.script; workers = r.workers; past = h; actor = c.args.actor; playable = c.requires.playable; legal = c.requires.legal; hosts = c.requires.state.host; commit = there })

pub returns : goal.returns
returns c =
    let r = c.args.self.now.log in
    let s = r.script in
    let n = r.workers in
    let h = past r in
    let a = c.args.actor in
    let k = c.args.frame in
    let side = c.args.self.now.main in
    let there = commit_there s n h a k side c.requires.legal c.requires.state.main in
    let pushed : Hosts s (commit a k ∷ h) c.commit_to_host.new.host =
    c.in_ok-commit_to_host.ensures s n h a c.requires.playable c.requires.legal c.requires.state.host (subst (λ (o : Option MainEnd). IsCommitted s (pulls_of h) k o) (sym c.take-end.ensures.value) there) in
    record {
      log = refl;
      keeps = record {
        host = pushed;
        tiles = c.forget_queue.ensures s n h (commit a k ∷ h) c.requires.state.tiles (commit_keys s n h a k c.requires.playable c.requires.legal);
        main = subst (λ (o : Option MainEnd). IsMain s (commit a k ∷ h) (record { host = side.host; end = o })) (sym c.take-end.ensures.after) (main_committed s n h a side k c.requires.state.main);
      };
    }
