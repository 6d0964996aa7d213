-- The main side of a run, once an event more has come.
use Rattle.std.proofs.Common.{◌≡◌, ℕ, suc, ◌<◌, ◌≤◌, true, cond, not, List, [], ◌∷◌, ◌++◌, length, Option, Some, None, refl, sym, ◌∙◌, ap, subst, arith}
use Rattle.model_states.specs.declared.kind.Kind.TheVariants as kind
use Rattle.model_states.specs.Kinds.{is_sent}
use Rattle.page_layers.specs.Pages.{Page}
use Rattle.page_layers.specs.declared.moves.Move.{Move}
use Rattle.model_history.specs.declared.event.Event.{Event}
use Rattle.model_history.specs.declared.event.Event.TheVariants as event
use Rattle.model_history.specs.declared.history.Entry.{Entry}
use Rattle.model_history.specs.Scripts.{ScriptModel}
use Rattle.model_history.specs.Accepted.{IsPlayable}
use Rattle.model_history.specs.Commits.{CommitModel, IsCommit}
use Rattle.model_history.specs.Ended.{AreBounded}
use Rattle.model_history.specs.EventFields.{sends}
use Rattle.model_history.specs.Scans.{has_ended, newest, counted}
use Rattle.model_history.specs.Frames.{page, changes, pulls_in, pulls_of, commands_of}
use Rattle.model_history.specs.Stamps.{changed_by, unchanged, frame_changes}
use Rattle.model_history.specs.SameChanges.{SameChanges}
use Rattle.model_history.specs.Due.{due, on_if}
use Rattle.model_history.specs.DueParts.{due_ready, due_abort}
use Rattle.model_history.specs.Legal.{sched, is_open, Legal}
use Rattle.model_history.proofs.BoolFacts.{is_other, is_same, and_right, not_both}
use Rattle.model_history.proofs.Course.{course, sent_not_idle, ready_not_idle}
use Rattle.model_history.proofs.DueFacts.{entry, at_send, at_ready, at_commit}
use Rattle.model_history.proofs.FrameFacts.{changes_course}
use Rattle.model_history.proofs.PageFacts.{page_alike, page_before_alike}
use Rattle.model_history.proofs.PullBounds.{pulls_bounded}
use Rattle.model_history.proofs.RangeBounds.{sent_few}
use Rattle.model_steps.specs.Events.{send}
use Rattle.main_host.specs.Hosts.{HasRun, MainHostModel, IsEnd, with_frame}
use Rattle.main_host.specs.declared.main_end.MainEnd.{MainEnd}
use Rattle.main_host.specs.declared.main_end.MainEnd.TheVariants as end
use Rattle.main_host.proofs.FramesRun.{more_each, run_more, tells}
use Rattle.recording_judge.specs.declared.judged_main.JudgedMain.{JudgedMain}
use Rattle.recording_judge.specs.inner.Mains.{IsCommitOf, IsEndOf, EndsSo, IsCommitted, IsMain, ready_event, abort_event}

-- how the frame ends that was run, with the pulls that it got

module _ (s : ScriptModel) (ps : ℕ → List Move) (k : ℕ) (host : MainHostModel) (ms : List Move) (run : HasRun s ps k host) (is : ms ≡ ps k) where
  told : changes host.script (pulls_in (host.sends ++ ms ∷ [])) (length host.sends) ≡ changes s ps k
  told = tells s ps k host ms run is

  committed : (c : CommitModel) → IsCommit c → c.script ≡ s → c.frame ≡ k → c.sends ≡ host.sends ++ ms ∷ [] → IsCommitOf s ps k c
  committed c commit same frame sent =
      let below : (j : ℕ) → j < suc k → pulls_in c.sends j ≡ ps j = λ j lt. ap (λ (l : List (List Move)). pulls_in l j) sent ∙ more_each s ps k host ms run is j lt in
      let after : page c.script (pulls_in c.sends) (suc c.frame) ≡ page s ps (suc k) =
      (λ i. page (same i) (pulls_in c.sends) (suc (frame i))) ∙ page_alike s (pulls_in c.sends) ps (suc k) below in
      let changed : frame_changes c.script (pulls_in c.sends) c.frame ≡ frame_changes s ps k =
      (λ i. frame_changes (same i) (pulls_in c.sends) (frame i))
      ∙ ap (λ (p : Page). changed_by p (commands_of s k) unchanged) (page_before_alike s (pulls_in c.sends) ps k below) in
      record { script = same; frame = frame; page = commit.tree ∙ after; changes = subst (SameChanges c.changes) changed commit.changes }

  ends_so : (e : MainEnd) → IsEnd host ms e → IsEndOf s ps k e
  ends_so (end.Ready c) i = (sym told ∙ i.0, committed c i.1.commit (i.1.script ∙ run.script) (i.1.frame ∙ run.count) i.1.sends)
  ends_so (end.Abort frame) i = (sym told ∙ i.0, i.1 ∙ run.count)

-- at the beginning

pub begin_main : (s : ScriptModel) (side : JudgedMain) → side.host.script ≡ s → side.host.sends ≡ [] → IsMain s [] side
begin_main s side script none = record {
  run = record { script = script; count = ap length none; each = λ k lt. absurd (omega (arith, lt)) };
  ends = λ f k e. absurd cc;
}

-- a frame is sent

module _ (s : ScriptModel) (n : ℕ) (h : List Entry) (a k : ℕ) (ms : List Move) (accepted : IsPlayable s) (legal : Legal s n (send a k ms ∷ h)) (side : JudgedMain) (m : IsMain s h side) where
  abbrev sent : List Entry
  sent = send a k ms ∷ h

  frame : k ≡ counted sends h
  frame = (at_send s n h a k ms legal.1).frame

  pub frame_left : length side.host.sends < length side.host.script.main
  frame_left =
      let count = m.run.count in
      let few : counted sends sent ≤ length s.main = sent_few s n sent legal in
      let lt : length side.host.sends < length s.main = omega (arith, count, few) in
      subst (λ (z : ScriptModel). length side.host.sends < length z.main) (sym m.run.script) lt

  pulls_are : ms ≡ pulls_of sent k
  pulls_are = sym (ap (λ b. cond b ms (pulls_of h k)) (is_same k k refl))

  pub pulls_fit : AreBounded ms
  pulls_fit = subst (λ (l : List Move). AreBounded l) (sym pulls_are) (pulls_bounded s n sent k accepted legal)

  has_run : HasRun s (pulls_of sent) (counted sends h) side.host
  has_run = record {
    script = m.run.script;
    count = m.run.count;
    each = λ j lt. let f = frame in m.run.each j lt ∙ sym (ap (λ b. cond b ms (pulls_of h j)) (is_other k j (λ i. absurd (omega (arith, lt, f, i)))));
  }

  same_pulls : ms ≡ pulls_of sent (counted sends h)
  same_pulls = pulls_are ∙ ap (pulls_of sent) frame

  pub sent_main : (new : JudgedMain) (e : MainEnd) → new.host ≡ with_frame side.host ms → new.end ≡ Some e → IsEnd side.host ms e → IsMain s sent new
  sent_main new e more is ends = record {
    run = subst (HasRun s (pulls_of sent) (suc (counted sends h))) (sym more) (run_more s (pulls_of sent) (counted sends h) side.host ms has_run same_pulls);
    ends = λ f j i.
        let same : k ≡ j = cc in
        let at : counted sends h ≡ j = sym frame ∙ same in
        subst (EndsSo s (pulls_of sent) j) (sym is) (subst (λ z. IsEndOf s (pulls_of sent) z e) at (ends_so s (pulls_of sent) (counted sends h) side.host ms has_run same_pulls e ends));
  }

-- an event of another kind

module _ (s : ScriptModel) (n : ℕ) (h : List Entry) (a : ℕ) (side : JudgedMain) where
  pub main_stays : (e : Event) → Legal s n (entry a e ∷ h) → sends e ≡ None → IsMain s h side → IsMain s (entry a e ∷ h) side
  main_stays (event.Send k ms) legal f m = absurd cc
  main_stays (event.Ready k) legal f m = record { run = m.run; ends = λ t. m.ends (sent_not_idle (sched h).main_state (at_ready s n h a k legal.1).sent) }
  main_stays (event.Abort k) legal f m = record { run = m.run; ends = λ t j i. absurd cc }
  main_stays (event.Commit k) legal f m = record { run = m.run; ends = λ t j i. absurd cc }
  main_stays e legal f m = m

  -- after its commit it is no longer known how a frame ended
  pub main_committed : (k : ℕ) → IsMain s h side → IsMain s (entry a (event.Commit k) ∷ h) (record { host = side.host; end = None })
  main_committed k m = record { run = m.run; ends = λ t j i. absurd cc }

-- what is due

module _ (s : ScriptModel) (n : ℕ) (h : List Entry) (legal : Legal s n h) (side : JudgedMain) (m : IsMain s h side) where
  -- the frame in flight
  flies : is_sent (sched h).main_state ≡ true → (k : ℕ) × (newest sends h ≡ Some k) × EndsSo s (pulls_of h) k side.end
  flies t =
      let idle = sent_not_idle (sched h).main_state t in
      let x = (course s n h legal).in_flight idle in
      (x.0, x.1, m.ends idle x.0 x.1)

  is_in_flight : is_open h kind.Ready ≡ true → is_sent (sched h).main_state ≡ true
  is_in_flight o = and_right (not (has_ended h)) (is_sent (sched h).main_state) o

  ready_told : (o : Option MainEnd) (k : ℕ) → newest sends h ≡ Some k → EndsSo s (pulls_of h) k o → ready_event o ≡ due s h kind.Ready 1
  ready_told None k l x = absurd x
  ready_told (Some (end.Ready c)) k l x = sym (ap (due_ready s h) l ∙ (ap (λ b. on_if b (event.Ready k)) x.0 ∙ ap (λ j. Some (event.Ready j)) (sym x.1.frame)))
  ready_told (Some (end.Abort j)) k l x = sym (ap (due_ready s h) l ∙ ap (λ b. on_if b (event.Ready k)) x.0)

  abort_told : (o : Option MainEnd) (k : ℕ) → newest sends h ≡ Some k → EndsSo s (pulls_of h) k o → abort_event o ≡ due s h kind.Abort 1
  abort_told None k l x = absurd x
  abort_told (Some (end.Ready c)) k l x = sym (ap (due_abort s h) l ∙ ap (λ b. on_if (not b) (event.Abort k)) x.0)
  abort_told (Some (end.Abort j)) k l x = sym (ap (due_abort s h) l ∙ (ap (λ b. on_if (not b) (event.Abort k)) x.0 ∙ ap (λ i. Some (event.Abort i)) (sym x.1)))

  pub ready_due : is_open h kind.Ready ≡ true → ready_event side.end ≡ due s h kind.Ready 1
  ready_due o = let x = flies (is_in_flight o) in ready_told side.end x.0 x.1 x.2

  pub abort_due : is_open h kind.Abort ≡ true → abort_event side.end ≡ due s h kind.Abort 1
  abort_due o = let x = flies (is_in_flight o) in abort_told side.end x.0 x.1 x.2

-- the commit that is to come

by_end : (s : ScriptModel) (ps : ℕ → List Move) (k : ℕ) (o : Option MainEnd) → EndsSo s ps k o → changes s ps k ≡ true → IsCommitted s ps k o
by_end s ps k None x t = x
by_end s ps k (Some (end.Ready c)) x t = x.1
by_end s ps k (Some (end.Abort j)) x t = not_both (changes s ps k) t x.0

pub commit_there : (s : ScriptModel) (n : ℕ) (h : List Entry) (a k : ℕ) (side : JudgedMain) → Legal s n (entry a (event.Commit k) ∷ h) → IsMain s h side → IsCommitted s (pulls_of h) k side.end
commit_there s n h a k side legal m =
    let d = at_commit s n h a k legal.1 in
    by_end s (pulls_of h) k side.end (m.ends (ready_not_idle (sched h).main_state d.prepared) k d.last) ((changes_course s n h legal.0).prepared_changed k d.prepared d.last)
