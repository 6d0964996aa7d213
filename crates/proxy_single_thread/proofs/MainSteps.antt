-- The main side of a run after an event more.
use Rattle.std.proofs.Common.{◌≡◌, ℕ, suc, Bool, true, false, cond, List, [], ◌∷◌, ◌++◌, Some, None, refl, sym, ◌∙◌, ap, subst, arith}
use Rattle.model_states.specs.declared.kind.Kind.{Kind}
use Rattle.model_states.specs.declared.kind.Kind.TheVariants as kind
use Rattle.model_states.specs.declared.states.MainState.{MainState}
use Rattle.model_states.specs.declared.states.MainState.TheVariants as main
use Rattle.model_states.specs.Kinds.{is_main_idle, is_sent, is_ready_to_commit}
use Rattle.page_layers.specs.declared.moves.Move.{Move}
use Rattle.model_history.specs.declared.event.Event.{Event}
use Rattle.model_history.specs.declared.event.Event.TheVariants as event
use Rattle.model_history.specs.declared.history.Entry.{Entry}
use Rattle.model_history.specs.Scripts.{ScriptModel}
use Rattle.model_history.specs.EventFields.{kind_of, sends}
use Rattle.model_history.specs.Scans.{counted}
use Rattle.model_history.specs.Frames.{changes, pulls_of}
use Rattle.model_history.specs.Legal.{sched, Legal}
use Rattle.model_history.proofs.BoolFacts.{is_other}
use Rattle.model_history.proofs.DueFacts.{entry, at_send, at_commit}
use Rattle.impl_log.specs.Runs.{Run, past, with_entry}
use Rattle.impl_log.proofs.LogSteps.{past_more}
use Rattle.main_host.specs.Hosts.{HasRun, MainHostModel, IsEnd, with_frame}
use Rattle.main_host.specs.declared.main_end.MainEnd.{MainEnd}
use Rattle.main_host.proofs.FramesRun.{run_more}
use Rattle.proxy_single_thread.specs.declared.main_side.MainSide.{MainSide}
use Rattle.proxy_single_thread.specs.inner.Ends.{is_ready}
use Rattle.proxy_single_thread.specs.inner.Sides.{IsEndOf, IsAtRest, IsBefore, IsBehind, IsInFlight, IsMainOf, IsMain}
use Rattle.proxy_single_thread.proofs.MainPulls.{ends_so, ready_tells}

-- the main side after a past
abbrev pub IsMainAt : ScriptModel → List Entry → MainSide → Type 0
IsMainAt s h side = IsMainOf s (pulls_of h) (counted sends h) side (is_sent (sched h).main_state)

-- the main side of the run with one entry more
pub main_after : (r new : Run) (a : ℕ) (e : Event) (side : MainSide) → new ≡ with_entry r a e → IsMainAt r.script (entry a e ∷ past r) side → IsMain new side
main_after r new a e side is m =
    subst (λ (z : Run). IsMain z side) (sym is) (subst (λ (h : List Entry). IsMainAt r.script h side) (sym (past_more r.entries (r.entries ++ entry a e ∷ []) (entry a e) refl)) m)

-- the frame in flight was run
pub has_run : (s : ScriptModel) (ps : ℕ → List Move) (n k : ℕ) (host new : MainHostModel) (ms : List Move) (e : MainEnd) (changed : Bool) → n ≡ suc k → HasRun s ps k host → ms ≡ ps k → new ≡ with_frame host ms
    → IsEnd host ms e → changed ≡ is_ready e → IsBehind s ps n (record { host = new; end = Some e; changed = changed }) e
has_run s ps n k host new ms e changed last run is more ends so = record {
  frame = k;
  last = last;
  run = subst (λ (m : ℕ). HasRun s ps m new) (sym last) (subst (HasRun s ps (suc k)) (sym more) (run_more s ps k host ms run is));
  ends = subst (λ (z : MainHostModel). IsEndOf s ps k z.sends e) (sym more) (ends_so s ps k host ms run is e ends);
  changed = so ∙ ready_tells s ps k (host.sends ++ ms ∷ []) e (ends_so s ps k host ms run is e ends);
}

-- it has ended, and is at rest
pub rests : (s : ScriptModel) (ps : ℕ → List Move) (n : ℕ) (side : MainSide) (e : MainEnd) → IsBehind s ps n side e → IsAtRest s ps n (record { host = side.host; end = None; changed = side.changed })
rests s ps n side e b = record {
  run = b.run;
  none = refl;
  changed = λ k i. let last = b.last in let same : b.frame ≡ k = omega (arith, last, i) in b.changed ∙ ap (changes s ps) same;
}

-- ---- the other events

idle_not_sent : (m : MainState) → is_main_idle m ≡ true → is_sent m ≡ false
idle_not_sent main.Idle t = refl
idle_not_sent main.Sent t = absurd cc
idle_not_sent main.ReadyToCommit t = absurd cc

ready_not_sent : (m : MainState) → is_ready_to_commit m ≡ true → is_sent m ≡ false
ready_not_sent main.Idle t = absurd cc
ready_not_sent main.Sent t = absurd cc
ready_not_sent main.ReadyToCommit t = refl

-- the kinds of the main side
abbrev pub is_mains : Kind → Bool
is_mains kind.Ready = true
is_mains kind.Abort = true
is_mains _ = false

sends_frame : (s : ScriptModel) (n : ℕ) (h : List Entry) (a k : ℕ) (ms : List Move) (side : MainSide) → Legal s n (entry a (event.Send k ms) ∷ h) → IsAtRest s (pulls_of h) (counted sends h) side
    → IsMainAt s (entry a (event.Send k ms) ∷ h) side
sends_frame s n h a k ms side legal rest =
    let d = at_send s n h a k ms legal.1 in
    let frame = d.frame in
    let before : IsBefore s (pulls_of (entry a (event.Send k ms) ∷ h)) (suc (counted sends h)) side = record {
      frame = counted sends h;
      last = refl;
      run = record {
        script = rest.run.script;
        count = rest.run.count;
        each = λ j lt. rest.run.each j lt ∙ sym (ap (λ b. cond b ms (pulls_of h j)) (is_other k j (λ i. absurd (omega (arith, lt, frame, i)))));
      };
    } in
    subst (IsInFlight s (pulls_of (entry a (event.Send k ms) ∷ h)) (suc (counted sends h)) side) (sym rest.none) before

module _ (s : ScriptModel) (n : ℕ) (h : List Entry) (a : ℕ) (side : MainSide) where
  pub main_stays : (e : Event) → Legal s n (entry a e ∷ h) → is_mains (kind_of e) ≡ false → IsMainAt s h side → IsMainAt s (entry a e ∷ h) side
  main_stays (event.Ready k) legal f m = absurd cc
  main_stays (event.Abort k) legal f m = absurd cc
  main_stays (event.Send k ms) legal f m =
      let free = idle_not_sent (sched h).main_state (at_send s n h a k ms legal.1).main in
      sends_frame s n h a k ms side legal (subst (IsMainOf s (pulls_of h) (counted sends h) side) free m)
  main_stays (event.Commit k) legal f m = subst (IsMainOf s (pulls_of h) (counted sends h) side) (ready_not_sent (sched h).main_state (at_commit s n h a k legal.1).prepared) m
  main_stays e legal f m = m
