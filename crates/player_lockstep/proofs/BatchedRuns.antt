-- Runs that are played batch by batch.
use Rattle.std.proofs.Common.{◌≡◌, ℕ, Bool, true, false, List, [], ◌++◌, refl, ap, sym, ◌∙◌, append_assoc, append-nil, subst}
use Rattle.std.specs.Prelude.{reverse, Option, Result, Ok, Err, IfOk, OnErr, OnOk}
use Rattle.std.specs.Io.KnownBytes.{Appends}
use Rattle.std.specs.declared.alloc.AllocError.{AllocError}
use Rattle.std.proofs.lemmas.List.{reverse-reverse}
use Rattle.byte_io.specs.Pieces.{GainsPrefix, PutsAll, WriteCause}
use Rattle.byte_io.specs.declared.writing.PutFault.{PutFault}
use Rattle.model_history.specs.declared.history.Entry.{Entry}
use Rattle.model_history.specs.declared.input.Input.{Input}
use Rattle.model_history.specs.Lockstep.{IsLockstep}
use Rattle.model_history.specs.Recordings.{header, pieces}
use Rattle.model_history.specs.Scripts.{ScriptModel}
use Rattle.model_lockstep.specs.Receivers.{OnCourse, ReachesEnd, StaysOn}
use Rattle.model_lockstep.proofs.Courses.{course_begins}
use Rattle.impl_log.specs.Runs.{Run, past}
use Rattle.script_json.specs.Recordings.{script_text, recording}
use Rattle.proxy_single_thread.specs.Singles.{SingleModel, walk_of}
use Rattle.thread_pieces.proofs.Gains.{gains_both, gains_front, gains_longer}
use Rattle.recording_writer.specs.Parts.{Half}
use Rattle.recording_writer.proofs.Gains.{written_after}
use Rattle.player_lockstep.specs.Recordings.{IsLockstepRecording}
use Rattle.player_lockstep.specs.inner.Batches.{Completes, KeepsUp, StopsEarly, joint_answer, run_text}
use Rattle.player_lockstep.specs.inner.Receivers.{HasGathered, Waited}
use Rattle.player_lockstep.specs.inner.Ways.{IsFresh}
use Rattle.player_lockstep.proofs.RecordedRuns.{text_grows, whole_of}

-- ---- what was gathered

-- where gathering begins
abbrev pub waited : Run → List ℕ → Waited
waited r held = record { text = run_text r; held = held }

-- what gathering brought keeps up with the run
pub keeps_up : {X E : Type 0} (result : Result X E) (old new : SingleModel) (before after : List ℕ) (left : X → List Input) → OnOk result (HasGathered (waited old.run before) old.run.script (past new.run) after)
    → IfOk result (λ x. StaysOn (left x) (walk_of old) (walk_of new)) → OnOk result (KeepsUp old.run new.run before after)
keeps_up (Ok x) old new before after left has stays = λ lead is.
    has lead is
    ∙ ap (λ (es : List Entry). recording old.run.script es) (reverse-reverse new.run.entries)
    ∙ ap (λ (s : ScriptModel). recording s new.run.entries) (sym stays.script)
keeps_up (Err e) old new before after left has stays = tt

pub completes : {X E : Type 0} (result : Result X E) (s : ScriptModel) (text : List ℕ) (new : SingleModel) (before after : List ℕ) → OnOk result (Completes before text after (recording s (reverse (past new.run))))
    → OnOk result (Completes before text after (recording s new.run.entries))
completes (Ok x) s text new before after has = λ lead is. has lead is ∙ ap (λ (es : List Entry). recording s es) (reverse-reverse new.run.entries)
completes (Err e) s text new before after has = tt

pub ends_lockstep : (s : ScriptModel) (new : SingleModel) → IsLockstep s (reverse (past new.run)) → IsLockstep s new.run.entries
ends_lockstep s new lockstep = subst (λ (es : List Entry). IsLockstep s es) (reverse-reverse new.run.entries) lockstep

-- ---- what a sink gained

-- a prefix of what was entered is a prefix of the script's recording
pub stops_early : (left : List Input) (m : SingleModel) (start after : Option (List ℕ)) → OnCourse left (walk_of m) → GainsPrefix start after (run_text m.run) → StopsEarly m.run.script start after
stops_early left m start after course front =
    let begins = course_begins left (walk_of m) course in
    let begun = subst (λ (es : List Entry). IsLockstep m.run.script (es ++ begins.0)) (reverse-reverse m.run.entries) begins.1 in (
      recording m.run.script (m.run.entries ++ begins.0),
      (m.run.entries ++ begins.0, begun, refl),
      subst (λ (w : List ℕ). GainsPrefix start after w) (sym (text_grows m.run.script m.run.entries begins.0)) (gains_longer start after (run_text m.run) (pieces m.run.script (past m.run) begins.0) front),
    )

-- what the sink gained of the whole is a prefix of it
pub half_front : (start now : Option (List ℕ)) (whole held : List ℕ) → Half start now whole held → GainsPrefix start now whole
half_front start now whole held half = (half.0, held, half.1, half.2)

-- some of what waited was put, or a prefix of it
module _ (start now next : Option (List ℕ)) (whole held shots lines : List ℕ) (are : shots ++ lines ≡ held) (half : Half start now whole held) where
  all_of : (half.0 ++ shots) ++ lines ≡ whole
  all_of = append_assoc half.0 shots lines ∙ ap (λ (w : List ℕ). half.0 ++ w) are ∙ half.1

  pub half_put : Appends now next shots → Half start next whole lines
  half_put put = (half.0 ++ shots, all_of, gains_both start now next half.0 shots half.2 put)

  pub half_stopped : GainsPrefix now next shots → GainsPrefix start next whole
  half_stopped front = gains_front start now next half.0 shots lines whole half.2 front all_of

-- what was played meanwhile waits
pub half_later : (old new : Run) (start next : Option (List ℕ)) (lines held : List ℕ) → Half start next (run_text old) lines → KeepsUp old new lines held → Half start next (run_text new) held
half_later old new start next lines held half keeps = (half.0, keeps half.0 half.1, half.2)

-- what was played after all inputs waits
pub half_gathered : (start now : Option (List ℕ)) (text whole before held : List ℕ) → Half start now text before → Completes before text held whole → Half start now whole held
half_gathered start now text whole before held half completes = (half.0, completes half.0 half.1, half.2)

-- a prefix of what was played after all inputs is a prefix of the script's recording
pub end_stops : (over : Bool) (old new : SingleModel) (start after : Option (List ℕ)) → ReachesEnd over (walk_of old) (walk_of new) → GainsPrefix start after (recording old.run.script new.run.entries) → StopsEarly old.run.script start after
end_stops true old new start after lockstep front = (recording old.run.script new.run.entries, (new.run.entries, ends_lockstep old.run.script new lockstep, refl), front)
end_stops false old new start after (stays, fewer) front =
    subst (λ (s : ScriptModel). StopsEarly s start after) stays.script
    (stops_early [] new start after stays.course (subst (λ (s : ScriptModel). GainsPrefix start after (recording s new.run.entries)) (sym stays.script) front))

-- all was played, and what waits was put, or a prefix of it
pub all_put : {X E : Type 0} (result : Result X E) (s : ScriptModel) (new : SingleModel) (start now next : Option (List ℕ)) (held : List ℕ) → IsLockstep s (reverse (past new.run)) → Half start now (recording s new.run.entries) held → PutsAll now next held result
    → (whole : List ℕ) × IsLockstepRecording s whole × PutsAll start next whole result
all_put result s new start now next held lockstep half puts =
    let whole : List ℕ = recording s new.run.entries in
    (whole, (new.run.entries, ends_lockstep s new lockstep, refl), written_after result start now next half.0 held whole half.2 puts half.1)

-- before anything was entered, the recording is the lines before the events
pub fresh_half : (s : ScriptModel) (m : SingleModel) (start now : Option (List ℕ)) (lines held : List ℕ) → IsFresh s m → held ≡ lines → Half start now (header (script_text s)) lines → Half start now (run_text m.run) held
fresh_half s m start now lines held fresh same half =
    let text : run_text m.run ≡ header (script_text s) = ap (λ (z : SingleModel). run_text z.run) fresh.1 ∙ sym (whole_of s []) ∙ append-nil (header (script_text s)) in
    subst (λ (w : List ℕ). Half start now w held) (sym text) (subst (λ (w : List ℕ). Half start now (header (script_text s)) w) (sym same) half)

-- however putting ended, a prefix of what was entered before was put
pub put_front : {Y : Type 0} (old : Run) (start now next : Option (List ℕ)) (held shots lines : List ℕ) → shots ++ lines ≡ held → Half start now (run_text old) held → (put : Result Y PutFault) → PutsAll now next shots put → GainsPrefix start next (run_text old)
put_front old start now next held shots lines are half (Ok y) puts = half_front start next (run_text old) lines (half_put start now next (run_text old) held shots lines are half puts)
put_front old start now next held shots lines are half (Err stop) puts = half_stopped start now next (run_text old) held shots lines are half puts

-- ---- what playing and putting answered together

module _ {X Y : Type 0} where
  pub joint_if : (F : X → Type 0) (played : Result X AllocError) (put : Result Y PutFault) → IfOk played F → IfOk (joint_answer played put) F
  joint_if F (Ok left) (Ok y) holds = holds
  joint_if F (Ok left) (Err stop) holds = tt
  joint_if F (Err e) (Ok y) holds = tt
  joint_if F (Err e) (Err stop) holds = tt

  pub joint_err : (P : Type 0) (played : Result X AllocError) (put : Result Y PutFault) → P → OnErr (joint_answer played put) P
  joint_err P (Ok left) (Ok y) holds = tt
  joint_err P (Ok left) (Err stop) holds = holds
  joint_err P (Err e) (Ok y) holds = holds
  joint_err P (Err e) (Err stop) holds = holds

  pub joint_cause : (f g : ℕ) (played : Result X AllocError) (put : Result Y PutFault) → WriteCause f g put → WriteCause f g (joint_answer played put)
  joint_cause f g (Ok left) (Ok y) cause = tt
  joint_cause f g (Ok left) (Err stop) cause = cause
  joint_cause f g (Err e) (Ok y) cause = tt
  joint_cause f g (Err e) (Err stop) cause = cause

  module _ (old new : Run) (start now next : Option (List ℕ)) (held shots lines after : List ℕ) (are : shots ++ lines ≡ held) (half : Half start now (run_text old) held) where
    -- both went well
    pub joint_ok : (played : Result X AllocError) (put : Result Y PutFault) → OnOk played (KeepsUp old new lines after) → PutsAll now next shots put → OnOk (joint_answer played put) (Half start next (run_text new) after)
    joint_ok (Ok left) (Ok y) keeps puts = half_later old new start next lines after (half_put start now next (run_text old) held shots lines are half puts) keeps
    joint_ok (Ok left) (Err stop) keeps puts = tt
    joint_ok (Err e) (Ok y) keeps puts = tt
    joint_ok (Err e) (Err stop) keeps puts = tt
