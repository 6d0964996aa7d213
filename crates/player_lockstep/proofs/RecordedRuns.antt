-- The whole run of a script, and its recording.
use Rattle.std.proofs.Common.{◌≡◌, ℕ, List, [], ◌++◌, refl, ap, sym, ◌∙◌, append_assoc, append-nil, subst}
use Rattle.std.specs.Prelude.{reverse, Option, Result, Ok, Err, IfOk, ⊤}
use Rattle.byte_io.specs.Pieces.{GainsPrefix, WriteCause}
use Rattle.model_history.specs.declared.history.Entry.{Entry}
use Rattle.model_history.specs.declared.input.Input.{Input}
use Rattle.model_history.specs.Accepted.{IsAccepted}
use Rattle.model_history.proofs.Ranged.{playable}
use Rattle.model_history.specs.Scripts.{ScriptModel}
use Rattle.model_history.specs.Lockstep.{IsLockstep}
use Rattle.model_history.specs.Recordings.{header, pieces, recorded}
use Rattle.model_lockstep.specs.Walks.{CanFollow}
use Rattle.model_lockstep.specs.Receivers.{whole_played}
use Rattle.model_lockstep.proofs.Parts as parts
use Rattle.model_lockstep.proofs.Wholes.{lockstep_there}
use Rattle.impl_log.specs.Runs.{new_run}
use Rattle.script_json.specs.Recordings.{script_text, recording}
use Rattle.proxy_single_thread.specs.Singles.{SingleModel, walk_of}
use Rattle.player_lockstep.specs.Recordings.{IsLockstepRecording, Records}
use Rattle.byte_io.specs.declared.writing.PutFault.{PutFault}
use Rattle.byte_io.specs.declared.writing.PutFault.TheVariants.{Failed, Memory}
use Rattle.byte_io.specs.declared.writing.Sink as sink
use Rattle.player_lockstep.specs.inner.Ways.{IsFresh, RecordsRun, recorded_run}
use Rattle.thread_pieces.proofs.Gains.{gains_longer, gains_nothing}
use Rattle.player_lockstep.proofs.PlayedWays.{pieces_both}

-- a compositor before anything was entered
abbrev fresh : ScriptModel → ℕ → SingleModel
fresh s n = record { run = new_run s n; written = 0 }

-- it can play the whole run
pub fresh_can : (s : ScriptModel) (m : SingleModel) (inputs : List Input) → IsFresh s m → IsAccepted s → inputs ≡ s.inputs → CanFollow (whole_played inputs) (walk_of m)
fresh_can s m inputs (n, is) accepted all =
    subst (λ (z : SingleModel). CanFollow (whole_played inputs) (walk_of z)) (sym is) (parts.can_play (walk_of (fresh s n)) inputs (playable s accepted) refl all)

-- ---- the recording

pub whole_of : (s : ScriptModel) (history : List Entry) → header (script_text s) ++ pieces s [] history ≡ recording s history
unfolding recording recorded
whole_of s history = refl

-- what was recorded, and what later entries add
pub text_grows : (s : ScriptModel) (done news : List Entry) → recording s (done ++ news) ≡ recording s done ++ pieces s (reverse done) news
text_grows s done news =
    sym (whole_of s (done ++ news))
    ∙ ap (λ (w : List ℕ). header (script_text s) ++ w) (pieces_both s [] done news ∙ ap (λ (h : List Entry). pieces s [] done ++ pieces s h news) (append-nil (reverse done)))
    ∙ sym (append_assoc (header (script_text s)) (pieces s [] done) (pieces s (reverse done) news))
    ∙ ap (λ (w : List ℕ). w ++ pieces s (reverse done) news) (whole_of s done)

-- nothing was written yet
pub records_nothing : (s : ScriptModel) (held : Option (List ℕ)) → IsAccepted s → (whole : List ℕ) × IsLockstepRecording s whole × GainsPrefix held held whole
records_nothing s held accepted =
    let l = lockstep_there s (playable s accepted) in
    (recording s l.0, (l.0, l.1, refl), gains_nothing held (recording s l.0))

-- a prefix of the lines before the events was written
pub records_front : (s : ScriptModel) (old new : Option (List ℕ)) → IsAccepted s → GainsPrefix old new (header (script_text s)) → (whole : List ℕ) × IsLockstepRecording s whole × GainsPrefix old new whole
records_front s old new accepted front =
    let l = lockstep_there s (playable s accepted) in
    (recording s l.0, (l.0, l.1, refl), subst (λ (w : List ℕ). GainsPrefix old new w) (whole_of s l.0) (gains_longer old new (header (script_text s)) (pieces s [] l.0) front))

-- a run that was recorded or not says the same with its entries
records_run : {X : Type 0} (s : ScriptModel) (old new : Option (List ℕ)) (x : X) (written : Result ⊤ PutFault) (result : Result X PutFault) → result ≡ recorded_run x written → Records s old new written → Records s old new result
records_run s old new x (Ok tt) result is records = subst (λ (r : Result _ PutFault). Records s old new r) (sym is) records
records_run s old new x (Err stop) result is records = subst (λ (r : Result _ PutFault). Records s old new r) (sym is) records

cause_run : {X : Type 0} (f g : ℕ) (x : X) (written : Result ⊤ PutFault) (result : Result X PutFault) → result ≡ recorded_run x written → WriteCause f g written → WriteCause f g result
cause_run f g x (Ok tt) result is cause = subst (λ (r : Result _ PutFault). WriteCause f g r) (sym is) tt
cause_run f g x (Err Failed) result is cause = subst (λ (r : Result _ PutFault). WriteCause f g r) (sym is) cause
cause_run f g x (Err (Memory _)) result is cause = subst (λ (r : Result _ PutFault). WriteCause f g r) (sym is) tt

lockstep_run : (s : ScriptModel) (entries : List Entry) (written : Result ⊤ PutFault) (result : Result (List Entry) PutFault) → result ≡ recorded_run entries written → IfOk written (λ whole. IsLockstep s entries) → IfOk result (IsLockstep s)
lockstep_run s entries (Ok tt) result is right = subst (λ (r : Result (List Entry) PutFault). IfOk r (IsLockstep s)) (sym is) right
lockstep_run s entries (Err stop) result is right = subst (λ (r : Result (List Entry) PutFault). IfOk r (IsLockstep s)) (sym is) tt

pub run_told : {K P : Type 0} (k : sink.Ghosts K P) (s : ScriptModel) (old new : K) (entries : List Entry) (written : Result ⊤ PutFault) (result : Result (List Entry) PutFault) → result ≡ recorded_run entries written
    → RecordsRun k s old new (λ whole. entries) written → RecordsRun k s old new (λ run. run) result
run_told k s old new entries written result is run = record {
  bytes = records_run s (k.held old) (k.held new) entries written result is run.bytes;
  history = lockstep_run s entries written result is run.history;
  grows = run.grows;
  cause = cause_run (k.faults old) (k.faults new) entries written result is run.cause;
}

-- what holds however it ends holds where it ends well
pub where_ok : {X E : Type 0} (P : Type 0) (result : Result X E) → P → IfOk result (λ x. P)
where_ok P (Ok x) holds = holds
where_ok P (Err e) holds = tt
