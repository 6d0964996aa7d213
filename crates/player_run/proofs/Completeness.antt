-- What a use takes is not refused.
use Rattle.std.proofs.Common.{◌≡◌, ◌⊎◌, inl, inr, ℕ, List, None, Ok, Err, refl, subst}
use Rattle.std.specs.Prelude.{Result, IfOk}
use Rattle.byte_io.specs.Counts.{Rose}
use Rattle.model_history.specs.Scripts.{ScriptModel}
use Rattle.script_json.proofs.ScriptLaws.{one_script}
use Rattle.player_uses.specs.declared.outcome.Outcome.{Outcome}
use Rattle.player_uses.specs.declared.outcome.Outcome.TheVariants.{Done, Usage, Json, Shape, Script, ReadFault, WriteFault, TooLong, BadRecording, No, Memory, NoPicture}
use Rattle.player_uses.specs.declared.words.Use.{Use}
use Rattle.player_uses.specs.declared.words.Use.TheVariants.{Step, Play, Gen, Demo, Film, Shot, Frames, Check, Serve}
use Rattle.player_lockstep.specs.Films.{IsLastImage}
use Rattle.player_uses.specs.Shots.{with_shot}
use Rattle.player_uses.specs.Answers.{TellsMisfit, IsUnread}
use Rattle.player_uses.specs.Faults.{Causes}
use Rattle.player_run.specs.Runs.{Takes, RefusedShot, Refused, CauseOf, CauseFrom, IsComplete}
use Rattle.player_uses.proofs.NotRefused.{script_taken, recording_taken, history_taken}
use Rattle.player_run.proofs.Pictures.{one_last_image}

-- a script whose shot has a picture is not refused for having none
shot_taken : (workers : ℕ) (bytes : List ℕ) (result : Outcome) → Takes (Shot workers) bytes → RefusedShot bytes result → ⊥
shot_taken workers bytes NoPicture (few, (s, text, accepted, has)) (short, t, other, taken, none) =
    let same : t ≡ s = one_script bytes t s other text in
    one_last_image (with_shot s) has.0 has.1 (subst (λ (z : ScriptModel). IsLastImage (with_shot z) None) same none)
shot_taken workers bytes Json (few, (s, text, accepted, has)) refused = script_taken bytes Json (few, (s, text, accepted)) refused
shot_taken workers bytes (Shape place) (few, (s, text, accepted, has)) refused = script_taken bytes (Shape place) (few, (s, text, accepted)) refused
shot_taken workers bytes (Script frame command fault) (few, (s, text, accepted, has)) refused = script_taken bytes (Script frame command fault) (few, (s, text, accepted)) refused
shot_taken workers bytes (TooLong limit) (few, (s, text, accepted, has)) refused = script_taken bytes (TooLong limit) (few, (s, text, accepted)) refused
shot_taken workers bytes Done (few, (s, text, accepted, has)) refused = script_taken bytes Done (few, (s, text, accepted)) refused
shot_taken workers bytes (Usage word) (few, (s, text, accepted, has)) refused = script_taken bytes (Usage word) (few, (s, text, accepted)) refused
shot_taken workers bytes ReadFault (few, (s, text, accepted, has)) refused = script_taken bytes ReadFault (few, (s, text, accepted)) refused
shot_taken workers bytes WriteFault (few, (s, text, accepted, has)) refused = script_taken bytes WriteFault (few, (s, text, accepted)) refused
shot_taken workers bytes (BadRecording place) (few, (s, text, accepted, has)) refused = script_taken bytes (BadRecording place) (few, (s, text, accepted)) refused
shot_taken workers bytes (No event) (few, (s, text, accepted, has)) refused = script_taken bytes (No event) (few, (s, text, accepted)) refused
shot_taken workers bytes Memory (few, (s, text, accepted, has)) refused = script_taken bytes Memory (few, (s, text, accepted)) refused

-- nor is what a use takes
not_refused : (wanted : Use) (bytes : List ℕ) (result : Outcome) → Takes wanted bytes → Refused wanted bytes result → ⊥
not_refused (Step workers) bytes result takes refused = script_taken bytes result takes refused
not_refused (Play workers) bytes result takes refused = script_taken bytes result takes refused
not_refused (Gen number) bytes result takes refused = refused
not_refused (Demo number) bytes result takes refused = refused
not_refused (Film workers) bytes result takes refused = script_taken bytes result takes refused
not_refused (Shot workers) bytes result takes refused = shot_taken workers bytes result takes refused
not_refused Frames bytes result takes refused = recording_taken bytes result takes refused
not_refused Check bytes result takes refused = history_taken bytes result takes refused
not_refused (Serve workers) bytes result takes refused = refused

-- all is done, or there was no memory
abbrev IsDone : Outcome → Type 0
IsDone result = (result ≡ Done) ⊎ (result ≡ Memory)

done : (wanted : Use) (bytes : List ℕ) (source_old source_new out_old out_new : ℕ) (result : Outcome) → TellsMisfit (Ok wanted) result → CauseOf wanted bytes result → Causes source_old source_new out_old out_new result
    → Takes wanted bytes → (Rose source_old source_new → ⊥) → (Rose out_old out_new → ⊥) → IsDone result
done wanted bytes a b c e Done fits cause faults takes calm_source calm_out = inl refl
done wanted bytes a b c e (Usage word) fits cause faults takes calm_source calm_out = absurd fits
done wanted bytes a b c e Json fits cause faults takes calm_source calm_out = absurd (not_refused wanted bytes Json takes cause)
done wanted bytes a b c e (Shape fault) fits cause faults takes calm_source calm_out = absurd (not_refused wanted bytes (Shape fault) takes cause)
done wanted bytes a b c e (Script frame command why) fits cause faults takes calm_source calm_out = absurd (not_refused wanted bytes (Script frame command why) takes cause)
done wanted bytes a b c e ReadFault fits cause faults takes calm_source calm_out = absurd (calm_source faults)
done wanted bytes a b c e WriteFault fits cause faults takes calm_source calm_out = absurd (calm_out faults)
done wanted bytes a b c e (TooLong limit) fits cause faults takes calm_source calm_out = absurd (not_refused wanted bytes (TooLong limit) takes cause)
done wanted bytes a b c e (BadRecording place) fits cause faults takes calm_source calm_out = absurd (not_refused wanted bytes (BadRecording place) takes cause)
done wanted bytes a b c e (No event) fits cause faults takes calm_source calm_out = absurd (not_refused wanted bytes (No event) takes cause)
done wanted bytes a b c e Memory fits cause faults takes calm_source calm_out = inr refl
done wanted bytes a b c e NoPicture fits cause faults takes calm_source calm_out = absurd (not_refused wanted bytes NoPicture takes cause)

-- a use that reads nothing is done but for a fault of the sink
unread_done : (source_old source_new out_old out_new : ℕ) (result : Outcome) → IsUnread result → Causes source_old source_new out_old out_new result → (Rose out_old out_new → ⊥) → IsDone result
unread_done a b c e Done unread faults calm = inl refl
unread_done a b c e Memory unread faults calm = inr refl
unread_done a b c e WriteFault unread faults calm = absurd (calm faults)
unread_done a b c e _ unread faults calm = absurd unread

complete_use : (wanted : Use) (bytes : List ℕ) (source_old source_new out_old out_new : ℕ) (result : Outcome) → TellsMisfit (Ok wanted) result → CauseFrom wanted bytes result → Causes source_old source_new out_old out_new result
    → IsComplete wanted bytes source_old source_new out_old out_new result
complete_use (Gen number) bytes a b c e result fits cause faults = λ calm_source calm_out. unread_done a b c e result cause faults calm_out
complete_use (Demo number) bytes a b c e result fits cause faults = λ calm_source calm_out. unread_done a b c e result cause faults calm_out
complete_use (Step workers) bytes a b c e result fits cause faults = λ takes calm_source calm_out. done (Step workers) bytes a b c e result fits cause faults takes calm_source calm_out
complete_use (Play workers) bytes a b c e result fits cause faults = λ takes calm_source calm_out. done (Play workers) bytes a b c e result fits cause faults takes calm_source calm_out
complete_use (Film workers) bytes a b c e result fits cause faults = λ takes calm_source calm_out. done (Film workers) bytes a b c e result fits cause faults takes calm_source calm_out
complete_use (Shot workers) bytes a b c e result fits cause faults = λ takes calm_source calm_out. done (Shot workers) bytes a b c e result fits cause faults takes calm_source calm_out
complete_use Frames bytes a b c e result fits cause faults = λ takes calm_source calm_out. done Frames bytes a b c e result fits cause faults takes calm_source calm_out
complete_use Check bytes a b c e result fits cause faults = λ takes calm_source calm_out. done Check bytes a b c e result fits cause faults takes calm_source calm_out
complete_use (Serve workers) bytes a b c e result fits cause faults = tt

pub complete : (asked : Result Use ℕ) (bytes : List ℕ) (source_old source_new out_old out_new : ℕ) (result : Outcome) → TellsMisfit asked result → IfOk asked (λ wanted. CauseFrom wanted bytes result) → Causes source_old source_new out_old out_new result
    → IfOk asked (λ wanted. IsComplete wanted bytes source_old source_new out_old out_new result)
complete (Err word) bytes a b c e result fits cause faults = tt
complete (Ok wanted) bytes a b c e result fits cause faults = complete_use wanted bytes a b c e result fits cause faults
