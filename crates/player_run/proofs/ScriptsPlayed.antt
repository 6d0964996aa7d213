-- What was written of a script that was read is what its source asked for.
use Rattle.std.proofs.Common.{◌≡◌, ◌+◌, ℕ, ◌≤◌, Bool, List, length, None, Some, Ok, Err, inl, inr, refl, subst}
use Rattle.std.specs.Prelude.{Option, true}
use Rattle.byte_io.specs.declared.reading.Source as reading
use Rattle.byte_io.specs.declared.writing.Sink as writing
use Rattle.model_history.specs.Accepted.{IsAccepted}
use Rattle.model_history.specs.Scripts.{ScriptModel}
use Rattle.script_json.specs.Causes.{IsScriptText}
use Rattle.player_uses.specs.declared.outcome.Outcome.{Outcome}
use Rattle.player_uses.specs.declared.outcome.Outcome.TheVariants.{Done, Usage, Json, Shape, Script, ReadFault, WriteFault, TooLong, BadRecording, No, Memory, NoPicture}
use Rattle.player_uses.specs.declared.words.Use.{Use}
use Rattle.player_uses.specs.declared.words.Use.TheVariants.{Step, Play, Gen, Demo, Film, Shot, Serve}
use Rattle.player_uses.specs.Answers.{TellsMisfit, AnswersScript, AnswersShot, MayAnswer}
use Rattle.player_uses.specs.Faults.{Causes, StopsAtFault, RefusedBy}
use Rattle.player_uses.specs.Outputs.{WritesSome, WritesOrBegins}
use Rattle.player_uses.specs.Reading.{IsJudgedWhole, Reads, ReadToEnd, GivenAtMost}
use Rattle.player_uses.specs.Refusals.{script_limit, RefusedScript}
use Rattle.player_uses.specs.Scripts.{IsNoneOf, IsStopped}
use Rattle.player_uses.specs.Shots.{with_shot}
use Rattle.player_run.specs.Ran.{bytes_given, Did}
use Rattle.player_run.specs.Runs.{Takes, Refused, RefusedShot, CauseOf, CauseFrom, IsScriptFrom, IsOutput, IsBegun, Writes}
use Rattle.player_run.specs.inner.Plays.{PlaysScript, script_played, IsWritten, IsStarted, LacksPicture, Plays, IsReadFor}
use Rattle.player_run.specs.inner.Shots.{Shoots}
use Rattle.player_run.proofs.Pictures.{has_picture}
use Rattle.player_run.proofs.DoneUses.{did}

-- ---- what the players of one script say

-- what a use writes in all, it was writing
started : (wanted : Use) (s : ScriptModel) (whole : List ℕ) → IsWritten wanted s whole → IsStarted wanted s whole
started (Play workers) s whole is = (is.0, is.1.sound, is.2)
started _ s whole is = is

pub some_plays : (P : List ℕ → Type 0) (wanted : Use) (s : ScriptModel) (old new : Option (List ℕ)) (o : Outcome) → ((whole : List ℕ) → P whole → IsWritten wanted s whole) → WritesSome P old new o → Plays wanted s old new o
some_plays P wanted s old new Done is (whole, some, gains) = (whole, is whole some, gains)
some_plays P wanted s old new WriteFault is (whole, some, gains) = (whole, started wanted s whole (is whole some), gains)
some_plays P wanted s old new Memory is (inl same) = inl same
some_plays P wanted s old new Memory is (inr (whole, some, gains)) = inr (whole, started wanted s whole (is whole some), gains)
some_plays P wanted s old new _ is wrote = absurd wrote

pub begun_plays : (wanted : Use) (s : ScriptModel) (old new : Option (List ℕ)) (o : Outcome) → WritesOrBegins (IsWritten wanted s) (IsStarted wanted s) old new o → Plays wanted s old new o
begun_plays wanted s old new NoPicture wrote = absurd wrote
begun_plays wanted s old new _ wrote = wrote

pub shot_plays : (workers : ℕ) (s : ScriptModel) (old new : Option (List ℕ)) (o : Outcome) → Shoots s old new o → Plays (Shot workers) s old new o
shot_plays workers s old new NoPicture wrote = wrote
shot_plays workers s old new Done wrote = wrote
shot_plays workers s old new WriteFault wrote = wrote
shot_plays workers s old new Memory wrote = wrote
shot_plays workers s old new _ wrote = absurd wrote

-- ---- a script that was read

from_of : (bytes : List ℕ) (s : ScriptModel) → IsAccepted s → (length bytes ≤ script_limit) × IsScriptText bytes s → IsScriptFrom bytes s
from_of bytes s accepted text = (text.1, accepted.commands)

-- of which something was written is what the use takes
takes : (wanted : Use) (said : ScriptModel) (bytes whole : List ℕ) → PlaysScript wanted → IsAccepted said → length bytes ≤ script_limit → IsScriptText bytes said → IsStarted wanted (script_played wanted said) whole → Takes wanted bytes
takes (Step workers) said bytes whole plays accepted few text is = (few, (said, text, accepted.commands))
takes (Play workers) said bytes whole plays accepted few text is = (few, (said, text, accepted.commands))
takes (Film workers) said bytes whole plays accepted few text is = (few, (said, text, accepted.commands))
takes (Shot workers) said bytes whole plays accepted few text is = (few, (said, text, accepted.commands, has_picture (with_shot said) whole is))
takes _ said bytes whole plays accepted few text is = absurd plays

-- which has no picture is refused
pictureless : (wanted : Use) (said : ScriptModel) (bytes : List ℕ) → IsAccepted said → length bytes ≤ script_limit → IsScriptText bytes said → LacksPicture wanted (script_played wanted said) → Refused wanted bytes NoPicture
pictureless (Shot workers) said bytes accepted few text lacks = (few, said, text, accepted.commands, lacks)
pictureless _ said bytes accepted few text lacks = absurd lacks

explained : (wanted : Use) (said : ScriptModel) (bytes : List ℕ) (old new : Option (List ℕ)) (o : Outcome) → PlaysScript wanted → IsAccepted said → length bytes ≤ script_limit → IsScriptText bytes said
    → Plays wanted (script_played wanted said) old new o → CauseOf wanted bytes o
explained wanted said bytes old new Done plays accepted few text (whole, is, gains) = takes wanted said bytes whole plays accepted few text (started wanted (script_played wanted said) whole is)
explained wanted said bytes old new WriteFault plays accepted few text (whole, is, gains) = takes wanted said bytes whole plays accepted few text is
explained wanted said bytes old new Memory plays accepted few text wrote = tt
explained wanted said bytes old new NoPicture plays accepted few text wrote = pictureless wanted said bytes accepted few text wrote.0
explained wanted said bytes old new _ plays accepted few text wrote = absurd wrote

-- what is said of a source's bytes, of a use that plays its script
input_of : (wanted : Use) (source : List ℕ) (o : Outcome) → PlaysScript wanted → CauseOf wanted source o → CauseFrom wanted source o
input_of (Gen number) source o plays is = absurd plays
input_of (Demo number) source o plays is = absurd plays
input_of (Serve workers) source o plays is = absurd plays
input_of _ source o plays is = is

-- what was written is what the use writes
written : (wanted : Use) (said : ScriptModel) (source whole : List ℕ) → PlaysScript wanted → IsScriptFrom source said → IsWritten wanted (script_played wanted said) whole → IsOutput wanted source whole
written (Step workers) said source whole plays from is = (said, from, is)
written (Play workers) said source whole plays from is = (said, from, is)
written (Film workers) said source whole plays from is = (said, from, is)
written (Shot workers) said source whole plays from is = (said, from, is)
written _ said source whole plays from is = absurd plays

begun : (wanted : Use) (said : ScriptModel) (source whole : List ℕ) → PlaysScript wanted → IsScriptFrom source said → IsStarted wanted (script_played wanted said) whole → IsBegun wanted source whole
begun (Step workers) said source whole plays from is = (said, from, is)
begun (Play workers) said source whole plays from is = (said, from, is)
begun (Film workers) said source whole plays from is = (said, from, is)
begun (Shot workers) said source whole plays from is = (said, from, is)
begun _ said source whole plays from is = absurd plays

output_of : (wanted : Use) (said : ScriptModel) (source : List ℕ) (old new : Option (List ℕ)) (o : Outcome) → PlaysScript wanted → IsScriptFrom source said → Plays wanted (script_played wanted said) old new o → Writes wanted source old new o
output_of wanted said source old new Done plays from (whole, is, gains) = (whole, written wanted said source whole plays from is, gains)
output_of wanted said source old new WriteFault plays from (whole, is, gains) = (whole, begun wanted said source whole plays from is, gains)
output_of wanted said source old new Memory plays from (inl same) = inl same
output_of wanted said source old new Memory plays from (inr (whole, is, gains)) = inr (whole, begun wanted said source whole plays from is, gains)
output_of wanted said source old new NoPicture plays from wrote = wrote.1
output_of wanted said source old new _ plays from wrote = absurd wrote

-- the words are no matter of it
words_of : (wanted : Use) (s : ScriptModel) (old new : Option (List ℕ)) (o : Outcome) → Plays wanted s old new o → TellsMisfit (Ok wanted) o
words_of wanted s old new (Usage word) wrote = absurd wrote
words_of wanted s old new _ wrote = tt

-- nor are faults of the source
cause_of : (wanted : Use) (s : ScriptModel) (old new : Option (List ℕ)) (a b c d : ℕ) (o : Outcome) → Plays wanted s old new o → Causes 0 0 c d o → Causes a b c d o
cause_of wanted s old new a b c d ReadFault wrote cause = absurd wrote
cause_of wanted s old new a b c d WriteFault wrote cause = cause
cause_of wanted s old new a b c d _ wrote cause = tt

stops_of : (wanted : Use) (s : ScriptModel) (old new : Option (List ℕ)) (a b : ℕ) (failed : Bool) (o : Outcome) → Plays wanted s old new o → b ≡ a → StopsAtFault a b failed o
stops_of wanted s old new a b failed ReadFault wrote same = absurd wrote
stops_of wanted s old new a b failed _ wrote same = same

-- which answers come
script_answers : (wanted : Use) (s : ScriptModel) (old new : Option (List ℕ)) (o : Outcome) → (LacksPicture wanted s → ⊥) → Plays wanted s old new o → AnswersScript o
script_answers wanted s old new (Usage word) none wrote = absurd wrote
script_answers wanted s old new (TooLong limit) none wrote = absurd wrote
script_answers wanted s old new (BadRecording place) none wrote = absurd wrote
script_answers wanted s old new (No event) none wrote = absurd wrote
script_answers wanted s old new NoPicture none wrote = absurd (none wrote.0)
script_answers wanted s old new _ none wrote = tt

shot_answers : (wanted : Use) (s : ScriptModel) (old new : Option (List ℕ)) (o : Outcome) → Plays wanted s old new o → AnswersShot o
shot_answers wanted s old new (Usage word) wrote = absurd wrote
shot_answers wanted s old new (TooLong limit) wrote = absurd wrote
shot_answers wanted s old new (BadRecording place) wrote = absurd wrote
shot_answers wanted s old new (No event) wrote = absurd wrote
shot_answers wanted s old new _ wrote = tt

answers_of : (wanted : Use) (s : ScriptModel) (old new : Option (List ℕ)) (o : Outcome) → PlaysScript wanted → Plays wanted s old new o → MayAnswer wanted o
answers_of (Step workers) s old new o plays wrote = script_answers (Step workers) s old new o (λ lacks. lacks) wrote
answers_of (Play workers) s old new o plays wrote = script_answers (Play workers) s old new o (λ lacks. lacks) wrote
answers_of (Film workers) s old new o plays wrote = script_answers (Film workers) s old new o (λ lacks. lacks) wrote
answers_of (Shot workers) s old new o plays wrote = shot_answers (Shot workers) s old new o wrote
answers_of _ s old new o plays wrote = absurd plays

-- how much was read
reads_of : (wanted : Use) (old new : List ℕ) → PlaysScript wanted → GivenAtMost (script_limit + 1) old new → Reads wanted old new
reads_of (Step workers) old new plays most = most
reads_of (Play workers) old new plays most = most
reads_of (Film workers) old new plays most = most
reads_of (Shot workers) old new plays most = most
reads_of _ old new plays most = absurd plays

end_of : (wanted : Use) (ended : Bool) (o : Outcome) → PlaysScript wanted → IsJudgedWhole ended o → ReadToEnd wanted ended o
end_of (Step workers) ended o plays whole = whole
end_of (Play workers) ended o plays whole = whole
end_of (Film workers) ended o plays whole = whole
end_of (Shot workers) ended o plays whole = whole
end_of _ ended o plays whole = absurd plays

judged_whole : (ended : Bool) (o : Outcome) → ended ≡ true → IsJudgedWhole ended o
judged_whole ended (Usage word) whole = tt
judged_whole ended ReadFault whole = tt
judged_whole ended (TooLong limit) whole = tt
judged_whole ended Memory whole = tt
judged_whole ended _ whole = whole

pub did_play : {S K P : Type 0} (s : reading.Ghosts S) (k : writing.Ghosts K P) (wanted : Use) (source_old source_new : S) (out_old out_new : K) (script : ScriptModel) (o : Outcome)
    → PlaysScript wanted → IsReadFor wanted (bytes_given s source_old source_new) (s.has_ended source_new) script → GivenAtMost (script_limit + 1) (s.given source_old) (s.given source_new) → s.faults source_new ≡ s.faults source_old
    → Plays wanted script (k.held out_old) (k.held out_new) o → Causes 0 0 (k.faults out_old) (k.faults out_new) o → Did s k (Ok wanted) source_old source_new out_old out_new o
did_play s k wanted source_old source_new out_old out_new script o plays read most calm wrote cause =
    let played : Plays wanted (script_played wanted read.said) (k.held out_old) (k.held out_new) o = subst (λ (z : ScriptModel). Plays wanted z (k.held out_old) (k.held out_new) o) read.asked wrote in
    did s k wanted source_old source_new out_old out_new o
    (words_of wanted script (k.held out_old) (k.held out_new) o wrote)
    (input_of wanted (bytes_given s source_old source_new) o plays (explained wanted read.said (bytes_given s source_old source_new) (k.held out_old) (k.held out_new) o plays read.accepted read.text.0 read.text.1 played))
    (reads_of wanted (s.given source_old) (s.given source_new) plays most)
    (end_of wanted (s.has_ended source_new) o plays (judged_whole (s.has_ended source_new) o read.whole))
    (output_of wanted read.said (bytes_given s source_old source_new) (k.held out_old) (k.held out_new) o plays (from_of (bytes_given s source_old source_new) read.said read.accepted read.text) played)
    (answers_of wanted script (k.held out_old) (k.held out_new) o plays wrote)
    (cause_of wanted script (k.held out_old) (k.held out_new) (s.faults source_old) (s.faults source_new) (k.faults out_old) (k.faults out_new) o wrote cause)
    (stops_of wanted script (k.held out_old) (k.held out_new) (s.faults source_old) (s.faults source_new) (s.has_failed source_new) o wrote calm)

-- ---- no script was read

shot_refused : (bytes : List ℕ) (o : Outcome) → RefusedScript bytes o → RefusedShot bytes o
shot_refused bytes NoPicture refused = absurd refused
shot_refused bytes _ refused = refused

refused_of : (wanted : Use) (bytes : List ℕ) (o : Outcome) → PlaysScript wanted → RefusedScript bytes o → Refused wanted bytes o
refused_of (Step workers) bytes o plays refused = refused
refused_of (Play workers) bytes o plays refused = refused
refused_of (Film workers) bytes o plays refused = refused
refused_of (Shot workers) bytes o plays refused = shot_refused bytes o refused
refused_of _ bytes o plays refused = absurd plays

unread : (wanted : Use) (bytes : List ℕ) (o : Outcome) → PlaysScript wanted → IsStopped o → IsNoneOf bytes o → CauseOf wanted bytes o
unread wanted bytes Done plays stopped none = absurd stopped
unread wanted bytes WriteFault plays stopped none = absurd stopped
unread wanted bytes (Usage word) plays stopped none = tt
unread wanted bytes ReadFault plays stopped none = tt
unread wanted bytes Memory plays stopped none = tt
unread wanted bytes Json plays stopped none = refused_of wanted bytes Json plays none
unread wanted bytes (Shape fault) plays stopped none = refused_of wanted bytes (Shape fault) plays none
unread wanted bytes (Script frame command why) plays stopped none = refused_of wanted bytes (Script frame command why) plays none
unread wanted bytes (TooLong limit) plays stopped none = refused_of wanted bytes (TooLong limit) plays none
unread wanted bytes (BadRecording place) plays stopped none = refused_of wanted bytes (BadRecording place) plays none
unread wanted bytes (No event) plays stopped none = refused_of wanted bytes (No event) plays none
unread wanted bytes NoPicture plays stopped none = refused_of wanted bytes NoPicture plays none

stopped_words : (wanted : Use) (o : Outcome) → IsStopped o → TellsMisfit (Ok wanted) o
stopped_words wanted (Usage word) stopped = absurd stopped
stopped_words wanted _ stopped = tt

stopped_output : (wanted : Use) (source : List ℕ) (held : Option (List ℕ)) (o : Outcome) → IsStopped o → Writes wanted source held held o
stopped_output wanted source held Done stopped = absurd stopped
stopped_output wanted source held WriteFault stopped = absurd stopped
stopped_output wanted source held Memory stopped = inl refl
stopped_output wanted source held _ stopped = refl

stopped_cause : (a b c d : ℕ) (o : Outcome) → IsStopped o → RefusedBy {X = ScriptModel} a b (Err o) → Causes a b c d o
stopped_cause a b c d ReadFault stopped cause = cause
stopped_cause a b c d WriteFault stopped cause = absurd stopped
stopped_cause a b c d _ stopped cause = tt

all_answers : (o : Outcome) → AnswersScript o → AnswersShot o
all_answers NoPicture answers = tt
all_answers (Usage word) answers = absurd answers
all_answers (BadRecording place) answers = absurd answers
all_answers (No event) answers = absurd answers
all_answers _ answers = answers

stopped_answers : (wanted : Use) (o : Outcome) → PlaysScript wanted → AnswersScript o → MayAnswer wanted o
stopped_answers (Step workers) o plays answers = answers
stopped_answers (Play workers) o plays answers = answers
stopped_answers (Film workers) o plays answers = answers
stopped_answers (Shot workers) o plays answers = all_answers o answers
stopped_answers _ o plays answers = absurd plays

pub did_stop : {S K P : Type 0} (s : reading.Ghosts S) (k : writing.Ghosts K P) (wanted : Use) (source_old source_new : S) (out : K) (o : Outcome)
    → PlaysScript wanted → IsNoneOf (bytes_given s source_old source_new) o × IsJudgedWhole (s.has_ended source_new) o × IsStopped o → GivenAtMost (script_limit + 1) (s.given source_old) (s.given source_new)
    → RefusedBy {X = ScriptModel} (s.faults source_old) (s.faults source_new) (Err o) → AnswersScript o → StopsAtFault (s.faults source_old) (s.faults source_new) (s.has_failed source_new) o
    → Did s k (Ok wanted) source_old source_new out out o
did_stop s k wanted source_old source_new out o plays (none, whole, stopped) most cause answers stops =
    did s k wanted source_old source_new out out o
    (stopped_words wanted o stopped)
    (input_of wanted (bytes_given s source_old source_new) o plays (unread wanted (bytes_given s source_old source_new) o plays stopped none))
    (reads_of wanted (s.given source_old) (s.given source_new) plays most)
    (end_of wanted (s.has_ended source_new) o plays whole)
    (stopped_output wanted (bytes_given s source_old source_new) (k.held out) o stopped)
    (stopped_answers wanted o plays answers)
    (stopped_cause (s.faults source_old) (s.faults source_new) (k.faults out) (k.faults out) o stopped cause)
    stops
