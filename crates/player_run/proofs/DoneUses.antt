-- What is said of a use that was done is all that is said of a run.
use Rattle.std.specs.Prelude.{◌≡◌, ℕ, List, [], Option, None, Some, Result, Ok, Err, IfOk}
use Rattle.std.proofs.Common.{refl, sym, subst, append-nil, inl}
use Rattle.std.specs.Io.KnownBytes.{Appends}
use Rattle.byte_io.specs.declared.reading.Source as reading
use Rattle.byte_io.specs.declared.writing.Sink as writing
use Rattle.player_lines.specs.declared.client.Client as client
use Rattle.player_lines.specs.declared.session.Session.{Session}
use Rattle.player_uses.specs.declared.outcome.Outcome.{Outcome}
use Rattle.player_uses.specs.declared.outcome.Outcome.TheVariants.{Done, Usage, ReadFault, WriteFault, Memory}
use Rattle.player_uses.specs.declared.words.Use.{Use}
use Rattle.player_uses.specs.declared.words.Use.TheVariants.{Frames, Check, Serve}
use Rattle.player_uses.specs.Answers.{TellsMisfit, AnswersSession, IsUnread, MayAnswer}
use Rattle.player_uses.specs.Faults.{Causes, StopsAtFault, IsSilent}
use Rattle.player_uses.specs.Outputs.{WritesSome, DeliversImages}
use Rattle.player_uses.specs.Reading.{Reads, ReadToEnd}
use Rattle.player_uses.specs.Refusals.{ExplainsImages, ExplainsJudgement}
use Rattle.player_uses.proofs.Outputs.{some_words, some_unread}
use Rattle.player_uses.proofs.Answered.{some_stops}
use Rattle.player_run.specs.Ran.{bytes_given, Did, Passes}
use Rattle.player_run.specs.Runs.{CauseFrom, IsOutput, Writes, IsComplete, UnlessServe}
use Rattle.player_run.specs.Served.{Serves}
use Rattle.player_run.proofs.Completeness.{complete}
use Rattle.player_run.proofs.Outputs.{nothing_written, some_output}
use Rattle.player_run.proofs.ReadUses.{frames_input, frames_output, check_input}

unless_serve : (wanted : Use) (P : Type 0) → P → UnlessServe (Ok wanted) P
unless_serve (Serve workers) P holds = tt
unless_serve _ P holds = holds

pub did : {S K P : Type 0} (s : reading.Ghosts S) (k : writing.Ghosts K P) (wanted : Use) (source_old source_new : S) (out_old out_new : K) (o : Outcome)
    → TellsMisfit (Ok wanted) o → CauseFrom wanted (bytes_given s source_old source_new) o → Reads wanted (s.given source_old) (s.given source_new) → ReadToEnd wanted (s.has_ended source_new) o
    → Writes wanted (bytes_given s source_old source_new) (k.held out_old) (k.held out_new) o → MayAnswer wanted o
    → Causes (s.faults source_old) (s.faults source_new) (k.faults out_old) (k.faults out_new) o → StopsAtFault (s.faults source_old) (s.faults source_new) (s.has_failed source_new) o
    → Did s k (Ok wanted) source_old source_new out_old out_new o
did s k wanted source_old source_new out_old out_new o words input reads end output answers cause stops = record {
  words = words;
  untouched = tt;
  input = input;
  reads = reads;
  end = end;
  output = output;
  answers = answers;
  cause = unless_serve wanted (Causes (s.faults source_old) (s.faults source_new) (k.faults out_old) (k.faults out_new) o) cause;
  stops = unless_serve wanted (StopsAtFault (s.faults source_old) (s.faults source_new) (s.has_failed source_new) o) stops;
  complete = complete (Ok wanted) (bytes_given s source_old source_new) (s.faults source_old) (s.faults source_new) (k.faults out_old) (k.faults out_new) o words input cause;
}

-- ---- words that fit no use

pub did_nothing : {S K P : Type 0} (s : reading.Ghosts S) (k : writing.Ghosts K P) (word : ℕ) (given : S) (out : K) → Did s k (Err word) given given out out (Usage word)
did_nothing s k word given out = record {
  words = refl;
  untouched = (refl, refl);
  input = tt;
  reads = tt;
  end = tt;
  output = tt;
  answers = tt;
  cause = tt;
  stops = refl;
  complete = tt;
}

-- ---- uses that read nothing

calm_cause : (P : List ℕ → Type 0) (old new : Option (List ℕ)) (a b c d : ℕ) (o : Outcome) → WritesSome P old new o → Causes 0 0 c d o → Causes a b c d o
calm_cause P old new a b c d ReadFault wrote cause = absurd wrote
calm_cause P old new a b c d WriteFault wrote cause = cause
calm_cause P old new a b c d _ wrote cause = tt

pub did_number : {S K P : Type 0} (s : reading.Ghosts S) (k : writing.Ghosts K P) (wanted : Use) (IsWhole : List ℕ → Type 0) (given : S) (out_old out_new : K) (o : Outcome)
    → ((whole : List ℕ) → IsWhole whole → IsOutput wanted (bytes_given s given given) whole) → (IsUnread o → CauseFrom wanted (bytes_given s given given) o × MayAnswer wanted o)
    → Reads wanted (s.given given) (s.given given) × ReadToEnd wanted (s.has_ended given) o
    → WritesSome IsWhole (k.held out_old) (k.held out_new) o → Causes 0 0 (k.faults out_old) (k.faults out_new) o → Did s k (Ok wanted) given given out_old out_new o
did_number s k wanted IsWhole given out_old out_new o is answer reads wrote cause =
    let said : CauseFrom wanted (bytes_given s given given) o × MayAnswer wanted o = answer (some_unread IsWhole (k.held out_old) (k.held out_new) o wrote) in
    did s k wanted given given out_old out_new o
    (some_words IsWhole wanted (k.held out_old) (k.held out_new) o wrote)
    said.0
    reads.0
    reads.1
    (some_output IsWhole wanted (bytes_given s given given) (k.held out_old) (k.held out_new) o is wrote)
    said.1
    (calm_cause IsWhole (k.held out_old) (k.held out_new) (s.faults given) (s.faults given) (k.faults out_old) (k.faults out_new) o wrote cause)
    (some_stops IsWhole (k.held out_old) (k.held out_new) (s.faults given) (s.faults given) (s.has_failed given) o wrote refl)

-- ---- uses that read a recording

pub did_frames : {S K P : Type 0} (s : reading.Ghosts S) (k : writing.Ghosts K P) (source_old source_new : S) (out_old out_new : K) (o : Outcome)
    → TellsMisfit (Ok Frames) o → ExplainsImages (bytes_given s source_old source_new) o → Reads Frames (s.given source_old) (s.given source_new) → ReadToEnd Frames (s.has_ended source_new) o
    → DeliversImages (bytes_given s source_old source_new) (k.held out_old) (k.held out_new) o → MayAnswer Frames o
    → Causes (s.faults source_old) (s.faults source_new) (k.faults out_old) (k.faults out_new) o → StopsAtFault (s.faults source_old) (s.faults source_new) (s.has_failed source_new) o
    → Did s k (Ok Frames) source_old source_new out_old out_new o
did_frames s k source_old source_new out_old out_new o words input reads end output answers cause stops =
    did s k Frames source_old source_new out_old out_new o words (frames_input (bytes_given s source_old source_new) o input) reads end (frames_output (bytes_given s source_old source_new) (k.held out_old) (k.held out_new) o output) answers cause stops

pub did_check : {S K P : Type 0} (s : reading.Ghosts S) (k : writing.Ghosts K P) (source_old source_new : S) (out : K) (o : Outcome)
    → TellsMisfit (Ok Check) o → ExplainsJudgement (bytes_given s source_old source_new) o → Reads Check (s.given source_old) (s.given source_new) → ReadToEnd Check (s.has_ended source_new) o
    → IsSilent o → MayAnswer Check o
    → Causes (s.faults source_old) (s.faults source_new) (k.faults out) (k.faults out) o → StopsAtFault (s.faults source_old) (s.faults source_new) (s.has_failed source_new) o
    → Did s k (Ok Check) source_old source_new out out o
did_check s k source_old source_new out o words input reads end silent answers cause stops =
    did s k Check source_old source_new out out o words (check_input (bytes_given s source_old source_new) o input) reads end (nothing_written (bytes_given s source_old source_new) (k.held out) o silent) answers cause stops

-- ---- sessions

misfit : (workers : ℕ) (o : Outcome) → AnswersSession o → TellsMisfit (Ok (Serve workers)) o
misfit workers (Usage word) answers = absurd answers
misfit workers _ answers = tt

nothing_more : (held : Option (List ℕ)) → Appends held held []
nothing_more None = tt
nothing_more (Some xs) = sym (append-nil xs)

nothing_put : (workers : ℕ) (bytes : List ℕ) (held : Option (List ℕ)) (o : Outcome) → Writes (Serve workers) bytes held held o
nothing_put workers bytes held Done = ([], refl, nothing_more held)
nothing_put workers bytes held WriteFault = ([], refl, ([], [], refl, nothing_more held))
nothing_put workers bytes held Memory = inl refl
nothing_put workers bytes held _ = refl

pub did_serve : {S K P : Type 0} (s : reading.Ghosts S) (k : writing.Ghosts K P) (workers : ℕ) (given : S) (out : K) (o : Outcome) → AnswersSession o → Did s k (Ok (Serve workers)) given given out out o
did_serve s k workers given out o answers = record {
  words = misfit workers o answers;
  untouched = tt;
  input = answers;
  reads = refl;
  end = tt;
  output = nothing_put workers (bytes_given s given given) (k.held out) o;
  answers = answers;
  cause = tt;
  stops = tt;
  complete = tt;
}

-- what passed with the client where the words are `serve N`
pub served : {C : Type 0} (c : client.Ghosts C) (asked : Result Use ℕ) (workers : ℕ) (old new : Session C) (o : Outcome) → asked ≡ Ok (Serve workers) → Passes c asked old new o → Serves workers (c.past old.client) (c.past new.client) o
served c asked workers old new o is passes = (subst (λ (a : Result Use ℕ). Passes c a old new o) is passes).0
