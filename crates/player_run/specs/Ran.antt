-- What a run of the program does, from its words to the line that tells how it ended.
use Rattle.std.specs.Prelude.{◌≡◌, ℕ, List, Result, Ok, IfOk, OnErr}
use Rattle.byte_io.specs.Logs.{since}
use Rattle.byte_io.specs.declared.reading.Source as source
use Rattle.byte_io.specs.declared.writing.Sink as sink
use Rattle.player_lines.specs.declared.client.Client as client
use Rattle.player_lines.specs.declared.session.Session.{Session}
use Rattle.player_uses.specs.declared.outcome.Outcome.{Outcome}
use Rattle.player_uses.specs.declared.words.Use.{Use}
use Rattle.player_uses.specs.declared.words.Use.TheVariants.{Serve}
use Rattle.player_uses.specs.Answers.{TellsMisfit, MayAnswer}
use Rattle.player_uses.specs.Faults.{Causes, StopsAtFault}
use Rattle.player_uses.specs.Outcomes.{line_of, Told}
use Rattle.player_uses.specs.Reading.{Reads, ReadToEnd}
use Rattle.player_run.specs.declared.streams.Streams.{Streams}
use Rattle.player_run.specs.Runs.{CauseFrom, Writes, IsComplete, UnlessServe}
use Rattle.player_run.specs.Served.{Serves, ServeCause}

-- the bytes that a source gave meanwhile
abbrev pub bytes_given : {S : Type 0} → source.Ghosts S → S → S → List ℕ
bytes_given s old new = since (s.given old) (s.given new)

-- what a run did with its source and its sink, as its words asked, and how it ended
pub record Did {S K P : Type 0} (s : source.Ghosts S) (k : sink.Ghosts K P) (asked : Result Use ℕ) (source_old source_new : S) (out_old out_new : K) (result : Outcome) : Type 0 where
  -- the answer is Usage exactly if some word fits no use, and names the first such word
  pub words : TellsMisfit asked result
  -- then nothing was read and nothing written
  pub untouched : OnErr asked ((source_new ≡ source_old) × (out_new ≡ out_old))
  -- what the answer says of the bytes that the source gave: they are what the use takes, or are refused for this cause
  pub input : IfOk asked (λ wanted. CauseFrom wanted (bytes_given s source_old source_new) result)
  -- one byte beyond the limit was read at most, or nothing
  pub reads : IfOk asked (λ wanted. Reads wanted (s.given source_old) (s.given source_new))
  -- bytes were judged only if the source had said that no more come
  pub end : IfOk asked (λ wanted. ReadToEnd wanted (s.has_ended source_new) result)
  -- what the sink gained: all that the use writes, a prefix of it, or nothing
  pub output : IfOk asked (λ wanted. Writes wanted (bytes_given s source_old source_new) (k.held out_old) (k.held out_new) result)
  -- each use has answers of its own
  pub answers : IfOk asked (λ wanted. MayAnswer wanted result)
  -- a fault of source or sink is answered only if that one's count of faults rose
  pub cause : UnlessServe asked (Causes (s.faults source_old) (s.faults source_new) (k.faults out_old) (k.faults out_new) result)
  -- a source that failed is not read again; after any other answer than its fault no read failed
  pub stops : UnlessServe asked (StopsAtFault (s.faults source_old) (s.faults source_new) (s.has_failed source_new) result)
  -- if the bytes are what the use takes and no count of faults rose, all is done or there was no memory
  pub complete : IfOk asked (λ wanted. IsComplete wanted (bytes_given s source_old source_new) (s.faults source_old) (s.faults source_new) (k.faults out_old) (k.faults out_new) result)

-- what passed with the client of a session: for `serve N` what it promises; for other words nothing
abbrev pub Passes : {C : Type 0} → client.Ghosts C → Result Use ℕ → Session C → Session C → Outcome → Type 0
Passes c (Ok (Serve workers)) old new result = Serves workers (c.past old.client) (c.past new.client) result × ServeCause (c.has_failed new.client) (c.put_faults old.client) (c.put_faults new.client) new.torn result
Passes c _ old new result = new ≡ old

-- a run, by which its streams came from the old ones to the new
pub record Ran {S K E C P Q : Type 0} (s : source.Ghosts S) (k : sink.Ghosts K P) (e : sink.Ghosts E Q) (c : client.Ghosts C) (asked : Result Use ℕ) (old new : Streams S K E C) (result : Outcome) : Type 0 where
  -- what it did with its source and its sink
  pub did : Did s k asked old.source new.source old.out new.out result
  -- what passed with the client of the session
  pub serves : Passes c asked old.session new.session result
  -- the notes gained the line that tells how it ended, or a prefix of it
  pub told : Told (e.held old.notes) (e.held new.notes) (e.faults old.notes) (e.faults new.notes) (e.refusals old.notes) (e.refusals new.notes) (line_of result)
