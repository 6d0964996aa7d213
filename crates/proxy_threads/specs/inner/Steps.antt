-- What an actor does in one holding of the turn.
use Rattle.std.specs.Prelude.{◌≡◌, ◌+◌, ◌<◌, ℕ, true, false, List, ◌∷◌, [], ◌++◌, length, drop, Some, None, ⊤}
use Rattle.model_states.specs.declared.kind.Kind.{Kind}
use Rattle.model_history.specs.declared.history.Entry.{Entry}
use Rattle.model_history.specs.Scans.{has_ended}
use Rattle.model_history.specs.Texts.{event_line}
use Rattle.impl_log.specs.Runs.{Run, past, now, Entered}
use Rattle.impl_core.specs.Origins.{Origin}
use Rattle.impl_core.specs.Replies.{is_own, is_draw_kind, is_played, DrawsScene}
use Rattle.thread_pieces.specs.Scenes.{scene_image}
use Rattle.byte_io.specs.declared.writing.PutFault.{PutFault}
use Rattle.byte_io.specs.declared.writing.PutFault.TheVariants as put_fault
use Rattle.proxy_threads.specs.declared.turned.Turned.{Turned}
use Rattle.proxy_threads.specs.declared.turned.Turned.TheVariants as turned
use Rattle.proxy_threads.specs.declared.playing.Played.{Played}
use Rattle.proxy_threads.specs.declared.playing.Played.TheVariants as played
use Rattle.proxy_threads.specs.declared.lines.Lines.{Lines}
use Rattle.proxy_threads.specs.Seats.{Seat}
use Rattle.proxy_threads.specs.inner.Holdings.{Steps, Holding}

-- its actor is one of the run's
pub record HasSeat (p : Seat) : Type 0 where
  pub origin : Origin
  pub stem : p.stem ≡ Some origin
  pub within : p.actor < 2 + origin.workers

-- the run has ended, if need be by the actor
pub record Stops (a : ℕ) (old new : Run) : Type 0 where
  pub steps : Steps a old new
  pub ended : has_ended (past new) ≡ true

-- if an actor gives up, it takes the turn once more
abbrev pub StopsIfFailed : Turned → Seat → Seat → Type 0
StopsIfFailed turned.Memory p q = Holding p q (Stops p.actor)
StopsIfFailed turned.WriteFault p q = Holding p q (Stops p.actor)
StopsIfFailed _ p q = q ≡ p

-- ---- the compositor

-- the run has ended; or no event of the compositor may come; or one was entered that shows nothing, or a draw with its scene; or memory was refused
abbrev pub Plays : Run → Run → Played → Type 0
Plays old new played.Ended = (new ≡ old) × (has_ended (past old) ≡ true)
Plays old new played.Blocked = (new ≡ old) × (has_ended (past old) ≡ false) × ((k : Kind) → is_own k ≡ true → now old k 0 ≡ None)
Plays old new played.Plain = (k : Kind) × (is_draw_kind k ≡ false) × Entered old k 0 new × (is_own k ≡ true)
Plays old new (played.Shown scene) = DrawsScene old new scene
Plays old new played.Memory = Steps 0 old new

-- they are kinds of the compositor
abbrev pub AreOwn : List Kind → Type 0
AreOwn [] = ⊤
AreOwn (k ∷ ks) = (is_own k ≡ true) × AreOwn ks

-- no event of these kinds may come
abbrev pub NoneNow : List Kind → Run → Type 0
NoneNow [] r = ⊤
NoneNow (k ∷ ks) r = (now r k 0 ≡ None) × NoneNow ks r

-- the same if the run goes on, and only these kinds are tried
abbrev pub PlaysOf : List Kind → Run → Run → Played → Type 0
PlaysOf ks old new played.Blocked = (new ≡ old) × NoneNow ks old
PlaysOf ks old new played.Ended = ⊥
PlaysOf ks old new x = Plays old new x

-- the lines of some entries, one after another
abbrev pub lines_of : List Entry → List ℕ
lines_of [] = []
lines_of (e ∷ es) = event_line e.event ++ lines_of es

-- the lines are those of the entries after the written ones, and all entries are taken for written
pub record GathersAll (from : ℕ) (entries : List Entry) (new : Lines) : Type 0 where
  pub text : new.text.items ≡ lines_of (drop from entries)
  pub written : new.written ≡ length entries

abbrev pub Gathers : Played → ℕ → List Entry → Lines → Type 0
Gathers played.Memory written entries new = ⊤
Gathers _ written entries new = GathersAll written entries new

-- the compositor has played, and has gathered the lines of what was not written
pub record Composes (written : ℕ) (lines : Lines) (x : Played) (old new : Run) : Type 0 where
  pub plays : Plays old new x
  pub gathers : Gathers x written new.entries lines
  pub over : lines.over ≡ is_played new.entries

-- the image of what was drawn
abbrev pub image_in : Played → List ℕ
image_in (played.Shown scene) = scene_image scene
image_in _ = []

-- the answer for what was played, if it can be written
abbrev pub answer_for : Played → Turned
answer_for played.Ended = turned.Ended
answer_for played.Blocked = turned.Blocked
answer_for played.Plain = turned.Went
answer_for (played.Shown scene) = turned.Went
answer_for played.Memory = turned.Memory

-- a turn answers so, unless it gives up
abbrev pub Answers : Played → Turned → Type 0
Answers x turned.Memory = ⊤
Answers x turned.WriteFault = ⊤
Answers x t = answer_for x ≡ t

-- it has gone on, or gives up
abbrev pub GoesOrGivesUp : Turned → Type 0
GoesOrGivesUp turned.Went = ⊤
GoesOrGivesUp turned.Memory = ⊤
GoesOrGivesUp turned.WriteFault = ⊤
GoesOrGivesUp _ = ⊥

-- the answer if writing has stopped
abbrev pub answer_at : PutFault → Turned
answer_at put_fault.Failed = turned.WriteFault
answer_at (put_fault.Memory _) = turned.Memory

-- what is written of what was played: its lines, and its image; or nothing, if memory was refused
abbrev pub text_for : Played → List ℕ → List ℕ
text_for played.Memory lines = []
text_for x lines = lines ++ image_in x
