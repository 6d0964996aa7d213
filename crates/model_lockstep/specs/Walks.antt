-- What code says of a run that is played in lockstep: where it may go, where it went, and how far it came.
use Rattle.std.specs.Prelude.{◌≡◌, ℕ, Bool, true, false, not, ◌||◌, is_some, List, ◌++◌, ⊤, Option, Some, None, Result, Ok, Err}
use Rattle.model_states.specs.declared.kind.Kind.{Kind}
use Rattle.model_states.specs.declared.kind.Kind.TheVariants as kind
use Rattle.model_history.specs.declared.input.Input.{Input}
use Rattle.model_history.specs.declared.input.Input.TheVariants as input
use Rattle.model_history.specs.declared.history.Entry.{Entry}
use Rattle.model_history.specs.Scripts.{ScriptModel}
use Rattle.model_history.specs.Frames.{active, is_left}
use Rattle.model_history.specs.Legal.{can}
use Rattle.model_history.specs.Lockstep.{Step, Enters, Stays, Then, Where, While, AtMost, waits, may_send, has_first, is_possible, Pair, MainPart, ActivateNow, Round, InputStep, InputSteps, IsLockstep}
use Rattle.model_lockstep.specs.declared.compositor.EnterFault.{EnterFault}
use Rattle.model_lockstep.specs.declared.compositor.EnterFault.TheVariants.{NotNow, Memory}

-- the script that is played, what was played of it, the newest entry first, and how many of the entries were written
pub record WalkState : Type 0 where
  pub script : ScriptModel
  pub past : List Entry
  pub written : ℕ

-- a way of lockstep, for each script
abbrev pub Way : Type 1
Way = ScriptModel → Step

-- the way leads from here to some past
pub record CanFollow (P : Way) (r : WalkState) : Type 0 where
  pub end : List Entry
  pub way : P r.script r.past end

-- the way was followed from the first run to the second
pub record Follows (P : Way) (r q : WalkState) : Type 0 where
  pub same : q.script ≡ r.script
  pub written : q.written ≡ r.written
  pub way : P r.script r.past q.past

-- the second run lies on the way from the first: what was played is a prefix of what the way brings
pub record IsOnWay (P : Way) (r q : WalkState) : Type 0 where
  pub same : q.script ≡ r.script
  pub written : q.written ≡ r.written
  pub end : List Entry
  pub way : P r.script r.past end
  pub newer : List Entry
  pub beginning : end ≡ newer ++ q.past

-- on a way: from where it stands this rest leads on, and wherever it leads from there the whole leads from the beginning
pub record TurnsOf (Whole Rest : Way) (first now : WalkState) : Type 0 where
  pub same : now.script ≡ first.script
  pub written : now.written ≡ first.written
  pub end : List Entry
  pub way : Rest first.script now.past end
  pub leads : (g : List Entry) → Rest first.script now.past g → Whole first.script first.past g

-- the rest of a loop is the loop again
abbrev pub Turns : Way → WalkState → WalkState → Type 0
Turns W = TurnsOf W W

-- ---- the ways that have no word in lockstep

abbrev pub entering : Kind → ℕ → Way
entering k a s = Enters s k a

abbrev pub pairs_to_activation : Way
pairs_to_activation s = While (λ h. not (is_possible s kind.Activate 0 h)) (Pair s)

abbrev pub commit_made : Way
commit_made s = Then (Enters s kind.Ready 1) (Enters s kind.Commit 0)

abbrev pub main_answer : Way
main_answer s = Where (is_possible s kind.Abort 1) (Enters s kind.Abort 1) (commit_made s)

abbrev pub activation_where : Way
activation_where s = Where waits (ActivateNow s) Stays

abbrev pub no_draw : Way
no_draw s = Then (Enters s kind.NoDraw 0) (Enters s kind.Finish 0)

abbrev pub frame_end : Way
frame_end s = Then (activation_where s) (no_draw s)

abbrev pub frame_rest : Way
frame_rest s = Then (MainPart s) (frame_end s)

abbrev pub pairs_at_most : ℕ → Way
pairs_at_most n s = AtMost n (has_first s) (Pair s)

abbrev pub pairs_of_draw : Way
pairs_of_draw s = pairs_at_most s.raster_per_frame s

abbrev pub all_pairs : Way
all_pairs s = While (has_first s) (Pair s)

abbrev pub main_part_where : Way
main_part_where s = Where (may_send s) (MainPart s) Stays

abbrev pub activation_now : Way
activation_now s = Where (is_possible s kind.Activate 0) (Enters s kind.Activate 0) Stays

abbrev pub draw_or_skip : Way
draw_or_skip s = Where (λ h. is_some (active h)) (Enters s kind.Draw 0) (Enters s kind.Skip 0)

abbrev pub draw_end : Way
draw_end s = Then (draw_or_skip s) (Enters s kind.Finish 0)

abbrev pub draw_activated : Way
draw_activated s = Then (activation_now s) (draw_end s)

abbrev pub draw_made : Way
draw_made s = Then (pairs_of_draw s) (draw_activated s)

abbrev pub draw_rest : Way
draw_rest s = Then (main_part_where s) (draw_made s)

abbrev pub rounds_to_await : Way
rounds_to_await s = While (λ h. not (is_possible s kind.Await 0 h)) (Round s)

abbrev pub round_where : Way
round_where s = Where waits (Round s) Stays

abbrev pub last_rounds : Way
last_rounds s = While (λ h. is_left s h || waits h) (Round s)

abbrev pub settled_rest : Way
settled_rest s = Then (all_pairs s) (Enters s kind.Settle 0)

abbrev pub settled : Way
settled s = Then (round_where s) (settled_rest s)

abbrev pub input_played : Input → Way
input_played i s = InputStep s i

abbrev pub run_end : Way
run_end s = Then (last_rounds s) (Enters s kind.End 0)

-- what is left of what an input brings that does not have to wait
abbrev pub rest_played : Input → Way
rest_played (input.Await f) s = Enters s kind.Await 0
rest_played i s = InputStep s i

abbrev pub inputs_from : List Input → Way
inputs_from is s = InputSteps s is

-- ---- parts

-- the input is an await that is not over
abbrev pub is_waited_for : Input → WalkState → Bool
is_waited_for (input.Await f) r = not (is_possible r.script kind.Await 0 r.past)
is_waited_for _ r = false

-- of what an input brings all that was left was played, or a round of an await that was not over
abbrev pub PlaysPart : Input → Bool → WalkState → WalkState → Type 0
PlaysPart i true old new = (is_waited_for i old ≡ false) × Follows (rest_played i) old new
PlaysPart i false old new = (is_waited_for i old ≡ true) × Follows Round old new

-- a main frame is left, or a commit is pending
abbrev pub has_rounds : WalkState → Bool
has_rounds r = is_left r.script r.past || waits r.past

-- of what comes after all inputs the end was played, or a round where one was left
abbrev pub PlaysEnd : Bool → WalkState → WalkState → Type 0
PlaysEnd true old new = (has_rounds old ≡ false) × Follows (entering kind.End 0) old new
PlaysEnd false old new = (has_rounds old ≡ true) × Follows Round old new

-- these entries begin the lockstep history of the script
abbrev pub BeginsLockstep : ScriptModel → List Entry → Type 0
BeginsLockstep s entries = (later : List Entry) × IsLockstep s (entries ++ later)

-- ---- what a compositor is asked for, and what it answers

-- the actor of a kind that lockstep asks for: the main side, the one worker, or the compositor; it asks for no stop
abbrev pub actor_for : Kind → Option ℕ
actor_for kind.Ready = Some 1
actor_for kind.Abort = Some 1
actor_for kind.Start = Some 2
actor_for kind.Done = Some 2
actor_for kind.Stop = None
actor_for _ = Some 0

-- the event of this kind and actor was entered; or nothing was, since none is possible or there was no memory
abbrev pub WalkEnters : Kind → ℕ → WalkState → WalkState → Result ⊤ EnterFault → Type 0
WalkEnters k a old new (Ok _) = Follows (entering k a) old new
WalkEnters k a old new (Err NotNow) = (new ≡ old) × (can old.script old.past k a ≡ None)
WalkEnters k a old new (Err (Memory e)) = new ≡ old
