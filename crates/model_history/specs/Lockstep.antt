-- Lockstep: the one history in which each thing is done as soon as it is asked for.
--
-- It is told as a way from one past to a later one, made of a few words.
use Rattle.std.specs.Prelude.{◌≡◌, ℕ, zero, suc, Bool, true, false, not, ◌&&◌, ◌||◌, MatchBool, List, [], ◌∷◌, reverse, is_some, Some}
use Rattle.model_states.specs.declared.kind.Kind.{Kind}
use Rattle.model_states.specs.declared.kind.Kind.TheVariants as kind
use Rattle.model_history.specs.declared.event.Event.{Event}
use Rattle.model_history.specs.declared.input.Input.{Input}
use Rattle.model_history.specs.declared.input.Input.TheVariants as input
use Rattle.model_history.specs.declared.history.Entry.{Entry}
use Rattle.model_history.specs.Scripts.{ScriptModel}
use Rattle.model_history.specs.Frames.{is_left, active, pending}
use Rattle.model_history.specs.Ranking.{rank_to_start}
use Rattle.model_history.specs.Legal.{can}

-- a way from a past to a later one
abbrev pub Step : Type 1
Step = List Entry → List Entry → Type 0

-- the event of this kind and actor comes; nothing comes
abbrev pub Enters : ScriptModel → Kind → ℕ → Step
Enters s k a h g = (e : Event) × (can s h k a ≡ Some e) × (g ≡ record { actor = a; event = e } ∷ h)

abbrev pub Stays : Step
Stays h g = g ≡ h

-- first P, then Q; P if the test holds of the past, else Q
abbrev pub Then : Step → Step → Step
Then P Q h g = (m : List Entry) × P h m × Q m g

abbrev pub Where : (List Entry → Bool) → Step → Step → Step
Where test P Q h g = MatchBool (test h) (P h g) (Q h g)

-- P as long as the test holds: n times, each time with the test holding, and then it holds no more
abbrev pub Times : (List Entry → Bool) → Step → ℕ → Step
Times test P zero h g = (test h ≡ false) × (g ≡ h)
Times test P (suc n) h g = (test h ≡ true) × (m : List Entry) × P h m × Times test P n m g

abbrev pub While : (List Entry → Bool) → Step → Step
While test P h g = (n : ℕ) × Times test P n h g

-- P as long as the test holds, but at most the given number of times
abbrev pub AtMost : ℕ → (List Entry → Bool) → Step → Step
AtMost zero test P = Stays
AtMost (suc n) test P = Where test (Then P (AtMost n test P)) Stays

-- a commit is pending; a main frame is left, and none is pending; a tile may start; an event of this kind and actor may come
abbrev pub waits : List Entry → Bool
waits h = is_some (pending h)

abbrev pub may_send : ScriptModel → List Entry → Bool
may_send s h = is_left s h && not (waits h)

abbrev pub has_first : ScriptModel → List Entry → Bool
has_first s h = is_some (rank_to_start s h)

abbrev pub is_possible : ScriptModel → Kind → ℕ → List Entry → Bool
is_possible s k a h = is_some (can s h k a)

-- worker 0 starts the first tile, and is done with it
abbrev pub Pair : ScriptModel → Step
Pair s = Then (Enters s kind.Start 2) (Enters s kind.Done 2)

-- a send; then its abort if that may come, else its ready and its commit
abbrev pub MainPart : ScriptModel → Step
MainPart s = Then (Enters s kind.Send 0)
    (Where (is_possible s kind.Abort 1) (Enters s kind.Abort 1) (Then (Enters s kind.Ready 1) (Enters s kind.Commit 0)))

-- tiles are made until the pending commit may be activated, and it is
abbrev pub ActivateNow : ScriptModel → Step
ActivateNow s = Then (While (λ h. not (is_possible s kind.Activate 0 h)) (Pair s)) (Enters s kind.Activate 0)

-- an impl frame for a main frame alone: a begin, a main part, the activation of its commit if it made one, a no-draw and the finish
abbrev pub PlainFrame : ScriptModel → Step
PlainFrame s = Then (Enters s kind.BeginPlain 0) (Then (MainPart s)
    (Then (Where waits (ActivateNow s) Stays) (Then (Enters s kind.NoDraw 0) (Enters s kind.Finish 0))))

-- a round: a pending commit is activated, or else a main frame is played
abbrev pub Round : ScriptModel → Step
Round s = Where waits (ActivateNow s) (PlainFrame s)

-- an impl frame for a draw: a begin, a main part if a send may come, at most `raster_per_frame` tiles, an activation if it may come, the draw or a skip, and the finish
abbrev pub DrawFrame : ScriptModel → Step
DrawFrame s = Then (Enters s kind.BeginDraw 0) (Then (Where (may_send s) (MainPart s) Stays)
    (Then (AtMost s.raster_per_frame (has_first s) (Pair s))
    (Then (Where (is_possible s kind.Activate 0) (Enters s kind.Activate 0) Stays)
    (Then (Where (λ h. is_some (active h)) (Enters s kind.Draw 0) (Enters s kind.Skip 0)) (Enters s kind.Finish 0)))))

-- what an input brings: a scroll and a wheel enter; a draw is a draw frame; an await is rounds until it may come; a settle is the activation of a pending commit, if there is one, and then tiles as long as one may start
abbrev pub InputStep : ScriptModel → Input → Step
InputStep s (input.Scroll sc dx dy) = Enters s kind.Scroll 0
InputStep s (input.Wheel x y dx dy) = Enters s kind.Wheel 0
InputStep s input.Draw = DrawFrame s
InputStep s (input.Await f) = Then (While (λ h. not (is_possible s kind.Await 0 h)) (Round s)) (Enters s kind.Await 0)
InputStep s input.Settle = Then (Where waits (Round s) Stays) (Then (While (has_first s) (Pair s)) (Enters s kind.Settle 0))

-- what the inputs bring, one after another
abbrev pub InputSteps : ScriptModel → List Input → Step
InputSteps s [] = Stays
InputSteps s (i ∷ is) = Then (InputStep s i) (InputSteps s is)

-- the whole run: the inputs, then rounds until no main frame is left and no commit is pending, then the end; and its history, which is the lockstep history of the script
abbrev pub WholeRun : ScriptModel → Step
WholeRun s = Then (InputSteps s s.inputs) (Then (While (λ h. is_left s h || waits h) (Round s)) (Enters s kind.End 0))

abbrev pub IsLockstep : ScriptModel → List Entry → Type 0
IsLockstep s history = WholeRun s [] (reverse history)
