-- What is played at once holds one milestone at most: so all of it is kept until it is written.
use Rattle.std.proofs.Common.{◌≡◌, ℕ, zero, suc, ◌+◌, ◌≤◌, Bool, true, false, not, ◌||◌, List, ◌++◌, length, Option, Some, None, is_some, refl, ap, sym, ◌∙◌, subst, arith}
use Rattle.std.specs.Prelude.{MatchBool}
use Rattle.model_states.specs.declared.kind.Kind.{Kind}
use Rattle.model_states.specs.declared.kind.Kind.TheVariants as kind
use Rattle.model_history.specs.declared.event.Event.{Event}
use Rattle.model_history.specs.declared.event.Event.TheVariants as event
use Rattle.model_history.specs.declared.input.Input.{Input}
use Rattle.model_history.specs.declared.input.Input.TheVariants as input
use Rattle.model_history.specs.declared.history.Entry.{Entry}
use Rattle.model_history.specs.Scripts.{ScriptModel}
use Rattle.model_history.specs.EventFields.{kind_of}
use Rattle.model_history.specs.Scans.{one_more, counted}
use Rattle.model_history.specs.Frames.{active}
use Rattle.model_history.specs.Lockstep.{Step, Enters, Stays, Then, Where, Times, While, AtMost, waits, may_send, has_first, is_possible, Pair, MainPart, ActivateNow, PlainFrame, Round, DrawFrame}
use Rattle.model_history.proofs.DueRows.{due_row}
use Rattle.model_history.proofs.LockstepWords.{can_due}
use Rattle.model_lockstep.specs.Walks.{WalkState, rest_played}
use Rattle.model_lockstep.specs.Receivers.{Part, OneRound, Rest, TheEnd, Since, part_played}
use Rattle.model_lockstep.proofs.Courses.{newer_since, count_since}
use Rattle.impl_log.specs.Kept.{forgettable, milestones}
use Rattle.impl_log.specs.Runs.{past}
use Rattle.impl_log.proofs.Forgetting.{one_more_kept}
use Rattle.proxy_single_thread.specs.Singles.{SingleModel, walk_of}

-- the way passes at most the given number of milestones
abbrev pub PassesAtMost : ℕ → Step → Type 0
PassesAtMost n P = (h g : List Entry) → P h g → counted milestones g ≤ n + counted milestones h

-- ---- the words

-- the kinds of the events that are milestones
abbrev is_milestone : Kind → Bool
is_milestone kind.BeginDraw = true
is_milestone kind.BeginPlain = true
is_milestone kind.Scroll = true
is_milestone kind.Wheel = true
is_milestone kind.Await = true
is_milestone kind.Settle = true
is_milestone _ = false

no_milestone : (e : Event) → is_milestone (kind_of e) ≡ false → milestones e ≡ None
no_milestone (event.Begin i) f = absurd cc
no_milestone event.BeginPlain f = absurd cc
no_milestone (event.Scroll i dx dy) f = absurd cc
no_milestone (event.Wheel i target rest_x rest_y parts) f = absurd cc
no_milestone (event.Await i) f = absurd cc
no_milestone (event.Settle i) f = absurd cc
no_milestone _ f = refl

-- an event of another kind is none
other : (s : ScriptModel) (k : Kind) (a : ℕ) → is_milestone k ≡ false → PassesAtMost 0 (Enters s k a)
other s k a f h g (e, c, is) =
    let same : kind_of e ≡ k = (due_row s h k a e (can_due s h k a e c).1).kind in
    let none : milestones e ≡ None = no_milestone e (ap is_milestone same ∙ f) in
    let count : counted milestones g ≡ counted milestones h = ap (λ (z : List Entry). counted milestones z) is ∙ ap (λ (o : Option ℕ). one_more o (counted milestones h)) none in
    omega (arith, count)

one_passed : (o : Option ℕ) (n : ℕ) → one_more o n ≤ 1 + n
one_passed None n = omega arith
one_passed (Some i) n = omega arith

-- each event is one at most
one : (s : ScriptModel) (k : Kind) (a : ℕ) → PassesAtMost 1 (Enters s k a)
one s k a h g (e, c, is) =
    let count : counted milestones g ≡ one_more (milestones e) (counted milestones h) = ap (λ (z : List Entry). counted milestones z) is in
    let few = one_passed (milestones e) (counted milestones h) in
    omega (arith, count, few)

stays : PassesAtMost 0 Stays
stays h g is = let count : counted milestones g ≡ counted milestones h = ap (λ (z : List Entry). counted milestones z) is in omega (arith, count)

-- first a way that passes none, or then
none_then : (n : ℕ) (P Q : Step) → PassesAtMost 0 P → PassesAtMost n Q → PassesAtMost n (Then P Q)
none_then n P Q p q h g (m, x, y) = let first = p h m x in let then = q m g y in omega (arith, first, then)

then_none : (n : ℕ) (P Q : Step) → PassesAtMost n P → PassesAtMost 0 Q → PassesAtMost n (Then P Q)
then_none n P Q p q h g (m, x, y) = let first = p h m x in let then = q m g y in omega (arith, first, then)

either : (n : ℕ) (test : List Entry → Bool) (P Q : Step) → PassesAtMost n P → PassesAtMost n Q → PassesAtMost n (Where test P Q)
either n test P Q p q h g x = by_test (test h) x
  where
    by_test : (b : Bool) → MatchBool b (P h g) (Q h g) → counted milestones g ≤ n + counted milestones h
    by_test true y = p h g y
    by_test false y = q h g y

-- a way that passes none
one_more_allowed : (P : Step) → PassesAtMost 0 P → PassesAtMost 1 P
one_more_allowed P p h g x = let none = p h g x in omega (arith, none)

times : (test : List Entry → Bool) (P : Step) → PassesAtMost 0 P → (n : ℕ) → PassesAtMost 0 (Times test P n)
times test P p zero h g x = stays h g x.1
times test P p (suc n) h g x = let first = p h x.1 x.2 in let then = times test P p n x.1 g x.3 in omega (arith, first, then)

loop : (test : List Entry → Bool) (P : Step) → PassesAtMost 0 P → PassesAtMost 0 (While test P)
loop test P p h g x = times test P p x.0 h g x.1

at_most : (test : List Entry → Bool) (P : Step) → PassesAtMost 0 P → (n : ℕ) → PassesAtMost 0 (AtMost n test P)
at_most test P p zero = stays
at_most test P p (suc n) = either 0 test (Then P (AtMost n test P)) Stays (none_then 0 P (AtMost n test P) p (at_most test P p n)) stays

-- ---- the parts

pair : (s : ScriptModel) → PassesAtMost 0 (Pair s)
pair s = none_then 0 (Enters s kind.Start 2) (Enters s kind.Done 2) (other s kind.Start 2 refl) (other s kind.Done 2 refl)

main_part : (s : ScriptModel) → PassesAtMost 0 (MainPart s)
main_part s =
    none_then 0 (Enters s kind.Send 0) _ (other s kind.Send 0 refl)
    (either 0 (is_possible s kind.Abort 1) (Enters s kind.Abort 1) (Then (Enters s kind.Ready 1) (Enters s kind.Commit 0)) (other s kind.Abort 1 refl)
    (none_then 0 (Enters s kind.Ready 1) (Enters s kind.Commit 0) (other s kind.Ready 1 refl) (other s kind.Commit 0 refl)))

activate_now : (s : ScriptModel) → PassesAtMost 0 (ActivateNow s)
activate_now s =
    none_then 0 (While (λ h. not (is_possible s kind.Activate 0 h)) (Pair s)) (Enters s kind.Activate 0) (loop (λ h. not (is_possible s kind.Activate 0 h)) (Pair s) (pair s)) (other s kind.Activate 0 refl)

plain_frame : (s : ScriptModel) → PassesAtMost 1 (PlainFrame s)
plain_frame s =
    then_none 1 (Enters s kind.BeginPlain 0) _ (one s kind.BeginPlain 0)
    (none_then 0 (MainPart s) _ (main_part s)
    (none_then 0 (Where waits (ActivateNow s) Stays) _ (either 0 waits (ActivateNow s) Stays (activate_now s) stays)
    (none_then 0 (Enters s kind.NoDraw 0) (Enters s kind.Finish 0) (other s kind.NoDraw 0 refl) (other s kind.Finish 0 refl))))

round : (s : ScriptModel) → PassesAtMost 1 (Round s)
round s = either 1 waits (ActivateNow s) (PlainFrame s) (one_more_allowed (ActivateNow s) (activate_now s)) (plain_frame s)

-- the round that a pending commit is given begins no impl frame
round_pending : (s : ScriptModel) → PassesAtMost 0 (Where waits (Round s) Stays)
round_pending s h g x = by_test (waits h) x
  where
    by_test : (b : Bool) → MatchBool b (MatchBool b (ActivateNow s h g) (PlainFrame s h g)) (Stays h g) → counted milestones g ≤ 0 + counted milestones h
    by_test true y = activate_now s h g y
    by_test false y = stays h g y

draw_frame : (s : ScriptModel) → PassesAtMost 1 (DrawFrame s)
draw_frame s =
    then_none 1 (Enters s kind.BeginDraw 0) _ (one s kind.BeginDraw 0)
    (none_then 0 (Where (may_send s) (MainPart s) Stays) _ (either 0 (may_send s) (MainPart s) Stays (main_part s) stays)
    (none_then 0 (AtMost s.raster_per_frame (has_first s) (Pair s)) _ (at_most (has_first s) (Pair s) (pair s) s.raster_per_frame)
    (none_then 0 (Where (is_possible s kind.Activate 0) (Enters s kind.Activate 0) Stays) _ (either 0 (is_possible s kind.Activate 0) (Enters s kind.Activate 0) Stays (other s kind.Activate 0 refl) stays)
    (none_then 0 (Where (λ h. is_some (active h)) (Enters s kind.Draw 0) (Enters s kind.Skip 0)) (Enters s kind.Finish 0)
    (either 0 (λ h. is_some (active h)) (Enters s kind.Draw 0) (Enters s kind.Skip 0) (other s kind.Draw 0 refl) (other s kind.Skip 0 refl)) (other s kind.Finish 0 refl)))))

rest_passes : (i : Input) (s : ScriptModel) → PassesAtMost 1 (rest_played i s)
rest_passes (input.Scroll sc dx dy) s = one s kind.Scroll 0
rest_passes (input.Wheel x y dx dy) s = one s kind.Wheel 0
rest_passes input.Draw s = draw_frame s
rest_passes (input.Await f) s = one s kind.Await 0
rest_passes input.Settle s =
    none_then 1 (Where waits (Round s) Stays) _ (round_pending s)
    (none_then 1 (While (has_first s) (Pair s)) (Enters s kind.Settle 0) (loop (has_first s) (Pair s) (pair s)) (one s kind.Settle 0))

part_passes : (p : Part) (s : ScriptModel) → PassesAtMost 1 (part_played p s)
part_passes OneRound s = round s
part_passes (Rest i) s = rest_passes i s
part_passes TheEnd s = one s kind.End 0

-- ---- what was entered since all was taken

-- it passes one milestone at most, so all of it is kept
pub kept_since : (old : WalkState) (now : SingleModel) → Since old (walk_of now) → forgettable (past now.run) ≤ now.written
kept_since old now since =
    let h : List Entry = old.past in
    let more = newer_since old (walk_of now) since in
    let passed : counted milestones (past now.run) ≤ 1 + counted milestones h = part_passes since.part old.script h (past now.run) since.follows.way in
    let kept : forgettable (more.0 ++ h) ≤ length h = one_more_kept more.0 h (subst (λ (z : List Entry). counted milestones z ≤ 1 + counted milestones h) more.1 passed) in
    let long : length h ≡ now.written = sym (count_since old (walk_of now) since) in
    subst (λ (z : List Entry). forgettable z ≤ now.written) (sym more.1) (subst (λ (n : ℕ). forgettable (more.0 ++ h) ≤ n) long kept)
