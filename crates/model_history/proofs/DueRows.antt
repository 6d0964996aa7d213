-- What is due has the kind and the actor that were asked for.
use Rattle.std.proofs.Common.{ℕ, ◌+◌, ◌-◌, ◌≤◌, ◌≡◌, Bool, true, false, Option, Some, None, List, refl, subst, arith}
use Rattle.geom.specs.declared.tile.TileKey.{TileKey}
use Rattle.tile_priority.specs.declared.rank.Rank.{Rank}
use Rattle.model_states.specs.declared.kind.Kind.{Kind}
use Rattle.model_states.specs.declared.kind.Kind.TheVariants as kind
use Rattle.model_history.specs.declared.event.Event.{Event}
use Rattle.model_history.specs.declared.event.Event.TheVariants as event
use Rattle.model_history.specs.declared.input.Input.{Input}
use Rattle.model_history.specs.declared.input.Input.TheVariants as input
use Rattle.model_history.specs.declared.history.Entry.{Entry}
use Rattle.model_history.specs.Scripts.{ScriptModel}
use Rattle.model_history.specs.EventFields.{kind_of, actor_of, sends, begins}
use Rattle.model_history.specs.Scans.{newest, held}
use Rattle.model_history.specs.Frames.{pending}
use Rattle.model_history.specs.Ranking.{rank_to_start}
use Rattle.model_history.specs.Due.{on_if, next_input, input_now, due_scroll, due_wheel, due_await, due_settle, due}
use Rattle.model_history.specs.DueParts.{due_ready, due_abort, due_commit, due_activate, due_start, due_done, due_draw, due_skip}

-- an event of this kind may be asked for of this actor
abbrev pub MayAsk : Kind → ℕ → Type 0
MayAsk kind.Ready a = a ≡ 1
MayAsk kind.Abort a = a ≡ 1
MayAsk kind.Start a = 2 ≤ a
MayAsk kind.Done a = 2 ≤ a
MayAsk kind.Stop a = Unit {0}
MayAsk _ a = a ≡ 0

-- the event has the kind and the actor that were asked for
pub record IsRow (k : Kind) (a : ℕ) (e : Event) : Type 0 where
  pub kind : kind_of e ≡ k
  pub actor : MayAsk k a → a ≡ actor_of e

row_if : (k : Kind) (a : ℕ) (b : Bool) (e f : Event) → IsRow k a e → on_if b e ≡ Some f → IsRow k a f
row_if k a true e f r h = let same : e ≡ f = cc in subst (IsRow k a) same r
row_if k a false e f r h = absurd (cc)

row_some : (k : Kind) (a : ℕ) (e f : Event) → IsRow k a e → Some e ≡ Some f → IsRow k a f
row_some k a e f r h = let same : e ≡ f = cc in subst (IsRow k a) same r

ready_row : (s : ScriptModel) (h : List Entry) (a : ℕ) (o : Option ℕ) (e : Event) → due_ready s h o ≡ Some e → IsRow kind.Ready a e
ready_row s h a None e d = absurd (cc)
ready_row s h a (Some k) e d = row_if kind.Ready a _ (event.Ready k) e (record { kind = refl; actor = λ m. m }) d

abort_row : (s : ScriptModel) (h : List Entry) (a : ℕ) (o : Option ℕ) (e : Event) → due_abort s h o ≡ Some e → IsRow kind.Abort a e
abort_row s h a None e d = absurd (cc)
abort_row s h a (Some k) e d = row_if kind.Abort a _ (event.Abort k) e (record { kind = refl; actor = λ m. m }) d

commit_row : (a : ℕ) (o : Option ℕ) (e : Event) → due_commit o ≡ Some e → IsRow kind.Commit a e
commit_row a None e d = absurd (cc)
commit_row a (Some k) e d = row_some kind.Commit a (event.Commit k) e (record { kind = refl; actor = λ m. m }) d

activate_row : (s : ScriptModel) (h : List Entry) (a : ℕ) (o : Option ℕ) (e : Event) → due_activate s h o ≡ Some e → IsRow kind.Activate a e
activate_row s h a None e d = absurd (cc)
activate_row s h a (Some k) e d = row_if kind.Activate a _ (event.Activate k _) e (record { kind = refl; actor = λ m. m }) d

scroll_row : (s : ScriptModel) (h : List Entry) (a i : ℕ) (o : Option Input) (e : Event) → due_scroll s h i o ≡ Some e → IsRow kind.Scroll a e
scroll_row s h a i (Some (input.Scroll sc dx dy)) e d = row_some kind.Scroll a (event.Scroll i _ _) e (record { kind = refl; actor = λ m. m }) d
scroll_row s h a i _ e d = absurd (cc)

wheel_row : (s : ScriptModel) (h : List Entry) (a i : ℕ) (o : Option Input) (e : Event) → due_wheel s h i o ≡ Some e → IsRow kind.Wheel a e
wheel_row s h a i (Some (input.Wheel x y dx dy)) e d = row_some kind.Wheel a (event.Wheel i _ _ _ _) e (record { kind = refl; actor = λ m. m }) d
wheel_row s h a i _ e d = absurd (cc)

-- the worker of an actor from 2 on
worker_of : (a : ℕ) → 2 ≤ a → a ≡ 2 + (a - 2)
worker_of a h = omega (arith, h)

start_row : (s : ScriptModel) (h : List Entry) (a : ℕ) (o : Option TileKey) (r : Option Rank) (e : Event) → due_start s h (a - 2) o r ≡ Some e → IsRow kind.Start a e
start_row s h a None (Some r) e d = row_some kind.Start a (event.Start (a - 2) _ _) e (record { kind = refl; actor = worker_of a }) d
start_row s h a None None e d = absurd (cc)
start_row s h a (Some q) r e d = absurd (cc)

done_row : (a : ℕ) (o : Option TileKey) (e : Event) → due_done (a - 2) o ≡ Some e → IsRow kind.Done a e
done_row a None e d = absurd (cc)
done_row a (Some q) e d = row_some kind.Done a (event.DoneTile (a - 2) q) e (record { kind = refl; actor = worker_of a }) d

draw_row : (s : ScriptModel) (h : List Entry) (a : ℕ) (o : Option ℕ) (e : Event) → due_draw s h o ≡ Some e → IsRow kind.Draw a e
draw_row s h a None e d = absurd (cc)
draw_row s h a (Some i) e d = row_if kind.Draw a _ (event.Draw i _) e (record { kind = refl; actor = λ m. m }) d

skip_row : (h : List Entry) (a : ℕ) (o : Option ℕ) (e : Event) → due_skip h o ≡ Some e → IsRow kind.Skip a e
skip_row h a None e d = absurd (cc)
skip_row h a (Some i) e d = row_if kind.Skip a _ (event.Skip i) e (record { kind = refl; actor = λ m. m }) d

await_row : (h : List Entry) (a i : ℕ) (o : Option Input) (e : Event) → due_await h i o ≡ Some e → IsRow kind.Await a e
await_row h a i (Some (input.Await f)) e d = row_if kind.Await a _ (event.Await i) e (record { kind = refl; actor = λ m. m }) d
await_row h a i _ e d = absurd (cc)

settle_row : (s : ScriptModel) (h : List Entry) (a i : ℕ) (o : Option Input) (e : Event) → due_settle s h i o ≡ Some e → IsRow kind.Settle a e
settle_row s h a i (Some input.Settle) e d = row_if kind.Settle a _ (event.Settle i) e (record { kind = refl; actor = λ m. m }) d
settle_row s h a i _ e d = absurd (cc)

pub due_row : (s : ScriptModel) (h : List Entry) (k : Kind) (a : ℕ) (e : Event) → due s h k a ≡ Some e → IsRow k a e
due_row s h kind.BeginDraw a e d = row_if kind.BeginDraw a _ (event.Begin _) e (record { kind = refl; actor = λ m. m }) d
due_row s h kind.BeginPlain a e d = row_if kind.BeginPlain a _ event.BeginPlain e (record { kind = refl; actor = λ m. m }) d
due_row s h kind.Send a e d = row_if kind.Send a _ (event.Send _ _) e (record { kind = refl; actor = λ m. m }) d
due_row s h kind.Ready a e d = ready_row s h a (newest sends h) e d
due_row s h kind.Abort a e d = abort_row s h a (newest sends h) e d
due_row s h kind.Commit a e d = commit_row a (newest sends h) e d
due_row s h kind.Activate a e d = activate_row s h a (pending h) e d
due_row s h kind.Scroll a e d = scroll_row s h a (next_input h) (input_now s h) e d
due_row s h kind.Wheel a e d = wheel_row s h a (next_input h) (input_now s h) e d
due_row s h kind.Start a e d = start_row s h a (held (a - 2) h) (rank_to_start s h) e d
due_row s h kind.Done a e d = done_row a (held (a - 2) h) e d
due_row s h kind.Draw a e d = draw_row s h a (newest begins h) e d
due_row s h kind.Skip a e d = skip_row h a (newest begins h) e d
due_row s h kind.NoDraw a e d = row_some kind.NoDraw a event.NoDraw e (record { kind = refl; actor = λ m. m }) d
due_row s h kind.Finish a e d = row_some kind.Finish a event.Finish e (record { kind = refl; actor = λ m. m }) d
due_row s h kind.Await a e d = await_row h a (next_input h) (input_now s h) e d
due_row s h kind.Settle a e d = settle_row s h a (next_input h) (input_now s h) e d
due_row s h kind.End a e d = row_if kind.End a _ event.End e (record { kind = refl; actor = λ m. m }) d
due_row s h kind.Stop a e d = row_some kind.Stop a (event.Stop a) e (record { kind = refl; actor = λ m. refl }) d
