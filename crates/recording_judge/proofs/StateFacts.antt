-- The parts of a state are those of its run.
use Rattle.std.proofs.Common.{◌≡◌, ℕ, ◌+◌, ◌<◌, Bool, true, false, cond, not, ◌&&◌, List, [], ◌∷◌, ◌++◌, Option, Some, None, is_some, Result, Ok, Err, refl, sym, ◌∙◌, ap, subst, arith}
use Rattle.std.specs.Prelude.{IfSome, OnOk}
use Rattle.std.specs.Bool.{Decides}
use Rattle.model_states.specs.declared.kind.Kind.{Kind}
use Rattle.page_layers.specs.declared.moves.Move.{Move}
use Rattle.model_history.specs.declared.event.Event.{Event}
use Rattle.model_history.specs.declared.event.Event.TheVariants as event
use Rattle.model_history.specs.declared.history.Entry.{Entry}
use Rattle.model_history.specs.Scripts.{ScriptModel}
use Rattle.model_history.specs.EventFields.{kind_of, actor_of}
use Rattle.model_history.specs.Legal.{can, Next, Legal}
use Rattle.model_history.specs.Due.{due}
use Rattle.model_history.specs.Frames.{pending}
use Rattle.model_history.specs.Scrolls.{clobbers}
use Rattle.model_history.specs.Ranking.{choice}
use Rattle.tile_priority.specs.Choice.{Choice}
use Rattle.tile_priority.specs.Alike.{Alike}
use Rattle.model_steps.specs.Events.{send, abort, commit, start, done}
use Rattle.model_steps.proofs.TreesAfter.{send_ready, send_choice, abort_choice}
use Rattle.impl_scroll.specs.Standings.{StandingModel, StandsForPast, uses_scroll}
use Rattle.impl_choice.proofs.SameTiles.{same_tiles, same_after_commit}
use Rattle.impl_choice.specs.Rebuilds.{leaves_tiles}
use Rattle.model_history.specs.Accepted.{IsPlayable}
use Rattle.impl_host.specs.Hosts.{ImplHostModel, Hosts, with_standing}
use Rattle.geom.specs.declared.tile.TileKey.{TileKey}
use Rattle.geom.specs.KeyLists.{has_key}
use Rattle.recording_judge.specs.declared.tile_keys.TileKeys.{TileKeys}
use Rattle.recording_judge.specs.declared.judged_main.JudgedMain.{JudgedMain}
use Rattle.recording_judge.specs.inner.Tiles.{Holds, HaveSameKeys}
use Rattle.recording_judge.specs.inner.Mains.{IsMain}
use Rattle.recording_judge.specs.inner.States.{Keeps, entry, is_quiet, IsState, IsReadyFor, HasKind, needs_queue}
use Rattle.recording_judge.specs.declared.state.State.{State}
use Rattle.model_history.proofs.BoolFacts.{not_both, and_both}
use Rattle.impl_log.specs.Runs.{Run, past, with_entry, new_run}
use Rattle.impl_log.proofs.LogSteps.{past_more}
use Rattle.recording_judge.proofs.MainSteps.{main_stays}
pub use Rattle.recording_judge.proofs.HostFacts.{on_ok}

-- a host with where its scrollers stand
pub hosts_with : (s : ScriptModel) (h : List Entry) (m : ImplHostModel) (st : StandingModel) → Hosts s h m → st ≡ m.standing → Hosts s h (with_standing m st)
hosts_with s h m st hosts is = record { active = hosts.active; pending = hosts.pending; standing = subst (λ (z : StandingModel). StandsForPast s h z) (sym is) hosts.standing; outright = hosts.outright }

-- before all events
pub state_begins : (r : Run) (s : ScriptModel) (n : ℕ) (host : ImplHostModel) (tiles : TileKeys) (main : JudgedMain) → r ≡ new_run s n → Hosts s [] host → Holds s n [] tiles → IsMain s [] main → Keeps r.script r.workers (past r) host tiles main
state_begins r s n host tiles main is hosts holds runs = subst (λ (z : Run). Keeps z.script z.workers (past z) host tiles main) (sym is) (record { host = hosts; tiles = holds; main = runs })

-- ---- the tiles after an event that starts and ends none

held_same : (s : ScriptModel) (h : List Entry) (a : ℕ) (e : Event) → leaves_tiles e ≡ true → HaveSameKeys s h (entry a e ∷ h)
held_same s h a (event.Start w q ks) t = absurd cc
held_same s h a (event.DoneTile w q) t = absurd cc
held_same s h a (event.Send k ms) t = absurd cc
held_same s h a (event.Commit k) t = absurd cc
held_same s h a (event.Activate k ms) t = absurd cc
held_same s h a e t = record { tiles = same_tiles s h (entry a e) t; held = λ w. refl }

scroll_leaves : (e : Event) → uses_scroll e ≡ true → leaves_tiles e ≡ true
scroll_leaves (event.Scroll i dx dy) t = refl
scroll_leaves (event.Wheel i layer x y ms) t = refl
scroll_leaves _ t = absurd cc

pub scroll_keys : (s : ScriptModel) (h : List Entry) (a : ℕ) (e : Event) → uses_scroll e ≡ true → HaveSameKeys s h (entry a e ∷ h)
scroll_keys s h a e t = held_same s h a e (scroll_leaves e t)

pub abort_keys : (s : ScriptModel) (h : List Entry) (a k : ℕ) → HaveSameKeys s h (abort a k ∷ h)
abort_keys s h a k = record { tiles = same_tiles s h (abort a k) refl; held = λ w. refl }

pub commit_keys : (s : ScriptModel) (n : ℕ) (h : List Entry) (a k : ℕ) → IsPlayable s → Legal s n (commit a k ∷ h) → HaveSameKeys s h (commit a k ∷ h)
commit_keys s n h a k accepted legal = record { tiles = same_after_commit s n h a k accepted legal; held = λ w. refl }

abbrev Choices : Option Choice → Choice → Type 0
Choices o c = IfSome o (λ (q : Choice). Alike q c)

queue_where : (o : Option Choice) (c d : Choice) → d ≡ c → Choices o c → Choices o d
queue_where o c d e x = subst (Choices o) (sym e) x

-- a send leaves the choice as it is
pub send_tiles : (s : ScriptModel) (n : ℕ) (h : List Entry) (a k : ℕ) (ms : List Move) (t : TileKeys) → Legal s n (send a k ms ∷ h) → Holds s n h t → Holds s n (send a k ms ∷ h) t
send_tiles s n h a k ms t legal holds = record {
  ready = λ q. holds.ready q ∙ sym (ap (λ ks. has_key ks q) (send_ready s n h a k ms legal));
  pinned = holds.pinned;
  count = holds.count;
  held = holds.held;
  queue = queue_where t.queue (choice s h) (choice s (send a k ms ∷ h)) (send_choice s n h a k ms legal) holds.queue;
}

-- so does an abort where the pending commit sets no scroller outright
pub abort_tiles : (s : ScriptModel) (n : ℕ) (h : List Entry) (a k : ℕ) (t : TileKeys) → Legal s n (abort a k ∷ h) → ((sc : ℕ) → clobbers s (pending h) sc ≡ false) → Holds s n h t → Holds s n (abort a k ∷ h) t
abort_tiles s n h a k t legal none holds = record {
  ready = holds.ready;
  pinned = holds.pinned;
  count = holds.count;
  held = holds.held;
  queue = queue_where t.queue (choice s h) (choice s (abort a k ∷ h)) (abort_choice s n h a k legal none) holds.queue;
}

-- ---- an event that changes nothing but the history

module _ (s : ScriptModel) (n : ℕ) (h : List Entry) (a : ℕ) (host : ImplHostModel) (tiles : TileKeys) (main : JudgedMain) where
  pub quiet_keeps : (e : Event) → is_quiet e ≡ true → Legal s n (entry a e ∷ h) → Keeps s n h host tiles main → Keeps s n (entry a e ∷ h) host tiles main
  quiet_keeps (event.Send k ms) t legal k0 = absurd cc
  quiet_keeps (event.Abort k) t legal k0 = absurd cc
  quiet_keeps (event.Commit k) t legal k0 = absurd cc
  quiet_keeps (event.Activate k ms) t legal k0 = absurd cc
  quiet_keeps (event.Scroll i dx dy) t legal k0 = absurd cc
  quiet_keeps (event.Wheel i layer x y ms) t legal k0 = absurd cc
  quiet_keeps (event.Start w q ks) t legal k0 = absurd cc
  quiet_keeps (event.DoneTile w q) t legal k0 = absurd cc
  quiet_keeps (event.Ready k) t legal k0 = record { host = k0.host; tiles = k0.tiles; main = main_stays s n h a main (event.Ready k) legal refl k0.main }
  quiet_keeps e t legal k0 = record { host = k0.host; tiles = k0.tiles; main = k0.main }

-- ---- what may come next

pub next_can : (s : ScriptModel) (n : ℕ) (h : List Entry) (e : Entry) → Next s n h e → can s h (kind_of e.event) e.actor ≡ Some e.event
next_can s n h e x = (λ i. cond (not (x.going i) && x.state i) (due s h (kind_of e.event) e.actor) None) ∙ x.is_due

-- ---- the worker of an event is one of the workers

pub start_within : (s : ScriptModel) (n : ℕ) (h : List Entry) (a w : ℕ) (q : TileKey) (ks : List TileKey) → Legal s n (start a w q ks ∷ h) → w < n
start_within s n h a w q ks legal = let within = legal.1.within in let actor = legal.1.actor in omega (arith, within, actor)

pub done_within : (s : ScriptModel) (n : ℕ) (h : List Entry) (a w : ℕ) (q : TileKey) → Legal s n (done a w q ∷ h) → w < n
done_within s n h a w q legal = let within = legal.1.within in let actor = legal.1.actor in omega (arith, within, actor)

-- ---- entering

pub state_after : (r new : Run) (a : ℕ) (e : Event) (host : ImplHostModel) (tiles : TileKeys) (main : JudgedMain) → new ≡ with_entry r a e → Keeps r.script r.workers (entry a e ∷ past r) host tiles main
    → Keeps new.script new.workers (past new) host tiles main
state_after r new a e host tiles main is keeps =
    subst (λ (z : Run). Keeps z.script z.workers (past z) host tiles main) (sym is)
    (subst (λ (h : List Entry). Keeps r.script r.workers h host tiles main) (sym (past_more r.entries (r.entries ++ entry a e ∷ []) (entry a e) refl)) keeps)

pub ready_for : {X E : Type 0} (old : State) (k : Kind) (new : State) (r : Result X E) → new.log ≡ old.log → OnOk r (IsState new) → OnOk r (is_some new.tiles.queue ≡ true) → OnOk r (IsReadyFor old k new)
ready_for old k new (Ok x) log state queue = record { log = log; state = state; queue = λ t. queue }
ready_for old k new (Err e) log state queue = tt

pub queue_there : (k : Kind) (o : Option Choice) → (needs_queue k && not (is_some o)) ≡ false → needs_queue k ≡ true → is_some o ≡ true
queue_there k (Some c) f t = refl
queue_there k None f t = absurd (not_both (needs_queue k && true) (and_both (needs_queue k) true t refl) f)

pub none_comes : (s : ScriptModel) (n : ℕ) (h : List Entry) (e : Entry) → None ≡ can s h (kind_of e.event) e.actor → Next s n h e → ⊥
none_comes s n h e none x = apart (none ∙ next_can s n h e x)
  where
    apart : {X : Type 0} {y : X} → None ≡ Some y → ⊥
    apart p = absurd cc

pub other_comes : (s : ScriptModel) (n : ℕ) (h : List Entry) (e : Entry) (x : Event) → Some x ≡ can s h (kind_of e.event) e.actor → (x ≡ e.event → ⊥) → Next s n h e → ⊥
other_comes s n h e x is other next =
    let some : Some x ≡ Some e.event = is ∙ next_can s n h e next in
    let same : x ≡ e.event = cc in
    other same

pub has_kind : (n a : ℕ) (e : Event) → a ≡ actor_of e → a < 2 + n → HasKind n (kind_of e) a
has_kind n a (event.Ready k) own within = own
has_kind n a (event.Abort k) own within = own
has_kind n a (event.Start w q ks) own within = (omega (arith, own), within)
has_kind n a (event.DoneTile w q) own within = (omega (arith, own), within)
has_kind n a (event.Stop b) own within = within
has_kind n a (event.Begin i) own within = own
has_kind n a event.BeginPlain own within = own
has_kind n a (event.Send k ms) own within = own
has_kind n a (event.Commit k) own within = own
has_kind n a (event.Activate k ms) own within = own
has_kind n a (event.Scroll i dx dy) own within = own
has_kind n a (event.Wheel i layer x y ms) own within = own
has_kind n a (event.Draw i ks) own within = own
has_kind n a (event.Skip i) own within = own
has_kind n a event.NoDraw own within = own
has_kind n a event.Finish own within = own
has_kind n a (event.Await i) own within = own
has_kind n a (event.Settle i) own within = own
has_kind n a event.End own within = own

-- what a test of the actor tells

pub own_actor : (b : Bool) (n m : ℕ) (e : Entry) → Decides b ((e.actor ≡ actor_of e.event) × (e.actor < 2 + m)) → m ≡ n → b ≡ true → (e.actor ≡ actor_of e.event) × (e.actor < 2 + n)
own_actor b n m e decides same t = let p = decides.0 t in (p.0, subst (λ (k : ℕ). e.actor < 2 + k) same p.1)

pub no_actor : (b : Bool) (n m : ℕ) (e : Entry) → Decides b ((e.actor ≡ actor_of e.event) × (e.actor < 2 + m)) → m ≡ n → b ≡ false → e.actor ≡ actor_of e.event → e.actor < 2 + n → ⊥
no_actor b n m e decides same f own within = not_both b (decides.1 (own, subst (λ (k : ℕ). e.actor < 2 + k) (sym same) within)) f
