-- What a judge keeps of a run, and when its parts may be stepped.
use Rattle.std.specs.Prelude.{◌≡◌, ◌≤◌, ◌<◌, ℕ, ◌+◌, is_some, Bool, true, false, List, [], ◌∷◌, Option, Some, None}
use Rattle.geom.specs.declared.tile.TileKey.{TileKey}
use Rattle.tile_priority.specs.declared.rank.Rank.{Rank}
use Rattle.page_layers.specs.declared.moves.Move.{Move}
use Rattle.model_history.specs.declared.event.Event.{Event}
use Rattle.model_history.specs.declared.event.Event.TheVariants as event
use Rattle.model_history.specs.declared.history.Entry.{Entry}
use Rattle.model_history.specs.Scripts.{ScriptModel}
use Rattle.model_history.specs.Accepted.{IsPlayable}
use Rattle.model_history.specs.EventFields.{kind_of, actor_of}
use Rattle.model_history.specs.Ranking.{rank_to_start}
use Rattle.model_history.specs.Legal.{Legal}
use Rattle.model_states.specs.declared.kind.Kind.{Kind}
use Rattle.model_states.specs.declared.kind.Kind.TheVariants as kind
use Rattle.impl_host.specs.Hosts.{ImplHostModel, Hosts}
use Rattle.impl_log.specs.Runs.{past, now, with_entry}
use Rattle.recording_judge.specs.declared.tile_keys.TileKeys.{TileKeys}
use Rattle.recording_judge.specs.declared.judged_main.JudgedMain.{JudgedMain}
use Rattle.recording_judge.specs.declared.state.State.{State}
use Rattle.recording_judge.specs.inner.Tiles.{Holds}
use Rattle.recording_judge.specs.inner.Mains.{IsMain}

-- they are the host, the tiles and the main side of a run of the script with the given number of workers after this past
pub record Keeps (s : ScriptModel) (n : ℕ) (h : List Entry) (stands : ImplHostModel) (keys : TileKeys) (side : JudgedMain) : Type 0 where
  pub host : Hosts s h stands
  pub tiles : Holds s n h keys
  pub main : IsMain s h side

-- the parts of a state are those of its run
abbrev pub IsState : State → Type 0
IsState st = Keeps st.log.script st.log.workers (past st.log) st.host st.tiles st.main

-- an entry of this actor and event
abbrev pub entry : ℕ → Event → Entry
entry a e = record { actor = a; event = e }

-- the parts of the state are those of its run, and this entry may come next
pub record MayStep (st : State) (a : ℕ) (e : Event) : Type 0 where
  pub state : IsState st
  pub playable : IsPlayable st.log.script
  pub legal : Legal st.log.script st.log.workers (entry a e ∷ past st.log)

-- the parts were stepped by the entry, which is not entered yet
pub record IsStepped (st : State) (a : ℕ) (e : Event) (new : State) : Type 0 where
  pub log : new.log ≡ st.log
  pub keeps : Keeps st.log.script st.log.workers (entry a e ∷ past st.log) new.host new.tiles new.main

-- an event that leaves the pages, the scrollers, the tiles and the main side as they are
abbrev pub is_quiet : Event → Bool
is_quiet (event.Send k ms) = false
is_quiet (event.Abort k) = false
is_quiet (event.Commit k) = false
is_quiet (event.Activate k ms) = false
is_quiet (event.Scroll i dx dy) = false
is_quiet (event.Wheel i layer dx dy ms) = false
is_quiet (event.Start w q ks) = false
is_quiet (event.DoneTile w q) = false
is_quiet _ = true

-- the moves that an option makes
abbrev pub listed : Option Move → List Move
listed None = []
listed (Some m) = m ∷ []

-- the actor has events of this kind, if there are that many workers: the main side, a worker, anybody, or the compositor
abbrev pub HasKind : ℕ → Kind → ℕ → Type 0
HasKind n kind.Ready a = a ≡ 1
HasKind n kind.Abort a = a ≡ 1
HasKind n kind.Start a = (2 ≤ a) × (a < 2 + n)
HasKind n kind.Done a = (2 ≤ a) × (a < 2 + n)
HasKind n kind.Stop a = a < 2 + n
HasKind n _ a = a ≡ 0

-- the kinds whose event needs a queue
abbrev pub needs_queue : Kind → Bool
needs_queue kind.Start = true
needs_queue kind.Settle = true
needs_queue _ = false

-- the parts are those of the run, which is the same, and there is a queue if the kind needs one
pub record IsReadyFor (old : State) (k : Kind) (new : State) : Type 0 where
  pub log : new.log ≡ old.log
  pub state : IsState new
  pub queue : needs_queue k ≡ true → is_some new.tiles.queue ≡ true

-- the event may come now, of this actor
pub record Comes (st : State) (a : ℕ) (e : Event) : Type 0 where
  pub state : IsState st
  pub is_now : now st.log (kind_of e) a ≡ Some e
  pub actor : a ≡ actor_of e
  pub within : a < 2 + st.log.workers

-- the entry was entered, and the parts are those of the run
pub record HasEntered (old : State) (a : ℕ) (e : Event) (new : State) : Type 0 where
  pub log : new.log ≡ with_entry old.log a e
  pub state : IsState new

-- the key is that of the rank that is first
pub record IsFirstKey (s : ScriptModel) (h : List Entry) (q : TileKey) : Type 0 where
  pub rank : Rank
  pub is_first : rank_to_start s h ≡ Some rank
  pub key : rank.key ≡ q
