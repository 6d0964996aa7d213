-- What a core keeps of its history. The record speaks of the values that the model tells of a past, not of the past, so that an event which changes none of them keeps it.
use Rattle.std.specs.Prelude.{◌≡◌, ⊤, ℕ, suc, ℤ, true, Option, Some, None, List}
use Rattle.geom.specs.Covers.{covers}
use Rattle.geom.specs.declared.rect.Point.{Point}
use Rattle.geom.specs.declared.tile.TileKey.{TileKey}
use Rattle.tile_priority.specs.declared.rank.Rank.{Rank}
use Rattle.tile_priority.specs.Choice.{Choice}
use Rattle.model_states.specs.declared.states.MainState.{MainState}
use Rattle.model_states.specs.Kinds.{is_sent, is_ready_to_commit}
use Rattle.model_states.specs.declared.Synced.{Synced}
use Rattle.page_layers.specs.declared.moves.Move.{Move}
use Rattle.page_layers.specs.Axes.{Axis}
use Rattle.page_layers.specs.Pages.{Page, viewport}
use Rattle.page_layers.specs.TreePainting.{paint}
use Rattle.viz_scene.specs.Pixels.{scene_pixel}
use Rattle.model_history.specs.declared.history.Entry.{Entry}
use Rattle.model_history.specs.Scripts.{ScriptModel}
use Rattle.model_history.specs.EventFields.{sends}
use Rattle.model_history.specs.Scans.{newest}
use Rattle.model_history.specs.Frames.{pulls_of, active, pending, active_page}
use Rattle.model_history.specs.Scrolls.{active_offsets, pending_offsets}
use Rattle.model_history.specs.Legal.{sched}
use Rattle.model_history.specs.Tiles.{in_flight, ready, pinned, required, missing_visible}
use Rattle.model_history.specs.Ranking.{choice}
use Rattle.model_history.specs.Values.{values}
use Rattle.impl_tiles.specs.Managers.{Managed, HoldsTiles, live_ranks}
use Rattle.impl_core.specs.declared.drawing.Drawing.{Drawing}
use Rattle.impl_core.specs.declared.handed.Handed.{Handed}
use Rattle.impl_core.specs.Handovers.{IsPreparedFor}
use Rattle.impl_host.specs.Hosts.{ImplHostModel, HostsAt}
use Rattle.impl_core.specs.declared.drawn.Drawn.{Drawn}
use Rattle.impl_core.specs.declared.needs.Needs.{Needs}
use Rattle.impl_core.specs.inner.Needed.{KnowsNeeds}
use Rattle.impl_core.specs.declared.drawn.Drawn.TheVariants as drawn

-- what a core keeps beside its log
pub record Kept : Type 0 where
  pub host : ImplHostModel
  pub tiles : Managed
  pub told : List Move
  pub prepared : Option Handed
  pub required : Needs
  pub drawn : Drawn

-- the page after a frame with these pulls, what the frame changed, and the scrollers that it sets outright, were handed over
abbrev pub IsPrepared : ScriptModel → (ℕ → List Move) → ℕ → Option Handed → Type 0
IsPrepared s ps k None = ⊥
IsPrepared s ps k (Some d) = IsPreparedFor s ps k d.tree.value d.changes d.outright.items

-- the drawing shows a page at these offsets over the background of the script, with the missing tiles that it lists, which are these
pub record ShowsPage (s : ScriptModel) (p : Page) (at : ℕ → Point) (missing : List TileKey) (d : Drawing) : Type 0 where
  pub width : d.scene.w ≡ p.view.w
  pub height : d.scene.h ≡ p.view.h
  pub pixels : (x y : ℤ) → covers (viewport p) x y ≡ true → scene_pixel d.scene x y ≡ paint p at missing s.background x y
  pub missing_is : d.missing ≡ missing

-- the drawing that is kept, if one is, has a property
abbrev pub IfKept : Drawn → (Drawing → Type 0) → Type 0
IfKept (drawn.Kept d) P = P d
IfKept _ P = ⊤

-- the drawing that is kept, if one is, shows what a draw shows after this past
abbrev pub IsDrawnAt : ScriptModel → List Entry → Drawn → Type 0
IsDrawnAt s h d = IfKept d (ShowsPage s (active_page s h) (active_offsets s h) (missing_visible s h))

-- the trees stand, the tiles are there, the main side was told this, what is known of the keys that the pending tree needs is so, and a drawing that is kept shows the active page
pub record CoreOf (s : ScriptModel) (kept : Kept) (ps : ℕ → List Move) (on wait : Option ℕ) (value : ℕ → Axis → Synced) (at then : ℕ → Point) (made flying pins : List TileKey) (c : Choice) (live : List Rank) (main : MainState) (last : Option ℕ) (needs : List TileKey) (shown : Page) (missing : List TileKey) : Type 0 where
  pub host : HostsAt s kept.host ps on wait value at then
  pub tiles : HoldsTiles s kept.tiles made flying pins c live
  pub told : is_sent main ≡ true → (k : ℕ) → last ≡ Some k → kept.told ≡ ps k
  pub prepared : is_ready_to_commit main ≡ true → (k : ℕ) → last ≡ Some k → IsPrepared s ps k kept.prepared
  pub required : KnowsNeeds kept.required needs made
  pub drawn : IfKept kept.drawn (ShowsPage s shown at missing)

abbrev pub IsCore : ScriptModel → List Entry → Kept → Type 0
IsCore s h kept = CoreOf s kept (pulls_of h) (active h) (pending h) (λ sc ax. values s sc ax h) (active_offsets s h) (pending_offsets s h) (ready s h) (in_flight h) (pinned s h) (choice s h) (live_ranks s h) (sched h).main_state (newest sends h) (required s h) (active_page s h) (missing_visible s h)
