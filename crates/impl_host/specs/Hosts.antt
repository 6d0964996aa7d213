-- What contracts see of the compositor side, and when it represents a run.
use Rattle.std.specs.Prelude.{◌≡◌, ℕ, suc, List, Option, Some, None}
use Rattle.geom.specs.declared.rect.Point.{Point}
use Rattle.model_states.specs.declared.Synced.{Synced}
use Rattle.region.specs.Lists.{Changed}
use Rattle.page_layers.specs.declared.moves.Move.{Move}
use Rattle.page_layers.specs.Axes.{Axis}
use Rattle.page_layers.specs.Pages.{Page}
use Rattle.model_history.specs.declared.history.Entry.{Entry}
use Rattle.model_history.specs.Scripts.{ScriptModel}
use Rattle.model_history.specs.Frames.{page, pulls_of, active, pending}
use Rattle.model_history.specs.Scrolls.{clobbers, active_offsets, pending_offsets}
use Rattle.model_history.specs.Stamps.{frame_changes, commits_to}
use Rattle.model_history.specs.SameChanges.{SameChanges}
use Rattle.model_history.specs.Values.{values}
use Rattle.impl_scroll.specs.Rows.{has_number}
use Rattle.impl_scroll.specs.Standings.{StandingModel, HasScrollState}
use Rattle.impl_host.specs.Trees.{TreeModel, TreesModel, AreStamped}

-- the tree is that of page n of a script with these pulls: its tilings have the stamps after the first n frames
pub record IsTree (s : ScriptModel) (ps : ℕ → List Move) (n : ℕ) (t : TreeModel) : Type 0 where
  pub page : t.page ≡ page s ps n
  pub stamps : AreStamped t (commits_to s ps n)

-- the tree of the commit of a frame; no tree if there is no frame
abbrev pub IsTreeAt : ScriptModel → (ℕ → List Move) → Option ℕ → Option TreeModel → Type 0
IsTreeAt s ps None None = Unit {0}
IsTreeAt s ps None (Some t) = ⊥
IsTreeAt s ps (Some k) None = ⊥
IsTreeAt s ps (Some k) (Some t) = IsTree s ps (suc k) t

-- the trees, where the scrollers stand in them, and the scrollers that the pending commit sets outright
pub record ImplHostModel : Type 0 where
  pub trees : TreesModel
  pub standing : StandingModel
  pub outright : List ℕ

-- the same trees, with the scrollers elsewhere
abbrev pub with_standing : ImplHostModel → StandingModel → ImplHostModel
with_standing m st = record { trees = m.trees; standing = st; outright = m.outright }

-- it has the trees of these active and pending frames, and the scrollers have these values and offsets
pub record HostsAt (s : ScriptModel) (m : ImplHostModel) (ps : ℕ → List Move) (on wait : Option ℕ) (value : ℕ → Axis → Synced) (at_active at_pending : ℕ → Point) : Type 0 where
  pub active : IsTreeAt s ps on m.trees.active
  pub pending : IsTreeAt s ps wait m.trees.pending
  pub standing : HasScrollState m.standing value at_active at_pending
  pub outright : (sc : ℕ) → has_number m.outright sc ≡ clobbers s wait sc

-- it represents a run of the script after this past
abbrev pub Hosts : ScriptModel → List Entry → ImplHostModel → Type 0
Hosts s h m = HostsAt s m (pulls_of h) (active h) (pending h) (λ sc ax. values s sc ax h) (active_offsets s h) (pending_offsets s h)

-- after this past the main frame makes this page, makes these changes, and sets these scrollers outright
pub record IsMadeBy (s : ScriptModel) (h : List Entry) (k : ℕ) (p : Page) (d : Changed) (outright : List ℕ) : Type 0 where
  pub page_is : p ≡ page s (pulls_of h) (suc k)
  pub changes : SameChanges d (frame_changes s (pulls_of h) k)
  pub outright_are : (sc : ℕ) → has_number outright sc ≡ clobbers s (Some k) sc
