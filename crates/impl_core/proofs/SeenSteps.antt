-- A core after the events that move scrollers, and after an abort.
use Rattle.std.proofs.Common.{◌≡◌, ℕ, true, List, ◌∷◌, Option}
use Rattle.page_layers.specs.declared.moves.Move.{Move}
use Rattle.model_history.specs.declared.event.Event.{Event}
use Rattle.model_history.specs.declared.event.Event.TheVariants as event
use Rattle.model_history.specs.declared.history.Entry.{Entry}
use Rattle.model_history.specs.Scripts.{ScriptModel}
use Rattle.model_history.specs.Tiles.{ready, required}
use Rattle.model_history.proofs.DueFacts.{entry}
use Rattle.impl_tiles.specs.Managers.{Managed, Manages}
use Rattle.impl_host.specs.Hosts.{ImplHostModel, Hosts}
use Rattle.impl_core.specs.declared.drawn.Drawn.{Drawn}
use Rattle.impl_core.specs.declared.handed.Handed.{Handed}
use Rattle.impl_core.specs.declared.needs.Needs.{Needs}
use Rattle.impl_core.specs.inner.Moving.{is_moving}
use Rattle.impl_core.specs.inner.Needed.{KnowsNeeds}
use Rattle.impl_core.specs.inner.Cores.{Kept, IsDrawnAt, IsCore}

module _ (s : ScriptModel) (h : List Entry) (kept : Kept) (core : IsCore s h kept) (host : ImplHostModel) (m : Managed) (needed : Needs) (shown : Drawn) where
  abbrev then : Kept
  then = record { host = host; tiles = m; told = kept.told; prepared = kept.prepared; required = needed; drawn = shown }

  pub moving_core : (a : ℕ) (e : Event) → is_moving e ≡ true → Hosts s (entry a e ∷ h) host → Manages s (entry a e ∷ h) m → KnowsNeeds needed (required s (entry a e ∷ h)) (ready s (entry a e ∷ h)) → IsDrawnAt s (entry a e ∷ h) shown → IsCore s (entry a e ∷ h) then
  moving_core a (event.Scroll i dx dy) t hosts holds needs shows = record { host = hosts; tiles = holds; told = core.told; prepared = core.prepared; required = needs; drawn = shows }
  moving_core a (event.Wheel i layer rest_x rest_y ms) t hosts holds needs shows = record { host = hosts; tiles = holds; told = core.told; prepared = core.prepared; required = needs; drawn = shows }
  moving_core a (event.Abort k) t hosts holds needs shows = record { host = hosts; tiles = holds; told = λ u j e. absurd cc; prepared = λ u j e. absurd cc; required = needs; drawn = shows }
  moving_core a e t hosts holds needs shows = absurd cc

  -- once a commit is entered, it does not matter what is prepared
  abbrev committed : Option Handed → Kept
  committed o = record { host = host; tiles = m; told = kept.told; prepared = o; required = needed; drawn = shown }

  pub commit_core : (o : Option Handed) (k : ℕ) → Hosts s (entry 0 (event.Commit k) ∷ h) host → Manages s (entry 0 (event.Commit k) ∷ h) m → KnowsNeeds needed (required s (entry 0 (event.Commit k) ∷ h)) (ready s (entry 0 (event.Commit k) ∷ h)) → IsDrawnAt s (entry 0 (event.Commit k) ∷ h) shown → IsCore s (entry 0 (event.Commit k) ∷ h) (committed o)
  commit_core o k hosts holds needs shows = record { host = hosts; tiles = holds; told = λ t j e. absurd cc; prepared = λ t j e. absurd cc; required = needs; drawn = shows }

  pub activate_core : (k : ℕ) (ms : List Move) → Hosts s (entry 0 (event.Activate k ms) ∷ h) host → Manages s (entry 0 (event.Activate k ms) ∷ h) m → KnowsNeeds needed (required s (entry 0 (event.Activate k ms) ∷ h)) (ready s (entry 0 (event.Activate k ms) ∷ h)) → IsDrawnAt s (entry 0 (event.Activate k ms) ∷ h) shown
      → IsCore s (entry 0 (event.Activate k ms) ∷ h) then
  activate_core k ms hosts holds needs shows = record { host = hosts; tiles = holds; told = core.told; prepared = core.prepared; required = needs; drawn = shows }
