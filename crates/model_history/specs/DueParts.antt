-- The rows of `due` that look at one frame, worker or draw, by name and with what they look at given: proofs speak of them.
use Rattle.std.specs.Prelude.{ℕ, not, cond, List, is_some, Option, None, option_map, option_and_then}
use Rattle.geom.specs.declared.tile.TileKey.{TileKey}
use Rattle.tile_priority.specs.declared.rank.Rank.{Rank}
use Rattle.model_history.specs.declared.event.Event.{Event}
use Rattle.model_history.specs.declared.event.Event.TheVariants as event
use Rattle.model_history.specs.declared.history.Entry.{Entry}
use Rattle.model_history.specs.Scripts.{ScriptModel}
use Rattle.model_history.specs.Frames.{changes, pulls_of, active}
use Rattle.model_history.specs.Scrolls.{next_clamps}
use Rattle.model_history.specs.Tiles.{required, are_ready, missing_visible}
use Rattle.model_history.specs.Ranking.{evicted_for}
use Rattle.model_history.specs.Due.{on_if}

-- the rows of the frame that was sent last
abbrev pub due_ready : ScriptModel → List Entry → Option ℕ → Option Event
due_ready s h sent = option_and_then (λ k. on_if (changes s (pulls_of h) k) (event.Ready k)) sent

abbrev pub due_abort : ScriptModel → List Entry → Option ℕ → Option Event
due_abort s h sent = option_and_then (λ k. on_if (not (changes s (pulls_of h) k)) (event.Abort k)) sent

abbrev pub due_commit : Option ℕ → Option Event
due_commit sent = option_map event.Commit sent

-- the row of the pending frame
abbrev pub due_activate : ScriptModel → List Entry → Option ℕ → Option Event
due_activate s h pends = option_and_then (λ k. on_if (are_ready s h (required s h)) (event.Activate k (next_clamps s h))) pends

-- the rows of a worker that holds this tile, or none, while this is the first rank
abbrev pub due_start : ScriptModel → List Entry → ℕ → Option TileKey → Option Rank → Option Event
due_start s h w holds first = cond (is_some holds) None (option_map (λ r. event.Start w r.key (evicted_for s h r)) first)

abbrev pub due_done : ℕ → Option TileKey → Option Event
due_done w holds = option_map (event.DoneTile w) holds

-- the rows of the draw for which an impl frame was begun last
abbrev pub due_draw : ScriptModel → List Entry → Option ℕ → Option Event
due_draw s h begun = option_and_then (λ i. on_if (is_some (active h)) (event.Draw i (missing_visible s h))) begun

abbrev pub due_skip : List Entry → Option ℕ → Option Event
due_skip h begun = option_and_then (λ i. on_if (not (is_some (active h))) (event.Skip i)) begun
