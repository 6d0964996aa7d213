-- What a core answers, in words of its run: the script, the number of workers and the entries.
use Rattle.std.specs.Prelude.{◌≡◌, ℕ, ◌+◌, ℤ, Bool, true, false, cond, List, [], ◌∷◌, map, take, Option, Some, None, option_map, Result, Ok, Err}
use Rattle.std.specs.List.{AllByRecursion}
use Rattle.geom.specs.declared.tile.TileKey.{TileKey}
use Rattle.geom.specs.Covers.{covers, IsSound}
use Rattle.tile_priority.specs.Ranks.{rank_cmp}
use Rattle.tile_priority.specs.Ordered.{in_order}
use Rattle.tile_raster.specs.declared.job.Job.{Job}
use Rattle.viz_scene.specs.Views.{SceneView}
use Rattle.viz_scene.specs.Pixels.{scene_pixel}
use Rattle.tile_queue.specs.Queues.{rank_key}
use Rattle.model_states.specs.declared.kind.Kind.{Kind}
use Rattle.model_states.specs.declared.kind.Kind.TheVariants as kind
use Rattle.model_states.specs.Kinds.{is_sent}
use Rattle.page_layers.specs.declared.moves.Move.{Move}
use Rattle.page_layers.specs.TreePainting.{paint}
use Rattle.page_layers.specs.Pages.{viewport}
use Rattle.model_history.specs.declared.history.Entry.{Entry}
use Rattle.model_history.specs.Scripts.{ScriptModel}
use Rattle.model_history.specs.declared.event.Event.{Event}
use Rattle.model_history.specs.declared.event.Event.TheVariants as event
use Rattle.model_history.specs.EventFields.{sends}
use Rattle.model_history.specs.Scans.{has_ended, newest}
use Rattle.model_history.specs.Frames.{pulls_of, active_page}
use Rattle.model_history.specs.Scrolls.{active_offsets}
use Rattle.model_history.specs.Tiles.{missing_visible}
use Rattle.model_history.specs.Ranking.{rank_to_start, wanted}
use Rattle.model_history.specs.Legal.{sched}
use Rattle.model_steps.specs.ShownKeys.{KeyShows}
use Rattle.impl_log.specs.Runs.{Run, past, now, with_entry, Entered}
use Rattle.impl_core.specs.declared.reply.Reply.{Reply}
use Rattle.impl_core.specs.declared.reply.Reply.TheVariants as reply
use Rattle.impl_core.specs.declared.reply.CoreFault.{CoreFault}
use Rattle.impl_core.specs.declared.reply.CoreFault.TheVariants as fault

-- the kinds of the compositor itself
abbrev pub is_own : Kind → Bool
is_own kind.Ready = false
is_own kind.Abort = false
is_own kind.Start = false
is_own kind.Done = false
is_own kind.Stop = false
is_own _ = true

-- the event that ends a run which was played to its end
abbrev pub is_end : Event → Bool
is_end event.End = true
is_end _ = false

-- the last of the entries is such an end
abbrev pub is_played : List Entry → Bool
is_played [] = false
is_played (e ∷ []) = is_end e.event
is_played (e ∷ f ∷ es) = is_played (f ∷ es)

-- the key that starts next: none if the run has ended, or if none may start
abbrev pub next_key : Run → Option TileKey
next_key r = cond (has_ended (past r)) None (option_map rank_key (rank_to_start r.script (past r)))

-- the main frame that was sent and has not ended, with its pulls
abbrev pub told_frame : Run → Option (ℕ × List Move)
told_frame r = cond (is_sent (sched (past r)).main_state) (option_map (λ k. (k, pulls_of (past r) k)) (newest sends (past r))) None

-- a worker has started a key, the next one, and what it evicts is what the model evicts
pub record StartsKey (old : Run) (w : ℕ) (key : TileKey) (new : Run) : Type 0 where
  pub evicted : List TileKey
  pub is_next : next_key old ≡ Some key
  pub is_now : now old kind.Start (2 + w) ≡ Some (event.Start w key evicted)
  pub is_entered : new ≡ with_entry old (2 + w) (event.Start w key evicted)

-- a worker has started the key of this job, whose rect is sound, and which shows it in every page of the script that has it; or none may start, and nothing has changed
abbrev pub Starts : Run → ℕ → Run → Option Job → Type 0
Starts old w new None = (next_key old ≡ None) × (now old kind.Start (2 + w) ≡ None) × (new ≡ old)
Starts old w new (Some job) = StartsKey old w job.key new × IsSound job.rect × KeyShows old.script job.key job.rect job.list.value

-- the picture of a run is the painting of the active page at its offsets, with the tiles missing that are not ready
pub record IsPicture (s : ScriptModel) (h : List Entry) (scene : SceneView) : Type 0 where
  pub width : scene.w ≡ (active_page s h).view.w
  pub height : scene.h ≡ (active_page s h).view.h
  pub pixels : (x y : ℤ) → covers (viewport (active_page s h)) x y ≡ true → scene_pixel scene x y ≡ paint (active_page s h) (active_offsets s h) (missing_visible s h) s.background x y

-- the active tree was drawn, and this is what it shows
pub record DrawsScene (old new : Run) (scene : SceneView) : Type 0 where
  pub entered : Entered old kind.Draw 0 new
  pub picture : IsPicture old.script (past old) scene

-- the answer is the scene of the draw that was entered; if there is none, none might come, and nothing has changed
abbrev pub Draws : Run → Run → Option SceneView → Type 0
Draws old new None = (now old kind.Draw 0 ≡ None) × (new ≡ old)
Draws old new (Some scene) = DrawsScene old new scene

-- the kind of a draw
abbrev pub is_draw_kind : Kind → Bool
is_draw_kind kind.Draw = true
is_draw_kind _ = false

-- the answer to a kind of the compositor: its one event was entered, a draw with its scene; or none might come, and nothing has changed; or memory was refused, and nothing has changed
abbrev pub IsReply : Run → Kind → Run → Result Reply CoreFault → Type 0
IsReply old k new (Ok reply.Plain) = (is_draw_kind k ≡ false) × Entered old k 0 new
IsReply old k new (Ok (reply.Scene scene)) = (k ≡ kind.Draw) × DrawsScene old new scene
IsReply old k new (Err (fault.NotNow state asked)) = (now old k 0 ≡ None) × (new ≡ old) × (state ≡ sched (past old)) × (asked ≡ k)
IsReply old k new (Err (fault.Memory refused)) = new ≡ old

-- they make the given number of the first tiles that are wanted, the most urgent first, each as every page of the script shows it that has its key
pub record AreUpcoming (r : Run) (most : ℕ) (jobs : List Job) : Type 0 where
  pub keys : map (λ (j : Job). j.key) jobs ≡ map rank_key (take most (in_order rank_cmp (wanted r.script (past r))))
  pub sound : AllByRecursion (λ (j : Job). IsSound j.rect) jobs
  pub shows : AllByRecursion (λ (j : Job). KeyShows r.script j.key j.rect j.list.value) jobs
