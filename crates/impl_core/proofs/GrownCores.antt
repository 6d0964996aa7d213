-- A core keeps what it keeps, once its script has grown.
use Rattle.std.proofs.Common.{◌≡◌, ◌⊎◌, inl, inr, ℕ, suc, ◌≤◌, Bool, true, false, is_some, List, [], ◌∷◌, ◌++◌, filter_map, Option, Some, None, refl, sym, ◌∙◌, ap, subst, arith}
use Rattle.std.specs.List.{list_any}
use Rattle.geom.specs.declared.rect.Point.{Point}
use Rattle.geom.specs.declared.tile.TileKey.{TileKey}
use Rattle.geom.specs.KeyLists.{has_key}
use Rattle.tile_priority.specs.declared.rank.Rank.{Rank}
use Rattle.tile_priority.specs.Choice.{Choice}
use Rattle.tile_raster.specs.Images.{Image}
use Rattle.region.specs.Lists.{Changed}
use Rattle.model_states.specs.declared.states.MainState.{MainState}
use Rattle.model_states.specs.declared.states.MainState.TheVariants as main_state
use Rattle.model_states.specs.Kinds.{is_sent, is_ready_to_commit}
use Rattle.page_layers.specs.declared.command.Command.{Command}
use Rattle.page_layers.specs.Pages.{Page}
use Rattle.model_history.specs.declared.input.Input.{Input}
use Rattle.model_history.specs.declared.history.Entry.{Entry}
use Rattle.model_history.specs.Scripts.{ScriptModel}
use Rattle.model_history.specs.Accepted.{IsPlayable}
use Rattle.model_history.specs.EventFields.{answers}
use Rattle.model_history.specs.Scans.{counted}
use Rattle.model_history.specs.Frames.{pulls_of, active, pending, up_to, active_page}
use Rattle.model_history.specs.SameChanges.{SameChanges}
use Rattle.model_history.specs.Scrolls.{scrolls_to, active_offsets, pending_offsets}
use Rattle.model_history.specs.Values.{values}
use Rattle.model_history.specs.Tiles.{active_tree, pending_tree, keys_of, live_keys, made_so_far, ready, missing_visible}
use Rattle.model_history.specs.Legal.{sched, Legal}
use Rattle.model_history.specs.Growth.{with_main_and_inputs, with_input, with_main_frame, with_last, with_commands, has_looked_ahead, ReadsAlike, TellsAlike}
use Rattle.model_history.proofs.AnsweredFrames.{Answered, answered_course, active_answered, pending_answered}
use Rattle.model_history.proofs.BoolFacts.{or_either, and_right}
use Rattle.model_history.proofs.Course.{Course, course}
use Rattle.model_history.proofs.Grown.{tells_alike}
use Rattle.model_history.proofs.GrownSteps.{reads_input, reads_main_frame, reads_commands, one_waits}
use Rattle.model_history.proofs.KeyFacts.{has_append, has_filter}
use Rattle.model_steps.specs.ShownKeys.{KeyShows}
use Rattle.model_steps.proofs.GrownKeys.{still_shows}
use Rattle.impl_scroll.specs.Standings.{StandingModel, HasScrollState}
use Rattle.impl_host.specs.Trees.{TreeModel, AreStamped}
use Rattle.impl_host.specs.Hosts.{ImplHostModel, IsTree, IsTreeAt, Hosts}
use Rattle.impl_tiles.specs.Stores.{image_of}
use Rattle.impl_tiles.specs.Managers.{Managed, Manages, Foresees, live_ranks}
use Rattle.impl_log.specs.Runs.{Run, past, with_script}
use Rattle.impl_core.specs.declared.drawing.Drawing.{Drawing}
use Rattle.impl_core.specs.declared.drawn.Drawn.{Drawn}
use Rattle.impl_core.specs.declared.drawn.Drawn.TheVariants as drawn
use Rattle.impl_core.specs.declared.handed.Handed.{Handed}
use Rattle.impl_core.specs.inner.Needed.{KnowsNeeds}
use Rattle.impl_core.specs.inner.Cores.{Kept, IsPrepared, ShowsPage, IfKept, IsCore}

ready_not_sent : (m : MainState) → is_ready_to_commit m ≡ true → is_sent m ≡ false
ready_not_sent main_state.Idle h = refl
ready_not_sent main_state.Sent h = cc
ready_not_sent main_state.ReadyToCommit h = refl

-- a script that is another in what the past has not read
module _ (s : ScriptModel) (n : ℕ) (h : List Entry) (main : List (List Command)) (inputs : List Input) (legal : Legal s n h) (reads : ReadsAlike s h main inputs) (tells : TellsAlike s (with_main_and_inputs s main inputs) h) (playable : IsPlayable (with_main_and_inputs s main inputs)) where
  abbrev t : ScriptModel
  t = with_main_and_inputs s main inputs

  frames : Course h
  frames = course s n h legal

  answered : Answered h
  answered = answered_course s n h legal

  to_active : up_to (active h) ≤ counted answers h
  to_active = active_answered h frames answered

  to_pending : up_to (pending h) ≤ counted answers h
  to_pending = pending_answered h frames answered

  -- ---- trees and scrollers

  tree_stays : (k : ℕ) (x : TreeModel) → suc k ≤ counted answers h → IsTree s (pulls_of h) (suc k) x → IsTree t (pulls_of h) (suc k) x
  tree_stays k x l i = record {
    page = i.page ∙ sym (tells.pages (suc k) l);
    stamps = subst (AreStamped x) (sym (tells.commits (suc k) l)) i.stamps;
  }

  tree_at_stays : (o : Option ℕ) (x : Option TreeModel) → up_to o ≤ counted answers h → IsTreeAt s (pulls_of h) o x → IsTreeAt t (pulls_of h) o x
  tree_at_stays None None l i = i
  tree_at_stays None (Some x) l i = i
  tree_at_stays (Some k) None l i = i
  tree_at_stays (Some k) (Some x) l i = tree_stays k x l i

  standing_stays : (st : StandingModel) → HasScrollState st (λ sc ax. values s sc ax h) (active_offsets s h) (pending_offsets s h)
      → HasScrollState st (λ sc ax. values t sc ax h) (active_offsets t h) (pending_offsets t h)
  standing_stays st i = record {
    rows = λ sc ax. i.rows sc ax ∙ sym (tells.values sc ax);
    active = λ sc. i.active sc ∙ sym (ap (λ (f : ℕ → Point). f sc) tells.active_offsets);
    pending = λ sc. i.pending sc ∙ sym (ap (λ (f : ℕ → Point). f sc) tells.pending_offsets);
  }

  host_stays : (m : ImplHostModel) → Hosts s h m → Hosts t h m
  host_stays m i = record {
    active = tree_at_stays (active h) m.trees.active to_active i.active;
    pending = tree_at_stays (pending h) m.trees.pending to_pending i.pending;
    standing = standing_stays m.standing i.standing;
    outright = λ sc. i.outright sc ∙ sym (ap (λ (f : ℕ → Bool). f sc) tells.clobbers);
  }

  -- ---- tiles

  -- an image of a ready key: the key is one of a tree that stays
  image_shows : (q : TileKey) (i : Image) → has_key (ready s h) q ≡ true → KeyShows s q i.rect i.list → KeyShows t q i.rect i.list
  image_shows q i r shows =
      let live : has_key (live_keys s h) q ≡ true = and_right (has_key (made_so_far h) q) (has_key (live_keys s h) q) (sym (has_filter (has_key (live_keys s h)) (made_so_far h) q) ∙ r) in
      by_tree (or_either (has_key (keys_of (active_tree s h)) q) (has_key (keys_of (pending_tree s h)) q) (sym (has_append (keys_of (active_tree s h)) (keys_of (pending_tree s h)) q) ∙ live))
    where
      by_tree : (has_key (keys_of (active_tree s h)) q ≡ true) ⊎ (has_key (keys_of (pending_tree s h)) q ≡ true) → KeyShows t q i.rect i.list
      by_tree (inl a) = still_shows s t (pulls_of h) (up_to (active h)) q i.rect i.list playable (tells.pages (up_to (active h)) to_active) (tells.stamps (up_to (active h)) to_active) a shows
      by_tree (inr p) = still_shows s t (pulls_of h) (up_to (pending h)) q i.rect i.list playable (tells.pages (up_to (pending h)) to_pending) (tells.stamps (up_to (pending h)) to_pending) p shows

  is_there : (o : Option Image) (i : Image) → o ≡ Some i → is_some o ≡ true
  is_there o i e = ap is_some e

  ranks_stay : live_ranks t h ≡ live_ranks s h
  ranks_stay = λ i. filter_map (tells.rank i) (tells.live i)

  tiles_stay : (m : Managed) → Manages s h m → Manages t h m
  tiles_stay m i = record {
    ready = λ q. i.ready q ∙ sym (ap (λ (ks : List TileKey). has_key ks q) tells.ready);
    in_flight = i.in_flight;
    pinned = λ q. i.pinned q ∙ sym (ap (λ (ks : List TileKey). has_key ks q) tells.pinned);
    images = λ q x e.
        let shown = i.images q x e in
        (shown.0, image_shows q x (sym (i.ready q) ∙ is_there (image_of m.store q) x e) shown.1);
    outlook = subst (λ (z : Choice × List Rank). Foresees m.outlook z.0 z.1) (λ j. (sym tells.choice j, sym ranks_stay j)) i.outlook;
  }

  -- ---- what is prepared and what is drawn

  prepared_stays : (o : Option Handed) (k : ℕ) → suc k ≤ counted answers h → IsPrepared s (pulls_of h) k o → IsPrepared t (pulls_of h) k o
  prepared_stays None k l i = i
  prepared_stays (Some handed) k l i = record {
    page = i.page ∙ sym (tells.pages (suc k) l);
    changes = subst (λ (d : Changed). SameChanges handed.changes d) (sym (tells.frame_changes k (omega (arith, l)))) i.changes;
    outright_are = λ sc. i.outright_are sc ∙ sym (ap (λ (cs : List Command). list_any (scrolls_to sc) cs) (reads.answered k (omega (arith, l))));
  }

  drawing_stays : (d : Drawing) → ShowsPage s (active_page s h) (active_offsets s h) (missing_visible s h) d → ShowsPage t (active_page t h) (active_offsets t h) (missing_visible t h) d
  drawing_stays d i =
      subst (λ (z : Page × ((ℕ → Point) × List TileKey)). ShowsPage t z.0 z.1.0 z.1.1 d) (λ j. (sym tells.active_page j, (sym tells.active_offsets j, sym tells.missing j)))
      (record { width = i.width; height = i.height; pixels = i.pixels; missing_is = i.missing_is })

  drawn_stays : (d : Drawn) → IfKept d (ShowsPage s (active_page s h) (active_offsets s h) (missing_visible s h)) → IfKept d (ShowsPage t (active_page t h) (active_offsets t h) (missing_visible t h))
  drawn_stays (drawn.Kept d) i = drawing_stays d i
  drawn_stays drawn.Nothing i = i
  drawn_stays drawn.Once i = i

  pub core_still : (kept : Kept) → IsCore s h kept → IsCore t h kept
  core_still kept i = record {
    host = host_stays kept.host i.host;
    tiles = tiles_stay kept.tiles i.tiles;
    told = i.told;
    prepared = λ r k e.
        let last = frames.last_is k e in
        let all = answered.all (ready_not_sent (sched h).main_state r) in
        prepared_stays kept.prepared k (omega (arith, last, all)) (i.prepared r k e);
    required = subst (λ (z : List TileKey × List TileKey). KnowsNeeds kept.required z.0 z.1) (λ j. (sym tells.required j, sym tells.ready j)) i.required;
    drawn = drawn_stays kept.drawn i.drawn;
  }

-- ---- calls that make the script grow

-- what is kept, for the run of this script
abbrev KeepsFor : Kept → ScriptModel → Run → Type 0
KeepsFor kept s r = IsCore s (past r) kept

grown : (old new : Run) (t : ScriptModel) (kept : Kept) → new ≡ with_script old t → KeepsFor kept t old → KeepsFor kept new.script new
grown old new t kept is after = subst (λ (z : Run). KeepsFor kept z.script z) (sym is) after

-- the run of the script with these main frames and inputs, which say the same as far as it has read them
read_alike : (old : Run) (main : List (List Command)) (inputs : List Input) (kept : Kept) → Legal old.script old.workers (past old) → has_looked_ahead (past old) ≡ false
    → IsPlayable (with_main_and_inputs old.script main inputs) → ReadsAlike old.script (past old) main inputs → KeepsFor kept old.script old → KeepsFor kept (with_main_and_inputs old.script main inputs) old
read_alike old main inputs kept legal looked playable reads before =
    core_still old.script old.workers (past old) main inputs legal reads (tells_alike old.script old.workers (past old) main inputs legal looked reads) playable kept before

pub grown_by_input : (old new : Run) (x : Input) (kept : Kept) → new ≡ with_script old (with_input old.script x)
    → Legal old.script old.workers (past old) → has_looked_ahead (past old) ≡ false → IsPlayable (with_input old.script x) → KeepsFor kept old.script old → KeepsFor kept new.script new
grown_by_input old new x kept is legal looked playable before =
    grown old new (with_input old.script x) kept is
    (read_alike old old.script.main (old.script.inputs ++ x ∷ []) kept legal looked playable (reads_input old.script old.workers (past old) x legal) before)

pub grown_by_main_frame : (old new : Run) (kept : Kept) → new ≡ with_script old (with_main_frame old.script)
    → Legal old.script old.workers (past old) → has_looked_ahead (past old) ≡ false → IsPlayable (with_main_frame old.script) → KeepsFor kept old.script old → KeepsFor kept new.script new
grown_by_main_frame old new kept is legal looked playable before =
    grown old new (with_main_frame old.script) kept is
    (read_alike old (old.script.main ++ [] ∷ []) old.script.inputs kept legal looked playable (reads_main_frame old.script old.workers (past old) legal) before)

pub grown_by_commands : (old new : Run) (cs : List Command) (kept : Kept) → new ≡ with_script old (with_commands old.script cs)
    → Legal old.script old.workers (past old) → has_looked_ahead (past old) ≡ false → is_sent (sched (past old)).main_state ≡ true → IsPlayable (with_commands old.script cs) → KeepsFor kept old.script old → KeepsFor kept new.script new
grown_by_commands old new cs kept is legal looked sent playable before =
    grown old new (with_commands old.script cs) kept is
    (read_alike old (with_last cs old.script.main) old.script.inputs kept legal looked playable (reads_commands old.script old.workers (past old) cs legal (one_waits old.script old.workers (past old) legal sent)) before)
