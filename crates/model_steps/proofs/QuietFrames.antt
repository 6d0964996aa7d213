-- The frames between the active commit and the next: they were aborted, so they changed nothing.
use Rattle.std.proofs.Common.{◌≡◌, ◌⊎◌, inl, inr, ℕ, zero, suc, ◌+◌, ◌-◌, ◌<◌, ◌≤◌, Bool, true, false, ◌||◌, if◌then◌else◌, List, [], ◌∷◌, Option, Some, None, is_some, refl, sym, ◌∙◌, ap, subst, arith}
use Rattle.std.specs.Prelude.{unwrap_or, option_map}
use Rattle.std.specs.List.{find}
use Rattle.geom.specs.declared.rect.Point.{Point}
use Rattle.geom.specs.declared.rect.Rect.{Rect}
use Rattle.geom.specs.declared.tile.Place.{Place}
use Rattle.geom.specs.Grids.{has}
use Rattle.region.specs.Lists.{Changed, IsRising, is_listed, is_listed_whole}
use Rattle.tile_tiling.specs.Tiles.{Tiled, stamp_at}
use Rattle.tile_tiling.specs.Stamps.{Commit, stamp_of, IsStamped}
use Rattle.page_layers.specs.declared.command.Command.{Command}
use Rattle.page_layers.specs.declared.command.Command.TheVariants as command
use Rattle.page_layers.specs.Effects.{page_after_command, commanded}
use Rattle.page_layers.specs.declared.moves.Move.{Move}
use Rattle.page_layers.specs.Layers.{PageLayer, has_id}
use Rattle.page_layers.specs.Pages.{Page}
use Rattle.page_layers.specs.Refusals.{has_layer}
use Rattle.page_layers.specs.Contents.{size_of}
use Rattle.model_states.specs.Kinds.{is_main_idle}
use Rattle.tile_visible.specs.Visible.{grid_of}
use Rattle.model_history.specs.declared.event.Event.TheVariants as event
use Rattle.model_history.specs.declared.history.Entry.{Entry}
use Rattle.model_history.specs.EventFields.{sends, commits, aborts, activates}
use Rattle.model_history.specs.Scans.{was_named, newest, counted}
use Rattle.model_history.specs.Scripts.{ScriptModel}
use Rattle.model_history.specs.Accepted.{IsPlayable}
use Rattle.model_history.specs.Frames.{commands_of, page, page_before, pulls_of, active, pending, up_to}
use Rattle.model_history.specs.Stamps.{unchanged, changed_by, frame_changes, commits_to, place_rect, stamp_in}
use Rattle.model_history.specs.SameChanges.{SameChanges}
use Rattle.model_history.specs.Legal.{sched, Legal}
use Rattle.model_history.proofs.BoolFacts.{not_both, or_either}
use Rattle.model_history.proofs.BarePages.{bare, no_pulls, page_bare, with_next}
use Rattle.model_history.proofs.PageFacts.{with_values, after_values, page_before_values}
use Rattle.model_history.proofs.Course.{course, ready_not_idle, flying}
use Rattle.model_history.proofs.DueFacts.{entry, at_commit}
use Rattle.model_history.proofs.FrameFacts.{changes_course, no_commands}
use Rattle.model_history.proofs.ListedStamps.{same_shows, frame_rising}
use Rattle.model_history.proofs.ScriptPages.{ahead, ahead_is, plain, plain_takes, plain_page}
use Rattle.model_steps.specs.Pages.{items_of}
use Rattle.model_steps.proofs.FrameLists.{frame_sizes, frame_items, frame_tile, unlisted_whole}

-- frames from one on, before another, have no commands
abbrev AreQuiet : ScriptModel → ℕ → ℕ → Type 0
AreQuiet s m k = (j : ℕ) → m ≤ j → j < k → commands_of s j ≡ []

-- ---- before a commit

module _ (s : ScriptModel) (workers : ℕ) (h : List Entry) (actor k : ℕ) (legal : Legal s workers (entry actor (event.Commit k) ∷ h)) where
  -- the active commit is before this one
  active_before : up_to (active h) ≤ k
  active_before = by_active (active h) refl
    where
      by_active : (o : Option ℕ) → active h ≡ o → up_to o ≤ k
      by_active None e = omega arith
      by_active (Some i) e =
          let c = course s workers h legal.0 in
          let d = at_commit s workers h actor k legal.1 in
          let committed : was_named commits h i ≡ true = c.activated_committed i (c.active_activated i e) in
          let below = c.committed_below i committed in
          let flies = flying c (ready_not_idle (sched h).main_state d.prepared) k d.last in
          by_last i committed below flies.0 flies.1
        where
          by_last : (i : ℕ) → was_named commits h i ≡ true → i < counted sends h → counted sends h ≡ suc k → was_named commits h k ≡ false → suc i ≤ k
          by_last i was below total none =
              let apart : i ≡ k → ⊥ = λ same. not_both (was_named commits h i) was (ap (was_named commits h) same ∙ none) in
              grind (arith, below, total, apart)

  quiet : AreQuiet s (up_to (active h)) k
  quiet j from to =
      let c = course s workers h legal.0 in
      let d = at_commit s workers h actor k legal.1 in
      let total : counted sends h ≡ suc k = c.last_is k d.last in
      ended j from to (c.ended_or_last j (omega (arith, to, total)))
    where
      not_pending : (j : ℕ) → pending h ≡ Some j → ⊥
      not_pending j e =
          let c = course s workers h legal.0 in
          let d = at_commit s workers h actor k legal.1 in
          not_both (sched h).has_pending (c.pending_state ∙ ap is_some e) d.none_pending

      committed : (j : ℕ) → up_to (active h) ≤ j → (was_named activates h j ≡ true) ⊎ (pending h ≡ Some j) → ⊥
      committed j from (inl a) = let l = (course s workers h legal.0).activated_to j a in omega (arith, l, from)
      committed j from (inr e) = not_pending j e

      by_end : (j : ℕ) → up_to (active h) ≤ j → (was_named commits h j ≡ true) ⊎ (was_named aborts h j ≡ true) → commands_of s j ≡ []
      by_end j from (inl t) = absurd (committed j from ((course s workers h legal.0).activated_or_pending j t))
      by_end j from (inr t) = no_commands s (pulls_of h) j ((changes_course s workers h legal.0).aborted_unchanged j t)

      ended : (j : ℕ) → up_to (active h) ≤ j → j < k → ((was_named commits h j || was_named aborts h j) ≡ true) ⊎ ((is_main_idle (sched h).main_state ≡ false) × (newest sends h ≡ Some j)) → commands_of s j ≡ []
      ended j from to (inl t) = by_end j from (or_either (was_named commits h j) (was_named aborts h j) t)
      ended j from to (inr f) =
          let last : newest sends h ≡ Some k = (at_commit s workers h actor k legal.1).last in
          let same : j ≡ k = some_number j k (sym f.1 ∙ last) in
          absurd (omega (arith, to, same))
        where
          some_number : (a b : ℕ) → Some a ≡ Some b → a ≡ b
          some_number a b e = cc

-- ---- quiet frames

quiet_page : (s : ScriptModel) (d m : ℕ) → AreQuiet s m (ahead d m) → plain s (ahead d m) ≡ plain s m
quiet_page s zero m quiet = refl
quiet_page s (suc d) m quiet =
    let is : ahead d m ≡ d + m = ahead_is d m in
    ap (λ cs. commanded cs (plain s (ahead d m))) (quiet (ahead d m) (omega (arith, is)) (omega arith))
    ∙ quiet_page s d m (λ j from to. quiet j from (omega (arith, to)))

quiet_changes : (s : ScriptModel) (ps : ℕ → List Move) (j : ℕ) → commands_of s j ≡ [] → frame_changes s ps j ≡ unchanged
quiet_changes s ps j e = ap (λ cs. changed_by (page_before s ps j) cs unchanged) e

quiet_stamp : (s : ScriptModel) (ps : ℕ → List Move) (layer : ℕ) (r : Rect) (d m : ℕ) → AreQuiet s m (ahead d m) → stamp_of layer r (commits_to s ps (ahead d m)) ≡ stamp_of layer r (commits_to s ps m)
quiet_stamp s ps layer r zero m quiet = refl
quiet_stamp s ps layer r (suc d) m quiet =
    let is : ahead d m ≡ d + m = ahead_is d m in
    let none : frame_changes s ps (ahead d m) ≡ unchanged = quiet_changes s ps (ahead d m) (quiet (ahead d m) (omega (arith, is)) (omega arith)) in
    ap (λ (c : Changed). stamp_of layer r (record { frame = ahead d m; changed = c } ∷ commits_to s ps (ahead d m))) none
    ∙ quiet_stamp s ps layer r d m (λ j from to. quiet j from (omega (arith, to)))

to_ahead : (m k : ℕ) → m ≤ k → ahead (k - m) m ≡ k
to_ahead m k le = let is : ahead (k - m) m ≡ (k - m) + m = ahead_is (k - m) m in omega (arith, is, le)

page_quiet : (s : ScriptModel) (m k : ℕ) → m ≤ k → AreQuiet s m k → plain s k ≡ plain s m
page_quiet s m k le quiet =
    let is : ahead (k - m) m ≡ k = to_ahead m k le in
    ap (plain s) (sym is) ∙ quiet_page s (k - m) m (subst (AreQuiet s m) (sym is) quiet)

stamp_quiet : (s : ScriptModel) (ps : ℕ → List Move) (layer : ℕ) (r : Rect) (m k : ℕ) → m ≤ k → AreQuiet s m k → stamp_of layer r (commits_to s ps k) ≡ stamp_of layer r (commits_to s ps m)
stamp_quiet s ps layer r m k le quiet =
    let is : ahead (k - m) m ≡ k = to_ahead m k le in
    ap (λ n. stamp_of layer r (commits_to s ps n)) (sym is) ∙ quiet_stamp s ps layer r (k - m) m (subst (AreQuiet s m) (sym is) quiet)

-- ---- what a frame changes does not depend on pulls

next_values : (p : Page) (vs : List (ℕ × Point)) (c : Command) (done : Changed) → with_next (with_values p vs) c done ≡ with_next p c done
next_values p vs (command.AddTransform c) done = refl
next_values p vs _ done = refl

changed_values : (cs : List Command) (p : Page) (vs : List (ℕ × Point)) (done : Changed) → changed_by (with_values p vs) cs done ≡ changed_by p cs done
changed_values [] p vs done = refl
changed_values (c ∷ cs) p vs done =
    ap (λ (d : Changed). changed_by (page_after_command (with_values p vs) c) cs d) (next_values p vs c done)
    ∙ ap (λ (q : Page). changed_by q cs (with_next p c done)) (after_values p vs c)
    ∙ changed_values cs (page_after_command p c) (page_after_command (with_values p vs) c).values (with_next p c done)

frame_plain : (s : ScriptModel) (ps : ℕ → List Move) (k : ℕ) → frame_changes s ps k ≡ frame_changes s no_pulls k
frame_plain s ps k =
    ap (λ (q : Page). changed_by q (commands_of s k) unchanged) (page_before_values s ps no_pulls k)
    ∙ changed_values (commands_of s k) (page_before s no_pulls k) (page_before s ps k).values unchanged

-- the size of a layer that may be missing
abbrev sized : Option PageLayer → Option (ℕ × ℕ)
sized o = option_map (λ l. (l.w, l.h)) o

-- ---- the laws

module _ (s : ScriptModel) (workers : ℕ) (h : List Entry) (actor k : ℕ) (legal : Legal s workers (entry actor (event.Commit k) ∷ h)) where
  abbrev before : ℕ
  before = up_to (active h)

  same_before : plain s k ≡ plain s before
  same_before = page_quiet s before k (active_before s workers h actor k legal) (quiet s workers h actor k legal)

  -- what is read of a page without its main values
  read : {V : Type 0} (f : Page → V) → ((p : Page) → f p ≡ f (bare p)) → (n : ℕ) → f (page s (pulls_of h) n) ≡ f (plain s n)
  read f bares n = bares (page s (pulls_of h) n) ∙ ap f (page_bare s (pulls_of h) n) ∙ sym (bares (plain s n))

  lists_alike : frame_changes s (pulls_of h) k ≡ frame_changes s no_pulls k
  lists_alike = frame_plain s (pulls_of h) k

  there_plain : (id : ℕ) → has_layer id (page s (pulls_of h) (suc k)).layers ≡ true → has_layer id (plain s (suc k)).layers ≡ true
  there_plain id there = sym (read (λ p. has_layer id p.layers) (λ p. refl) (suc k)) ∙ there

  pub sizes : IsPlayable s → (id : ℕ) → has_layer id (page s (pulls_of h) (suc k)).layers ≡ true → is_listed_whole (frame_changes s (pulls_of h) k).list id ≡ false
      → size_of (page s (pulls_of h) before) id ≡ size_of (page s (pulls_of h) (suc k)) id
  sizes a id there out =
      let f = frame_sizes (commands_of s k) (plain s k) id unchanged (plain_page s a k) (plain_takes s a k) (there_plain id there) (ap (λ (c : Changed). is_listed_whole c.list id) (sym lists_alike) ∙ out) in
      read (λ p. size_of p id) (λ p. refl) before ∙ ap (λ (p : Page). size_of p id) (sym same_before) ∙ sym f.2 ∙ sym (read (λ p. size_of p id) (λ p. refl) (suc k))

  pub items : IsPlayable s → (id : ℕ) → has_layer id (page s (pulls_of h) (suc k)).layers ≡ true → is_listed (frame_changes s (pulls_of h) k).list id ≡ false
      → items_of (page s (pulls_of h) before) id ≡ items_of (page s (pulls_of h) (suc k)) id
  items a id there out =
      let none : is_listed (frame_changes s no_pulls k).list id ≡ false = ap (λ (c : Changed). is_listed c.list id) (sym lists_alike) ∙ out in
      let f = frame_items (commands_of s k) (plain s k) id unchanged (plain_page s a k) (plain_takes s a k) (there_plain id there) (unlisted_whole (frame_changes s no_pulls k).list id none) none in
      read (λ p. items_of p id) (λ p. refl) before ∙ ap (λ (p : Page). items_of p id) (sym same_before) ∙ sym f.1 ∙ sym (read (λ p. items_of p id) (λ p. refl) (suc k))

  pub tile : (frame_changes s (pulls_of h) k).retiled ≡ false → (page s (pulls_of h) before).view.tile ≡ (page s (pulls_of h) (suc k)).view.tile
  tile out =
      let f = frame_tile (commands_of s k) (plain s k) unchanged (ap (λ (c : Changed). c.retiled) (sym lists_alike) ∙ out) in
      read (λ p. p.view.tile) (λ p. refl) before ∙ ap (λ (p : Page). p.view.tile) (sym same_before) ∙ sym f.1 ∙ sym (read (λ p. p.view.tile) (λ p. refl) (suc k))

  pub first : IsPlayable s → active h ≡ None → (id : ℕ) → has_layer id (page s (pulls_of h) (suc k)).layers ≡ true → is_listed_whole (frame_changes s (pulls_of h) k).list id ≡ true
  first a none id there = by_listed (is_listed_whole (frame_changes s (pulls_of h) k).list id) refl
    where
      by_size : (o : Option PageLayer) → is_some o ≡ true → None ≡ sized o → ⊥
      by_size None t e = cc
      by_size (Some l) t e = cc

      by_listed : (b : Bool) → is_listed_whole (frame_changes s (pulls_of h) k).list id ≡ b → b ≡ true
      by_listed true e = refl
      by_listed false e =
          let empty : size_of (page s (pulls_of h) before) id ≡ None = ap (λ o. size_of (page s (pulls_of h) (up_to o)) id) none in
          absurd (by_size (find (has_id id) (page s (pulls_of h) (suc k)).layers) there (sym empty ∙ sizes a id there e))

  pub stamps : (d : Changed) → SameChanges d (frame_changes s (pulls_of h) k) → IsRising d.list → (layer : ℕ) (r : Rect)
      → stamp_of layer r (record { frame = k; changed = d } ∷ commits_to s (pulls_of h) before) ≡ stamp_of layer r (commits_to s (pulls_of h) (suc k))
  stamps d same rising layer r =
      let shown = same_shows d (frame_changes s (pulls_of h) k) layer r same rising (frame_rising s (pulls_of h) k) in
      let rest : stamp_of layer r (commits_to s (pulls_of h) k) ≡ stamp_of layer r (commits_to s (pulls_of h) before) =
      stamp_quiet s (pulls_of h) layer r before k (active_before s workers h actor k legal) (quiet s workers h actor k legal) in
      λ i. if same.retiled i || shown i then Some k else sym rest i

-- the stamps of a tiling are those of the page
pub page_stamp : (s : ScriptModel) (ps : ℕ → List Move) (n : ℕ) (l : PageLayer) (t : Tiled) → find (has_id l.id) (page s ps n).layers ≡ Some l → IsStamped t (grid_of (page s ps n) l) l.id (commits_to s ps n)
    → (q : Place) → has (grid_of (page s ps n) l) q ≡ true → stamp_in s ps n l.id q ≡ stamp_at t q
unfolding stamp_in
page_stamp s ps n l t found stamped q there =
    ap (λ o. unwrap_or (stamp_of l.id (place_rect (page s ps n) q o) (commits_to s ps n)) 0) found
    ∙ ap (λ o. unwrap_or o 0) (sym (stamped q there))
