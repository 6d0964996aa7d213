-- The tree of the commit of a frame, as it is looked at.
use Rattle.std.proofs.Common.{◌≡◌, ℕ, suc, ◌||◌, false, List, [], Option, Some, None, refl, sym, ◌∙◌, ap, subst}
use Rattle.std.specs.Prelude.{option_map}
use Rattle.geom.specs.declared.rect.Point.{Point}
use Rattle.geom.specs.declared.tile.TileKey.{TileKey}
use Rattle.geom.specs.KeyLists.{has_key}
use Rattle.page_properties.specs.OffsetMap.{origin}
use Rattle.tile_tiling.specs.Tiles.{Tiled}
use Rattle.tile_tiling.specs.Stamps.{IsStamped}
use Rattle.page_layers.specs.declared.moves.Move.{Move}
use Rattle.page_layers.specs.Pages.{Page}
use Rattle.page_layers.specs.Sound.{AreDistinctLayers}
use Rattle.tile_visible.specs.Visible.{grid_of}
use Rattle.model_history.specs.declared.history.Entry.{Entry}
use Rattle.model_history.specs.Scripts.{ScriptModel}
use Rattle.model_history.specs.Frames.{page, pulls_of, active, pending, up_to}
use Rattle.model_history.specs.Sharing.{has_page_key}
use Rattle.model_history.specs.Stamps.{commits_to}
use Rattle.model_history.specs.Tiles.{active_tree, pending_tree, keys_of}
use Rattle.model_history.proofs.BoolFacts.{or_left}
use Rattle.model_history.proofs.KeyFacts.{has_append}
use Rattle.model_steps.proofs.QuietFrames.{page_stamp}
use Rattle.impl_host.specs.Trees.{TreeModel, Paired}
use Rattle.impl_host.proofs.Standing.{stands_found}
use Rattle.impl_ranks.proofs.BothTrees.{no_keys}
use Rattle.impl_ranks.specs.SeenTrees.{IsTiled}
use Rattle.impl_host.specs.Hosts.{IsTreeAt}
use Rattle.impl_host.specs.inner.LivePages.{tree_at, HasPageKey, HasLivePage}

-- where there is no tree, the page is blank
pub no_tree : (s : ScriptModel) (ps : ℕ → List Move) (o : Option ℕ) (at : ℕ → Point) → IsTreeAt s ps o None → (tree_at s ps o at).page.layers ≡ []
no_tree s ps None at is = refl
no_tree s ps (Some k) at is = absurd is

-- a tree has the page and the stamps of its frame
pub is_tiled : (s : ScriptModel) (ps : ℕ → List Move) (o : Option ℕ) (at : ℕ → Point) (m : TreeModel) (p : Page) (offset : ℕ → Point) (us : List Tiled)
    → p ≡ m.page → us ≡ m.tilings → AreDistinctLayers p.layers → IsTreeAt s ps o (Some m) → ((sc : ℕ) → offset sc ≡ at sc) → IsTiled (tree_at s ps o at) p offset us
is_tiled s ps None at m p offset us pe ue d is off = absurd is
is_tiled s ps (Some k) at m p offset us pe ue d is off =
    let now : Page = page s ps (suc k) in
    let same : p ≡ now = pe ∙ is.page in
    let stamped : Paired (λ l u. IsStamped u (grid_of now l) l.id (commits_to s ps (suc k))) now.layers us =
    subst (λ (ts : List Tiled). Paired (λ l u. IsStamped u (grid_of now l) l.id (commits_to s ps (suc k))) now.layers ts) (sym ue)
    (subst (λ (z : Page). Paired (λ l u. IsStamped u (grid_of z l) l.id (commits_to s ps (suc k))) z.layers m.tilings) is.page is.stamps) in
    let distinct : AreDistinctLayers now.layers = subst (λ (z : Page). AreDistinctLayers z.layers) same d in
    record {
      page = same;
      offsets = off;
      stamps = λ i l u el eu place there. sym (page_stamp s ps (suc k) l u (stands_found now.layers distinct i l el) (stamped i l u el eu) place there);
    }

-- the pages of the trees are those of their frames
pub page_there : (s : ScriptModel) (ps : ℕ → List Move) (o : Option ℕ) (m : Option TreeModel) → IsTreeAt s ps o m → option_map (λ (t : TreeModel). t.page) m ≡ option_map (λ k. page s ps (suc k)) o
page_there s ps None None is = refl
page_there s ps None (Some t) is = absurd is
page_there s ps (Some k) None is = absurd is
page_there s ps (Some k) (Some t) is = ap Some is.page

-- ---- single keys

-- the page of a tree is that of its frame
pub page_at_frame : (s : ScriptModel) (ps : ℕ → List Move) (o : Option ℕ) (m : TreeModel) → IsTreeAt s ps o (Some m) → m.page ≡ page s ps (up_to o)
page_at_frame s ps None m is = absurd is
page_at_frame s ps (Some k) m is = is.page

-- a page without layers has no key
pub none_placed : (s : ScriptModel) (ps : ℕ → List Move) (o : Option ℕ) (at : ℕ → Point) (q : TileKey) → (tree_at s ps o at).page.layers ≡ [] → has_page_key s ps (up_to o) q ≡ false
none_placed s ps o at q e = no_keys (tree_at s ps o at) e q

-- the blank page has no key
pub none_had : (s : ScriptModel) (ps : ℕ → List Move) (o : Option ℕ) (q : TileKey) → IsTreeAt s ps o None → has_page_key s ps (up_to o) q ≡ false
none_had s ps o q is = none_placed s ps o (λ sc. origin) q (no_tree s ps o (λ sc. origin) is)

-- a key of the active page is live
pub live_active : (s : ScriptModel) (h : List Entry) (q : TileKey) (p : Page) → HasPageKey s (pulls_of h) (up_to (active h)) q (Some p) → HasLivePage s h q (Some p)
live_active s h q p had = (
  has_append (keys_of (active_tree s h)) (keys_of (pending_tree s h)) q ∙ or_left (has_key (keys_of (active_tree s h)) q) (has_key (keys_of (pending_tree s h)) q) had.1,
  up_to (active h),
  had.0,
  had.1,
)

-- one that the active page lacks is live where the pending one has it
pub live_pending : (s : ScriptModel) (h : List Entry) (q : TileKey) (w : Option Page) → HasPageKey s (pulls_of h) (up_to (active h)) q None
    → HasPageKey s (pulls_of h) (up_to (pending h)) q w → HasLivePage s h q w
live_pending s h q None out had = has_append (keys_of (active_tree s h)) (keys_of (pending_tree s h)) q ∙ (λ i. out i || had i)
live_pending s h q (Some p) out had = (
  has_append (keys_of (active_tree s h)) (keys_of (pending_tree s h)) q ∙ (λ i. out i || had.1 i),
  up_to (pending h),
  had.0,
  had.1,
)
