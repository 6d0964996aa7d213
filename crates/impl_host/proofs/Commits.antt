-- The tree of a commit: it may follow the active one, and its stamps are those of its frame.
use Rattle.std.proofs.Common.{◌≡◌, ℕ, suc, List, ◌∷◌, Option, Some, None, refl, sym, ◌∙◌, ap}
use Rattle.std.specs.Prelude.{IfSome}
use Rattle.geom.specs.Grids.{rect_of_place}
use Rattle.region.specs.Lists.{Changed, IsRising}
use Rattle.page_layers.specs.declared.moves.Move.{Move}
use Rattle.page_layers.specs.Contents.{size_of}
use Rattle.page_layers.specs.Pages.{Page}
use Rattle.page_layers.specs.Refusals.{has_layer}
use Rattle.tile_visible.specs.Visible.{grid_of}
use Rattle.model_history.specs.declared.history.Entry.{Entry}
use Rattle.model_history.specs.Scripts.{ScriptModel}
use Rattle.model_history.specs.Accepted.{IsPlayable}
use Rattle.model_history.specs.Frames.{page, pulls_of, active, pending, up_to}
use Rattle.model_history.specs.Legal.{Legal}
use Rattle.model_history.specs.Stamps.{commits_to}
use Rattle.model_history.proofs.BoolFacts.{none_where}
use Rattle.model_history.proofs.Course.{course}
use Rattle.model_history.proofs.DueFacts.{at_commit}
use Rattle.model_steps.specs.Events.{commit}
use Rattle.model_steps.proofs.QuietFrames.{sizes, tile, stamps}
use Rattle.impl_host.specs.Trees.{TreeModel, AreStampedIn, MayFollow, IsTreeOf, last_size}
use Rattle.impl_host.specs.Hosts.{IsTree, IsTreeAt, IsMadeBy}

-- nothing is pending where a commit may come
pub none_before : (s : ScriptModel) (workers : ℕ) (h : List Entry) (actor k : ℕ) → Legal s workers (commit actor k ∷ h) → pending h ≡ None
none_before s workers h actor k legal = none_where (pending h) (sym (course s workers h legal.0).pending_state ∙ (at_commit s workers h actor k legal.1).none_pending)

-- no tree represents no frame
pub tree_missing : (s : ScriptModel) (ps : ℕ → List Move) (o : Option ℕ) (m : Option TreeModel) → o ≡ None → IsTreeAt s ps o m → m ≡ None
tree_missing s ps None None e is = refl
tree_missing s ps None (Some t) e is = absurd is
tree_missing s ps (Some k) m e is = cc

-- what a tree tells of its page
size_there : (s : ScriptModel) (ps : ℕ → List Move) (o : Option ℕ) (m : Option TreeModel) → IsTreeAt s ps o m → (id : ℕ) → last_size m id ≡ size_of (page s ps (up_to o)) id
size_there s ps None None is id = refl
size_there s ps None (Some t) is id = absurd is
size_there s ps (Some k) None is id = absurd is
size_there s ps (Some k) (Some t) is id = ap (λ (p : Page). size_of p id) is.page

tile_there : (s : ScriptModel) (ps : ℕ → List Move) (o : Option ℕ) (m : Option TreeModel) (n : ℕ) → IsTreeAt s ps o m → (page s ps (up_to o)).view.tile ≡ n → IfSome m (λ t. t.page.view.tile ≡ n)
tile_there s ps None None n is e = tt
tile_there s ps None (Some t) n is e = absurd is
tile_there s ps (Some k) None n is e = absurd is
tile_there s ps (Some k) (Some t) n is e = ap (λ (p : Page). p.view.tile) is.page ∙ e

stamped_there : (s : ScriptModel) (ps : ℕ → List Move) (o : Option ℕ) (m : Option TreeModel) → IsTreeAt s ps o m → AreStampedIn m (commits_to s ps (up_to o))
stamped_there s ps None None is = tt
stamped_there s ps None (Some t) is = absurd is
stamped_there s ps (Some k) None is = absurd is
stamped_there s ps (Some k) (Some t) is = is.stamps

module _ (s : ScriptModel) (workers : ℕ) (h : List Entry) (actor k : ℕ) (legal : Legal s workers (commit actor k ∷ h)) (m : Option TreeModel) (is : IsTreeAt s (pulls_of h) (active h) m)
    (p : Page) (d : Changed) (ids : List ℕ) (made : IsMadeBy s h k p d ids) where
  pub may_follow : IsPlayable s → MayFollow m p d
  may_follow accepted = record {
    sizes = λ id there out.
        size_there s (pulls_of h) (active h) m is id
        ∙ sizes s workers h actor k legal accepted id (ap (λ (q : Page). has_layer id q.layers) (sym made.page_is) ∙ there) (sym (made.changes.whole id) ∙ out)
        ∙ ap (λ (q : Page). size_of q id) (sym made.page_is);
    tile = λ out.
        tile_there s (pulls_of h) (active h) m p.view.tile is (tile s workers h actor k legal (sym made.changes.retiled ∙ out) ∙ ap (λ (q : Page). q.view.tile) (sym made.page_is));
  }

  -- the pushed tree is that of the frame
  pub pushed_tree : (t : TreeModel) → IsTreeOf m p d k t → IsRising d.list → IsTree s (pulls_of h) (suc k) t
  pushed_tree t of rising = record {
    page = of.page ∙ made.page_is;
    stamps = λ i l u el eu place there.
        of.stamps (commits_to s (pulls_of h) (up_to (active h))) (stamped_there s (pulls_of h) (active h) m is) i l u el eu place there
        ∙ stamps s workers h actor k legal d made.changes rising l.id (rect_of_place (grid_of t.page l) place);
  }
