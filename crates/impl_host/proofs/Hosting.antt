-- The host after each event.
use Rattle.std.proofs.Common.{◌≡◌, ℕ, suc, ◌≤◌, Bool, cond, ◌||◌, List, [], ◌∷◌, Option, Some, None, refl, sym, ◌∙◌, ap, subst, arith}
use Rattle.std.specs.Option.{option_or}
use Rattle.region.specs.Lists.{Changed, IsRising}
use Rattle.page_layers.specs.declared.moves.Move.{Move}
use Rattle.page_layers.specs.Pages.{Page}
use Rattle.model_history.specs.declared.event.Event.TheVariants as event
use Rattle.model_history.specs.declared.history.Entry.{Entry}
use Rattle.model_history.specs.EventFields.{sends, pulls, commits, activates}
use Rattle.model_history.specs.Scans.{names, was_named, newest, counted}
use Rattle.model_history.specs.Scripts.{ScriptModel}
use Rattle.model_history.specs.Frames.{pulls_of, active, pending, unless_activated, up_to}
use Rattle.model_history.specs.Scrolls.{clobbers}
use Rattle.model_history.specs.Legal.{Legal}
use Rattle.model_history.proofs.Course.{course}
use Rattle.model_history.proofs.DueFacts.{at_activate}
use Rattle.model_history.proofs.FrameFacts.{pulls_stay, page_stays, active_sent}
use Rattle.model_history.proofs.PastFacts.{pending_within}
use Rattle.model_history.proofs.StampFacts.{commits_alike}
use Rattle.impl_scroll.specs.Rows.{has_number}
use Rattle.model_steps.specs.Events.{send, commit, activate}
use Rattle.model_steps.proofs.TreesAfter.{commit_is_pending, none_is_pending}
use Rattle.impl_host.specs.Trees.{TreeModel, TreesModel, AreStamped, IsPushed}
use Rattle.impl_scroll.specs.Standings.{StandingModel, StandsForPast}
use Rattle.impl_host.specs.Hosts.{IsTreeAt, ImplHostModel, Hosts, with_standing, IsMadeBy}
use Rattle.impl_host.proofs.Commits.{pushed_tree}

-- ---- an event that changes neither tree

-- a frame, unless a test holds of it
abbrev unless : (ℕ → Bool) → Option ℕ → Option ℕ
unless f None = None
unless f (Some k) = cond (f k) None (Some k)

unless_is : (h : List Entry) (o : Option ℕ) → unless_activated h o ≡ unless (was_named activates h) o
unless_is h None = refl
unless_is h (Some k) = refl

module _ (s : ScriptModel) (h : List Entry) (e : Entry) (no_send : sends e.event ≡ None) (no_commit : commits e.event ≡ None) (no_activation : activates e.event ≡ None) where
  same_pulls : pulls_of (e ∷ h) ≡ pulls_of h
  same_pulls = λ i k. cond (names (no_send i) k) (pulls e.event) (pulls_of h k)

  same_active : active (e ∷ h) ≡ active h
  same_active = λ i. option_or (no_activation i) (newest activates h)

  same_pending : pending (e ∷ h) ≡ pending h
  same_pending =
      unless_is (e ∷ h) (newest commits (e ∷ h))
      ∙ (λ i. unless (λ k. names (no_activation i) k || was_named activates h k) (option_or (no_commit i) (newest commits h)))
      ∙ sym (unless_is h (newest commits h))

  same_tree : (o w : Option ℕ) (t : Option TreeModel) → o ≡ w → IsTreeAt s (pulls_of h) w t → IsTreeAt s (pulls_of (e ∷ h)) o t
  same_tree o w t same is = subst (λ (ps : ℕ → List Move). IsTreeAt s ps o t) (sym same_pulls) (subst (λ v. IsTreeAt s (pulls_of h) v t) (sym same) is)

  pub stood : (m : ImplHostModel) (st : StandingModel) → Hosts s h m → StandsForPast s (e ∷ h) st → Hosts s (e ∷ h) (with_standing m st)
  stood m st hosts stands = record {
    active = same_tree (active (e ∷ h)) (active h) m.trees.active same_active hosts.active;
    pending = same_tree (pending (e ∷ h)) (pending h) m.trees.pending same_pending hosts.pending;
    standing = stands;
    outright = λ sc. hosts.outright sc ∙ ap (λ o. clobbers s o sc) (sym same_pending);
  }

-- ---- a send

module _ (s : ScriptModel) (workers : ℕ) (h : List Entry) (actor k : ℕ) (ms : List Move) (legal : Legal s workers (send actor k ms ∷ h)) where
  tree_stays : (o : Option ℕ) (t : Option TreeModel) → up_to o ≤ counted sends h → IsTreeAt s (pulls_of h) o t → IsTreeAt s (pulls_of (send actor k ms ∷ h)) o t
  tree_stays None None le is = tt
  tree_stays None (Some t) le is = absurd is
  tree_stays (Some j) None le is = absurd is
  tree_stays (Some j) (Some t) le is = record {
    page = is.page ∙ sym (page_stays s workers h actor (event.Send k ms) legal.1 (suc j) le);
    stamps = subst (AreStamped t) (sym (commits_alike s (pulls_of (send actor k ms ∷ h)) (pulls_of h) (suc j) (λ i below. pulls_stay s workers h actor (event.Send k ms) legal.1 i (omega arith)))) is.stamps;
  }

  pub sent_on : (m : ImplHostModel) (st : StandingModel) → Hosts s h m → StandsForPast s (send actor k ms ∷ h) st → Hosts s (send actor k ms ∷ h) (with_standing m st)
  sent_on m st hosts stands = record {
    active = tree_stays (active h) m.trees.active (active_sent h (course s workers h legal.0)) hosts.active;
    pending = tree_stays (pending h) m.trees.pending (pending_within h (pending h) (course s workers h legal.0) refl) hosts.pending;
    standing = stands;
    outright = hosts.outright;
  }

-- ---- a commit

-- the host with these trees, places of the scrollers and scrollers that are set outright
abbrev pub host_of : TreesModel → StandingModel → List ℕ → ImplHostModel
host_of trees st ids = record { trees = trees; standing = st; outright = ids }

module _ (s : ScriptModel) (workers : ℕ) (h : List Entry) (actor k : ℕ) (legal : Legal s workers (commit actor k ∷ h)) where
  pub committed : (m : ImplHostModel) (trees : TreesModel) (st : StandingModel) (ids : List ℕ) (p : Page) (d : Changed)
      → Hosts s h m → IsMadeBy s h k p d ids → IsRising d.list → IsPushed m.trees p d k trees → StandsForPast s (commit actor k ∷ h) st
      → Hosts s (commit actor k ∷ h) (host_of trees st ids)
  committed m trees st ids p d hosts made rising pushed stands =
      let now : pending (commit actor k ∷ h) ≡ Some k = commit_is_pending s workers h actor k legal in
      record {
        active = subst (λ t. IsTreeAt s (pulls_of h) (active h) t) (sym pushed.active) hosts.active;
        pending = subst (λ o. IsTreeAt s (pulls_of h) o trees.pending) (sym now)
            (subst (λ t. IsTreeAt s (pulls_of h) (Some k) t) (sym pushed.pending) (pushed_tree s workers h actor k legal m.trees.active hosts.active p d ids made pushed.tree pushed.made rising));
        standing = stands;
        outright = λ sc. made.outright_are sc ∙ ap (λ o. clobbers s o sc) (sym now);
      }

-- ---- an activation

module _ (s : ScriptModel) (workers : ℕ) (h : List Entry) (actor k : ℕ) (clamps : List Move) (legal : Legal s workers (activate actor k clamps ∷ h)) where
  pub activated_on : (m : ImplHostModel) (trees : TreesModel) (st : StandingModel) (ids : List ℕ) → Hosts s h m → trees.active ≡ m.trees.pending → trees.pending ≡ None → ids ≡ []
      → StandsForPast s (activate actor k clamps ∷ h) st → Hosts s (activate actor k clamps ∷ h) (host_of trees st ids)
  activated_on m trees st ids hosts active_is pending_is empty stands =
      let none : pending (activate actor k clamps ∷ h) ≡ None = none_is_pending s workers h actor k clamps legal in
      let frame : pending h ≡ Some k = (at_activate s workers h actor k clamps legal.1).frame in
      record {
        active = subst (λ t. IsTreeAt s (pulls_of h) (Some k) t) (sym active_is) (subst (λ o. IsTreeAt s (pulls_of h) o m.trees.pending) frame hosts.pending);
        pending = subst (λ t. IsTreeAt s (pulls_of h) (pending (activate actor k clamps ∷ h)) t) (sym pending_is) (subst (λ o. IsTreeAt s (pulls_of h) o None) (sym none) tt);
        standing = stands;
        outright = λ sc. ap (λ ns. has_number ns sc) empty ∙ ap (λ o. clobbers s o sc) (sym none);
      }
