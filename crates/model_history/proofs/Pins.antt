-- What an activation needed stays ready until the next.
use Rattle.std.proofs.Common.{◌≡◌, ℕ, suc, true, false, not, List, [], ◌∷◌, Option, Some, refl, sym, ◌∙◌, ap, subst, arith}
use Rattle.geom.specs.declared.tile.TileKey.{TileKey}
use Rattle.model_history.specs.declared.event.Event.{Event}
use Rattle.model_history.specs.declared.event.Event.TheVariants as event
use Rattle.model_history.specs.declared.history.Entry.{Entry}
use Rattle.model_history.specs.Scripts.{ScriptModel}
use Rattle.model_history.specs.Frames.{page, pulls_of, active, pending, up_to, pending_page}
use Rattle.model_history.specs.Scrolls.{pending_offsets}
use Rattle.model_history.specs.Stamps.{stamp_in}
use Rattle.geom.specs.KeyLists.{same_key, has_key}
use Rattle.model_history.specs.Tiles.{page_keys, keys_of, visible_in, active_tree, pending_tree, live_keys, made_so_far, ready, required, pinned, missing_visible}
use Rattle.model_history.specs.Legal.{Next, Legal}
use Rattle.model_history.specs.FrameLaws.{AtEach}
use Rattle.model_history.specs.TileLaws.{Within, AreApart, is_activate, lacking}
use Rattle.model_history.proofs.BoolFacts.{not_both, is_false, and_left, and_right, and_both, or_left, or_right, not_true}
use Rattle.model_history.proofs.DueFacts.{entry, at_start, at_activate, at_draw}
use Rattle.model_history.proofs.Course.{Course, course}
use Rattle.model_history.proofs.FrameFacts.{pulls_stay, active_sent}
use Rattle.model_history.proofs.KeyFacts.{has_filter, has_without, has_append, all_has}
use Rattle.model_history.proofs.StampFacts.{keys_alike, visible_is_key}
use Rattle.model_history.proofs.RankFacts.{evicted_may_go}

-- the pinned keys are made, and are keys of the active tree
pub record PinsOf (pins done keys : List TileKey) : Type 0 where
  pub made : (q : TileKey) → has_key pins q ≡ true → has_key done q ≡ true
  pub active : (q : TileKey) → has_key pins q ≡ true → has_key keys q ≡ true

abbrev pub Pins : ScriptModel → List Entry → Type 0
Pins s h = PinsOf (pinned s h) (made_so_far h) (keys_of (active_tree s h))

-- a ready key is made
pub ready_made : (s : ScriptModel) (h : List Entry) (q : TileKey) → has_key (ready s h) q ≡ true → has_key (made_so_far h) q ≡ true
ready_made s h q t = and_left (has_key (made_so_far h) q) (has_key (live_keys s h) q) (sym (has_filter (has_key (live_keys s h)) (made_so_far h) q) ∙ t)

-- all that an activation needs is ready
pub required_ready : (s : ScriptModel) (n : ℕ) (h : List Entry) (e : Entry) → Next s n h e → is_activate e.event ≡ true
    → (q : TileKey) → has_key (required s h) q ≡ true → has_key (ready s h) q ≡ true
required_ready s n h e x = by_event e.actor e.event x
  where
    by_event : (a : ℕ) (v : Event) → Next s n h (entry a v) → is_activate v ≡ true
        → (q : TileKey) → has_key (required s h) q ≡ true → has_key (ready s h) q ≡ true
    by_event a (event.Activate k ms) y t q u = all_has (has_key (ready s h)) (required s h) q (at_activate s n h a k ms y).ready u
    by_event a _ y t q u = absurd cc

-- what it needs are keys of the tree that it activates
required_keys : (s : ScriptModel) (h : List Entry) (k : ℕ) → pending h ≡ Some k → (q : TileKey) → has_key (required s h) q ≡ true
    → has_key (page_keys (page s (pulls_of h) (suc k)) (stamp_in s (pulls_of h) (suc k))) q ≡ true
required_keys s h k e q t =
    subst (λ (o : Option ℕ). has_key (page_keys (page s (pulls_of h) (up_to o)) (stamp_in s (pulls_of h) (up_to o))) q ≡ true) e
    (visible_is_key (pending_page s h) (pending_offsets s h) (stamp_in s (pulls_of h) (up_to (pending h))) q t)

-- the keys of the active tree stay where none is activated
active_keys_stay : (s : ScriptModel) (n : ℕ) (h : List Entry) (a : ℕ) (e : Event) → Course h → Next s n h (entry a e)
    → page_keys (page s (pulls_of (entry a e ∷ h)) (up_to (active h))) (stamp_in s (pulls_of (entry a e ∷ h)) (up_to (active h))) ≡ keys_of (active_tree s h)
active_keys_stay s n h a e c x =
    keys_alike s (pulls_of (entry a e ∷ h)) (pulls_of h) (up_to (active h)) (λ k l. let m = active_sent h c in pulls_stay s n h a e x k (omega arith))

one_step : (s : ScriptModel) (n : ℕ) (h : List Entry) (a : ℕ) (e : Event) → Course h → Pins s h → Next s n h (entry a e) → Pins s (entry a e ∷ h)
one_step s n h a (event.Send k ms) c p x = record {
  made = p.made;
  active = λ q t. ap (λ ks. has_key ks q) (active_keys_stay s n h a (event.Send k ms) c x) ∙ p.active q t;
}
one_step s n h a (event.Start w k evicted) c p x =
    let d = at_start s n h a w k evicted x in
    record {
      made = λ q t.
          let out : has_key evicted q ≡ false = is_false (has_key evicted q) (λ u. not_both (has_key (pinned s h) q) t
          (evicted_may_go s h d.rank q (ap (λ ks. has_key ks q) (sym d.evictions) ∙ u)).not_pinned) in
          has_without (made_so_far h) evicted q ∙ and_both (has_key (made_so_far h) q) (not (has_key evicted q)) (p.made q t) (ap not out);
      active = p.active;
    }
one_step s n h a (event.DoneTile w k) c p x = record {
  made = λ q t. or_right (same_key k q) (has_key (made_so_far h) q) (p.made q t);
  active = p.active;
}
one_step s n h a (event.Activate k ms) c p x =
    let d = at_activate s n h a k ms x in
    record {
      made = λ q t. ready_made s h q (required_ready s n h (entry a (event.Activate k ms)) x refl q t);
      active = λ q t. required_keys s h k d.frame q t;
    }
one_step s n h a _ c p x = p

pub pins : (s : ScriptModel) (n : ℕ) (h : List Entry) → Legal s n h → Pins s h
pins s n [] l = record { made = λ q t. absurd cc; active = λ q t. absurd cc }
pins s n (e ∷ h) l = one_step s n h e.actor e.event (course s n h l.0) (pins s n h l.0) l.1

-- a pinned key is ready
pub pinned_ready : (s : ScriptModel) (n : ℕ) (h : List Entry) → Legal s n h → (q : TileKey) → has_key (pinned s h) q ≡ true → has_key (ready s h) q ≡ true
pinned_ready s n h l q t =
    let p = pins s n h l in
    has_filter (has_key (live_keys s h)) (made_so_far h) q
    ∙ and_both (has_key (made_so_far h) q) (has_key (live_keys s h) q) (p.made q t)
    (has_append (keys_of (active_tree s h)) (keys_of (pending_tree s h)) q ∙ or_left (has_key (keys_of (active_tree s h)) q) (has_key (keys_of (pending_tree s h)) q) (p.active q t))

-- so none is missing
pub missing_apart : (s : ScriptModel) (n : ℕ) (h : List Entry) → Legal s n h → (q : TileKey) → has_key (missing_visible s h) q ≡ true → has_key (pinned s h) q ≡ false
missing_apart s n h l q t =
    let m = sym (has_filter (λ k. not (has_key (ready s h) k)) (visible_in (active_tree s h)) q) ∙ t in
    is_false (has_key (pinned s h) q) (λ u. not_both (has_key (ready s h) q) (pinned_ready s n h l q u)
    (not_true (has_key (ready s h) q) (and_right (has_key (visible_in (active_tree s h)) q) (not (has_key (ready s h) q)) m)))

-- at each entry of a legal past

pub required_at_each : (s : ScriptModel) (n : ℕ) (h : List Entry) → Legal s n h → AtEach (λ g e. is_activate e.event ≡ true → Within (required s g) (ready s g)) h
required_at_each s n [] l = tt
required_at_each s n (e ∷ h) l = (required_at_each s n h l.0, required_ready s n h e l.1)

lacking_apart : (s : ScriptModel) (n : ℕ) (h : List Entry) (a : ℕ) (e : Event) → Legal s n h → Next s n h (entry a e) → AreApart (lacking e) (pinned s h)
lacking_apart s n h a (event.Draw i lacks) l x q t =
    missing_apart s n h l q (ap (λ ks. has_key ks q) (sym (at_draw s n h a i lacks x).lacking) ∙ t)
lacking_apart s n h a _ l x q t = absurd cc

pub lacking_at_each : (s : ScriptModel) (n : ℕ) (h : List Entry) → Legal s n h → AtEach (λ g e. AreApart (lacking e.event) (pinned s g)) h
lacking_at_each s n [] l = tt
lacking_at_each s n (e ∷ h) l = (lacking_at_each s n h l.0, lacking_apart s n h e.actor e.event l.0 l.1)
