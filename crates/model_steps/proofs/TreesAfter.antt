-- The two trees, and the choice, after a send, an abort, a commit and an activation.
use Rattle.std.proofs.Common.{◌≡◌, ℕ, suc, ◌≤◌, ℤ, ◌+ℤ◌, ◌-ℤ◌, Bool, true, false, List, ◌∷◌, ◌++◌, filter, Some, None, refl, sym, ◌∙◌, ap, arith}
use Rattle.std.proofs.lemmas.Int.{ints}
use Rattle.geom.specs.declared.rect.Point.{Point}
use Rattle.geom.specs.declared.tile.Place.{Place}
use Rattle.geom.specs.KeyLists.{has_key}
use Rattle.model_states.specs.declared.Synced.{Synced}
use Rattle.model_states.specs.Table as table
use Rattle.page_layers.specs.Pages.{Page}
use Rattle.page_layers.specs.Scrolls.{clamp_to}
use Rattle.page_layers.specs.declared.moves.Move.{Move}
use Rattle.page_layers.specs.Axes.{Axis, amount_in}
use Rattle.page_layers.specs.Scrollers.{has_scroller, most}
use Rattle.model_history.specs.declared.event.Event.TheVariants as event
use Rattle.model_history.specs.declared.history.Entry.{Entry}
use Rattle.model_history.specs.Scripts.{ScriptModel}
use Rattle.model_history.specs.EventFields.{sends, commits}
use Rattle.model_history.specs.Scans.{newest, counted}
use Rattle.model_history.specs.Frames.{page, pulls_of, active, pending, up_to, active_page, pending_page}
use Rattle.model_history.specs.Scrolls.{offset, offset_then, pending_offset, clobbers, active_offsets, pending_offsets}
use Rattle.model_history.specs.Stamps.{stamp_in}
use Rattle.model_history.specs.Tiles.{Tree, active_tree, pending_tree, keys_of, made_so_far, in_flight, ready, pinned}
use Rattle.model_history.specs.Ranking.{choice}
use Rattle.model_history.specs.Values.{values}
use Rattle.model_history.specs.Legal.{Legal}
use Rattle.model_history.proofs.BoolFacts.{none_where, none_or_some}
use Rattle.model_history.proofs.DueFacts.{AtActivate, at_activate}
use Rattle.model_history.proofs.Course.{Course, course, pending_last}
use Rattle.model_history.proofs.FrameFacts.{pulls_stay, page_stays, active_sent}
use Rattle.model_history.proofs.PastFacts.{pending_within}
use Rattle.model_history.proofs.StampFacts.{stamp_alike}
use Rattle.model_history.proofs.ValueReadings.{active_is_value, offset_then_is_value}
use Rattle.model_history.proofs.Offsets.{Activated, activated}
use Rattle.model_steps.specs.Events.{send, abort, commit, activate}
use Rattle.model_steps.specs.Standing.{brought_to}
use Rattle.model_steps.specs.Choices.{choice_of}
use Rattle.model_steps.proofs.StandingFacts.{same_offsets, pending_is}

abbrev tree_of : Page → (ℕ → Point) → (ℕ → Place → ℕ) → Tree
tree_of p f stamp = record { page = p; offset = f; stamp = stamp }

-- trees with the same parts are one
same_tree : (p q : Page) (f g : ℕ → Point) (st su : ℕ → Place → ℕ) → p ≡ q → f ≡ g → ((layer : ℕ) (place : Place) → st layer place ≡ su layer place)
    → tree_of p f st ≡ tree_of q g su
same_tree p q f g st su e o t = λ i. tree_of (e i) (o i) (λ layer place. t layer place i)

-- the choice is made from the trees and the keys
pub same_choice : (s : ScriptModel) (h g : List Entry) → active_tree s g ≡ active_tree s h → pending_tree s g ≡ pending_tree s h
    → made_so_far g ≡ made_so_far h → in_flight g ≡ in_flight h → pinned s g ≡ pinned s h → choice s g ≡ choice s h
same_choice s h g a p m f q = λ i. choice_of s (a i) (p i) (filter (has_key (keys_of (a i) ++ keys_of (p i))) (m i)) (f i) (q i)

-- and so are the ready keys
pub same_ready : (s : ScriptModel) (h g : List Entry) → active_tree s g ≡ active_tree s h → pending_tree s g ≡ pending_tree s h → made_so_far g ≡ made_so_far h → ready s g ≡ ready s h
same_ready s h g a p m = λ i. filter (has_key (keys_of (a i) ++ keys_of (p i))) (m i)

-- a send

module _ (s : ScriptModel) (n : ℕ) (h : List Entry) (a k : ℕ) (ms : List Move) (legal : Legal s n (send a k ms ∷ h)) where
  abbrev sent : List Entry
  sent = send a k ms ∷ h

  pages_stay : (m : ℕ) → m ≤ counted sends h → page s (pulls_of sent) m ≡ page s (pulls_of h) m
  pages_stay m l = page_stays s n h a (event.Send k ms) legal.1 m l

  stamps_stay : (m : ℕ) → m ≤ counted sends h → (layer : ℕ) (place : Place) → stamp_in s (pulls_of sent) m layer place ≡ stamp_in s (pulls_of h) m layer place
  stamps_stay m l layer place = stamp_alike s (pulls_of sent) (pulls_of h) m (λ j b. pulls_stay s n h a (event.Send k ms) legal.1 j (omega arith)) layer place

  pub send_active : active_tree s sent ≡ active_tree s h
  send_active =
      let l : up_to (active h) ≤ counted sends h = active_sent h (course s n h legal.0) in
      let p : active_page s sent ≡ active_page s h = pages_stay (up_to (active h)) l in
      same_tree (active_page s sent) (active_page s h) (active_offsets s sent) (active_offsets s h) (stamp_in s (pulls_of sent) (up_to (active h))) (stamp_in s (pulls_of h) (up_to (active h))) p
      (same_offsets (active_page s sent) (active_page s h) (offset s sent) (offset s h) p (λ sc ax t. active_is_value s n sent sc ax legal ∙ sym (active_is_value s n h sc ax legal.0)))
      (stamps_stay (up_to (active h)) l)

  pub send_pending : pending_tree s sent ≡ pending_tree s h
  send_pending =
      let l : up_to (pending h) ≤ counted sends h = pending_within h (pending h) (course s n h legal.0) refl in
      let p : pending_page s sent ≡ pending_page s h = pages_stay (up_to (pending h)) l in
      let o : (sc : ℕ) (ax : Axis) → has_scroller (pending_page s h) sc ≡ true → pending_offset s sent sc ax ≡ pending_offset s h sc ax =
      λ sc ax t. pending_is s n sent legal sc ax ∙ (ap (λ (q : Page). brought_to (clobbers s (pending h) sc) (most q sc ax) (values s sc ax h)) p ∙ sym (pending_is s n h legal.0 sc ax)) in
      same_tree (pending_page s sent) (pending_page s h) (pending_offsets s sent) (pending_offsets s h) (stamp_in s (pulls_of sent) (up_to (pending h))) (stamp_in s (pulls_of h) (up_to (pending h))) p
      (same_offsets (pending_page s sent) (pending_page s h) (pending_offset s sent) (pending_offset s h) p o)
      (stamps_stay (up_to (pending h)) l)

  pub send_ready : ready s sent ≡ ready s h
  send_ready = same_ready s h sent send_active send_pending refl

  pub send_choice : choice s sent ≡ choice s h
  send_choice = same_choice s h sent send_active send_pending refl refl refl

-- an abort

active_kept : (b d m : ℤ) → (b +ℤ m) +ℤ (d -ℤ m) ≡ b +ℤ d
active_kept b d m = omega (arith, ints)

pending_kept : (b d m p : ℤ) → ((b +ℤ m) +ℤ (d -ℤ m)) -ℤ p ≡ (b +ℤ d) -ℤ p
pending_kept b d m p = omega (arith, ints)

-- one that is not set outright
brought_kept : (b : Bool) (end : ℕ) (v : Synced) → b ≡ false → brought_to b end (table.aborted v) ≡ brought_to b end v
brought_kept true end v e = absurd cc
brought_kept false end v e = ap (clamp_to end) (pending_kept v.pending_base v.active_delta v.reflected_main v.reflected_pending)

module _ (s : ScriptModel) (n : ℕ) (h : List Entry) (a k : ℕ) (legal : Legal s n (abort a k ∷ h)) where
  abbrev ended : List Entry
  ended = abort a k ∷ h

  pub abort_active : active_tree s ended ≡ active_tree s h
  abort_active =
      same_tree (active_page s h) (active_page s h) (active_offsets s ended) (active_offsets s h) (stamp_in s (pulls_of h) (up_to (active h))) (stamp_in s (pulls_of h) (up_to (active h))) refl
      (same_offsets (active_page s h) (active_page s h) (offset s ended) (offset s h) refl (λ sc ax t.
      let v : Synced = values s sc ax h in
      active_is_value s n ended sc ax legal ∙ (active_kept v.active_base v.active_delta v.reflected_main ∙ sym (active_is_value s n h sc ax legal.0))))
      (λ layer place. refl)

  pub abort_pending : ((sc : ℕ) → clobbers s (pending h) sc ≡ false) → pending_tree s ended ≡ pending_tree s h
  abort_pending none =
      same_tree (pending_page s h) (pending_page s h) (pending_offsets s ended) (pending_offsets s h) (stamp_in s (pulls_of h) (up_to (pending h))) (stamp_in s (pulls_of h) (up_to (pending h))) refl
      (same_offsets (pending_page s h) (pending_page s h) (pending_offset s ended) (pending_offset s h) refl (λ sc ax t.
      pending_is s n ended legal sc ax ∙ (brought_kept (clobbers s (pending h) sc) (most (pending_page s h) sc ax) (values s sc ax h) (none sc) ∙ sym (pending_is s n h legal.0 sc ax))))
      (λ layer place. refl)

  pub abort_choice : ((sc : ℕ) → clobbers s (pending h) sc ≡ false) → choice s ended ≡ choice s h
  abort_choice none = same_choice s h ended abort_active (abort_pending none) refl refl refl

-- a commit

module _ (s : ScriptModel) (n : ℕ) (h : List Entry) (a k : ℕ) (legal : Legal s n (commit a k ∷ h)) where
  abbrev committed : List Entry
  committed = commit a k ∷ h

  pub commit_active : active_tree s committed ≡ active_tree s h
  commit_active =
      same_tree (active_page s h) (active_page s h) (active_offsets s committed) (active_offsets s h) (stamp_in s (pulls_of h) (up_to (active h))) (stamp_in s (pulls_of h) (up_to (active h))) refl
      (same_offsets (active_page s h) (active_page s h) (offset s committed) (offset s h) refl (λ sc ax t.
      active_is_value s n committed sc ax legal ∙ sym (active_is_value s n h sc ax legal.0)))
      (λ layer place. refl)

  pub commit_is_pending : pending committed ≡ Some k
  commit_is_pending =
      let c : Course committed = course s n committed legal in
      let w : (j : ℕ) × (pending committed ≡ Some j) = none_or_some (pending committed) (sym c.pending_state) in
      let e : newest commits committed ≡ Some w.0 = pending_last committed (newest commits committed) w.0 w.1 in
      w.1 ∙ sym e

-- an activation

brought_there : (b d p x w t : ℤ) → t ≡ (b +ℤ d) -ℤ p → x ≡ w -ℤ t → b +ℤ ((d -ℤ p) +ℤ x) ≡ w
brought_there b d p x w t e f = omega (arith, ints, e, f)

module _ (s : ScriptModel) (n : ℕ) (h : List Entry) (a k : ℕ) (ms : List Move) (legal : Legal s n (activate a k ms ∷ h)) where
  abbrev activated_now : List Entry
  activated_now = activate a k ms ∷ h

  pub none_is_pending : pending activated_now ≡ None
  none_is_pending = none_where (pending activated_now) (sym (course s n activated_now legal).pending_state)

  pub activate_active : active_tree s activated_now ≡ pending_tree s h
  activate_active =
      let d : AtActivate s h k ms = at_activate s n h a k ms legal.1 in
      let p : page s (pulls_of h) (suc k) ≡ pending_page s h = ap (λ o. page s (pulls_of h) (up_to o)) (sym d.frame) in
      same_tree (page s (pulls_of h) (suc k)) (pending_page s h) (active_offsets s activated_now) (pending_offsets s h) (stamp_in s (pulls_of h) (suc k)) (stamp_in s (pulls_of h) (up_to (pending h))) p
      (same_offsets (page s (pulls_of h) (suc k)) (pending_page s h) (offset s activated_now) (pending_offset s h) p (λ sc ax t. there sc ax (ap (λ (q : Page). has_scroller q sc) p ∙ t)))
      (λ layer place. ap (λ o. stamp_in s (pulls_of h) (up_to o) layer place) (sym d.frame))
    where
      there : (sc : ℕ) (ax : Axis) → has_scroller (page s (pulls_of h) (suc k)) sc ≡ true → offset s activated_now sc ax ≡ pending_offset s h sc ax
      there sc ax t =
          let v : Synced = values s sc ax h in
          let act : Activated s h k ms sc ax = activated s n h a k ms sc ax legal.0 legal.1 in
          active_is_value s n activated_now sc ax legal
          ∙ brought_there v.pending_base v.active_delta v.reflected_pending (amount_in sc ax ms) (pending_offset s h sc ax) (offset_then s h sc ax)
          (offset_then_is_value s n h sc ax legal.0) (act.of_page t)
