-- The event that is due, by what the past tells.
use Rattle.std.proofs.Common.{◌≡◌, ℕ, ◌-◌, ◌==◌, ℤ, pos, Bool, true, false, not, ◌&&◌, List, [], ◌∷◌, length, Option, Some, None, is_some, option_map, refl, sym, ◌∙◌, ap, arith}
use Rattle.geom.specs.declared.tile.TileKey.{TileKey}
use Rattle.tile_priority.specs.declared.rank.Rank.{Rank}
use Rattle.tile_queue.specs.Queues.{rank_key}
use Rattle.model_states.specs.declared.kind.Kind.TheVariants as kind
use Rattle.page_layers.specs.declared.moves.Move.{Move}
use Rattle.page_layers.specs.Axes.{across, down}
use Rattle.page_layers.specs.Hits.{target}
use Rattle.page_layers.specs.Wheels.{wheel_parts, wheel_rest}
use Rattle.model_history.specs.declared.event.Event.TheVariants as event
use Rattle.model_history.specs.declared.input.Input.TheVariants as input
use Rattle.model_history.specs.declared.history.Entry.{Entry}
use Rattle.model_history.specs.Scripts.{ScriptModel}
use Rattle.model_history.specs.EventFields.{sends, begins}
use Rattle.model_history.specs.Scans.{newest, counted, held}
use Rattle.model_history.specs.Frames.{is_left, active, pending, active_page, is_empty}
use Rattle.model_history.proofs.BoolFacts.{is_false, is_same, same_number}
use Rattle.model_history.specs.Scrolls.{accepted, next_pulls, next_clamps, active_offsets}
use Rattle.model_history.specs.Tiles.{required, are_ready, missing_visible}
use Rattle.model_history.specs.Ranking.{rank_to_start, evicted_for}
use Rattle.model_history.specs.Due.{due, on_if, next_input, input_now, due_scroll, due_wheel}
use Rattle.model_history.specs.DueParts.{due_activate, due_start, due_done, due_draw}
use Rattle.recording_judge.specs.inner.States.{IsFirstKey}

module _ (s : ScriptModel) (h : List Entry) where
  pub send_is : is_left s h ≡ true → (k : ℕ) → k ≡ counted sends h → (ms : List Move) → ms ≡ next_pulls s h → Some (event.Send k ms) ≡ due s h kind.Send 0
  send_is left k is_k ms is_ms = sym (ap (λ b. on_if b (event.Send (counted sends h) (next_pulls s h))) left ∙ (λ i. Some (event.Send (sym is_k i) (sym is_ms i))))

  pub activate_is : (k : ℕ) → pending h ≡ Some k → (ks : List TileKey) → ks ≡ required s h → are_ready s h ks ≡ true → (ms : List Move) → ms ≡ next_clamps s h → Some (event.Activate k ms) ≡ due s h kind.Activate 0
  activate_is k waits ks is t ms clamps =
      sym (ap (due_activate s h) waits ∙ (ap (λ b. on_if b (event.Activate k (next_clamps s h))) (ap (are_ready s h) (sym is) ∙ t) ∙ ap (λ l. Some (event.Activate k l)) (sym clamps)))

  pub activate_not : (k : ℕ) → pending h ≡ Some k → (ks : List TileKey) → ks ≡ required s h → are_ready s h ks ≡ false → None ≡ due s h kind.Activate 0
  activate_not k waits ks is f = sym (ap (due_activate s h) waits ∙ ap (λ b. on_if b (event.Activate k (next_clamps s h))) (ap (are_ready s h) (sym is) ∙ f))

  pub scroll_is : (sc : ℕ) (x y : ℤ) → input_now s h ≡ Some (input.Scroll sc x y) → (i : ℕ) (dx dy : ℤ) → i ≡ next_input h → dx ≡ accepted s h sc across x → dy ≡ accepted s h sc down y
      → Some (event.Scroll i dx dy) ≡ due s h kind.Scroll 0
  scroll_is sc x y asked i dx dy place right downwards = sym (ap (due_scroll s h (next_input h)) asked ∙ (λ j. Some (event.Scroll (sym place j) (sym right j) (sym downwards j))))

  pub wheel_is : (x y : ℕ) (dx dy : ℤ) → input_now s h ≡ Some (input.Wheel x y dx dy) → (i layer : ℕ) (rest_x rest_y : ℤ) (ms : List Move) → i ≡ next_input h
      → layer ≡ target (active_page s h) (active_offsets s h) (pos x) (pos y) → rest_x ≡ wheel_rest (active_page s h) (active_offsets s h) (pos x) (pos y) across dx
      → rest_y ≡ wheel_rest (active_page s h) (active_offsets s h) (pos x) (pos y) down dy → ms ≡ wheel_parts (active_page s h) (active_offsets s h) (pos x) (pos y) dx dy
      → Some (event.Wheel i layer rest_x rest_y ms) ≡ due s h kind.Wheel 0
  wheel_is x y dx dy asked i layer rest_x rest_y ms place hits right downwards parts =
      sym (ap (due_wheel s h (next_input h)) asked ∙ (λ j. Some (event.Wheel (sym place j) (sym hits j) (sym right j) (sym downwards j) (sym parts j))))

  pub start_is : (a : ℕ) → held (a - 2) h ≡ None → (q : TileKey) (f : IsFirstKey s h q) (ks : List TileKey) → ks ≡ evicted_for s h f.rank → Some (event.Start (a - 2) q ks) ≡ due s h kind.Start a
  start_is a free q f ks evictions = sym ((λ j. due_start s h (a - 2) (free j) (f.is_first j)) ∙ (λ j. Some (event.Start (a - 2) (f.key j) (sym evictions j))))

  pub start_none : (a : ℕ) → held (a - 2) h ≡ None → rank_to_start s h ≡ None → None ≡ due s h kind.Start a
  start_none a free none = sym (λ j. due_start s h (a - 2) (free j) (none j))

  pub start_held : (a : ℕ) (q : TileKey) → held (a - 2) h ≡ Some q → None ≡ due s h kind.Start a
  start_held a q holds = sym (ap (λ o. due_start s h (a - 2) o (rank_to_start s h)) holds)

  pub done_is : (a : ℕ) (q : TileKey) → held (a - 2) h ≡ Some q → Some (event.DoneTile (a - 2) q) ≡ due s h kind.Done a
  done_is a q holds = sym (ap (due_done (a - 2)) holds)

  pub done_none : (a : ℕ) → held (a - 2) h ≡ None → None ≡ due s h kind.Done a
  done_none a free = sym (ap (due_done (a - 2)) free)

  pub draw_is : (i : ℕ) → newest begins h ≡ Some i → is_some (active h) ≡ true → (ks : List TileKey) → ks ≡ missing_visible s h → Some (event.Draw i ks) ≡ due s h kind.Draw 0
  draw_is i begun there ks lacks = sym (ap (due_draw s h) begun ∙ (ap (λ b. on_if b (event.Draw i (missing_visible s h))) there ∙ ap (λ l. Some (event.Draw i l)) (sym lacks)))

  -- the key that is first, and none

  pub first_key : (o : Option Rank) (q : TileKey) → rank_to_start s h ≡ o → Some q ≡ option_map rank_key o → IsFirstKey s h q
  first_key None q e f = absurd cc
  first_key (Some r) q e f = record { rank = r; is_first = e; key = let k : q ≡ r.key = cc in sym k }

  pub none_first : (o : Option Rank) → rank_to_start s h ≡ o → None ≡ option_map rank_key o → rank_to_start s h ≡ None
  none_first None e f = e
  none_first (Some r) e f = absurd cc

-- ---- what is left to make

pub empty_told : {X : Type 0} (n : ℕ) (xs : List X) → n ≡ length xs → (n == 0) ≡ is_empty xs
empty_told n [] e = is_same n 0 e
empty_told n (x ∷ xs) e = is_false (n == 0) (λ t. let z : n ≡ 0 = same_number n 0 t in absurd (omega (arith, z, e)))

pub settled_none : (b : Bool) (o : Option Rank) → o ≡ None → b ≡ (b && not (is_some o))
settled_none b (Some r) e = absurd cc
settled_none true None e = refl
settled_none false None e = refl

pub settled_some : (b : Bool) (o : Option Rank) (r : Rank) → o ≡ Some r → false ≡ (b && not (is_some o))
settled_some b None r e = absurd cc
settled_some true (Some q) r e = refl
settled_some false (Some q) r e = refl
