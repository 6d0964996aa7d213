-- The scroll or the wheel that is the next input, as an event.
use Rattle.std.proofs.Common.{◌≡◌, ℕ, ℤ, pos, true, List, [], ◌∷◌, Some, refl, ◌∙◌, ap, arith}
use Rattle.model_states.specs.declared.kind.Kind.TheVariants as kind
use Rattle.page_layers.specs.declared.moves.Move.{Move}
use Rattle.page_layers.specs.Axes.{across, down}
use Rattle.page_layers.specs.Hits.{target}
use Rattle.page_layers.specs.Wheels.{wheel_parts, wheel_rest}
use Rattle.model_history.specs.declared.event.Event.TheVariants as event
use Rattle.model_history.specs.declared.input.Input.TheVariants as input
use Rattle.model_history.specs.declared.history.Entry.{Entry}
use Rattle.model_history.specs.Scripts.{ScriptModel}
use Rattle.model_history.specs.EventFields.{moves, scroll_move}
use Rattle.model_history.specs.Frames.{active_page}
use Rattle.model_history.specs.Scrolls.{accepted, active_offsets}
use Rattle.model_history.specs.Due.{next_input, input_now}
use Rattle.model_history.specs.Legal.{is_open, can, Legal}
use Rattle.model_history.proofs.DueFacts.{entry}
use Rattle.impl_core.proofs.MayCome.{scroll_now, wheel_now, comes_next}

-- the scroll may come, and makes one move
pub record OfScroll (s : ScriptModel) (n : ℕ) (h : List Entry) (sc i : ℕ) (x y : ℤ) : Type 0 where
  pub may_come : can s h kind.Scroll 0 ≡ Some (event.Scroll i x y)
  pub legal : Legal s n (entry 0 (event.Scroll i x y) ∷ h)
  pub moves : moves s (event.Scroll i x y) ≡ record { scroller = sc; dx = x; dy = y } ∷ []

pub of_scroll : (s : ScriptModel) (n : ℕ) (h : List Entry) (sc : ℕ) (dx dy : ℤ) (i : ℕ) (x y : ℤ) → Legal s n h → is_open h kind.Scroll ≡ true → input_now s h ≡ Some (input.Scroll sc dx dy) → i ≡ next_input h
    → x ≡ accepted s h sc across dx → y ≡ accepted s h sc down dy → OfScroll s n h sc i x y
of_scroll s n h sc dx dy i x y legal o asked place right downwards =
    let may_come = scroll_now s h o sc dx dy asked i x y place right downwards in
    record {
      may_come = may_come;
      legal = comes_next s n h 0 (event.Scroll i x y) legal may_come refl (omega arith);
      moves = ap (λ j. moves s (event.Scroll j x y)) place ∙ ap (λ o. scroll_move o x y) asked;
    }

-- the wheel may come
pub record OfWheel (s : ScriptModel) (n : ℕ) (h : List Entry) (i layer : ℕ) (rest_x rest_y : ℤ) (ms : List Move) : Type 0 where
  pub may_come : can s h kind.Wheel 0 ≡ Some (event.Wheel i layer rest_x rest_y ms)
  pub legal : Legal s n (entry 0 (event.Wheel i layer rest_x rest_y ms) ∷ h)

pub of_wheel : (s : ScriptModel) (n : ℕ) (h : List Entry) (x y : ℕ) (dx dy : ℤ) (i layer : ℕ) (rest_x rest_y : ℤ) (ms : List Move) → Legal s n h → is_open h kind.Wheel ≡ true
    → input_now s h ≡ Some (input.Wheel x y dx dy) → i ≡ next_input h → layer ≡ target (active_page s h) (active_offsets s h) (pos x) (pos y)
    → rest_x ≡ wheel_rest (active_page s h) (active_offsets s h) (pos x) (pos y) across dx → rest_y ≡ wheel_rest (active_page s h) (active_offsets s h) (pos x) (pos y) down dy
    → ms ≡ wheel_parts (active_page s h) (active_offsets s h) (pos x) (pos y) dx dy → OfWheel s n h i layer rest_x rest_y ms
of_wheel s n h x y dx dy i layer rest_x rest_y ms legal o asked place hits right downwards parts =
    let may_come = wheel_now s h o x y dx dy asked i layer rest_x rest_y ms place hits right downwards parts in
    record { may_come = may_come; legal = comes_next s n h 0 (event.Wheel i layer rest_x rest_y ms) legal may_come refl (omega arith) }
