-- No more inputs are used than there are.
use Rattle.std.proofs.Common.{◌≡◌, ℕ, suc, ◌≤◌, true, List, [], ◌∷◌, length, Option, Some, None, refl, arith}
use Rattle.std.proofs.lemmas.Option.{slice_get_within}
use Rattle.model_history.specs.declared.event.Event.{Event}
use Rattle.model_history.specs.declared.event.Event.TheVariants as event
use Rattle.model_history.specs.declared.input.Input.{Input}
use Rattle.model_history.specs.declared.input.Input.TheVariants as input
use Rattle.model_history.specs.declared.history.Entry.{Entry}
use Rattle.model_history.specs.Scripts.{ScriptModel}
use Rattle.model_history.specs.EventFields.{uses}
use Rattle.model_history.specs.Scans.{counted, one_more}
use Rattle.model_history.specs.Due.{asks_draw, input_now, next_input, due_await, due_settle}
use Rattle.model_history.specs.Legal.{Next, Legal}
use Rattle.model_history.proofs.DueFacts.{entry, at_begin, at_scroll, at_wheel}

-- there is an input
abbrev IsThere : Option Input → Type 0
IsThere o = (x : Input) × (o ≡ Some x)

draw_there : (o : Option Input) → asks_draw o ≡ true → IsThere o
draw_there None h = cc
draw_there (Some x) h = (x, refl)

await_there : (h : List Entry) (i j : ℕ) (o : Option Input) → due_await h i o ≡ Some (event.Await j) → IsThere o
await_there h i j None d = cc
await_there h i j (Some x) d = (x, refl)

settle_there : (s : ScriptModel) (h : List Entry) (i j : ℕ) (o : Option Input) → due_settle s h i o ≡ Some (event.Settle j) → IsThere o
settle_there s h i j None d = cc
settle_there s h i j (Some x) d = (x, refl)

-- an input that is there comes before the end
is_before : (s : ScriptModel) (h : List Entry) → IsThere (input_now s h) → suc (counted uses h) ≤ length s.inputs
is_before s h t = slice_get_within s.inputs (counted uses h) t.0 t.1

use_step : (s : ScriptModel) (n : ℕ) (h : List Entry) (a : ℕ) (e : Event) → Next s n h (entry a e) → counted uses h ≤ length s.inputs → one_more (uses e) (counted uses h) ≤ length s.inputs
use_step s n h a (event.Begin i) x l = is_before s h (draw_there (input_now s h) (at_begin s n h a i x).draw)
use_step s n h a (event.Scroll i dx dy) x l = let t = at_scroll s n h a i dx dy x in is_before s h (input.Scroll t.scroller t.asked_x t.asked_y, t.is_input)
use_step s n h a (event.Wheel i layer rest_x rest_y ms) x l = let t = at_wheel s n h a i layer rest_x rest_y ms x in is_before s h (input.Wheel t.x t.y t.asked_x t.asked_y, t.is_input)
use_step s n h a (event.Await i) x l = is_before s h (await_there h (next_input h) i (input_now s h) x.is_due)
use_step s n h a (event.Settle i) x l = is_before s h (settle_there s h (next_input h) i (input_now s h) x.is_due)
use_step s n h a _ x l = l

pub uses_few : (s : ScriptModel) (n : ℕ) (h : List Entry) → Legal s n h → counted uses h ≤ length s.inputs
uses_few s n [] l = omega arith
uses_few s n (e ∷ h) l = use_step s n h e.actor e.event l.1 (uses_few s n h l.0)
