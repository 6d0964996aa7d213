-- The view of the active page is the one of the main frame that was activated last.
use Rattle.std.proofs.Common.{◌≡◌, ℕ, zero, suc, ◌<◌, ◌≤◌, List, [], ◌∷◌, length, refl, ap, sym, ◌∙◌, arith, None, Some}
use Rattle.std.specs.Prelude.{Option, slice_index_or}
use Rattle.page_layers.specs.declared.command.Command.{Command}
use Rattle.page_layers.specs.declared.command.Command.TheVariants as command
use Rattle.page_layers.specs.declared.moves.Move.{Move}
use Rattle.page_layers.specs.declared.view.View.{View}
use Rattle.page_layers.specs.Effects.{page_after_command, page_after_pulls, commanded}
use Rattle.page_layers.specs.Pages.{Page}
use Rattle.model_history.specs.declared.history.Entry.{Entry}
use Rattle.model_history.specs.Frames.{commands_of, page, pulls_of, active, active_page, up_to}
use Rattle.model_history.specs.Scripts.{ScriptModel}
use Rattle.recording_text.specs.Views.{view_after, view_through, views_through, first_view, views_of, view_at}

after_view : (p : Page) (c : Command) → (page_after_command p c).view ≡ view_after p.view c
after_view p (command.AddTransform c) = refl
after_view p _ = refl

commanded_view : (cs : List Command) (p : Page) → (commanded cs p).view ≡ view_through p.view cs
commanded_view [] p = refl
commanded_view (c ∷ cs) p = commanded_view cs (page_after_command p c) ∙ ap (λ (v : View). view_through v cs) (after_view p c)

pulled_view : (ms : List Move) (p : Page) → (page_after_pulls ms p).view ≡ p.view
pulled_view [] p = refl
pulled_view (m ∷ ms) p = pulled_view ms _

-- the view after the first main frames
abbrev turned : View → List (List Command) → ℕ → View
turned v main zero = v
turned v [] (suc k) = v
turned v (f ∷ fs) (suc k) = turned (view_through v f) fs k

turned_more : (v : View) (main : List (List Command)) (k : ℕ) → k < length main → turned v main (suc k) ≡ view_through (turned v main k) (slice_index_or main k [])
turned_more v [] k small = absurd (omega arith)
turned_more v (f ∷ fs) zero small = refl
turned_more v (f ∷ fs) (suc k) small = turned_more (view_through v f) fs k (omega arith)

views_at : (v first : View) (main : List (List Command)) (k : ℕ) → k < length main → slice_index_or (views_through v main) k first ≡ turned v main (suc k)
views_at v first [] k small = absurd (omega arith)
views_at v first (f ∷ fs) zero small = refl
views_at v first (f ∷ fs) (suc k) small = views_at (view_through v f) first fs k (omega arith)

page_view : (s : ScriptModel) (ps : ℕ → List Move) (k : ℕ) → suc k ≤ suc (length s.main) → (page s ps k).view ≡ turned (first_view s) s.main k
page_view s ps zero few = refl
page_view s ps (suc k) few =
    commanded_view (commands_of s k) (page_after_pulls (ps k) (page s ps k))
    ∙ ap (λ (v : View). view_through v (commands_of s k)) (pulled_view (ps k) (page s ps k) ∙ page_view s ps k (omega arith))
    ∙ sym (turned_more (first_view s) s.main k (omega arith))

-- a frame that the script has, or none
abbrev pub IsFrame : ScriptModel → Option ℕ → Type 0
IsFrame s None = Unit {0}
IsFrame s (Some k) = k < length s.main

shown_view : (s : ScriptModel) (ps : ℕ → List Move) (shown : Option ℕ) → IsFrame s shown → (page s ps (up_to shown)).view ≡ view_at (views_of s) shown
unfolding views_of
shown_view s ps None has = refl
shown_view s ps (Some k) has = page_view s ps (suc k) (omega arith) ∙ sym (views_at (first_view s) (first_view s) s.main k has)

pub active_view : (s : ScriptModel) (h : List Entry) → IsFrame s (active h) → (active_page s h).view ≡ view_at (views_of s) (active h)
active_view s h has = shown_view s (pulls_of h) (active h) has
