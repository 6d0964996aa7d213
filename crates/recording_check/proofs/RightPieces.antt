-- One piece, judged by what came before it.
use Rattle.std.proofs.Common.{◌≡◌, ℕ, Bool, true, false, List, Option, Some, None, refl, sym, ◌∙◌, ap, subst}
use Rattle.std.specs.Bool.{Decides}
use Rattle.geom.specs.declared.rect.Point.{Point}
use Rattle.geom.specs.declared.tile.TileKey.{TileKey}
use Rattle.pixel.specs.Colours.{Parts}
use Rattle.page_properties.specs.OffsetMap.{offset_at}
use Rattle.page_layers.specs.Pages.{Page}
use Rattle.model_history.specs.declared.event.Event.{Event}
use Rattle.model_history.specs.declared.event.Event.TheVariants as event
use Rattle.model_history.specs.declared.history.Entry.{Entry}
use Rattle.model_history.specs.EventFields.{begins}
use Rattle.model_history.specs.Scans.{newest}
use Rattle.model_history.specs.Frames.{active, active_page}
use Rattle.model_history.specs.Scrolls.{active_offsets}
use Rattle.model_history.specs.DueParts.{due_draw}
use Rattle.model_history.specs.Legal.{Next}
use Rattle.model_history.specs.Recordings.{image, shown_image}
use Rattle.model_history.specs.Scripts.{ScriptModel}
use Rattle.impl_log.specs.Runs.{Run, past}
use Rattle.recording_judge.specs.declared.screen_state.ScreenState.{ScreenState}
use Rattle.recording_judge.specs.Judging.{IsShown}
use Rattle.recording_check.specs.inner.Behind.{pixel_of}
use Rattle.recording_text.specs.Pieces.{entry_of}
use Rattle.recording_check.specs.inner.Rightness.{missing_in, TellsDrawn, CanHave, TellsImage, Judged}

-- a draw comes only where a page is active
no_draw_at : (s : ScriptModel) (h : List Entry) (o : Option ℕ) (i : ℕ) (ms : List TileKey) → active h ≡ None → due_draw s h o ≡ Some (event.Draw i ms) → ⊥
no_draw_at s h None i ms none is = absurd (cc (is))
no_draw_at s h (Some j) i ms none is = absurd (cc (is, none))

no_draw : (s : ScriptModel) (n : ℕ) (h : List Entry) (i : ℕ) (ms : List TileKey) → active h ≡ None → Next s n h (entry_of (event.Draw i ms)) → ⊥
unfolding entry_of
no_draw s n h i ms none x = no_draw_at s h (newest begins h) i ms none x.is_due

drawn_in : (s : ScriptModel) (h : List Entry) (e : Event) (image : List ℕ) (ms : List TileKey) (b : Bool) → missing_in e ≡ Some ms → TellsDrawn s h ms image b → TellsImage s h e image b
drawn_in s h (event.Draw i ls) image ms true is tells = let same : ls ≡ ms = cc (is) in tells ∙ ap (shown_image s h) (sym same)
drawn_in s h (event.Draw i ls) image ms false is tells = λ n there next. let same : ls ≡ ms = cc (is) in no_draw s n h i ls (tells (there ∙ ap (shown_image s h) same)) next
drawn_in s h e image ms b is tells = absurd (cc (is))

pub drawn_right : (s : ScriptModel) (h : List Entry) (e : Event) (image : List ℕ) (ms : List TileKey) (b : Bool) → missing_in e ≡ Some ms → TellsDrawn s h ms image b → TellsImage s h e image b
drawn_right s h e image ms b is tells = drawn_in s h e image ms b is tells

-- the painting of what is shown
painted_is : (s : ScriptModel) (h : List Entry) (ms : List TileKey) (v : ScreenState) → IsShown s h v → image (pixel_of v.page.now (offset_at v.offsets.now) ms v.background) v.page.now.view.w v.page.now.view.h ≡ shown_image s h ms
unfolding shown_image
painted_is s h ms v is =
    ap (λ (p : Page). image (pixel_of p (offset_at v.offsets.now) ms v.background) p.view.w p.view.h) is.page
    ∙ ap (λ (o : ℕ → Point). image (pixel_of (active_page s h) o ms v.background) (active_page s h).view.w (active_page s h).view.h) is.offsets
    ∙ ap (λ (b : Parts). image (pixel_of (active_page s h) (active_offsets s h) ms b) (active_page s h).view.w (active_page s h).view.h) is.background

-- what a comparison with the painting tells
compared : (s : ScriptModel) (h : List Entry) (ms : List TileKey) (image whole : List ℕ) (b : Bool) → whole ≡ shown_image s h ms → Decides b (image ≡ whole) → TellsDrawn s h ms image b
compared s h ms image whole true is decides = decides.0 refl ∙ is
compared s h ms image whole false is decides = λ there. let no : false ≡ true = decides.1 (there ∙ sym is) in absurd (cc (no))

-- the image is wrong
pub refused : (old : Run) (e : Event) (image : List ℕ) → TellsImage old.script (past old) e image false → Judged old (record { event = e; image = image }) old false
refused old e image tells = (λ right. tells old.workers right.image right.next, refl)

pub looked_at : (s : ScriptModel) (h : List Entry) (ms : List TileKey) (v : ScreenState) (bytes : List ℕ) (b : Bool) → IsShown s h v
    → Decides b (bytes ≡ image (pixel_of v.page.now (offset_at v.offsets.now) ms v.background) v.page.now.view.w v.page.now.view.h) → TellsDrawn s h ms bytes b
looked_at s h ms v bytes b is decides = compared s h ms bytes _ b (painted_is s h ms v is) decides

-- ---- the entry of a step

pub own_entry : (r : Entry) (e : Event) → r ≡ entry_of e → r ≡ entry_of r.event
unfolding entry_of
own_entry r e is = let same : r.event ≡ e = ap (λ (x : Entry). x.event) is in is ∙ ap entry_of (sym same)

pub its_event : (r : Entry) (e : Event) → r ≡ entry_of e → r.event ≡ e
unfolding entry_of
its_event r e is = ap (λ (x : Entry). x.event) is

pub can_have : (e f : Event) (image there : List ℕ) → f ≡ e → there ≡ image → CanHave e image → CanHave f there
can_have e f image there same is can = subst (λ (x : Event). CanHave x there) (sym same) (subst (λ (xs : List ℕ). CanHave e xs) (sym is) can)

pub judged_step : (old new : Run) (e f : Event) (image there : List ℕ) (b : Bool) → f ≡ e → there ≡ image → Judged old (record { event = f; image = there }) new b → Judged old (record { event = e; image = image }) new b
judged_step old new e f image there b same is judged =
    subst (λ (xs : List ℕ). Judged old (record { event = e; image = xs }) new b) is (subst (λ (x : Event). Judged old (record { event = x; image = there }) new b) same judged)
