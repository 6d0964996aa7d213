-- What a send and an activation list, by what the rows tell.
use Rattle.std.proofs.Common.{◌≡◌, ℕ, pos, true, cond, List, Result, Ok, Err, sym, ◌∙◌, ap}
use Rattle.std.specs.Prelude.{IfOk}
use Rattle.model_states.specs.declared.kind.Kind.TheVariants as kind
use Rattle.model_states.specs.Table.{pull_answer}
use Rattle.page_layers.specs.Pages.{Page}
use Rattle.page_layers.specs.declared.moves.Move.{Move}
use Rattle.page_layers.specs.Axes.{Axis, amount_in}
use Rattle.page_layers.specs.Scrollers.{has_scroller}
use Rattle.model_history.specs.declared.history.Entry.{Entry}
use Rattle.model_history.specs.Scripts.{ScriptModel}
use Rattle.model_history.specs.Frames.{pending, pending_page}
use Rattle.model_history.specs.Scrolls.{next_pulls, next_clamps, clobbers}
use Rattle.model_history.specs.ScrollLaws.{AreRising}
use Rattle.model_history.specs.Accepted.{IsPlayable}
use Rattle.model_history.specs.Legal.{is_open, Legal}
use Rattle.model_steps.specs.Standing.{clamped_by}
use Rattle.model_steps.proofs.ListedMoves.{send_lists, activation_lists}
use Rattle.impl_scroll.specs.declared.row.Row.{Row}
use Rattle.impl_scroll.specs.Rows.{row_value, has_number}
use Rattle.impl_scroll.specs.inner.Places.{AreValues}
use Rattle.impl_scroll.proofs.AfterEvents.{open_idle}

-- what holds of each value that is answered, where two things do
pub from_both : {X E : Type 0} {P Q R : X → Type 0} (r : Result X E) → ((x : X) → P x → Q x → R x) → IfOk r P → IfOk r Q → IfOk r R
from_both (Ok x) f p q = f x p q
from_both (Err e) f p q = p

pub pulls_now : (s : ScriptModel) (n : ℕ) (h : List Entry) (rs : List Row) (ms : List Move) → Legal s n h → is_open h kind.Send ≡ true → AreValues s h rs → AreRising ms
    → ((sc : ℕ) (ax : Axis) → amount_in sc ax ms ≡ pull_answer (row_value rs sc ax)) → ms ≡ next_pulls s h
pulls_now s n h rs ms legal opened is rising amounts = sym (send_lists s n h ms legal (open_idle s n h legal opened) rising (λ sc ax. amounts sc ax ∙ ap pull_answer (is sc ax)))

pub clamps_now : (s : ScriptModel) (n : ℕ) (h : List Entry) (rs : List Row) (p : Page) (ids : List ℕ) (ms : List Move) → IsPlayable s → Legal s n h → AreValues s h rs → p ≡ pending_page s h
    → ((sc : ℕ) → has_number ids sc ≡ clobbers s (pending h) sc) → AreRising ms
    → ((sc : ℕ) (ax : Axis) → amount_in sc ax ms ≡ cond (has_scroller p sc) (clamped_by (has_number ids) p (row_value rs) sc ax) (pos 0)) → ms ≡ next_clamps s h
clamps_now s n h rs p ids ms acc legal is e outright rising amounts =
    sym (activation_lists s n h ms acc legal rising (λ sc ax. amounts sc ax
    ∙ (λ i. cond (has_scroller (e i) sc) (clamped_by (λ k. outright k i) (e i) (λ k x. is k x i) sc ax) (pos 0))))
