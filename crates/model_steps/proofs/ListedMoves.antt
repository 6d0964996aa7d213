-- What a send and an activation list, by the five values.
use Rattle.std.proofs.Common.{◌≡◌, ℕ, ℤ, pos, cond, List, None, sym, ◌∙◌, ap}
use Rattle.model_states.specs.Table.{pull_answer}
use Rattle.page_layers.specs.declared.moves.Move.{Move}
use Rattle.page_layers.specs.Axes.{Axis, amount_in}
use Rattle.page_layers.specs.Scrollers.{has_scroller}
use Rattle.model_history.specs.declared.history.Entry.{Entry}
use Rattle.model_history.specs.Scripts.{ScriptModel}
use Rattle.model_history.specs.Frames.{pending, pending_page}
use Rattle.model_history.specs.Scrolls.{next_pulls, next_clamps, clobbers}
use Rattle.model_history.specs.ScrollLaws.{frame_in_flight, AreRising}
use Rattle.model_history.specs.Values.{values}
use Rattle.model_history.specs.Accepted.{IsPlayable}
use Rattle.model_history.specs.Legal.{Legal}
use Rattle.model_history.proofs.MoveLists.{one_rising_list}
use Rattle.model_history.proofs.RisingMoves.{pulls_rise, clamps_rise}
use Rattle.model_history.proofs.PastFacts.{amount_pulled}
use Rattle.model_history.proofs.ValueReadings.{unsent_is_value}
use Rattle.model_history.proofs.Offsets.{amount_clamped}
use Rattle.model_steps.specs.Standing.{clamped_by}
use Rattle.model_steps.proofs.StandingFacts.{clamp_is}

pub send_lists : (s : ScriptModel) (n : ℕ) (h : List Entry) (ms : List Move) → Legal s n h → frame_in_flight h ≡ None → AreRising ms
    → ((sc : ℕ) (ax : Axis) → amount_in sc ax ms ≡ pull_answer (values s sc ax h)) → next_pulls s h ≡ ms
send_lists s n h ms l idle r same =
    one_rising_list (next_pulls s h) ms (pulls_rise s h) r (λ sc ax. amount_pulled s h sc ax ∙ (unsent_is_value s n h sc ax l idle ∙ sym (same sc ax)))

pub activation_lists : (s : ScriptModel) (n : ℕ) (h : List Entry) (ms : List Move) → IsPlayable s → Legal s n h → AreRising ms
    → ((sc : ℕ) (ax : Axis) → amount_in sc ax ms ≡ cond (has_scroller (pending_page s h) sc) (clamped_by (clobbers s (pending h)) (pending_page s h) (λ sc ax. values s sc ax h) sc ax) (pos 0))
    → next_clamps s h ≡ ms
activation_lists s n h ms a l r same =
    one_rising_list (next_clamps s h) ms (clamps_rise s h a) r
    (λ sc ax. amount_clamped s h sc ax ∙ (ap (λ (z : ℤ). cond (has_scroller (pending_page s h) sc) z (pos 0)) (clamp_is s n h l sc ax) ∙ sym (same sc ax)))
