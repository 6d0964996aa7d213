-- The pulls of a legal past are within the bounds of a main frame.
use Rattle.std.proofs.Common.{ℕ, ℤ, Bool, true, false, cond, List, [], ◌∷◌, arith}
use Rattle.std.proofs.lemmas.Int.{ints}
use Rattle.model_states.specs.Bounds.{IsBoundedNumber}
use Rattle.page_layers.specs.declared.moves.Move.{Move}
use Rattle.model_history.specs.declared.history.Entry.{Entry}
use Rattle.model_history.specs.Scripts.{ScriptModel}
use Rattle.model_history.specs.EventFields.{sends, pulls, moves}
use Rattle.model_history.specs.Scans.{names}
use Rattle.model_history.specs.Frames.{pulls_of}
use Rattle.model_history.specs.ScrollLaws.{IsSmall, AreSmall}
use Rattle.model_history.specs.FrameLaws.{AtEach}
use Rattle.model_history.specs.Accepted.{IsPlayable}
use Rattle.model_history.specs.Legal.{Legal}
use Rattle.model_history.specs.Ended.{AreBounded}
use Rattle.model_history.proofs.Bounds.{all_small}

number_bounded : (z : ℤ) → IsSmall z → IsBoundedNumber z
number_bounded z s = record { above = omega (arith, ints, s.above); below = omega (arith, ints, s.below) }

moves_bounded : (ms : List Move) → AreSmall ms → AreBounded ms
moves_bounded [] s = tt
moves_bounded (m ∷ ms) s = (number_bounded m.dx s.0, number_bounded m.dy s.1, moves_bounded ms s.2)

either_bounded : (b : Bool) (ms ns : List Move) → AreBounded ms → AreBounded ns → AreBounded (cond b ms ns)
either_bounded true ms ns m n = m
either_bounded false ms ns m n = n

sent_bounded : (s : ScriptModel) (h : List Entry) → AtEach (λ g e. AreSmall (pulls e.event) × AreSmall (moves s e.event)) h → (k : ℕ) → AreBounded (pulls_of h k)
sent_bounded s [] each k = tt
sent_bounded s (e ∷ h) each k = either_bounded (names (sends e.event) k) (pulls e.event) (pulls_of h k) (moves_bounded (pulls e.event) each.1.0) (sent_bounded s h each.0 k)

pub pulls_bounded : (s : ScriptModel) (workers : ℕ) (h : List Entry) (k : ℕ) → IsPlayable s → Legal s workers h → AreBounded (pulls_of h k)
pulls_bounded s workers h k a l = sent_bounded s h (all_small s workers h a l) k
