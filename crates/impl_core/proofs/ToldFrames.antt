-- The main frame that a core tells of.
use Rattle.std.proofs.Common.{◌≡◌, ℕ, Bool, true, false, cond, List, Option, Some, None, option_map, refl, sym, ◌∙◌, ap}
use Rattle.model_states.specs.Kinds.{is_sent}
use Rattle.page_layers.specs.declared.moves.Move.{Move}
use Rattle.model_history.specs.EventFields.{sends}
use Rattle.model_history.specs.Scans.{newest}
use Rattle.model_history.specs.Frames.{pulls_of}
use Rattle.model_history.specs.Legal.{sched}
use Rattle.impl_log.specs.Runs.{Run, past}
use Rattle.impl_core.specs.Replies.{told_frame}

-- a main frame is in flight; it was sent last, and got these pulls
pub record IsToldFrame (r : Run) (k : ℕ) (ms : List Move) : Type 0 where
  pub sent : is_sent (sched (past r)).main_state ≡ true
  pub last : newest sends (past r) ≡ Some k
  pub pulls : ms ≡ pulls_of (past r) k

pub told_frame_is : (r : Run) (k : ℕ) (ms : List Move) → Some (k, ms) ≡ told_frame r → IsToldFrame r k ms
told_frame_is r k ms e = by_cases (is_sent (sched (past r)).main_state) (newest sends (past r)) refl refl e
  where
    number_of : (p q : ℕ × List Move) → Some p ≡ Some q → p.0 ≡ q.0
    number_of p q i = let j : p ≡ q = cc in ap (λ (z : ℕ × List Move). z.0) j

    moves_of : (p q : ℕ × List Move) → Some p ≡ Some q → p.1 ≡ q.1
    moves_of p q i = let j : p ≡ q = cc in ap (λ (z : ℕ × List Move). z.1) j

    by_cases : (b : Bool) (o : Option ℕ) → is_sent (sched (past r)).main_state ≡ b → newest sends (past r) ≡ o
        → ◌≡◌ {A = Option (ℕ × List Move)} (Some (k, ms)) (cond b (option_map (λ j. (j, pulls_of (past r) j)) o) None) → IsToldFrame r k ms
    by_cases true (Some j) t l e =
        let i : k ≡ j = number_of (k, ms) (j, pulls_of (past r) j) e in
        record { sent = t; last = l ∙ ap Some (sym i); pulls = moves_of (k, ms) (j, pulls_of (past r) j) e ∙ ap (pulls_of (past r)) (sym i) }
    by_cases true None t l e = absurd cc
    by_cases false o t l e = absurd cc
