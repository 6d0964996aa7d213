-- What the main side tells of the frame that was sent last.
use Rattle.std.proofs.Common.{◌≡◌, ℕ, suc, Bool, true, false, List, Option, Some, None, is_some, refl, ◌∙◌, ap, arith}
use Rattle.model_states.specs.Kinds.{is_sent}
use Rattle.page_layers.specs.declared.moves.Move.{Move}
use Rattle.model_history.specs.Scripts.{ScriptModel}
use Rattle.model_history.specs.EventFields.{sends}
use Rattle.model_history.specs.Scans.{newest, counted}
use Rattle.model_history.specs.Frames.{changes, pulls_of}
use Rattle.model_history.specs.Legal.{sched, Legal}
use Rattle.main_host.specs.declared.main_end.MainEnd.{MainEnd}
use Rattle.impl_log.specs.Runs.{Run, past}
use Rattle.proxy_single_thread.specs.declared.main_side.MainSide.{MainSide}
use Rattle.proxy_single_thread.specs.inner.Sides.{IsInFlight, IsMainOf, IsMain, WasRun}
use Rattle.proxy_single_thread.proofs.MainPulls.{some_last}

-- what was run tells whether the frame that was sent last changes something
module _ (s : ScriptModel) (ps : ℕ → List Move) (n k : ℕ) (last : n ≡ suc k) (side : MainSide) where
  behind_tells : (o : Option MainEnd) → IsInFlight s ps n side o → is_some o ≡ true → side.changed ≡ changes s ps k
  behind_tells None m t = absurd cc
  behind_tells (Some e) m t = let l = m.last in let same : m.frame ≡ k = omega (arith, last, l) in m.changed ∙ ap (changes s ps) same

  side_tells : (b : Bool) → IsMainOf s ps n side b → (b ≡ true → is_some side.end ≡ true) → side.changed ≡ changes s ps k
  side_tells false m was = m.changed k last
  side_tells true m was = behind_tells side.end m (was refl)

pub main_tells : (r : Run) (side : MainSide) → Legal r.script r.workers (past r) → IsMain r side → WasRun r side → (k : ℕ) → newest sends (past r) ≡ Some k → side.changed ≡ changes r.script (pulls_of (past r)) k
main_tells r side legal m was k e = side_tells r.script (pulls_of (past r)) (counted sends (past r)) k (some_last r.script r.workers (past r) legal k e) side (is_sent (sched (past r)).main_state) m was
