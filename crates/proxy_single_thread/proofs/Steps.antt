-- The run after an answer.
use Rattle.std.proofs.Common.{◌≡◌, ℕ, true, false, cond, not, ◌&&◌, List, [], ◌∷◌, ◌++◌, Some, None, Result, Ok, Err, refl, sym, ◌∙◌, ap, subst}
use Rattle.std.specs.Prelude.{⊤}
use Rattle.model_states.specs.declared.kind.Kind.{Kind}
use Rattle.model_states.specs.declared.kind.Kind.TheVariants as kind
use Rattle.model_history.specs.declared.event.Event.{Event}
use Rattle.model_history.specs.declared.event.Event.TheVariants as event
use Rattle.model_history.specs.declared.history.Entry.{Entry}
use Rattle.model_history.specs.Scripts.{ScriptModel}
use Rattle.model_history.specs.EventFields.{kind_of}
use Rattle.model_history.specs.Scans.{has_ended}
use Rattle.model_history.specs.Due.{due}
use Rattle.model_history.specs.Legal.{can}
use Rattle.model_history.proofs.DueFacts.{entry}
use Rattle.model_history.proofs.DueRows.{due_row}
use Rattle.impl_log.specs.Runs.{Run, past, with_entry, Entered}
use Rattle.impl_log.proofs.LogSteps.{past_more, now_is}
use Rattle.model_lockstep.specs.declared.compositor.EnterFault.{EnterFault}
use Rattle.model_lockstep.specs.declared.compositor.EnterFault.TheVariants.{NotNow, Memory}
use Rattle.proxy_single_thread.specs.Singles.{SingleEnters}

-- the kind of the event that was entered
pub entered_kind : (r new : Run) (k : Kind) (a : ℕ) (e : Entered r k a new) → kind_of e.event ≡ k
entered_kind r new k a e = (due_row r.script (past r) k a e.event (now_is r.script (past r) k a e.event e.is_now).is_due).kind

-- the past with the entry
pub past_with : (r new : Run) (a : ℕ) (e : Event) → new ≡ with_entry r a e → past new ≡ entry a e ∷ past r
past_with r new a e is = ap (λ (z : Run). past z) is ∙ past_more r.entries (r.entries ++ entry a e ∷ []) (entry a e) refl

-- what stays with each entry of a kind stays with an answer
pub answered : (P : Run → Type 0) (r new : Run) (k : Kind) (a : ℕ) (x : Result ⊤ EnterFault) → SingleEnters r k a new x → ((e : Event) → kind_of e ≡ k → new ≡ with_entry r a e → P new) → P r → P new
answered P r new k a (Ok done) answer next old = next answer.event (entered_kind r new k a answer) answer.is_entered
answered P r new k a (Err NotNow) answer next old = subst P (sym answer.1) old
answered P r new k a (Err (Memory e)) answer next old = subst P (sym answer) old

-- a stop may come before the end
stop_now : (s : ScriptModel) (h : List Entry) (a : ℕ) → has_ended h ≡ false → can s h kind.Stop a ≡ Some (event.Stop a)
stop_now s h a f = ap (λ b. cond (not b && true) (due s h kind.Stop a) None) f

pub stop_entered : (r new : Run) (a : ℕ) → has_ended (past r) ≡ false → new ≡ with_entry r a (event.Stop a) → Entered r kind.Stop a new
stop_entered r new a f is = record { event = event.Stop a; is_now = stop_now r.script (past r) a f; is_entered = is }
