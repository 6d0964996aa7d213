-- Which entries a run takes, and where a walk stops.
use Rattle.std.proofs.Common.{ℕ, suc, ◌+◌, ◌<◌, ◌≡◌, Bool, true, false, cond, not, ◌&&◌, Some, None, List, [], ◌∷◌, ◌++◌, length, get_or, take, drop, refl, ap, sym, ◌∙◌, subst, arith, drop-cons, take-append-drop}
use Rattle.std.specs.Prelude.{Option}
use Rattle.std.specs.Bool.{Decides}
use Rattle.std.proofs.lemmas.List.{length-take-le}
use Rattle.model_history.specs.declared.event.Event.{Event}
use Rattle.model_history.specs.declared.event.Event.TheVariants as event
use Rattle.model_history.specs.declared.history.Entry.{Entry}
use Rattle.model_history.specs.EventFields.{kind_of}
use Rattle.model_history.specs.Scans.{has_ended}
use Rattle.model_history.specs.Scripts.{ScriptModel}
use Rattle.model_history.specs.Due.{due}
use Rattle.model_history.specs.Legal.{is_open, can, Next, Legal}
use Rattle.impl_log.specs.Runs.{Run, past, with_entry, Entered}
use Rattle.recording_judge.specs.Judging.{JudgesEntry}
use Rattle.test_histories.specs.Walks.{WalkStopsAt, WalkTakes}

-- ---- an entry that may come

open_both : (a b : Bool) → a ≡ false → b ≡ true → (not a && b) ≡ true
open_both true b ended may = absurd (cc (ended))
open_both false b ended may = may

where_open : (b : Bool) (x y : Option Event) → b ≡ true → x ≡ y → cond b x None ≡ y
where_open true x y is same = same
where_open false x y is same = absurd (cc (is))

-- an entry that may come is the event that its kind and its actor have now
pub next_now : (s : ScriptModel) (n : ℕ) (h : List Entry) (e : Entry) → Next s n h e → can s h (kind_of e.event) e.actor ≡ Some e.event
next_now s n h e next =
    where_open (is_open h (kind_of e.event)) (due s h (kind_of e.event) e.actor) (Some e.event)
    (open_both (has_ended h) _ next.going next.state) next.is_due

-- ---- what was entered

-- what was entered tells whether the entry was
pub taken : (old new : Run) (e : Entry) (b : Bool) → Entered old (kind_of e.event) e.actor new
    → ((before : List Entry) (newest : Entry) → new.entries ≡ before ++ newest ∷ [] → Decides b (newest.event ≡ e.event)) → WalkTakes old e new b
taken old new e true entered tells =
    let same = (tells old.entries (record { actor = e.actor; event = entered.event }) (ap (λ (r : Run). r.entries) entered.is_entered)).0 refl in
    subst (λ (x : Event). new ≡ with_entry old e.actor x) same entered.is_entered
taken old new e false entered tells = λ next.
    let same : entered.event ≡ e.event = cc (next_now old.script old.workers (past old) e next, entered.is_now) in
    absurd (cc ((tells old.entries (record { actor = e.actor; event = entered.event }) (ap (λ (r : Run). r.entries) entered.is_entered)).1 same))

-- what a judge says of an entry tells whether the entry may come
pub judged : (old new : Run) (e : Entry) (b : Bool) → JudgesEntry old e new b → WalkTakes old e new b
judged old new e true enters = enters.1
judged old new e false enters = enters.0

-- ---- where a walk stops

-- the entries before a place were taken, and the one there may not come
pub stops_here : (s : ScriptModel) (n : ℕ) (r new : Run) (entries : List Entry) (place : ℕ) (e : Entry) (b : Bool) → r.script ≡ s → r.workers ≡ n → place < length entries → e ≡ get_or entries place e → r.entries ≡ take place entries
    → Legal r.script r.workers (past r) → WalkTakes r e new b → b ≡ false → WalkStopsAt s n entries place
stops_here s n r new entries place e true script workers lt is taken legal stops none = absurd (cc (none))
stops_here s n r new entries place e false script workers lt is taken legal stops none = record {
  before = r.entries;
  entry = e;
  later = drop (suc place) entries;
  is = sym (take-append-drop place entries) ∙ ap (λ (es : List Entry). es ++ drop place entries) (sym taken) ∙ ap (λ (es : List Entry). r.entries ++ es) (drop-cons entries place e lt ∙ ap (λ (x : Entry). x ∷ drop (suc place) entries) (sym is));
  at = ap length taken ∙ length-take-le place entries (omega arith);
  legal = subst (λ (t : ScriptModel). Legal t n (past r)) script (subst (λ (m : ℕ). Legal r.script m (past r)) workers legal);
  stops = λ next. stops (subst (λ (t : ScriptModel). Next t r.workers (past r) e) (sym script) (subst (λ (m : ℕ). Next s m (past r) e) (sym workers) next));
}
