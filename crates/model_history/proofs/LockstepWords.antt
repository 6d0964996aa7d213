-- Each way of lockstep leads from a legal past to one past at most, and that is legal.
use Rattle.std.proofs.Common.{ℕ, zero, suc, ◌+◌, ◌<◌, ◌≡◌, Bool, true, false, cond, not, ◌&&◌, ◌||◌, Some, None, List, [], ◌∷◌, ◌++◌, refl, ap, sym, ◌∙◌, subst, arith}
use Rattle.std.specs.Prelude.{MatchBool, is_some, reverse}
use Rattle.std.proofs.lemmas.List.{reverse-reverse}
use Rattle.std.proofs.lemmas.Grind.{reverse_onto}
use Rattle.model_states.specs.declared.kind.Kind.{Kind}
use Rattle.model_states.specs.declared.kind.Kind.TheVariants as kind
use Rattle.model_states.specs.Kinds.{may}
use Rattle.model_history.specs.declared.event.Event.{Event}
use Rattle.model_history.specs.declared.event.Event.TheVariants as event
use Rattle.model_history.specs.declared.input.Input.{Input}
use Rattle.model_history.specs.declared.input.Input.TheVariants as input
use Rattle.model_history.specs.declared.history.Entry.{Entry}
use Rattle.model_history.specs.Scripts.{ScriptModel}
use Rattle.model_history.specs.Scans.{has_ended}
use Rattle.model_history.specs.Frames.{is_left, active}
use Rattle.model_history.specs.Due.{due, is_over, on_if}
use Rattle.model_history.specs.Legal.{sched, is_open, can, Next, Legal, IsLegal}
use Rattle.model_history.specs.Lockstep.{Step, Enters, Stays, Then, Where, Times, While, AtMost, waits, may_send, has_first, is_possible, Pair, MainPart, ActivateNow, PlainFrame, Round, DrawFrame, InputStep, InputSteps, WholeRun, IsLockstep}
use Rattle.model_history.proofs.DueRows.{MayAsk, IsRow, due_row}

-- the way leads to one past at most, and from a legal one to a legal one
pub record Good (s : ScriptModel) (P : Step) : Type 0 where
  pub one : (h g f : List Entry) → P h g → P h f → g ≡ f
  pub legal : (h g : List Entry) → Legal s 1 h → P h g → Legal s 1 g

-- ---- what may come

-- what may come is due where it may come
pub can_due : (s : ScriptModel) (h : List Entry) (k : Kind) (a : ℕ) (e : Event) → can s h k a ≡ Some e → (is_open h k ≡ true) × (due s h k a ≡ Some e)
can_due s h k a e c = go (is_open h k) refl c
  where
    go : (b : Bool) → is_open h k ≡ b → cond b (due s h k a) None ≡ Some e → (is_open h k ≡ true) × (due s h k a ≡ Some e)
    go true is d = (is, d)
    go false is d = absurd (cc)

-- a run that is open for a kind has not ended
pub open_going : (a b : Bool) → (not a && b) ≡ true → a ≡ false
open_going true b h = absurd (cc)
open_going false b h = refl

pub open_may : (a b : Bool) → (not a && b) ≡ true → b ≡ true
open_may true b h = absurd (cc)
open_may false b h = h

-- what may come is the next entry of a legal past
pub can_next : (s : ScriptModel) (n : ℕ) (h : List Entry) (k : Kind) (a : ℕ) (e : Event) → MayAsk k a → a < 2 + n → can s h k a ≡ Some e → Next s n h (record { actor = a; event = e })
can_next s n h k a e asks within c =
    let d : (is_open h k ≡ true) × (due s h k a ≡ Some e) = can_due s h k a e c in
    let row : IsRow k a e = due_row s h k a e d.1 in
    record {
      going = open_going (has_ended h) (may (sched h) k) d.0;
      state = subst (λ (j : Kind). may (sched h) j ≡ true) (sym row.kind) (open_may (has_ended h) (may (sched h) k) d.0);
      is_due = subst (λ (j : Kind). due s h j a ≡ Some e) (sym row.kind) d.1;
      actor = row.actor asks;
      within = within;
    }

-- ---- the words

pub enters : (s : ScriptModel) (k : Kind) (a : ℕ) → MayAsk k a → a < 3 → Good s (Enters s k a)
enters s k a asks within = record {
  one = λ h g f x y. let same : x.0 ≡ y.0 = cc in x.2 ∙ ap (λ (e : Event). record { actor = a; event = e } ∷ h) same ∙ sym y.2;
  legal = λ h g l x. subst (Legal s 1) (sym x.2) (l, can_next s 1 h k a x.0 asks within x.1);
}

pub stays : (s : ScriptModel) → Good s Stays
stays s = record { one = λ h g f x y. x ∙ sym y; legal = λ h g l x. subst (Legal s 1) (sym x) l }

pub then' : (s : ScriptModel) (P Q : Step) → Good s P → Good s Q → Good s (Then P Q)
then' s P Q p q = record {
  one = λ h g f x y. q.one y.0 g f (subst (λ (m : List Entry). Q m g) (p.one h x.0 y.0 x.1 y.1) x.2) y.2;
  legal = λ h g l x. q.legal x.0 g (p.legal h x.0 l x.1) x.2;
}

where_one : (s : ScriptModel) (P Q : Step) → Good s P → Good s Q → (b : Bool) (h g f : List Entry) → MatchBool b (P h g) (Q h g) → MatchBool b (P h f) (Q h f) → g ≡ f
where_one s P Q p q true h g f x y = p.one h g f x y
where_one s P Q p q false h g f x y = q.one h g f x y

where_legal : (s : ScriptModel) (P Q : Step) → Good s P → Good s Q → (b : Bool) (h g : List Entry) → Legal s 1 h → MatchBool b (P h g) (Q h g) → Legal s 1 g
where_legal s P Q p q true h g l x = p.legal h g l x
where_legal s P Q p q false h g l x = q.legal h g l x

pub where' : (s : ScriptModel) (test : List Entry → Bool) (P Q : Step) → Good s P → Good s Q → Good s (Where test P Q)
where' s test P Q p q = record {
  one = λ h. where_one s P Q p q (test h) h;
  legal = λ h. where_legal s P Q p q (test h) h;
}

times_one : (s : ScriptModel) (test : List Entry → Bool) (P : Step) → Good s P → (n m : ℕ) (h g f : List Entry) → Times test P n h g → Times test P m h f → g ≡ f
times_one s test P p zero zero h g f x y = x.1 ∙ sym y.1
times_one s test P p zero (suc m) h g f x y = let a : test h ≡ false = x.0 in let b : test h ≡ true = y.0 in absurd (cc)
times_one s test P p (suc n) zero h g f x y = let a : test h ≡ true = x.0 in let b : test h ≡ false = y.0 in absurd (cc)
times_one s test P p (suc n) (suc m) h g f x y =
    times_one s test P p n m y.1 g f (subst (λ (k : List Entry). Times test P n k g) (p.one h x.1 y.1 x.2 y.2) x.3) y.3

times_legal : (s : ScriptModel) (test : List Entry → Bool) (P : Step) → Good s P → (n : ℕ) (h g : List Entry) → Legal s 1 h → Times test P n h g → Legal s 1 g
times_legal s test P p zero h g l x = subst (Legal s 1) (sym x.1) l
times_legal s test P p (suc n) h g l x = times_legal s test P p n x.1 g (p.legal h x.1 l x.2) x.3

pub while' : (s : ScriptModel) (test : List Entry → Bool) (P : Step) → Good s P → Good s (While test P)
while' s test P p = record {
  one = λ h g f x y. times_one s test P p x.0 y.0 h g f x.1 y.1;
  legal = λ h g l x. times_legal s test P p x.0 h g l x.1;
}

pub at_most : (s : ScriptModel) (n : ℕ) (test : List Entry → Bool) (P : Step) → Good s P → Good s (AtMost n test P)
at_most s zero test P p = stays s
at_most s (suc n) test P p = where' s test (Then P (AtMost n test P)) Stays (then' s P (AtMost n test P) p (at_most s n test P p)) (stays s)

-- ---- the parts

by_compositor : (s : ScriptModel) (k : Kind) → MayAsk k 0 → Good s (Enters s k 0)
by_compositor s k asks = enters s k 0 asks (omega arith)

pub pair : (s : ScriptModel) → Good s (Pair s)
pair s = then' s (Enters s kind.Start 2) (Enters s kind.Done 2) (enters s kind.Start 2 (omega arith) (omega arith)) (enters s kind.Done 2 (omega arith) (omega arith))

pub main_part : (s : ScriptModel) → Good s (MainPart s)
main_part s = then' s _ _ (by_compositor s kind.Send refl)
    (where' s (is_possible s kind.Abort 1) _ _ (enters s kind.Abort 1 refl (omega arith))
    (then' s _ _ (enters s kind.Ready 1 refl (omega arith)) (by_compositor s kind.Commit refl)))

pub activate_now : (s : ScriptModel) → Good s (ActivateNow s)
activate_now s = then' s _ _ (while' s (λ h. not (is_possible s kind.Activate 0 h)) (Pair s) (pair s)) (by_compositor s kind.Activate refl)

pub plain_frame : (s : ScriptModel) → Good s (PlainFrame s)
plain_frame s = then' s _ _ (by_compositor s kind.BeginPlain refl) (then' s _ _ (main_part s)
    (then' s _ _ (where' s waits _ _ (activate_now s) (stays s)) (then' s _ _ (by_compositor s kind.NoDraw refl) (by_compositor s kind.Finish refl))))

pub round : (s : ScriptModel) → Good s (Round s)
round s = where' s waits _ _ (activate_now s) (plain_frame s)

pub draw_frame : (s : ScriptModel) → Good s (DrawFrame s)
draw_frame s = then' s _ _ (by_compositor s kind.BeginDraw refl) (then' s _ _ (where' s (may_send s) _ _ (main_part s) (stays s))
    (then' s _ _ (at_most s s.raster_per_frame (has_first s) (Pair s) (pair s))
    (then' s _ _ (where' s (is_possible s kind.Activate 0) _ _ (by_compositor s kind.Activate refl) (stays s))
    (then' s _ _ (where' s (λ h. is_some (active h)) _ _ (by_compositor s kind.Draw refl) (by_compositor s kind.Skip refl)) (by_compositor s kind.Finish refl)))))

pub input_step : (s : ScriptModel) (i : Input) → Good s (InputStep s i)
input_step s (input.Scroll sc dx dy) = by_compositor s kind.Scroll refl
input_step s (input.Wheel x y dx dy) = by_compositor s kind.Wheel refl
input_step s input.Draw = draw_frame s
input_step s (input.Await f) = then' s _ _ (while' s (λ h. not (is_possible s kind.Await 0 h)) (Round s) (round s)) (by_compositor s kind.Await refl)
input_step s input.Settle = then' s _ _ (where' s waits _ _ (round s) (stays s)) (then' s _ _ (while' s (has_first s) (Pair s) (pair s)) (by_compositor s kind.Settle refl))

pub input_steps : (s : ScriptModel) (is : List Input) → Good s (InputSteps s is)
input_steps s [] = stays s
input_steps s (i ∷ is) = then' s (InputStep s i) (InputSteps s is) (input_step s i) (input_steps s is)

pub whole_run : (s : ScriptModel) → Good s (WholeRun s)
whole_run s = then' s _ _ (input_steps s s.inputs) (then' s _ _ (while' s (λ h. is_left s h || waits h) (Round s) (round s)) (by_compositor s kind.End refl))

-- ---- lockstep histories

pub lockstep_legal : (s : ScriptModel) (history : List Entry) → IsLockstep s history → IsLegal s 1 history
lockstep_legal s history x = (whole_run s).legal [] (reverse history) tt x

pub lockstep_one : (s : ScriptModel) (a b : List Entry) → IsLockstep s a → IsLockstep s b → a ≡ b
lockstep_one s a b x y = sym (reverse-reverse a) ∙ ap (λ (h : List Entry). reverse h) ((whole_run s).one [] (reverse a) (reverse b) x y) ∙ reverse-reverse b

-- what is due as the end is the end
pub end_due : (b : Bool) (e : Event) → on_if b event.End ≡ Some e → e ≡ event.End
end_due true e d = cc
end_due false e d = absurd (cc)

pub lockstep_ends : (s : ScriptModel) (history : List Entry) → IsLockstep s history → (before : List Entry) × (history ≡ before ++ record { actor = 0; event = event.End } ∷ [])
lockstep_ends s history x =
    let (m, p, after_inputs) = x in
    let (n, q, entered) = after_inputs in
    let (e, c, last) = entered in
    let due_end : on_if (is_over s n) event.End ≡ Some e = (can_due s n kind.End 0 e c).1 in
    let is_end : e ≡ event.End = end_due (is_over s n) e due_end in
    (reverse n, sym (reverse-reverse history) ∙ ap (λ (h : List Entry). reverse h) (last ∙ ap (λ (f : Event). record { actor = 0; event = f } ∷ n) is_end) ∙ reverse_onto n (record { actor = 0; event = event.End }) [])
