-- Each input leads somewhere, and so does the whole run: every playable script has a lockstep history.
use Rattle.std.proofs.Common.{ℕ, zero, suc, ◌≡◌, ◌⊎◌, inl, inr, ◌<◌, ◌≤◌, ◌+◌, ◌==◌, Bool, true, false, not, ◌&&◌, ◌||◌, Some, None, List, [], ◌∷◌, Option, is_some, length, drop, refl, ap, sym, ◌∙◌, subst, arith}
use Rattle.std.specs.Prelude.{ℤ, pos, nat_lt, slice_get, reverse}
use Rattle.std.proofs.lemmas.Bool.Decides.{nat_tests}
use Rattle.std.specs.List.{list_all}
use Rattle.std.proofs.lemmas.List.{reverse-reverse}
use Rattle.model_states.specs.declared.Sched.{Sched}
use Rattle.model_states.specs.declared.kind.Kind.TheVariants as kind
use Rattle.model_states.specs.Kinds.{is_main_idle}
use Rattle.model_history.specs.declared.event.Event.{Event}
use Rattle.model_history.specs.declared.event.Event.TheVariants as event
use Rattle.model_history.specs.declared.input.Input.{Input}
use Rattle.model_history.specs.declared.input.Input.TheVariants as input
use Rattle.model_history.specs.declared.history.Entry.{Entry}
use Rattle.model_history.specs.Scripts.{ScriptModel}
use Rattle.model_history.specs.Ranges.{is_u32, input_in_range}
use Rattle.model_history.specs.Accepted.{IsPlayable}
use Rattle.model_history.specs.EventFields.{sends}
use Rattle.model_history.specs.Scans.{counted, newest}
use Rattle.page_layers.specs.Axes.{across, down}
use Rattle.model_history.specs.Frames.{is_left, has_frame_ended, pending, is_empty, active_page}
use Rattle.model_history.specs.Scrolls.{accepted, active_offsets}
use Rattle.model_history.specs.Tiles.{in_flight}
use Rattle.model_history.specs.Ranking.{rank_to_start}
use Rattle.page_layers.specs.Wheels.{wheel_parts, wheel_rest}
use Rattle.page_layers.specs.Hits.{target}
use Rattle.model_history.specs.Due.{on_if, due, due_scroll, due_wheel, due_await, due_settle, next_input, input_now, asks_draw, is_pending_to, is_settled, is_over}
use Rattle.model_history.specs.Legal.{sched}
use Rattle.model_history.specs.Lockstep.{Enters, Stays, Where, waits, is_possible, ActivateNow, PlainFrame, Round, InputStep, InputSteps, WholeRun, IsLockstep}
use Rattle.model_history.proofs.BoolFacts.{by_test, and_left, and_right, and_both, or_left, or_right, or_left_false, or_right_false, not_true, not_false, not_both, is_same, is_below, none_where}
use Rattle.model_history.proofs.DueFacts.{entry}
use Rattle.model_history.proofs.Course.{course, ended_or_in_flight}
use Rattle.model_lockstep.specs.Measures.{rounds_left}
use Rattle.model_lockstep.proofs.Entering.{Rests, at_rest, keeps_all, Reaches, can_then, enters, waits_as, where_true, where_false, Turn, Ends, while_ends}
use Rattle.model_lockstep.proofs.Playing.{some_if, all_pairs, Between, round, Uses, draw_frame, activate_now}

-- ---- the inputs that are left

pub at_front : {X : Type 0} (xs : List X) (n : ℕ) (x : X) (ys : List X) → drop n xs ≡ x ∷ ys → (slice_get xs n ≡ Some x) × (drop (suc n) xs ≡ ys)
at_front [] zero x ys e = absurd cc
at_front [] (suc n) x ys e = absurd cc
at_front (z ∷ xs) zero x ys e = (cc, cc)
at_front (z ∷ xs) (suc n) x ys e = at_front xs n x ys e

pub all_at : {X : Type 0} (f : X → Bool) (xs : List X) (n : ℕ) (x : X) → list_all f xs ≡ true → slice_get xs n ≡ Some x → f x ≡ true
all_at f [] n x t e = absurd cc
all_at {X = X} f (y ∷ xs) zero x t e = let same : y ≡ x = cc in ap f (sym same) ∙ and_left (f y) (list_all f xs) t
all_at f (y ∷ xs) (suc n) x t e = all_at f xs n x (and_right (f y) (list_all f xs) t) e

pub none_after : {X : Type 0} (xs : List X) (n : ℕ) → length xs ≤ n → slice_get xs n ≡ None
none_after [] n l = refl
none_after (x ∷ xs) zero l = absurd (omega (arith, l))
none_after (x ∷ xs) (suc n) l = none_after xs n (omega (arith, l))

-- these inputs are left
pub record IsLeft (s : ScriptModel) (h : List Entry) (is : List Input) : Type 0 where
  pub rest : drop (next_input h) s.inputs ≡ is
  pub count : next_input h + length is ≡ length s.inputs

-- ---- each input

scrolls : (s : ScriptModel) (h : List Entry) (w : Bool) (sc : ℕ) (dx dy : ℤ) → Rests s h (at_rest w) → input_now s h ≡ Some (input.Scroll sc dx dy) → Uses s (Enters s kind.Scroll 0) h
scrolls s h w sc dx dy r e =
    let scroll : Event = event.Scroll (next_input h) (accepted s h sc across dx) (accepted s h sc down dy) in
    let d : due s h kind.Scroll 0 ≡ Some scroll = ap (due_scroll s h (next_input h)) e in
    let x = enters s h (at_rest w) kind.Scroll 0 scroll r refl (omega arith) refl (record { kind = refl; goes_on = refl; starts_none = refl; finishes_none = refl }) d in
    record { past = entry 0 scroll ∷ h; way = x.0; waiting = w; rests = x.1; used = refl }

wheels : (s : ScriptModel) (h : List Entry) (w : Bool) (x y : ℕ) (dx dy : ℤ) → Rests s h (at_rest w) → input_now s h ≡ Some (input.Wheel x y dx dy) → Uses s (Enters s kind.Wheel 0) h
wheels s h w x y dx dy r e =
    let p = active_page s h in
    let at = active_offsets s h in
    let wheel : Event = event.Wheel (next_input h) (target p at (pos x) (pos y)) (wheel_rest p at (pos x) (pos y) across dx) (wheel_rest p at (pos x) (pos y) down dy) (wheel_parts p at (pos x) (pos y) dx dy) in
    let d : due s h kind.Wheel 0 ≡ Some wheel = ap (due_wheel s h (next_input h)) e in
    let z = enters s h (at_rest w) kind.Wheel 0 wheel r refl (omega arith) refl (record { kind = refl; goes_on = refl; starts_none = refl; finishes_none = refl }) d in
    record { past = entry 0 wheel ∷ h; way = z.0; waiting = w; rests = z.1; used = refl }

-- an await is over where its frame has ended and no commit up to it is pending
abbrev pub is_await_over : List Entry → ℕ → Bool
is_await_over h f = has_frame_ended h f && not (is_pending_to f (pending h))

pub await_possible : (s : ScriptModel) (h : List Entry) (w : Bool) (f : ℕ) → Rests s h (at_rest w) → input_now s h ≡ Some (input.Await f) → is_possible s kind.Await 0 h ≡ is_await_over h f
await_possible s h w f r e =
    ap is_some (can_then s h (at_rest w) kind.Await 0 r refl ∙ ap (due_await h (next_input h)) e) ∙ some_if (is_await_over h f) (event.Await (next_input h))

-- where no main frame is left and no commit is pending, each frame of the script has ended
all_ended : (s : ScriptModel) (h : List Entry) (f : ℕ) → Rests s h (at_rest false) → is_left s h ≡ false → f < length s.main → has_frame_ended h f ≡ true
all_ended s h f r none l =
    let sent : f < counted sends h = not_below (counted sends h) (length s.main) f none l in
    by_or (ended_or_in_flight h (course s 1 h r.legal) f sent)
  where
    not_below : (m n f : ℕ) → nat_lt m n ≡ false → f < n → f < m
    not_below m n f e l = grind (arith, nat_tests)

    idle : is_main_idle (sched h).main_state ≡ true
    idle = ap (λ (t : Sched). is_main_idle t.main_state) r.state

    by_or : (has_frame_ended h f ≡ true) ⊎ ((is_main_idle (sched h).main_state ≡ false) × (newest sends h ≡ Some f) × (has_frame_ended h f ≡ false)) → has_frame_ended h f ≡ true
    by_or (inl t) = t
    by_or (inr x) = absurd (not_both (is_main_idle (sched h).main_state) idle x.0)

await_over : (s : ScriptModel) (h : List Entry) (f : ℕ) → Rests s h (at_rest false) → is_left s h ≡ false → f < length s.main → is_await_over h f ≡ true
await_over s h f r none l =
    let p : pending h ≡ None = none_where (pending h) (waits_as s h (at_rest false) r) in
    and_both (has_frame_ended h f) (not (is_pending_to f (pending h))) (all_ended s h f r none l) (ap (λ (o : Option ℕ). not (is_pending_to f o)) p)

-- where an await is not over, a round is left
round_left : (s : ScriptModel) (h : List Entry) (w : Bool) (f : ℕ) → Rests s h (at_rest w) → f < length s.main → is_await_over h f ≡ false → is_left s h || waits h ≡ true
round_left s h true f r l out = or_right (is_left s h) (waits h) (waits_as s h (at_rest true) r)
round_left s h false f r l out = by_test (is_left s h) (or_left (is_left s h) (waits h)) (λ none. absurd (not_both (is_await_over h f) (await_over s h f r none l) out))

pub no_draw : (o : Option Input) (f : ℕ) → o ≡ Some (input.Await f) → asks_draw o ≡ false
no_draw o f e = ap asks_draw e

awaits : (s : ScriptModel) (h : List Entry) (w : Bool) (f : ℕ) → IsPlayable s → Rests s h (at_rest w) → input_now s h ≡ Some (input.Await f) → f < length s.main → Uses s (InputStep s (input.Await f)) h
awaits s h w f ok r e l =
    let u = while_ends (λ g. not (is_possible s kind.Await 0 g)) (Round s) (Between s h) (rounds_left s) turn h (record { waiting = w; rests = r; keeps = keeps_all h }) in
    let g : List Entry = u.past in
    let over : is_await_over g f ≡ true = sym (await_possible s g u.holds.waiting f u.holds.rests (now g u.holds)) ∙ not_false (is_possible s kind.Await 0 g) u.over in
    let await : Event = event.Await (next_input g) in
    let d : due s g kind.Await 0 ≡ Some await = ap (due_await g (next_input g)) (now g u.holds) ∙ ap (λ c. on_if c await) over in
    let x = enters s g (at_rest u.holds.waiting) kind.Await 0 await u.holds.rests refl (omega arith) refl (record { kind = refl; goes_on = refl; starts_none = refl; finishes_none = refl }) d in
    record { past = entry 0 await ∷ g; way = (g, u.way, x.0); waiting = u.holds.waiting; rests = x.1; used = ap suc u.holds.keeps.inputs }
  where
    now : (g : List Entry) → Between s h g → input_now s g ≡ Some (input.Await f)
    now g b = ap (λ n. slice_get s.inputs n) b.keeps.inputs ∙ e

    turn : (g : List Entry) → Between s h g → not (is_possible s kind.Await 0 g) ≡ true → Turn (Round s) (Between s h) (rounds_left s) g
    turn g b t =
        let out : is_await_over g f ≡ false = sym (await_possible s g b.waiting f b.rests (now g b)) ∙ not_true (is_possible s kind.Await 0 g) t in
        round s h g ok b (no_draw (input_now s g) f (now g b)) (round_left s g b.waiting f b.rests l out)

-- a pending commit is activated before the tiles are made
settled_first : (s : ScriptModel) (h : List Entry) (w : Bool) → IsPlayable s → Rests s h (at_rest w) → input_now s h ≡ Some input.Settle → Reaches s (Where waits (Round s) Stays) h (at_rest false)
settled_first s h false ok r e = record { past = h; way = where_false waits (Round s) Stays h h (waits_as s h (at_rest false) r) refl; rests = r; keeps = keeps_all h }
settled_first s h true ok r e =
    let t : waits h ≡ true = waits_as s h (at_rest true) r in
    let a = activate_now s h (at_rest true) ok r refl in
    record { past = a.past; way = where_true waits (Round s) Stays h a.past t (where_true waits (ActivateNow s) (PlainFrame s) h a.past t a.way); rests = a.rests; keeps = a.keeps }

settles : (s : ScriptModel) (h : List Entry) (w : Bool) → IsPlayable s → Rests s h (at_rest w) → input_now s h ≡ Some input.Settle → Uses s (InputStep s input.Settle) h
settles s h w ok r e =
    let a = settled_first s h w ok r e in
    let u = all_pairs s a.past (at_rest false) a.rests in
    let g : List Entry = u.past in
    let used : next_input g ≡ next_input h = u.holds.keeps.inputs ∙ a.keeps.inputs in
    let now : input_now s g ≡ Some input.Settle = ap (λ n. slice_get s.inputs n) used ∙ e in
    let settle : Event = event.Settle (next_input g) in
    let settled : is_settled s g ≡ true = and_both (is_empty (in_flight g)) (not (is_some (rank_to_start s g))) (ap is_empty u.holds.rests.none_flies) (ap not u.over) in
    let d : due s g kind.Settle 0 ≡ Some settle = ap (due_settle s g (next_input g)) now ∙ ap (λ c. on_if c settle) settled in
    let x = enters s g (at_rest false) kind.Settle 0 settle u.holds.rests refl (omega arith) refl (record { kind = refl; goes_on = refl; starts_none = refl; finishes_none = refl }) d in
    record { past = entry 0 settle ∷ g; way = (a.past, a.way, (g, u.way, x.0)); waiting = false; rests = x.1; used = ap suc used }

pub frame_below : (n f : ℕ) → input_in_range n (input.Await f) ≡ true → f < n
frame_below n f t = is_below f n (and_right (is_u32 f) (nat_lt f n) t)

input_step : (s : ScriptModel) (h : List Entry) (w : Bool) (i : Input) → IsPlayable s → Rests s h (at_rest w) → input_now s h ≡ Some i → input_in_range (length s.main) i ≡ true → Uses s (InputStep s i) h
input_step s h w (input.Scroll sc dx dy) ok r e t = scrolls s h w sc dx dy r e
input_step s h w (input.Wheel x y dx dy) ok r e t = wheels s h w x y dx dy r e
input_step s h w input.Draw ok r e t = draw_frame s h w r (ap asks_draw e)
input_step s h w (input.Await f) ok r e t = awaits s h w f ok r e (frame_below (length s.main) f t)
input_step s h w input.Settle ok r e t = settles s h w ok r e

-- ---- all inputs, and the end

record Plays (s : ScriptModel) (is : List Input) (h : List Entry) : Type 0 where
  past : List Entry
  way : InputSteps s is h past
  waiting : Bool
  rests : Rests s past (at_rest waiting)
  used : next_input past ≡ length s.inputs

input_steps : (s : ScriptModel) (is : List Input) (h : List Entry) (w : Bool) → IsPlayable s → Rests s h (at_rest w) → IsLeft s h is → Plays s is h
input_steps s [] h w ok r l = let e = l.count in record { past = h; way = refl; waiting = w; rests = r; used = omega (arith, e) }
input_steps s (i ∷ is) h w ok r l =
    let f = at_front s.inputs (next_input h) i is l.rest in
    let u = input_step s h w i ok r f.0 (all_at (input_in_range (length s.main)) s.inputs (next_input h) i ok.inputs f.0) in
    let used = u.used in
    let e = l.count in
    let left : IsLeft s u.past is = record { rest = ap (λ n. drop n s.inputs) used ∙ f.1; count = omega (arith, used, e) } in
    let p = input_steps s is u.past u.waiting ok u.rests left in
    record { past = p.past; way = (u.past, u.way, p.way); waiting = p.waiting; rests = p.rests; used = p.used }

abbrev pub goes_on : ScriptModel → List Entry → Bool
goes_on s h = is_left s h || waits h

last_rounds : (s : ScriptModel) (h : List Entry) (w : Bool) → IsPlayable s → Rests s h (at_rest w) → next_input h ≡ length s.inputs → Ends (goes_on s) (Round s) (Between s h) h
last_rounds s h w ok r used = while_ends (goes_on s) (Round s) (Between s h) (rounds_left s) turn h (record { waiting = w; rests = r; keeps = keeps_all h })
  where
    turn : (g : List Entry) → Between s h g → goes_on s g ≡ true → Turn (Round s) (Between s h) (rounds_left s) g
    turn g b t =
        let all : next_input g ≡ length s.inputs = b.keeps.inputs ∙ used in
        round s h g ok b (ap asks_draw (none_after s.inputs (next_input g) (omega (arith, all)))) t

pub ends : (s : ScriptModel) (h : List Entry) (w : Bool) → Rests s h (at_rest w) → next_input h ≡ length s.inputs → goes_on s h ≡ false → Enters s kind.End 0 h (entry 0 event.End ∷ h)
ends s h true r used over = absurd (not_both (waits h) (waits_as s h (at_rest true) r) (or_right_false (is_left s h) (waits h) over))
ends s h false r used over =
    let all : (next_input h == length s.inputs) && not (is_left s h) ≡ true = and_both (next_input h == length s.inputs) (not (is_left s h)) (is_same (next_input h) (length s.inputs) used) (ap not (or_left_false (is_left s h) (waits h) over)) in
    let e : is_over s h ≡ true = and_both ((next_input h == length s.inputs) && not (is_left s h)) (is_empty (in_flight h)) all (ap is_empty r.none_flies) in
    (event.End, can_then s h (at_rest false) kind.End 0 r refl ∙ ap (λ c. on_if c event.End) e, refl)

pub whole_run : (s : ScriptModel) → IsPlayable s → (h : List Entry) × WholeRun s [] h
whole_run s ok =
    let p = input_steps s s.inputs [] false ok (record { legal = tt; going = refl; state = refl; none_flies = refl }) (record { rest = refl; count = omega arith }) in
    let u = last_rounds s p.past p.waiting ok p.rests p.used in
    let g : List Entry = u.past in
    (entry 0 event.End ∷ g, (p.past, p.way, (g, u.way, ends s g u.holds.waiting u.holds.rests (u.holds.keeps.inputs ∙ p.used) u.over)))

-- every playable script has a lockstep history
pub lockstep_there : (s : ScriptModel) → IsPlayable s → (history : List Entry) × IsLockstep s history
lockstep_there s ok =
    let w = whole_run s ok in
    (reverse w.0, subst (λ (h : List Entry). WholeRun s [] h) (sym (reverse-reverse w.0)) w.1)
