-- Each part of lockstep leads somewhere: main parts, activations, rounds and draws.
use Rattle.std.proofs.Common.{ℕ, zero, suc, ◌≡◌, ◌⊎◌, inl, inr, ◌<◌, ◌≤◌, Bool, true, false, not, ◌||◌, Some, None, List, ◌∷◌, is_some, length, refl, ap, sym, ◌∙◌, subst, arith}
use Rattle.tile_priority.specs.declared.rank.Rank.{Rank}
use Rattle.model_states.specs.declared.Sched.{Sched}
use Rattle.model_states.specs.declared.kind.Kind.TheVariants as kind
use Rattle.model_states.specs.declared.states.Begun.{Begun}
use Rattle.model_states.specs.declared.states.Begun.TheVariants as begun
use Rattle.model_states.specs.Kinds.{is_inside_deadline, may, sched_after}
use Rattle.model_history.specs.declared.event.Event.{Event}
use Rattle.model_history.specs.declared.event.Event.TheVariants as event
use Rattle.model_history.specs.declared.history.Entry.{Entry}
use Rattle.model_history.specs.Scripts.{ScriptModel}
use Rattle.model_history.specs.Accepted.{IsPlayable}
use Rattle.model_history.specs.EventFields.{sends, begins}
use Rattle.model_history.specs.Scans.{newest, counted}
use Rattle.model_history.specs.Frames.{changes, pulls_of, is_left, active, pending}
use Rattle.model_history.specs.Scrolls.{next_pulls, next_clamps}
use Rattle.model_history.specs.Tiles.{required, are_ready, missing_visible}
use Rattle.model_history.specs.Ranking.{rank_to_start}
use Rattle.model_history.specs.Due.{on_if, due, next_input, input_now, asks_draw}
use Rattle.model_history.specs.DueParts.{due_activate, due_draw, due_skip}
use Rattle.model_history.specs.Lockstep.{Step, Enters, Stays, Then, Where, AtMost, waits, may_send, has_first, is_possible, Pair, MainPart, ActivateNow, PlainFrame, Round, DrawFrame}
use Rattle.model_history.proofs.BoolFacts.{by_test, and_left, and_right, and_both, or_either, not_true, not_false, none_or_some, is_below}
use Rattle.model_history.proofs.DueFacts.{entry}
use Rattle.model_lockstep.specs.Measures.{one_if, tiles_left, rounds_left}
use Rattle.model_lockstep.proofs.Entering.{Rests, at_rest, inside, Keeps, keeps_all, keeps_on, Reaches, can_then, never, enters, waits_as, after_pair, pair, where_true, where_false, Turn, Ends, while_ends}
use Rattle.model_lockstep.proofs.Visibles.{required_first}
use Rattle.model_lockstep.proofs.TilesLeft.{fewer_left}

pub some_if : (b : Bool) (e : Event) → is_some (on_if b e) ≡ b
some_if true e = refl
some_if false e = refl

-- ---- the main part

-- a main part ends inside the impl frame, one more frame sent; a commit is pending or not
pub record MainEnds (s : ScriptModel) (h : List Entry) (b : Begun) : Type 0 where
  pub waiting : Bool
  pub reaches : Reaches s (MainPart s) h (inside waiting true b)
  pub one_sent : counted sends reaches.past ≡ suc (counted sends h)

abbrev pub sent : ScriptModel → List Entry → List Entry
sent s h = entry 0 (event.Send (counted sends h) (next_pulls s h)) ∷ h

abbrev is_sent : Begun → Sched
is_sent b = sched_after (inside false false b) kind.Send

aborted : (s : ScriptModel) (h : List Entry) (b : Begun) → Rests s (sent s h) (is_sent b) → Enters s kind.Send 0 h (sent s h)
    → changes s (pulls_of (sent s h)) (counted sends h) ≡ false → MainEnds s h b
aborted s h b r way f =
    let ends : Event = event.Abort (counted sends h) in
    let d : due s (sent s h) kind.Abort 1 ≡ Some ends = ap (λ c. on_if (not c) ends) f in
    let x = enters s (sent s h) (is_sent b) kind.Abort 1 ends r refl (omega arith) refl (record { kind = refl; goes_on = refl; starts_none = refl; finishes_none = refl }) d in
    let t : is_possible s kind.Abort 1 (sent s h) ≡ true = ap is_some (can_then s (sent s h) (is_sent b) kind.Abort 1 r refl ∙ d) in
    record {
      waiting = false;
      reaches = record {
        past = entry 1 ends ∷ sent s h;
        way = (sent s h, way, where_true (is_possible s kind.Abort 1) (Enters s kind.Abort 1) (Then (Enters s kind.Ready 1) (Enters s kind.Commit 0)) (sent s h) (entry 1 ends ∷ sent s h) t x.0);
        rests = x.1;
        keeps = record { inputs = refl; begun = refl; sends = omega arith };
      };
      one_sent = refl;
    }

committed : (s : ScriptModel) (h : List Entry) (b : Begun) → Rests s (sent s h) (is_sent b) → Enters s kind.Send 0 h (sent s h)
    → changes s (pulls_of (sent s h)) (counted sends h) ≡ true → MainEnds s h b
committed s h b r way t =
    let k : ℕ = counted sends h in
    let abort : Event = event.Abort k in
    let ready : Event = event.Ready k in
    let commit : Event = event.Commit k in
    let prepared : List Entry = entry 1 ready ∷ sent s h in
    let none : due s (sent s h) kind.Abort 1 ≡ None = ap (λ c. on_if (not c) abort) t in
    let f : is_possible s kind.Abort 1 (sent s h) ≡ false = ap is_some (can_then s (sent s h) (is_sent b) kind.Abort 1 r refl ∙ none) in
    let d : due s (sent s h) kind.Ready 1 ≡ Some ready = ap (λ c. on_if c ready) t in
    let x = enters s (sent s h) (is_sent b) kind.Ready 1 ready r refl (omega arith) refl (record { kind = refl; goes_on = refl; starts_none = refl; finishes_none = refl }) d in
    let y = enters s prepared (sched_after (is_sent b) kind.Ready) kind.Commit 0 commit x.1 refl (omega arith) refl (record { kind = refl; goes_on = refl; starts_none = refl; finishes_none = refl }) refl in
    record {
      waiting = true;
      reaches = record {
        past = entry 0 commit ∷ prepared;
        way = (sent s h, way, where_false (is_possible s kind.Abort 1) (Enters s kind.Abort 1) (Then (Enters s kind.Ready 1) (Enters s kind.Commit 0)) (sent s h) (entry 0 commit ∷ prepared) f (prepared, x.0, y.0));
        rests = y.1;
        keeps = record { inputs = refl; begun = refl; sends = omega arith };
      };
      one_sent = refl;
    }

pub main_part : (s : ScriptModel) (h : List Entry) (b : Begun) → Rests s h (inside false false b) → is_left s h ≡ true → MainEnds s h b
main_part s h b r left =
    let send : Event = event.Send (counted sends h) (next_pulls s h) in
    let d : due s h kind.Send 0 ≡ Some send = ap (λ c. on_if c send) left in
    let x = enters s h (inside false false b) kind.Send 0 send r refl (omega arith) refl (record { kind = refl; goes_on = refl; starts_none = refl; finishes_none = refl }) d in
    by_test (changes s (pulls_of (sent s h)) (counted sends h)) (committed s h b x.1 x.0) (aborted s h b x.1 x.0)

-- ---- activation

pub pending_there : (s : ScriptModel) (h : List Entry) (st : Sched) → Rests s h st → may st kind.Activate ≡ true → (k : ℕ) × (pending h ≡ Some k)
pending_there s h st r m = none_or_some (pending h) (waits_as s h st r ∙ and_right (not (is_inside_deadline st.impl_state)) st.has_pending m)

-- the pending commit can be activated where all that it needs is ready
pub activatable : (s : ScriptModel) (h : List Entry) (st : Sched) → Rests s h st → may st kind.Activate ≡ true → is_possible s kind.Activate 0 h ≡ are_ready s h (required s h)
activatable s h st r m =
    let (k, e) = pending_there s h st r m in
    ap is_some (can_then s h st kind.Activate 0 r m ∙ ap (due_activate s h) e) ∙ some_if (are_ready s h (required s h)) (event.Activate k (next_clamps s h))

pub activates : (s : ScriptModel) (h : List Entry) (st : Sched) → Rests s h st → may st kind.Activate ≡ true → are_ready s h (required s h) ≡ true → Reaches s (Enters s kind.Activate 0) h (sched_after st kind.Activate)
activates s h st r m ready =
    let (k, e) = pending_there s h st r m in
    let a : Event = event.Activate k (next_clamps s h) in
    let d : due s h kind.Activate 0 ≡ Some a = ap (due_activate s h) e ∙ ap (λ c. on_if c a) ready in
    let x = enters s h st kind.Activate 0 a r refl (omega arith) m (record { kind = refl; goes_on = refl; starts_none = refl; finishes_none = refl }) d in
    record { past = entry 0 a ∷ h; way = x.0; rests = x.1; keeps = record { inputs = refl; begun = refl; sends = omega arith } }

-- a later past in the same state
pub record Stands (s : ScriptModel) (st : Sched) (h g : List Entry) : Type 0 where
  pub rests : Rests s g st
  pub keeps : Keeps h g

pair_turn : (s : ScriptModel) (st : Sched) (h g : List Entry) (f : Rank) → Stands s st h g → rank_to_start s g ≡ Some f → Turn (Pair s) (Stands s st h) (tiles_left s) g
pair_turn s st h g f x e =
    let p = pair s g st f x.rests e in
    record {
      past = after_pair s g f;
      way = p.0;
      again = record { rests = p.1; keeps = keeps_on h g (after_pair s g f) x.keeps p.2 };
      less = fewer_left s g f e;
    }

pub activate_now : (s : ScriptModel) (h : List Entry) (st : Sched) → IsPlayable s → Rests s h st → may st kind.Activate ≡ true → Reaches s (ActivateNow s) h (sched_after st kind.Activate)
activate_now s h st ok r m =
    let u = while_ends (λ g. not (is_possible s kind.Activate 0 g)) (Pair s) (Stands s st h) (tiles_left s) turn h (record { rests = r; keeps = keeps_all h }) in
    let ready : are_ready s u.past (required s u.past) ≡ true = sym (activatable s u.past st u.holds.rests m) ∙ not_false (is_possible s kind.Activate 0 u.past) u.over in
    let a = activates s u.past st u.holds.rests m ready in
    record { past = a.past; way = (u.past, u.way, a.way); rests = a.rests; keeps = keeps_on h u.past a.past u.holds.keeps a.keeps }
  where
    turn : (g : List Entry) → Stands s st h g → not (is_possible s kind.Activate 0 g) ≡ true → Turn (Pair s) (Stands s st h) (tiles_left s) g
    turn g x t =
        let out : are_ready s g (required s g) ≡ false = sym (activatable s g st x.rests m) ∙ not_true (is_possible s kind.Activate 0 g) t in
        let (f, e, now) = required_first s ok g x.rests.none_flies out in
        pair_turn s st h g f x e

-- ---- pairs

-- pairs until none may start
pub all_pairs : (s : ScriptModel) (h : List Entry) (st : Sched) → Rests s h st → Ends (has_first s) (Pair s) (Stands s st h) h
all_pairs s h st r = while_ends (has_first s) (Pair s) (Stands s st h) (tiles_left s) turn h (record { rests = r; keeps = keeps_all h })
  where
    turn : (g : List Entry) → Stands s st h g → has_first s g ≡ true → Turn (Pair s) (Stands s st h) (tiles_left s) g
    turn g x t = let (f, e) = none_or_some (rank_to_start s g) t in pair_turn s st h g f x e

-- at most the given number of pairs
pub some_pairs : (s : ScriptModel) (st : Sched) (n : ℕ) (h : List Entry) → Rests s h st → Reaches s (AtMost n (has_first s) (Pair s)) h st
some_pairs s st zero h r = record { past = h; way = refl; rests = r; keeps = keeps_all h }
some_pairs s st (suc n) h r = by_test (has_first s h) (more (some_pairs s st n)) (λ f. record { past = h; way = where_false (has_first s) (Then (Pair s) (AtMost n (has_first s) (Pair s))) Stays h h f refl; rests = r; keeps = keeps_all h })
  where
    more : ((g : List Entry) → Rests s g st → Reaches s (AtMost n (has_first s) (Pair s)) g st) → has_first s h ≡ true → Reaches s (AtMost (suc n) (has_first s) (Pair s)) h st
    more rest t =
        let (f, e) = none_or_some (rank_to_start s h) t in
        let p = pair s h st f r e in
        let u = rest (after_pair s h f) p.1 in
        record {
          past = u.past;
          way = where_true (has_first s) (Then (Pair s) (AtMost n (has_first s) (Pair s))) Stays h u.past t (after_pair s h f, p.0, u.way);
          rests = u.rests;
          keeps = keeps_on h (after_pair s h f) u.past p.2 u.keeps;
        }

-- ---- rounds

-- the pending commit is activated, where there is one
activate_where : (s : ScriptModel) (h : List Entry) (b : Begun) (w : Bool) → IsPlayable s → Rests s h (inside w true b) → Reaches s (Where waits (ActivateNow s) Stays) h (inside false true b)
activate_where s h b true ok r =
    let a = activate_now s h (inside true true b) ok r refl in
    record { past = a.past; way = where_true waits (ActivateNow s) Stays h a.past (waits_as s h (inside true true b) r) a.way; rests = a.rests; keeps = a.keeps }
activate_where s h b false ok r = record { past = h; way = where_false waits (ActivateNow s) Stays h h (waits_as s h (inside false true b) r) refl; rests = r; keeps = keeps_all h }

-- an impl frame that was not begun for a draw ends
abbrev closed : List Entry → List Entry
closed h = entry 0 event.Finish ∷ entry 0 event.NoDraw ∷ h

pub closes : (s : ScriptModel) (h : List Entry) → Rests s h (inside false true begun.Plain) → Then (Enters s kind.NoDraw 0) (Enters s kind.Finish 0) h (closed h) × Rests s (closed h) (at_rest false)
closes s h r =
    let y = enters s h (inside false true begun.Plain) kind.NoDraw 0 event.NoDraw r refl (omega arith) refl (record { kind = refl; goes_on = refl; starts_none = refl; finishes_none = refl }) refl in
    let z = enters s (entry 0 event.NoDraw ∷ h) (sched_after (inside false true begun.Plain) kind.NoDraw) kind.Finish 0 event.Finish y.1 refl (omega arith) refl (record { kind = refl; goes_on = refl; starts_none = refl; finishes_none = refl }) refl in
    ((entry 0 event.NoDraw ∷ h, y.0, z.0), z.1)

-- a frame for a main frame alone
pub record FrameEnds (s : ScriptModel) (h : List Entry) : Type 0 where
  pub reaches : Reaches s (PlainFrame s) h (at_rest false)
  pub more_sent : counted sends h < counted sends reaches.past

abbrev pub begun_plain : List Entry → List Entry
begun_plain h = entry 0 event.BeginPlain ∷ h

pub plain_frame : (s : ScriptModel) (h : List Entry) → IsPlayable s → Rests s h (at_rest false) → asks_draw (input_now s h) ≡ false → is_left s h ≡ true → FrameEnds s h
plain_frame s h ok r no_draw left =
    let d : due s h kind.BeginPlain 0 ≡ Some event.BeginPlain = ap (λ c. on_if c event.BeginPlain) (and_both (not (asks_draw (input_now s h))) (is_left s h) (ap not no_draw) left) in
    let x = enters s h (at_rest false) kind.BeginPlain 0 event.BeginPlain r refl (omega arith) refl (record { kind = refl; goes_on = refl; starts_none = refl; finishes_none = refl }) d in
    let m = main_part s (begun_plain h) begun.Plain x.1 left in
    let a = activate_where s m.reaches.past begun.Plain m.waiting ok m.reaches.rests in
    let z = closes s a.past a.rests in
    let keeps : Keeps (begun_plain h) a.past = keeps_on (begun_plain h) m.reaches.past a.past m.reaches.keeps a.keeps in
    let one = m.one_sent in
    let more = a.keeps.sends in
    record {
      reaches = record {
        past = closed a.past;
        way = (begun_plain h, x.0, (m.reaches.past, m.reaches.way, (a.past, a.way, z.0)));
        rests = z.1;
        keeps = record { inputs = keeps.inputs; begun = keeps.begun; sends = keeps.sends };
      };
      more_sent = omega (arith, one, more);
    }

-- between two impl frames
pub record Between (s : ScriptModel) (h g : List Entry) : Type 0 where
  pub waiting : Bool
  pub rests : Rests s g (at_rest waiting)
  pub keeps : Keeps h g

-- where no commit waits and none did, fewer rounds are left where more frames were sent
pub rounds_fall : (s : ScriptModel) (h g : List Entry) → is_left s h ≡ true → counted sends h < counted sends g → waits g ≡ false → rounds_left s g < rounds_left s h
unfolding rounds_left
rounds_fall s h g left more none =
    let e : one_if (waits g) ≡ 0 = ap one_if none in
    let l = is_below (counted sends h) (length s.main) left in
    omega (arith, e, l, more)

-- a commit that waited was activated
pub wait_falls : (s : ScriptModel) (h g : List Entry) → waits h ≡ true → counted sends h ≤ counted sends g → waits g ≡ false → rounds_left s g < rounds_left s h
unfolding rounds_left
wait_falls s h g waiting more none =
    let e : one_if (waits g) ≡ 0 = ap one_if none in
    let f : one_if (waits h) ≡ 1 = ap one_if waiting in
    omega (arith, e, f, more)

pub round : (s : ScriptModel) (h g : List Entry) → IsPlayable s → Between s h g → asks_draw (input_now s g) ≡ false → is_left s g || waits g ≡ true → Turn (Round s) (Between s h) (rounds_left s) g
round s h g ok x no_draw more = by_waiting x.waiting x.rests
  where
    by_waiting : (w : Bool) → Rests s g (at_rest w) → Turn (Round s) (Between s h) (rounds_left s) g
    by_waiting true r =
        let a = activate_now s g (at_rest true) ok r refl in
        let t : waits g ≡ true = waits_as s g (at_rest true) r in
        record {
          past = a.past;
          way = where_true waits (ActivateNow s) (PlainFrame s) g a.past t a.way;
          again = record { waiting = false; rests = a.rests; keeps = keeps_on h g a.past x.keeps a.keeps };
          less = wait_falls s g a.past t a.keeps.sends (waits_as s a.past (at_rest false) a.rests);
        }
    by_waiting false r =
        let f : waits g ≡ false = waits_as s g (at_rest false) r in
        let left : is_left s g ≡ true = either (or_either (is_left s g) (waits g) more) f in
        let p = plain_frame s g ok r no_draw left in
        record {
          past = p.reaches.past;
          way = where_false waits (ActivateNow s) (PlainFrame s) g p.reaches.past f p.reaches.way;
          again = record { waiting = false; rests = p.reaches.rests; keeps = keeps_on h g p.reaches.past x.keeps p.reaches.keeps };
          less = rounds_fall s g p.reaches.past left p.more_sent (waits_as s p.reaches.past (at_rest false) p.reaches.rests);
        }
      where
        either : (is_left s g ≡ true) ⊎ (waits g ≡ true) → waits g ≡ false → is_left s g ≡ true
        either (inl t) f = t
        either (inr t) f = absurd cc

-- ---- draws

-- a step that ends inside an impl frame for a draw
pub record InDraw (s : ScriptModel) (P : Step) (h : List Entry) : Type 0 where
  pub waiting : Bool
  pub sent : Bool
  pub reaches : Reaches s P h (inside waiting sent begun.ForDraw)

send_where : (s : ScriptModel) (h : List Entry) (w : Bool) → Rests s h (inside w false begun.ForDraw) → InDraw s (Where (may_send s) (MainPart s) Stays) h
send_where s h w r = by_test (may_send s h) main stays
  where
    stays : may_send s h ≡ false → InDraw s (Where (may_send s) (MainPart s) Stays) h
    stays f = record { waiting = w; sent = false; reaches = record { past = h; way = where_false (may_send s) (MainPart s) Stays h h f refl; rests = r; keeps = keeps_all h } }

    main : may_send s h ≡ true → InDraw s (Where (may_send s) (MainPart s) Stays) h
    main t =
        let none : w ≡ false = sym (waits_as s h (inside w false begun.ForDraw) r) ∙ not_true (waits h) (and_right (is_left s h) (not (waits h)) t) in
        let m = main_part s h begun.ForDraw (subst (λ (v : Bool). Rests s h (inside v false begun.ForDraw)) none r) (and_left (is_left s h) (not (waits h)) t) in
        record {
          waiting = m.waiting;
          sent = true;
          reaches = record {
            past = m.reaches.past;
            way = where_true (may_send s) (MainPart s) Stays h m.reaches.past t m.reaches.way;
            rests = m.reaches.rests;
            keeps = m.reaches.keeps;
          };
        }

abbrev ActivateMaybe : ScriptModel → Step
ActivateMaybe s = Where (is_possible s kind.Activate 0) (Enters s kind.Activate 0) Stays

activate_maybe : (s : ScriptModel) (h : List Entry) (w sent : Bool) → Rests s h (inside w sent begun.ForDraw) → InDraw s (ActivateMaybe s) h
activate_maybe s h false sent r =
    let f : is_possible s kind.Activate 0 h ≡ false = ap is_some (never s h (inside false sent begun.ForDraw) kind.Activate 0 r refl) in
    record { waiting = false; sent = sent; reaches = record { past = h; way = where_false (is_possible s kind.Activate 0) (Enters s kind.Activate 0) Stays h h f refl; rests = r; keeps = keeps_all h } }
activate_maybe s h true sent r = by_test (are_ready s h (required s h)) activated stays
  where
    is : is_possible s kind.Activate 0 h ≡ are_ready s h (required s h)
    is = activatable s h (inside true sent begun.ForDraw) r refl

    stays : are_ready s h (required s h) ≡ false → InDraw s (ActivateMaybe s) h
    stays f = record {
      waiting = true;
      sent = sent;
      reaches = record { past = h; way = where_false (is_possible s kind.Activate 0) (Enters s kind.Activate 0) Stays h h (is ∙ f) refl; rests = r; keeps = keeps_all h };
    }

    activated : are_ready s h (required s h) ≡ true → InDraw s (ActivateMaybe s) h
    activated t =
        let a = activates s h (inside true sent begun.ForDraw) r refl t in
        record {
          waiting = false;
          sent = sent;
          reaches = record { past = a.past; way = where_true (is_possible s kind.Activate 0) (Enters s kind.Activate 0) Stays h a.past (is ∙ t) a.way; rests = a.rests; keeps = a.keeps };
        }

abbrev pub is_active : List Entry → Bool
is_active h = is_some (active h)

abbrev pub drawn : Bool → Bool → Sched
drawn w sent = sched_after (inside w sent begun.ForDraw) kind.Draw

draw_or_skip : (s : ScriptModel) (h : List Entry) (w sent : Bool) (i : ℕ) → Rests s h (inside w sent begun.ForDraw) → newest begins h ≡ Some i
    → Reaches s (Where is_active (Enters s kind.Draw 0) (Enters s kind.Skip 0)) h (drawn w sent)
draw_or_skip s h w sent i r e = by_test (is_active h) draws skips
  where
    draws : is_active h ≡ true → Reaches s (Where is_active (Enters s kind.Draw 0) (Enters s kind.Skip 0)) h (drawn w sent)
    draws t =
        let draw : Event = event.Draw i (missing_visible s h) in
        let d : due s h kind.Draw 0 ≡ Some draw = ap (due_draw s h) e ∙ ap (λ c. on_if c draw) t in
        let x = enters s h (inside w sent begun.ForDraw) kind.Draw 0 draw r refl (omega arith) refl (record { kind = refl; goes_on = refl; starts_none = refl; finishes_none = refl }) d in
        record {
          past = entry 0 draw ∷ h;
          way = where_true is_active (Enters s kind.Draw 0) (Enters s kind.Skip 0) h (entry 0 draw ∷ h) t x.0;
          rests = x.1;
          keeps = record { inputs = refl; begun = refl; sends = omega arith };
        }

    skips : is_active h ≡ false → Reaches s (Where is_active (Enters s kind.Draw 0) (Enters s kind.Skip 0)) h (drawn w sent)
    skips f =
        let skip : Event = event.Skip i in
        let d : due s h kind.Skip 0 ≡ Some skip = ap (due_skip h) e ∙ ap (λ c. on_if (not c) skip) f in
        let x = enters s h (inside w sent begun.ForDraw) kind.Skip 0 skip r refl (omega arith) refl (record { kind = refl; goes_on = refl; starts_none = refl; finishes_none = refl }) d in
        record {
          past = entry 0 skip ∷ h;
          way = where_false is_active (Enters s kind.Draw 0) (Enters s kind.Skip 0) h (entry 0 skip ∷ h) f x.0;
          rests = x.1;
          keeps = record { inputs = refl; begun = refl; sends = omega arith };
        }

-- an impl frame that was begun for a draw ends
pub finishes : (s : ScriptModel) (h : List Entry) (w sent : Bool) → Rests s h (drawn w sent) → Enters s kind.Finish 0 h (entry 0 event.Finish ∷ h) × Rests s (entry 0 event.Finish ∷ h) (at_rest w)
finishes s h w sent r = enters s h (drawn w sent) kind.Finish 0 event.Finish r refl (omega arith) refl (record { kind = refl; goes_on = refl; starts_none = refl; finishes_none = refl }) refl

-- a step that uses the next input
pub record Uses (s : ScriptModel) (P : Step) (h : List Entry) : Type 0 where
  pub past : List Entry
  pub way : P h past
  pub waiting : Bool
  pub rests : Rests s past (at_rest waiting)
  pub used : next_input past ≡ suc (next_input h)

abbrev begun_draw : List Entry → List Entry
begun_draw h = entry 0 (event.Begin (next_input h)) ∷ h

pub draw_frame : (s : ScriptModel) (h : List Entry) (w : Bool) → Rests s h (at_rest w) → asks_draw (input_now s h) ≡ true → Uses s (DrawFrame s) h
draw_frame s h w r draws =
    let i : ℕ = next_input h in
    let d : due s h kind.BeginDraw 0 ≡ Some (event.Begin i) = ap (λ c. on_if c (event.Begin i)) draws in
    let x = enters s h (at_rest w) kind.BeginDraw 0 (event.Begin i) r refl (omega arith) refl (record { kind = refl; goes_on = refl; starts_none = refl; finishes_none = refl }) d in
    let m = send_where s (begun_draw h) w x.1 in
    let p = some_pairs s (inside m.waiting m.sent begun.ForDraw) s.raster_per_frame m.reaches.past m.reaches.rests in
    let a = activate_maybe s p.past m.waiting m.sent p.rests in
    let keeps : Keeps (begun_draw h) a.reaches.past = keeps_on (begun_draw h) p.past a.reaches.past (keeps_on (begun_draw h) m.reaches.past p.past m.reaches.keeps p.keeps) a.reaches.keeps in
    let b = draw_or_skip s a.reaches.past a.waiting a.sent i a.reaches.rests keeps.begun in
    let z = finishes s b.past a.waiting a.sent b.rests in
    record {
      past = entry 0 event.Finish ∷ b.past;
      way = (begun_draw h, x.0, (m.reaches.past, m.reaches.way, (p.past, p.way, (a.reaches.past, a.reaches.way, (b.past, b.way, z.0)))));
      waiting = a.waiting;
      rests = z.1;
      used = b.keeps.inputs ∙ keeps.inputs;
    }
