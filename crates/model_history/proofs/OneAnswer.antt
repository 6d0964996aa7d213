-- At most one event of each kind and actor may come.
use Rattle.std.proofs.Common.{◌≡◌, inl, inr, ℕ, ◌+◌, ◌<◌, true, false, not, List, [], ◌∷◌, ◌++◌, reverse, Some, None, refl, sym, ◌∙◌, ap, subst, arith}
use Rattle.std.proofs.lemmas.List.{reverse-append}
use Rattle.model_states.specs.declared.kind.Kind.{Kind}
use Rattle.model_states.specs.declared.kind.Kind.TheVariants as kind
use Rattle.model_states.specs.Kinds.{is_main_idle, is_sent}
use Rattle.model_history.specs.declared.event.Event.{Event}
use Rattle.model_history.specs.declared.event.Event.TheVariants as event
use Rattle.model_history.specs.declared.history.Entry.{Entry}
use Rattle.model_history.specs.Scripts.{ScriptModel}
use Rattle.model_history.specs.EventFields.{kind_of, actor_of, sends, is_last}
use Rattle.model_history.specs.Scans.{newest, has_ended}
use Rattle.model_history.specs.Frames.{changes, pulls_of}
use Rattle.model_history.specs.Due.{on_if, due}
use Rattle.model_history.specs.DueParts.{due_ready, due_abort}
use Rattle.model_history.specs.Legal.{sched, Next, Legal, IsLegal}
use Rattle.model_history.specs.FrameLaws.{AtEach, MayCome, OneOf, is_by_actor, is_stop, has_stopped}
use Rattle.model_history.proofs.BoolFacts.{not_both, by_test, or_neither, or_left_false}
use Rattle.model_history.proofs.DueFacts.{entry, at_end}
use Rattle.model_history.proofs.Course.{course, sent_not_idle}

-- the actor of a kind that has one
actor_for : Kind → ℕ
actor_for kind.Ready = 1
actor_for kind.Abort = 1
actor_for _ = 0

actor_by_kind : (e : Event) → is_by_actor (kind_of e) ≡ false → actor_of e ≡ actor_for (kind_of e)
unfolding actor_for
actor_by_kind (event.Start w q evicted) h = cc
actor_by_kind (event.DoneTile w q) h = cc
actor_by_kind (event.Stop a) h = cc
actor_by_kind _ h = refl

-- two entries of one kind and one actor that may both come are one
pub same_next : (s : ScriptModel) (n : ℕ) (h : List Entry) (e f : Entry) → Next s n h e → Next s n h f
    → kind_of e.event ≡ kind_of f.event → e.actor ≡ f.actor → e ≡ f
same_next s n h e f x y k a =
    let d : Some e.event ≡ Some f.event = sym x.is_due ∙ ((λ i. due s h (k i) (a i)) ∙ y.is_due) in
    let v : e.event ≡ f.event = cc in
    λ i. record { actor = a i; event = v i }

-- and of one kind that has one actor
pub same_kind : (s : ScriptModel) (n : ℕ) (h : List Entry) (e f : Entry) → Next s n h e → Next s n h f
    → kind_of e.event ≡ kind_of f.event → is_by_actor (kind_of e.event) ≡ false → e ≡ f
same_kind s n h e f x y k b =
    let i : e.actor ≡ actor_for (kind_of e.event) = x.actor ∙ actor_by_kind e.event b in
    let j : f.actor ≡ actor_for (kind_of f.event) = y.actor ∙ actor_by_kind f.event (ap is_by_actor (sym k) ∙ b) in
    same_next s n h e f x y k (i ∙ (ap actor_for k ∙ sym j))

-- while a main frame is in flight no end stands
not_last : (s : ScriptModel) (n : ℕ) (h : List Entry) (a : ℕ) (e : Event) → Next s n h (entry a e)
    → is_main_idle (sched (entry a e ∷ h)).main_state ≡ false → is_stop e ≡ false → is_last e ≡ false
not_last s n h a event.End x f p = absurd (not_both (is_main_idle (sched h).main_state) (at_end s n h a x).main f)
not_last s n h a (event.Stop b) x f p = cc
not_last s n h a _ x f p = refl

not_ended : (s : ScriptModel) (n : ℕ) (h : List Entry) → Legal s n h → is_main_idle (sched h).main_state ≡ false → has_stopped h ≡ false → has_ended h ≡ false
not_ended s n [] l f p = refl
not_ended s n (e ∷ h) l f p = or_neither (is_last e.event) (has_ended h) (not_last s n h e.actor e.event l.1 f (or_left_false (is_stop e.event) (has_stopped h) p)) l.1.going

-- an event of a kind for which nothing is due does not come
none_due : (s : ScriptModel) (n : ℕ) (h : List Entry) (k : Kind) → ((a : ℕ) → due s h k a ≡ None) → MayCome s n h k → ⊥
none_due s n h k d m =
    let e = m.0 in
    let y = m.2 in
    let z : Some e.event ≡ None = sym y.is_due ∙ (ap (λ j. due s h j e.actor) m.1 ∙ d e.actor) in
    cc

-- while a main frame is sent it is ready or is aborted
pub ready_or_abort : (s : ScriptModel) (n : ℕ) (h : List Entry) → Legal s n h → is_sent (sched h).main_state ≡ true → has_stopped h ≡ false
    → OneOf (MayCome s n h kind.Ready) (MayCome s n h kind.Abort)
ready_or_abort s n h l t p = by_test (changes s (pulls_of h) k) ready aborted
  where
    idle : is_main_idle (sched h).main_state ≡ false
    idle = sent_not_idle (sched h).main_state t

    going : has_ended h ≡ false
    going = not_ended s n h l idle p

    k : ℕ
    k = ((course s n h l).in_flight idle).0

    last : newest sends h ≡ Some k
    last = ((course s n h l).in_flight idle).1

    ready : changes s (pulls_of h) k ≡ true → OneOf (MayCome s n h kind.Ready) (MayCome s n h kind.Abort)
    ready c =
        let x : Next s n h (entry 1 (event.Ready k)) = record {
          going = going;
          state = t;
          is_due = ap (due_ready s h) last ∙ ap (λ b. on_if b (event.Ready k)) c;
          actor = refl;
          within = omega arith;
        } in
        inl ((entry 1 (event.Ready k), refl, x), none_due s n h kind.Abort (λ a. ap (due_abort s h) last ∙ ap (λ b. on_if (not b) (event.Abort k)) c))

    aborted : changes s (pulls_of h) k ≡ false → OneOf (MayCome s n h kind.Ready) (MayCome s n h kind.Abort)
    aborted c =
        let x : Next s n h (entry 1 (event.Abort k)) = record {
          going = going;
          state = t;
          is_due = ap (due_abort s h) last ∙ ap (λ b. on_if (not b) (event.Abort k)) c;
          actor = refl;
          within = omega arith;
        } in
        inr ((entry 1 (event.Abort k), refl, x), none_due s n h kind.Ready (λ a. ap (due_ready s h) last ∙ ap (λ b. on_if b (event.Ready k)) c))

-- the actors of a legal past
pub few_actors : (s : ScriptModel) (n : ℕ) (h : List Entry) → Legal s n h → AtEach (λ g e. e.actor < 2 + n) h
few_actors s n [] l = tt
few_actors s n (e ∷ h) l = (few_actors s n h l.0, l.1.within)

-- what came before a legal past's newest entries is legal
pub legal_before : (s : ScriptModel) (n : ℕ) (g h : List Entry) → Legal s n (g ++ h) → Legal s n h
legal_before s n [] h l = l
legal_before s n (e ∷ g) h l = legal_before s n g h l.0

pub legal_beginning : (s : ScriptModel) (n : ℕ) (history later : List Entry) → IsLegal s n (history ++ later) → IsLegal s n history
legal_beginning s n history later l = legal_before s n (reverse later) (reverse history) (subst (Legal s n) (reverse-append history later) l)
