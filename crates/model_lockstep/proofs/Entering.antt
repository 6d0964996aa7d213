-- Between the steps of lockstep: what the state is, which events may come, and loops that end.
use Rattle.std.proofs.Common.{ℕ, zero, suc, ◌<◌, ◌≤◌, ◌≡◌, Bool, true, false, cond, not, ◌&&◌, ◌||◌, Some, None, List, [], ◌∷◌, ◌++◌, Option, refl, ap, sym, ◌∙◌, subst, arith}
use Rattle.std.specs.Prelude.{MatchBool}
use Rattle.geom.specs.declared.tile.TileKey.{TileKey}
use Rattle.tile_priority.specs.declared.rank.Rank.{Rank}
use Rattle.model_states.specs.declared.Sched.{Sched}
use Rattle.model_states.specs.declared.kind.Kind.{Kind}
use Rattle.model_states.specs.declared.kind.Kind.TheVariants as kind
use Rattle.model_states.specs.declared.states.ImplState.TheVariants as impl
use Rattle.model_states.specs.declared.states.MainState.TheVariants as main
use Rattle.model_states.specs.declared.states.Begun.{Begun}
use Rattle.model_states.specs.declared.states.Begun.TheVariants as begun
use Rattle.model_states.specs.Kinds.{may, sched_after}
use Rattle.model_history.specs.declared.event.Event.{Event}
use Rattle.model_history.specs.declared.event.Event.TheVariants as event
use Rattle.model_history.specs.declared.history.Entry.{Entry}
use Rattle.model_history.specs.Scripts.{ScriptModel}
use Rattle.model_history.specs.EventFields.{kind_of, sends, begins, starts, finishes, is_last}
use Rattle.model_history.specs.Scans.{newest, counted, held, has_ended}
use Rattle.model_history.specs.Tiles.{without_keys, in_flight}
use Rattle.geom.specs.KeyLists.{same_key, has_key}
use Rattle.model_history.specs.Ranking.{rank_to_start, evicted_for}
use Rattle.model_history.specs.Due.{due, next_input}
use Rattle.model_history.specs.DueParts.{due_start}
use Rattle.model_history.specs.Legal.{sched, can, Legal}
use Rattle.model_history.specs.Lockstep.{Step, Enters, Where, While, Pair, waits}
use Rattle.model_history.proofs.BoolFacts.{or_neither, by_test}
use Rattle.model_history.proofs.DueFacts.{entry}
use Rattle.model_history.proofs.DueRows.{MayAsk}
use Rattle.model_history.proofs.Course.{course}
use Rattle.geom.proofs.KeyLists.{key_itself}
use Rattle.model_history.proofs.TileCourse.{tile_course}
use Rattle.model_history.proofs.LockstepWords.{can_next}

-- the past is legal and has not ended, the scheduler is in this state, and no tile is in flight
pub record Rests (s : ScriptModel) (h : List Entry) (st : Sched) : Type 0 where
  pub legal : Legal s 1 h
  pub going : has_ended h ≡ false
  pub state : sched h ≡ st
  pub none_flies : in_flight h ≡ []

-- no impl frame is open
abbrev pub at_rest : Bool → Sched
at_rest w = record { impl_state = impl.Idle; main_state = main.Idle; has_pending = w; sent_in_frame = false; begun = begun.Nothing }

-- an impl frame was begun for this, and no main frame is in flight
abbrev pub inside : Bool → Bool → Begun → Sched
inside w sent b = record { impl_state = impl.InsideBeginFrame; main_state = main.Idle; has_pending = w; sent_in_frame = sent; begun = b }

-- a later past in which the same inputs are used, and the same impl frames begun for draws
pub record Keeps (h g : List Entry) : Type 0 where
  pub inputs : next_input g ≡ next_input h
  pub begun : newest begins g ≡ newest begins h
  pub sends : counted sends h ≤ counted sends g

pub keeps_all : (h : List Entry) → Keeps h h
keeps_all h = record { inputs = refl; begun = refl; sends = omega arith }

pub keeps_on : (h g f : List Entry) → Keeps h g → Keeps g f → Keeps h f
keeps_on h g f k l = record {
  inputs = l.inputs ∙ k.inputs;
  begun = l.begun ∙ k.begun;
  sends = let a = k.sends in let b = l.sends in omega (arith, a, b);
}

-- P leads from h to a past in this state
pub record Reaches (s : ScriptModel) (P : Step) (h : List Entry) (st : Sched) : Type 0 where
  pub past : List Entry
  pub way : P h past
  pub rests : Rests s past st
  pub keeps : Keeps h past

-- ---- one event

-- the scheduler's state decides whether a kind may come
can_by : (a b : Bool) (x : Option Event) → a ≡ false → b ≡ true → cond (not a && b) x None ≡ x
can_by a b x e f = ap (λ t. cond (not t && b) x None) e ∙ ap (λ t. cond t x None) f

pub can_then : (s : ScriptModel) (h : List Entry) (st : Sched) (k : Kind) (a : ℕ) → Rests s h st → may st k ≡ true → can s h k a ≡ due s h k a
can_then s h st k a r m = can_by (has_ended h) (may (sched h) k) (due s h k a) r.going (ap (λ (t : Sched). may t k) r.state ∙ m)

none_by : (a b : Bool) (x : Option Event) → b ≡ false → cond (not a && b) x None ≡ None
none_by true b x f = refl
none_by false b x f = ap (λ t. cond t x None) f

pub never : (s : ScriptModel) (h : List Entry) (st : Sched) (k : Kind) (a : ℕ) → Rests s h st → may st k ≡ false → can s h k a ≡ None
never s h st k a r m = none_by (has_ended h) (may (sched h) k) (due s h k a) (ap (λ (t : Sched). may t k) r.state ∙ m)

-- an event of this kind that neither ends the run nor starts or ends a tile
pub record IsPlain (k : Kind) (e : Event) : Type 0 where
  pub kind : kind_of e ≡ k
  pub goes_on : is_last e ≡ false
  pub starts_none : starts e ≡ []
  pub finishes_none : finishes e ≡ []

-- what is due in a state that allows it comes
pub enters : (s : ScriptModel) (h : List Entry) (st : Sched) (k : Kind) (a : ℕ) (e : Event) → Rests s h st → MayAsk k a → a < 3 → may st k ≡ true → IsPlain k e → due s h k a ≡ Some e
    → Enters s k a h (entry a e ∷ h) × Rests s (entry a e ∷ h) (sched_after st k)
enters s h st k a e r asks within m p d =
    let c : can s h k a ≡ Some e = can_then s h st k a r m ∙ d in
    let x : Rests s (entry a e ∷ h) (sched_after st k) = record {
      legal = (r.legal, can_next s 1 h k a e asks within c);
      going = or_neither (is_last e) (has_ended h) p.goes_on r.going;
      state = (λ i. sched_after (r.state i) (p.kind i));
      none_flies = (λ i. p.starts_none i ++ without_keys (r.none_flies i) (p.finishes_none i));
    } in
    ((e, c, refl), x)

-- a commit is pending as the state tells
pub waits_as : (s : ScriptModel) (h : List Entry) (st : Sched) → Rests s h st → waits h ≡ st.has_pending
waits_as s h st r = sym (course s 1 h r.legal).pending_state ∙ ap (λ (t : Sched). t.has_pending) r.state

-- ---- a pair

-- the past after the first tile is started and made
abbrev pub after_pair : ScriptModel → List Entry → Rank → List Entry
after_pair s h f = entry 2 (event.DoneTile 0 f.key) ∷ entry 2 (event.Start 0 f.key (evicted_for s h f)) ∷ h

none_held : (s : ScriptModel) (h : List Entry) (o : Option TileKey) → Legal s 1 h → in_flight h ≡ [] → held 0 h ≡ o → o ≡ None
none_held s h None l n e = refl
none_held s h (Some q) l n e =
    let t : has_key (in_flight h) q ≡ true = (tile_course s 1 h l).held_in_flight 0 q e in
    let f : has_key (in_flight h) q ≡ false = ap (λ ks. has_key ks q) n in
    absurd cc

same_out : (b : Bool) (q : TileKey) → b ≡ true → cond (not (b || false)) (q ∷ []) [] ≡ []
same_out true q e = refl
same_out false q e = absurd cc

pub pair : (s : ScriptModel) (h : List Entry) (st : Sched) (f : Rank) → Rests s h st → rank_to_start s h ≡ Some f → Pair s h (after_pair s h f) × Rests s (after_pair s h f) st × Keeps h (after_pair s h f)
pair s h st f r e =
    let start : Event = event.Start 0 f.key (evicted_for s h f) in
    let h1 : List Entry = entry 2 start ∷ h in
    let free : held 0 h ≡ None = none_held s h (held 0 h) r.legal r.none_flies refl in
    let d : due s h kind.Start 2 ≡ Some start = (λ i. due_start s h 0 (free i) (e i)) in
    let c : can s h kind.Start 2 ≡ Some start = can_then s h st kind.Start 2 r refl ∙ d in
    let l1 : Legal s 1 h1 = (r.legal, can_next s 1 h kind.Start 2 start (omega arith) (omega arith) c) in
    let g1 : has_ended h1 ≡ false = r.going in
    let made : Event = event.DoneTile 0 f.key in
    let c1 : can s h1 kind.Done 2 ≡ Some made = can_by (has_ended h1) (may (sched h1) kind.Done) (Some made) g1 refl in
    let x : Rests s (after_pair s h f) st = record {
      legal = (l1, can_next s 1 h1 kind.Done 2 made (omega arith) (omega arith) c1);
      going = r.going;
      state = r.state;
      none_flies = ap (λ (ks : List TileKey). without_keys (f.key ∷ ks) (f.key ∷ [])) r.none_flies ∙ same_out (same_key f.key f.key) f.key (key_itself f.key);
    } in
    ((h1, (start, c, refl), (made, c1, refl)), x, record { inputs = refl; begun = refl; sends = omega arith })

-- ---- words over a test

pub where_true : (test : List Entry → Bool) (P Q : Step) (h g : List Entry) → test h ≡ true → P h g → Where test P Q h g
where_true test P Q h g t p = subst (λ (b : Bool). MatchBool b (P h g) (Q h g)) (sym t) p

pub where_false : (test : List Entry → Bool) (P Q : Step) (h g : List Entry) → test h ≡ false → Q h g → Where test P Q h g
where_false test P Q h g t q = subst (λ (b : Bool). MatchBool b (P h g) (Q h g)) (sym t) q

-- a turn of a loop: what holds holds again, and less is left
pub record Turn (P : Step) (Holds : List Entry → Type 0) (left : List Entry → ℕ) (h : List Entry) : Type 0 where
  pub past : List Entry
  pub way : P h past
  pub again : Holds past
  pub less : left past < left h

-- the end of a loop
pub record Ends (test : List Entry → Bool) (P : Step) (Holds : List Entry → Type 0) (h : List Entry) : Type 0 where
  pub past : List Entry
  pub way : While test P h past
  pub holds : Holds past
  pub over : test past ≡ false

ends_within : (test : List Entry → Bool) (P : Step) (Holds : List Entry → Type 0) (left : List Entry → ℕ)
    → ((g : List Entry) → Holds g → test g ≡ true → Turn P Holds left g) → (n : ℕ) (h : List Entry) → left h < n → Holds h → Ends test P Holds h
ends_within test P Holds left turn zero h l x = absurd (omega (arith, l))
ends_within test P Holds left turn (suc n) h l x = by_test (test h) (more (ends_within test P Holds left turn n)) (λ f. record { past = h; way = (0, (f, refl)); holds = x; over = f })
  where
    more : ((g : List Entry) → left g < n → Holds g → Ends test P Holds g) → test h ≡ true → Ends test P Holds h
    more rest t =
        let u = turn h x t in
        let less = u.less in
        let v = rest u.past (omega (arith, l, less)) u.again in
        record { past = v.past; way = (suc v.way.0, (t, u.past, u.way, v.way.1)); holds = v.holds; over = v.over }

-- a loop whose turns leave less and less has an end
pub while_ends : (test : List Entry → Bool) (P : Step) (Holds : List Entry → Type 0) (left : List Entry → ℕ)
    → ((g : List Entry) → Holds g → test g ≡ true → Turn P Holds left g) → (h : List Entry) → Holds h → Ends test P Holds h
while_ends test P Holds left turn h x = ends_within test P Holds left turn (suc (left h)) h (omega arith) x
