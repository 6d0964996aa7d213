-- What each turn of a loop leaves less of: a pair fewer tiles to make, a round fewer rounds.
use Rattle.std.proofs.Common.{ℕ, suc, ◌≡◌, ◌⊎◌, inl, inr, ◌<◌, ◌==◌, Bool, true, false, not, ◌&&◌, Some, None, List, ◌∷◌, Option, is_some, cond, refl, ap, sym, ◌∙◌, subst, arith}
use Rattle.std.specs.Prelude.{MatchBool}
use Rattle.geom.specs.declared.tile.TileKey.{TileKey}
use Rattle.tile_priority.specs.declared.rank.Rank.{Rank}
use Rattle.model_states.specs.declared.kind.Kind.TheVariants as kind
use Rattle.model_history.specs.declared.event.Event.{Event}
use Rattle.model_history.specs.declared.event.Event.TheVariants as event
use Rattle.model_history.specs.declared.history.Entry.{Entry}
use Rattle.model_history.specs.Scripts.{ScriptModel}
use Rattle.model_history.specs.EventFields.{sends, commits, activates}
use Rattle.model_history.specs.Scans.{newest, counted, was_named, held}
use Rattle.model_history.specs.Frames.{is_left, pending, unless_activated}
use Rattle.model_history.specs.Scrolls.{next_pulls, next_clamps}
use Rattle.model_history.specs.Tiles.{required, are_ready}
use Rattle.model_history.specs.Ranking.{rank_to_start, evicted_for}
use Rattle.model_history.specs.Due.{on_if, input_now, asks_draw}
use Rattle.model_history.specs.DueParts.{due_start, due_done, due_activate}
use Rattle.model_history.specs.Lockstep.{Enters, Stays, Then, Where, waits, is_possible, Pair, MainPart, ActivateNow, PlainFrame, Round}
use Rattle.model_history.proofs.BoolFacts.{and_right, or_left, is_same}
use Rattle.model_history.proofs.DueFacts.{entry}
use Rattle.model_history.proofs.Course.{pending_last}
use Rattle.model_history.proofs.LockstepWords.{can_due}
use Rattle.model_lockstep.specs.Measures.{tiles_left, rounds_left}
use Rattle.model_lockstep.proofs.Entering.{after_pair}
use Rattle.model_lockstep.proofs.TilesLeft.{fewer_left}
use Rattle.model_lockstep.proofs.Playing.{rounds_fall, wait_falls}
use Rattle.model_lockstep.proofs.Fronts as fronts

-- ---- a pair

start_is : (s : ScriptModel) (h : List Entry) (o : Option TileKey) (f : Option Rank) (e : Event) → rank_to_start s h ≡ f → due_start s h 0 o f ≡ Some e → (r : Rank) × (rank_to_start s h ≡ Some r) × (e ≡ event.Start 0 r.key (evicted_for s h r))
start_is s h None (Some r) e i d = (r, i, cc)
start_is s h None None e i d = absurd cc
start_is s h (Some q) f e i d = absurd cc

-- a pair starts and makes the tile that is first
pub pair_is : (s : ScriptModel) (h g : List Entry) → Pair s h g → (r : Rank) × (rank_to_start s h ≡ Some r) × (g ≡ after_pair s h r)
pair_is s h g (m, (e, c, is_m), (d, b, is_g)) =
    let (r, i, starts) = start_is s h (held 0 h) (rank_to_start s h) e refl (can_due s h kind.Start 2 e c).1 in
    let m_is : m ≡ entry 2 (event.Start 0 r.key (evicted_for s h r)) ∷ h = is_m ∙ ap (λ (v : Event). entry 2 v ∷ h) starts in
    let done : due_done 0 (held 0 m) ≡ Some d = (can_due s m kind.Done 2 d b).1 in
    let made : Some (event.DoneTile 0 r.key) ≡ Some d = ap (λ (z : List Entry). due_done 0 (held 0 z)) (sym m_is) ∙ done in
    let ends : d ≡ event.DoneTile 0 r.key = cc in
    (r, i, is_g ∙ ap (λ (v : Event). entry 2 v ∷ m) ends ∙ ap (λ (z : List Entry). entry 2 (event.DoneTile 0 r.key) ∷ z) m_is)

pub pair_falls : (s : ScriptModel) (h g : List Entry) → Pair s h g → tiles_left s g < tiles_left s h
pair_falls s h g p = let (r, i, e) = pair_is s h g p in subst (λ (z : List Entry). tiles_left s z < tiles_left s h) (sym e) (fewer_left s h r i)

-- ---- a round

activate_is : (s : ScriptModel) (h : List Entry) (o : Option ℕ) (e : Event) → due_activate s h o ≡ Some e → (k : ℕ) × (o ≡ Some k) × (e ≡ event.Activate k (next_clamps s h))
activate_is s h None e d = absurd cc
activate_is s h (Some k) e d = by_ready (are_ready s h (required s h)) d
  where
    by_ready : (b : Bool) → on_if b (event.Activate k (next_clamps s h)) ≡ Some e → (j : ℕ) × (Some k ≡ Some j) × (e ≡ event.Activate j (next_clamps s h))
    by_ready true x = (k, refl, cc)
    by_ready false x = absurd cc

-- after an activation no commit is pending
activated : (s : ScriptModel) (h g : List Entry) → Enters s kind.Activate 0 h g → waits g ≡ false
activated s h g (e, c, is_g) =
    let (k, p, is_e) = activate_is s h (pending h) e (can_due s h kind.Activate 0 e c).1 in
    let f : List Entry = entry 0 (event.Activate k (next_clamps s h)) ∷ h in
    let now : g ≡ f = is_g ∙ ap (λ (v : Event). entry 0 v ∷ h) is_e in
    let on : was_named activates f k ≡ true = or_left (k == k) (was_named activates h k) (is_same k k refl) in
    let none : pending f ≡ None = ap (unless_activated f) (pending_last h (newest commits h) k p) ∙ ap (λ t. cond t None (Some k)) on in
    ap waits now ∙ ap is_some none

pub activated_now : (s : ScriptModel) (h g : List Entry) → ActivateNow s h g → waits g ≡ false
activated_now s h g (m, pairs, a) = activated s m g a

pub if_is : (b : Bool) (v e : Event) → on_if b v ≡ Some e → (b ≡ true) × (e ≡ v)
if_is true v e d = (refl, cc)
if_is false v e d = absurd cc

one_sent : (s : ScriptModel) (h g : List Entry) → Enters s kind.Send 0 h g → counted sends g ≡ suc (counted sends h)
one_sent s h g (e, c, is_g) =
    let d = if_is (is_left s h) (event.Send (counted sends h) (next_pulls s h)) e (can_due s h kind.Send 0 e c).1 in
    ap (λ (z : List Entry). counted sends z) (is_g ∙ ap (λ (v : Event). entry 0 v ∷ h) d.1)

main_sends : (s : ScriptModel) (h g : List Entry) → MainPart s h g → counted sends h < counted sends g
main_sends s h g (m, sent, rest) =
    let one = one_sent s h m sent in
    let more = fronts.counts_grow sends m g (fronts.either (is_possible s kind.Abort 1) (Enters s kind.Abort 1) (Then (Enters s kind.Ready 1) (Enters s kind.Commit 0)) (fronts.enters s kind.Abort 1)
    (fronts.both (Enters s kind.Ready 1) (Enters s kind.Commit 0) (fronts.enters s kind.Ready 1) (fronts.enters s kind.Commit 0)) m g rest) in
    omega (arith, one, more)

-- an impl frame for a main frame alone ends with no commit pending
none_waits : (s : ScriptModel) (h g : List Entry) → Where waits (ActivateNow s) Stays h g → waits g ≡ false
none_waits s h g x = by_test (waits h) refl x
  where
    by_test : (b : Bool) → waits h ≡ b → MatchBool b (ActivateNow s h g) (Stays h g) → waits g ≡ false
    by_test true e y = activated_now s h g y
    by_test false e y = ap waits y ∙ e

closes : (s : ScriptModel) (h g : List Entry) → Then (Enters s kind.NoDraw 0) (Enters s kind.Finish 0) h g → waits g ≡ waits h
closes s h g (m, (e, c, is_m), (f, b, is_g)) =
    let first : Some event.NoDraw ≡ Some e = (can_due s h kind.NoDraw 0 e c).1 in
    let last : Some event.Finish ≡ Some f = (can_due s m kind.Finish 0 f b).1 in
    let is_e : e ≡ event.NoDraw = cc in
    let is_f : f ≡ event.Finish = cc in
    let now : g ≡ entry 0 event.Finish ∷ entry 0 event.NoDraw ∷ h =
    is_g ∙ ap (λ (v : Event). entry 0 v ∷ m) is_f ∙ ap (λ (z : List Entry). entry 0 event.Finish ∷ z) (is_m ∙ ap (λ (v : Event). entry 0 v ∷ h) is_e) in
    ap waits now

begins_left : (s : ScriptModel) (h g : List Entry) → Enters s kind.BeginPlain 0 h g → (is_left s h ≡ true) × (counted sends g ≡ counted sends h)
begins_left s h g (e, c, is_g) =
    let d = if_is (not (asks_draw (input_now s h)) && is_left s h) event.BeginPlain e (can_due s h kind.BeginPlain 0 e c).1 in
    (and_right (not (asks_draw (input_now s h))) (is_left s h) d.0, ap (λ (z : List Entry). counted sends z) (is_g ∙ ap (λ (v : Event). entry 0 v ∷ h) d.1))

-- what an impl frame for a main frame alone does
record FrameDoes (s : ScriptModel) (h g : List Entry) : Type 0 where
  left : is_left s h ≡ true
  more_sent : counted sends h < counted sends g
  none_waits : waits g ≡ false

frame_does : (s : ScriptModel) (h g : List Entry) → PlainFrame s h g → FrameDoes s h g
frame_does s h g (m, begun, (n, main, (o, activation, closed))) =
    let b = begins_left s h m begun in
    let same = b.1 in
    let more = main_sends s m n main in
    let on = fronts.counts_grow sends n o (fronts.either waits (ActivateNow s) Stays (fronts.activate_now s) fronts.stays n o activation) in
    let last = fronts.counts_grow sends o g (fronts.both (Enters s kind.NoDraw 0) (Enters s kind.Finish 0) (fronts.enters s kind.NoDraw 0) (fronts.enters s kind.Finish 0) o g closed) in
    record { left = b.0; more_sent = omega (arith, same, more, on, last); none_waits = closes s o g closed ∙ none_waits s n o activation }

-- a round leaves fewer rounds
pub round_falls : (s : ScriptModel) (h g : List Entry) → Round s h g → rounds_left s g < rounds_left s h
round_falls s h g x = by_test (waits h) refl x
  where
    by_test : (b : Bool) → waits h ≡ b → MatchBool b (ActivateNow s h g) (PlainFrame s h g) → rounds_left s g < rounds_left s h
    by_test true e y = wait_falls s h g e (fronts.counts_grow sends h g (fronts.activate_now s h g y)) (activated_now s h g y)
    by_test false e y = let f = frame_does s h g y in rounds_fall s h g f.left f.more_sent f.none_waits

-- it activates the pending commit, or sends a main frame and leaves none pending
pub round_does : (s : ScriptModel) (h g : List Entry) → Round s h g → (waits g ≡ false) × ((waits h ≡ true) ⊎ (counted sends h < counted sends g))
round_does s h g x = by_test (waits h) refl x
  where
    by_test : (b : Bool) → waits h ≡ b → MatchBool b (ActivateNow s h g) (PlainFrame s h g) → (waits g ≡ false) × ((waits h ≡ true) ⊎ (counted sends h < counted sends g))
    by_test true e y = (activated_now s h g y, inl e)
    by_test false e y = let f = frame_does s h g y in (f.none_waits, inr f.more_sent)
