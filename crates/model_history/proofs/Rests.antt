-- While nothing scrolls after an activation, what is visible is what the activation needed.
use Rattle.std.proofs.Common.{◌≡◌, ℕ, suc, ◌<◌, ℤ, ◌+ℤ◌, ◌-ℤ◌, Bool, true, false, cond, not, List, [], ◌∷◌, filter, refl, sym, ◌∙◌, ap, arith}
use Rattle.std.proofs.lemmas.Int.{ints}
use Rattle.geom.specs.declared.rect.Point.{Point}
use Rattle.geom.specs.declared.tile.TileKey.{TileKey}
use Rattle.model_states.specs.declared.Synced.{Synced}
use Rattle.model_states.specs.Table as table
use Rattle.page_properties.specs.OffsetMap.{origin}
use Rattle.page_layers.specs.Pages.{Page}
use Rattle.model_history.specs.declared.event.Event.{Event}
use Rattle.model_history.specs.declared.event.Event.TheVariants as event
use Rattle.page_layers.specs.declared.moves.Move.{Move}
use Rattle.model_history.specs.declared.history.Entry.{Entry}
use Rattle.model_history.specs.Scripts.{ScriptModel}
use Rattle.page_layers.specs.Axes.{Axis, across, down, amount_in}
use Rattle.page_layers.specs.Scrollers.{has_scroller, offsets_in}
use Rattle.model_history.specs.Frames.{page, pulls_of, active, up_to}
use Rattle.model_history.specs.Scrolls.{offset, pending_offset, offset_then}
use Rattle.model_history.specs.Values.{values}
use Rattle.tile_visible.specs.Visible.{visible_keys}
use Rattle.model_history.specs.Stamps.{stamp_in}
use Rattle.geom.specs.KeyLists.{same_key, has_key}
use Rattle.model_history.specs.Tiles.{visible_in, active_tree, ready, required, pinned, missing_visible}
use Rattle.model_history.specs.Legal.{Next, Legal}
use Rattle.model_history.specs.FrameLaws.{AtEach}
use Rattle.model_history.specs.TileLaws.{lacking, is_at_rest}
use Rattle.model_history.proofs.BoolFacts.{or_left, or_right}
use Rattle.model_history.proofs.DueFacts.{entry, at_activate, at_draw}
use Rattle.model_history.proofs.Course.{course}
use Rattle.model_history.proofs.PageFacts.{page_alike}
use Rattle.model_history.proofs.FrameFacts.{pulls_stay, active_sent}
use Rattle.model_history.proofs.KeyFacts.{key_itself}
use Rattle.model_history.proofs.StampFacts.{stamp_alike}
use Rattle.model_history.proofs.Pins.{pinned_ready}
use Rattle.model_history.proofs.ValueSums.{sums}
use Rattle.model_history.proofs.Offsets.{offset_is_value, before, activated}

-- what is visible where the scrollers of a page stand at the same places

place_alike : (b : Bool) (x y : Point) → (b ≡ true → x ≡ y) → cond b x origin ≡ cond b y origin
place_alike true x y f = f refl
place_alike false x y f = refl

offsets_alike : (p : Page) (at to : ℕ → Axis → ℤ) → ((sc : ℕ) (ax : Axis) → has_scroller p sc ≡ true → at sc ax ≡ to sc ax) → (sc : ℕ) → offsets_in p at sc ≡ offsets_in p to sc
offsets_alike p at to f sc =
    place_alike (has_scroller p sc) (record { x = at sc across; y = at sc down }) (record { x = to sc across; y = to sc down })
    (λ t. λ i. record { x = f sc across t i; y = f sc down t i })

visible_alike : (s : ScriptModel) (ps qs : ℕ → List Move) (n : ℕ) (at to : ℕ → Axis → ℤ) → ((k : ℕ) → k < n → ps k ≡ qs k)
    → ((sc : ℕ) (ax : Axis) → has_scroller (page s qs n) sc ≡ true → at sc ax ≡ to sc ax)
    → visible_keys (page s ps n) (offsets_in (page s ps n) at) (stamp_in s ps n) ≡ visible_keys (page s qs n) (offsets_in (page s qs n) to) (stamp_in s qs n)
visible_alike s ps qs n at to f g =
    let p = page_alike s ps qs n f in
    (λ i. visible_keys (p i) (offsets_in (p i) at) (λ layer place. stamp_alike s ps qs n f layer place i))
    ∙ (λ i. visible_keys (page s qs n) (λ sc. offsets_alike (page s qs n) at to g sc i) (stamp_in s qs n))

-- where a scroller stands: all events but scrolls, wheels and activations leave it there

retired_too : (a d m : ℤ) → (a +ℤ m) +ℤ (d -ℤ m) ≡ a +ℤ d
retired_too a d m = omega (arith, ints)

offset_stays : (s : ScriptModel) (n : ℕ) (h : List Entry) (e : Entry) (sc : ℕ) (ax : Axis) → Legal s n (e ∷ h)
    → table.active_value (values s sc ax (e ∷ h)) ≡ table.active_value (values s sc ax h) → offset s (e ∷ h) sc ax ≡ offset s h sc ax
offset_stays s n h e sc ax l v =
    offset_is_value s (e ∷ h) sc ax (sums s n sc ax (e ∷ h) l) ∙ (v ∙ sym (offset_is_value s h sc ax (sums s n sc ax h l.0)))

to_pending : (pb r x at_then new : ℤ) → at_then ≡ pb +ℤ r → x ≡ new -ℤ at_then → pb +ℤ (r +ℤ x) ≡ new
to_pending pb r x at_then new e f = omega (arith, ints, e, f)

-- an activation brings each scroller of its page to its pending offset
pub activated_offset : (s : ScriptModel) (n : ℕ) (h : List Entry) (a k : ℕ) (ms : List Move) (sc : ℕ) (ax : Axis) → Legal s n (entry a (event.Activate k ms) ∷ h)
    → has_scroller (page s (pulls_of h) (suc k)) sc ≡ true → offset s (entry a (event.Activate k ms) ∷ h) sc ax ≡ pending_offset s h sc ax
activated_offset s n h a k ms sc ax l t =
    let d = at_activate s n h a k ms l.1 in
    let v : Synced = values s sc ax h in
    offset_is_value s (entry a (event.Activate k ms) ∷ h) sc ax (sums s n sc ax (entry a (event.Activate k ms) ∷ h) l)
    ∙ to_pending v.pending_base (v.active_delta -ℤ v.reflected_pending) (amount_in sc ax ms) (offset_then s h sc ax) (pending_offset s h sc ax)
    (before s n h k sc ax l.0 d.frame).then_at ((activated s n h a k ms sc ax l.0 l.1).of_page t)

-- what is visible

visible_stays : (s : ScriptModel) (n : ℕ) (h : List Entry) (a : ℕ) (e : Event) → Legal s n (entry a e ∷ h)
    → ((sc : ℕ) (ax : Axis) → offset s (entry a e ∷ h) sc ax ≡ offset s h sc ax)
    → visible_keys (page s (pulls_of (entry a e ∷ h)) (up_to (active h))) (offsets_in (page s (pulls_of (entry a e ∷ h)) (up_to (active h))) (offset s (entry a e ∷ h))) (stamp_in s (pulls_of (entry a e ∷ h)) (up_to (active h)))
    ≡ visible_in (active_tree s h)
visible_stays s n h a e l o =
    visible_alike s (pulls_of (entry a e ∷ h)) (pulls_of h) (up_to (active h)) (offset s (entry a e ∷ h)) (offset s h)
    (λ k m. let sent = active_sent h (course s n h l.0) in pulls_stay s n h a e l.1 k (omega arith)) (λ sc ax t. o sc ax)

visible_activated : (s : ScriptModel) (n : ℕ) (h : List Entry) (a k : ℕ) (ms : List Move) → Legal s n (entry a (event.Activate k ms) ∷ h)
    → visible_in (active_tree s (entry a (event.Activate k ms) ∷ h)) ≡ required s h
visible_activated s n h a k ms l =
    let e = (at_activate s n h a k ms l.1).frame in
    visible_alike s (pulls_of h) (pulls_of h) (suc k) (offset s (entry a (event.Activate k ms) ∷ h)) (pending_offset s h) (λ j m. refl)
    (λ sc ax t. activated_offset s n h a k ms sc ax l t)
    ∙ sym (λ i. visible_keys (page s (pulls_of h) (up_to (e i))) (offsets_in (page s (pulls_of h) (up_to (e i))) (pending_offset s h)) (stamp_in s (pulls_of h) (up_to (e i))))

one_step : (s : ScriptModel) (n : ℕ) (h : List Entry) (a : ℕ) (e : Event) → Legal s n (entry a e ∷ h) → (is_at_rest h ≡ true → visible_in (active_tree s h) ≡ pinned s h)
    → is_at_rest (entry a e ∷ h) ≡ true → visible_in (active_tree s (entry a e ∷ h)) ≡ pinned s (entry a e ∷ h)
one_step s n h a (event.Send k ms) l c t =
    visible_stays s n h a (event.Send k ms) l (λ sc ax. offset_stays s n h (entry a (event.Send k ms)) sc ax l refl) ∙ c t
one_step s n h a (event.Commit k) l c t =
    visible_stays s n h a (event.Commit k) l (λ sc ax. offset_stays s n h (entry a (event.Commit k)) sc ax l refl) ∙ c t
one_step s n h a (event.Abort k) l c t =
    visible_stays s n h a (event.Abort k) l (λ sc ax. offset_stays s n h (entry a (event.Abort k)) sc ax l
    (retired_too (values s sc ax h).active_base (values s sc ax h).active_delta (values s sc ax h).reflected_main)) ∙ c t
one_step s n h a (event.Activate k ms) l c t = visible_activated s n h a k ms l
one_step s n h a (event.Scroll i dx dy) l c t = cc
one_step s n h a (event.Wheel i layer rest_x rest_y ms) l c t = cc
one_step s n h a _ l c t = c t

pub visible_at_rest : (s : ScriptModel) (n : ℕ) (h : List Entry) → Legal s n h → is_at_rest h ≡ true → visible_in (active_tree s h) ≡ pinned s h
visible_at_rest s n [] l t = absurd cc
visible_at_rest s n (e ∷ h) l t = one_step s n h e.actor e.event l (visible_at_rest s n h l.0) t

-- so a draw lacks nothing

all_left_out : (f : TileKey → Bool) (ks : List TileKey) → ((q : TileKey) → has_key ks q ≡ true → f q ≡ false) → filter f ks ≡ []
all_left_out f [] g = refl
all_left_out f (k ∷ ks) g =
    ap (λ b. cond b (k ∷ filter f ks) (filter f ks)) (g k (or_left (same_key k k) (has_key ks k) (key_itself k)))
    ∙ all_left_out f ks (λ q t. g q (or_right (same_key k q) (has_key ks q) t))

pub nothing_missing : (s : ScriptModel) (n : ℕ) (h : List Entry) → Legal s n h → is_at_rest h ≡ true → missing_visible s h ≡ []
nothing_missing s n h l t =
    all_left_out (λ q. not (has_key (ready s h) q)) (visible_in (active_tree s h))
    (λ q u. ap not (pinned_ready s n h l q (ap (λ ks. has_key ks q) (sym (visible_at_rest s n h l t)) ∙ u)))

lacks_nothing : (s : ScriptModel) (n : ℕ) (h : List Entry) (a : ℕ) (e : Event) → Legal s n h → Next s n h (entry a e) → is_at_rest h ≡ true → lacking e ≡ []
lacks_nothing s n h a (event.Draw i lacks) l x t = (at_draw s n h a i lacks x).lacking ∙ nothing_missing s n h l t
lacks_nothing s n h a _ l x t = refl

pub lacks_nothing_at_rest : (s : ScriptModel) (n : ℕ) (h : List Entry) → Legal s n h → AtEach (λ g e. is_at_rest g ≡ true → lacking e.event ≡ []) h
lacks_nothing_at_rest s n [] l = tt
lacks_nothing_at_rest s n (e ∷ h) l = (lacks_nothing_at_rest s n h l.0, lacks_nothing s n h e.actor e.event l.0 l.1)
