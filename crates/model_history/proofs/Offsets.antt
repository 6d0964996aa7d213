-- Offsets stay in the ranges of the active page, and a clobbered scroller stands at its base.
use Rattle.std.proofs.Common.{ℕ, ℤ, ◌≡◌, ◌⊎◌, inl, inr, suc, ◌+◌, ◌==◌, pos, ◌+ℤ◌, ◌-ℤ◌, Bool, true, false, cond, ◌||◌, List, [], ◌∷◌, Option, Some, None, slice_get, refl, sym, ◌∙◌, ap, subst, arith}
use Rattle.std.specs.Option.{option_or}
use Rattle.std.proofs.lemmas.Int.{ints, clamps}
use Rattle.model_states.specs.declared.Synced.{Synced}
use Rattle.model_states.specs.Table as table
use Rattle.page_layers.specs.Scrolls.{clamp_to}
use Rattle.page_properties.specs.OffsetMap.{origin}
use Rattle.page_layers.specs.Pages.{Page}
use Rattle.page_layers.specs.Hits.{target}
use Rattle.model_history.specs.declared.event.Event.{Event}
use Rattle.model_history.specs.declared.event.Event.TheVariants as event
use Rattle.model_history.specs.declared.input.Input.{Input}
use Rattle.model_history.specs.declared.input.Input.TheVariants as input
use Rattle.page_layers.specs.declared.moves.Move.{Move}
use Rattle.model_history.specs.declared.history.Entry.{Entry}
use Rattle.model_history.specs.Scripts.{ScriptModel}
use Rattle.model_history.specs.EventFields.{retires, moves, scroll_move}
use Rattle.model_history.specs.Scans.{names, was_named}
use Rattle.page_layers.specs.Axes.{Axis, across, down, along, amount, amount_in, is_still}
use Rattle.page_layers.specs.Scrollers.{scrollers, has_scroller, most, offsets_in, amount_taken}
use Rattle.model_history.specs.Frames.{page, pulls_of, active, pending, up_to, active_page, pending_page}
use Rattle.model_history.specs.Scrolls.{delta_of, base, delta, offset, retired_then, active_then, pending_base, offset_then, clobbers, pending_offset, clamp_move, next_clamps, carried, active_offsets}
use Rattle.page_layers.specs.Wheels.{chain_parts, takes_at, chain_at, wheel_parts}
use Rattle.model_history.specs.Values.{values}
use Rattle.model_history.specs.ScrollLaws.{carried_by}
use Rattle.model_history.specs.Legal.{Next, Legal}
use Rattle.model_history.proofs.BoolFacts.{not_both, is_false, by_test, same_number}
use Rattle.model_history.proofs.DueFacts.{entry, AtScroll, at_scroll, AtWheel, at_wheel, AtActivate, at_activate}
use Rattle.model_history.proofs.Course.{Course, course}
use Rattle.page_layers.proofs.NodeKeeps.{clamp_again}
use Rattle.model_history.proofs.PageRanges.{page_has_later}
use Rattle.model_history.proofs.FrameFacts.{page_stays, active_sent}
use Rattle.model_history.proofs.MoveLists.{amount_listed}
use Rattle.model_history.proofs.FrameSums.{retired_delta}
use Rattle.model_history.proofs.PastFacts.{pending_not_retired}
use Rattle.model_history.proofs.ValueSums.{Sums, sums}
use Rattle.model_history.proofs.PageStanding.{has_listed, zero_absent, pending_base_fits}

-- The offset is in the range of the page, and where the page lacks the scroller, nothing was scrolled.
pub record StandsOf (p : Page) (v : Synced) (sc : ℕ) (ax : Axis) : Type 0 where
  pub in_range : clamp_to (most p sc ax) (table.active_value v) ≡ table.active_value v
  pub lacks : has_scroller p sc ≡ false → (v.active_delta ≡ pos 0) × (v.reflected_main ≡ pos 0) × (v.reflected_pending ≡ pos 0)

abbrev pub Standing : ScriptModel → ℕ → Axis → List Entry → Type 0
Standing s sc ax h = StandsOf (active_page s h) (values s sc ax h) sc ax

-- the offset by the values
pub offset_is_value : (s : ScriptModel) (h : List Entry) (sc : ℕ) (ax : Axis) → Sums s sc ax h → offset s h sc ax ≡ table.active_value (values s sc ax h)
offset_is_value s h sc ax m = λ i. sym m.active_base i +ℤ sym m.active_delta i

-- what a scroller takes

-- nothing, or what it takes of some amount
abbrev pub IsTaken : Page → (ℕ → Axis → ℤ) → ℕ → Axis → ℤ → Type 0
IsTaken p at sc ax x = (x ≡ pos 0) ⊎ ((z : ℤ) × (x ≡ amount_taken p at sc ax z))

plain : (z : ℤ) → z +ℤ pos 0 ≡ z
plain z = omega (arith, ints)

to_clamp : (b d x m w : ℤ) → x ≡ w -ℤ (b +ℤ d) → b +ℤ (d +ℤ x) ≡ w
to_clamp b d x m w e = omega (arith, ints, e)

stays_there : (b d x : ℤ) → x ≡ pos 0 → b +ℤ (d +ℤ x) ≡ b +ℤ d
stays_there b d x e = omega (arith, ints, e)

zero_sum : (d x : ℤ) → d ≡ pos 0 → x ≡ pos 0 → d +ℤ x ≡ pos 0
zero_sum d x e f = omega (arith, ints, e, f)

still_there : (p : Page) (v : Synced) (sc : ℕ) (ax : Axis) (x : ℤ) → x ≡ pos 0 → StandsOf p v sc ax → StandsOf p (table.added x v) sc ax
still_there p v sc ax x e r =
    let same : v.active_base +ℤ (v.active_delta +ℤ x) ≡ v.active_base +ℤ v.active_delta = stays_there v.active_base v.active_delta x e in
    record {
      in_range = ap (clamp_to (most p sc ax)) same ∙ (r.in_range ∙ sym same);
      lacks = λ l. let t = r.lacks l in (zero_sum v.active_delta x t.0 e, t.1, t.2);
    }

taken_step : (p : Page) (at : ℕ → Axis → ℤ) (v : Synced) (sc : ℕ) (ax : Axis) (x : ℤ) → at sc ax ≡ table.active_value v → IsTaken p at sc ax x → StandsOf p v sc ax → StandsOf p (table.added x v) sc ax
taken_step p at v sc ax x stands_at (inl e) r = still_there p v sc ax x e r
taken_step p at v sc ax x stands_at (inr t) r = by_test (has_scroller p sc) there lacking
  where
    there : has_scroller p sc ≡ true → StandsOf p (table.added x v) sc ax
    there e =
        let m : ℕ = most p sc ax in
        let w : ℤ = clamp_to m (at sc ax +ℤ t.0) in
        let f : x ≡ w -ℤ (v.active_base +ℤ v.active_delta) = t.1 ∙ (ap (λ b. cond b (w -ℤ at sc ax) (pos 0)) e ∙ ap (λ (y : ℤ). w -ℤ y) stands_at) in
        let g : v.active_base +ℤ (v.active_delta +ℤ x) ≡ w = to_clamp v.active_base v.active_delta x (pos m) w f in
        record {
          in_range = ap (clamp_to m) g ∙ (clamp_again m (at sc ax +ℤ t.0) ∙ sym g);
          lacks = λ l. absurd (not_both (has_scroller p sc) e l);
        }

    lacking : has_scroller p sc ≡ false → StandsOf p (table.added x v) sc ax
    lacking e = still_there p v sc ax x (t.1 ∙ ap (λ b. cond b (clamp_to (most p sc ax) (at sc ax +ℤ t.0) -ℤ at sc ax) (pos 0)) e) r

-- a scroll

taken_if : (p : Page) (at : ℕ → Axis → ℤ) (n sc : ℕ) (ax : Axis) (z x : ℤ) → x ≡ amount_taken p at n ax z → IsTaken p at sc ax (cond (n == sc) x (pos 0))
taken_if p at n sc ax z x e = go (n == sc) refl
  where
    go : (b : Bool) → (n == sc) ≡ b → IsTaken p at sc ax (cond b x (pos 0))
    go true f = inr (z, e ∙ ap (λ k. amount_taken p at k ax z) (same_number n sc f))
    go false f = inl refl

pub scroll_taken : (s : ScriptModel) (h : List Entry) (i : ℕ) (dx dy : ℤ) (sc : ℕ) (ax : Axis) → AtScroll s h i dx dy
    → IsTaken (active_page s h) (offset s h) sc ax (amount_in sc ax (moves s (event.Scroll i dx dy)))
scroll_taken s h i dx dy sc ax t =
    let e : slice_get s.inputs i ≡ Some (input.Scroll t.scroller t.asked_x t.asked_y) = ap (slice_get s.inputs) t.place ∙ t.is_input in
    subst (λ (o : Option Input). IsTaken (active_page s h) (offset s h) sc ax (amount_in sc ax (scroll_move o dx dy))) (sym e) (by_axis ax)
  where
    by_axis : (x : Axis) → IsTaken (active_page s h) (offset s h) sc x (amount_in sc x (scroll_move (Some (input.Scroll t.scroller t.asked_x t.asked_y)) dx dy))
    by_axis across = taken_if (active_page s h) (offset s h) t.scroller sc across t.asked_x dx t.right
    by_axis down = taken_if (active_page s h) (offset s h) t.scroller sc down t.asked_y dy t.downwards

-- a wheel

at_place : (ax : Axis) (at : ℕ → Axis → ℤ) (sc : ℕ) → along ax (record { x = at sc across; y = at sc down }) ≡ at sc ax
at_place across at sc = refl
at_place down at sc = refl

pub takes_is : (p : Page) (at : ℕ → Axis → ℤ) (sc : ℕ) (ax : Axis) (z : ℤ) → takes_at p (offsets_in p at) sc ax z ≡ amount_taken p at sc ax z
takes_is p at sc ax z = go (has_scroller p sc)
  where
    m : ℕ
    m = most p sc ax

    go : (b : Bool) → cond b (clamp_to m (along ax (cond b (record { x = at sc across; y = at sc down }) origin) +ℤ z) -ℤ along ax (cond b (record { x = at sc across; y = at sc down }) origin)) (pos 0)
        ≡ cond b (clamp_to m (at sc ax +ℤ z) -ℤ at sc ax) (pos 0)
    go true = ap (λ (y : ℤ). clamp_to m (y +ℤ z) -ℤ y) (at_place ax at sc)
    go false = refl

-- a part of a wheel is what its scroller takes of some amount
part_taken : (takes : ℕ → Axis → ℤ → ℤ) (sc : ℕ) (ax : Axis) (scs : List ℕ) (dx dy : ℤ)
    → (amount_in sc ax (chain_parts takes scs dx dy) ≡ pos 0) ⊎ ((z : ℤ) × (amount_in sc ax (chain_parts takes scs dx dy) ≡ takes sc ax z))
part_taken takes sc ax [] dx dy = inl refl
part_taken takes sc ax (n ∷ scs) dx dy = go (is_still m) (n == sc) refl (part_taken takes sc ax scs (dx -ℤ takes n across dx) (dy -ℤ takes n down dy))
  where
    m : Move
    m = record { scroller = n; dx = takes n across dx; dy = takes n down dy }

    rest : List Move
    rest = chain_parts takes scs (dx -ℤ takes n across dx) (dy -ℤ takes n down dy)

    asked : Axis → ℤ
    asked across = dx
    asked down = dy

    of_axis : (x : Axis) → amount x m ≡ takes n x (asked x)
    of_axis across = refl
    of_axis down = refl

    go : (b c : Bool) → (n == sc) ≡ c → (amount_in sc ax rest ≡ pos 0) ⊎ ((z : ℤ) × (amount_in sc ax rest ≡ takes sc ax z))
        → (amount_in sc ax (cond b rest (m ∷ rest)) ≡ pos 0) ⊎ ((z : ℤ) × (amount_in sc ax (cond b rest (m ∷ rest)) ≡ takes sc ax z))
    go true c e r = r
    go false true e r = inr (asked ax, ap (λ b. cond b (amount ax m) (amount_in sc ax rest)) e ∙ (of_axis ax ∙ ap (λ k. takes k ax (asked ax)) (same_number n sc e)))
    go false false e r = subst (λ b. (cond b (amount ax m) (amount_in sc ax rest) ≡ pos 0) ⊎ ((z : ℤ) × (cond b (amount ax m) (amount_in sc ax rest) ≡ takes sc ax z))) (sym e) r

pub wheel_taken : (s : ScriptModel) (h : List Entry) (i layer : ℕ) (rest_x rest_y : ℤ) (ms : List Move) (sc : ℕ) (ax : Axis) → AtWheel s h i layer rest_x rest_y ms
    → IsTaken (active_page s h) (offset s h) sc ax (amount_in sc ax ms)
wheel_taken s h i layer rest_x rest_y ms sc ax t =
    subst (λ (ns : List Move). IsTaken (active_page s h) (offset s h) sc ax (amount_in sc ax ns)) (sym t.parts)
    (go (part_taken (takes_at (active_page s h) (active_offsets s h)) sc ax (chain_at (active_page s h) (target (active_page s h) (active_offsets s h) (pos t.x) (pos t.y))) t.asked_x t.asked_y))
  where
    ns : List Move
    ns = wheel_parts (active_page s h) (active_offsets s h) (pos t.x) (pos t.y) t.asked_x t.asked_y

    go : (amount_in sc ax ns ≡ pos 0) ⊎ ((z : ℤ) × (amount_in sc ax ns ≡ takes_at (active_page s h) (active_offsets s h) sc ax z)) → IsTaken (active_page s h) (offset s h) sc ax (amount_in sc ax ns)
    go (inl e) = inl e
    go (inr r) = inr (r.0, r.1 ∙ takes_is (active_page s h) (offset s h) sc ax r.0)

-- an activation

-- Before the activation of frame k: where a scroller would stand, and what of the delta would be left.
pub record Before (s : ScriptModel) (h : List Entry) (k sc : ℕ) (ax : Axis) : Type 0 where
  pub left : delta_of s h (retired_then h) sc ax ≡ (values s sc ax h).active_delta -ℤ (values s sc ax h).reflected_pending
  pub then_at : offset_then s h sc ax ≡ (values s sc ax h).pending_base +ℤ ((values s sc ax h).active_delta -ℤ (values s sc ax h).reflected_pending)
  pub fits : clamp_to (most (pending_page s h) sc ax) (pending_base s h sc ax) ≡ pending_base s h sc ax
  pub then_fits : clamp_to (most (pending_page s h) sc ax) (pending_offset s h sc ax) ≡ pending_offset s h sc ax

subtract : (d c new vd vp : ℤ) → d ≡ new +ℤ c → vd ≡ d → vp ≡ c → new ≡ vd -ℤ vp
subtract d c new vd vp e f g = omega (arith, ints, e, f, g)

cond_fits : (m : ℕ) (b : Bool) (x y : ℤ) → clamp_to m x ≡ x → clamp_to m (cond b x (clamp_to m y)) ≡ cond b x (clamp_to m y)
cond_fits m true x y e = e
cond_fits m false x y e = clamp_again m y

pub before : (s : ScriptModel) (n : ℕ) (h : List Entry) (k sc : ℕ) (ax : Axis) → Legal s n h → pending h ≡ Some k → Before s h k sc ax
before s n h k sc ax legal waits = record {
  left = rest;
  then_at = λ i. sym m.pending_base i +ℤ rest i;
  fits = base_fits;
  then_fits = cond_fits (most (pending_page s h) sc ax) (clobbers s (pending h) sc) (pending_base s h sc ax) (offset_then s h sc ax) base_fits;
}
  where
    m : Sums s sc ax h
    m = sums s n sc ax h legal

    c : Course h
    c = course s n h legal

    rest : delta_of s h (retired_then h) sc ax ≡ (values s sc ax h).active_delta -ℤ (values s sc ax h).reflected_pending
    rest =
        subtract (delta s h sc ax) (carried s h k sc ax) (delta_of s h (retired_then h) sc ax) (values s sc ax h).active_delta (values s sc ax h).reflected_pending
        (retired_delta s h sc ax (was_named retires h) (retired_then h) k (λ j. ap (λ o. names o j || was_named retires h j) waits) (pending_not_retired h k c waits))
        m.active_delta (m.reflected_pending ∙ ap (λ o. carried_by s h o sc ax) waits)

    same_page : page s (pulls_of h) (up_to (active_then h)) ≡ pending_page s h
    same_page = ap (λ o. page s (pulls_of h) (up_to (option_or o (active h)))) waits ∙ sym (ap (λ o. page s (pulls_of h) (up_to o)) waits)

    base_fits : clamp_to (most (pending_page s h) sc ax) (pending_base s h sc ax) ≡ pending_base s h sc ax
    base_fits = subst (λ (p : Page). clamp_to (most p sc ax) (pending_base s h sc ax) ≡ pending_base s h sc ax) same_page (pending_base_fits s n h sc ax legal)

-- what it lists for a scroller
pub amount_clamped : (s : ScriptModel) (h : List Entry) (sc : ℕ) (ax : Axis) → amount_in sc ax (next_clamps s h) ≡ cond (has_scroller (pending_page s h) sc) (clamp_move s h sc ax) (pos 0)
amount_clamped s h sc ax =
    amount_listed sc ax (clamp_move s h) (scrollers (pending_page s h))
    ∙ ap (λ b. cond b (clamp_move s h sc ax) (pos 0)) (has_listed (pending_page s h) sc)

to_pending : (pb r x at_then new : ℤ) → at_then ≡ pb +ℤ r → x ≡ new -ℤ at_then → pb +ℤ (r +ℤ x) ≡ new
to_pending pb r x at_then new e f = omega (arith, ints, e, f)

to_base : (pb d p x : ℤ) → d ≡ pos 0 → p ≡ pos 0 → x ≡ pos 0 → pb +ℤ ((d -ℤ p) +ℤ x) ≡ pb
to_base pb d p x e f g = omega (arith, ints, e, f, g)

nothing_left : (d p x : ℤ) → d ≡ pos 0 → p ≡ pos 0 → x ≡ pos 0 → (d -ℤ p) +ℤ x ≡ pos 0
nothing_left d p x e f g = omega (arith, ints, e, f, g)

-- What an activation does to a scroller: one of its page is brought to its pending offset; any other had not moved and is not listed.
pub record Activated (s : ScriptModel) (h : List Entry) (k : ℕ) (ms : List Move) (sc : ℕ) (ax : Axis) : Type 0 where
  pub same_page : pending_page s h ≡ page s (pulls_of h) (suc k)
  pub of_page : has_scroller (page s (pulls_of h) (suc k)) sc ≡ true → amount_in sc ax ms ≡ clamp_move s h sc ax
  pub not_of_page : has_scroller (page s (pulls_of h) (suc k)) sc ≡ false → amount_in sc ax ms ≡ pos 0
  pub not_before : has_scroller (page s (pulls_of h) (suc k)) sc ≡ false → has_scroller (active_page s h) sc ≡ false

pub activated : (s : ScriptModel) (n : ℕ) (h : List Entry) (a k : ℕ) (ms : List Move) (sc : ℕ) (ax : Axis) → Legal s n h → Next s n h (entry a (event.Activate k ms)) → Activated s h k ms sc ax
activated s n h a k ms sc ax legal x = record {
  same_page = pages;
  of_page = λ e. amounts ∙ ap (λ b. cond b (clamp_move s h sc ax) (pos 0)) (ap (λ (p : Page). has_scroller p sc) pages ∙ e);
  not_of_page = λ e. amounts ∙ ap (λ b. cond b (clamp_move s h sc ax) (pos 0)) (ap (λ (p : Page). has_scroller p sc) pages ∙ e);
  not_before = λ e. is_false (has_scroller (active_page s h) sc) (λ t. not_both (has_scroller (page s (pulls_of h) (suc k)) sc)
      (let l = c.pending_from k d.frame in page_has_later s (pulls_of h) (up_to (active h)) (suc k) sc (omega arith) t) e);
}
  where
    d : AtActivate s h k ms
    d = at_activate s n h a k ms x

    c : Course h
    c = course s n h legal

    pages : pending_page s h ≡ page s (pulls_of h) (suc k)
    pages = ap (λ o. page s (pulls_of h) (up_to o)) d.frame

    amounts : amount_in sc ax ms ≡ cond (has_scroller (pending_page s h) sc) (clamp_move s h sc ax) (pos 0)
    amounts = ap (amount_in sc ax) d.clamps ∙ amount_clamped s h sc ax

activate_case : (s : ScriptModel) (n : ℕ) (h : List Entry) (a k : ℕ) (ms : List Move) (sc : ℕ) (ax : Axis) → Legal s n h → Standing s sc ax h
    → Next s n h (entry a (event.Activate k ms)) → Standing s sc ax (entry a (event.Activate k ms) ∷ h)
activate_case s n h a k ms sc ax legal r x = by_test (has_scroller p sc) there lacking
  where
    d : AtActivate s h k ms
    d = at_activate s n h a k ms x

    p : Page
    p = page s (pulls_of h) (suc k)

    v : Synced
    v = values s sc ax h

    act : Activated s h k ms sc ax
    act = activated s n h a k ms sc ax legal x

    b : Before s h k sc ax
    b = before s n h k sc ax legal d.frame

    there : has_scroller p sc ≡ true → Standing s sc ax (entry a (event.Activate k ms) ∷ h)
    there e =
        let now : v.pending_base +ℤ ((v.active_delta -ℤ v.reflected_pending) +ℤ amount_in sc ax ms) ≡ pending_offset s h sc ax =
        to_pending v.pending_base (v.active_delta -ℤ v.reflected_pending) (amount_in sc ax ms) (offset_then s h sc ax) (pending_offset s h sc ax) b.then_at (act.of_page e) in
        let fits : clamp_to (most p sc ax) (pending_offset s h sc ax) ≡ pending_offset s h sc ax = subst (λ (q : Page). clamp_to (most q sc ax) (pending_offset s h sc ax) ≡ pending_offset s h sc ax) act.same_page b.then_fits in
        record { in_range = ap (clamp_to (most p sc ax)) now ∙ (fits ∙ sym now); lacks = λ l. absurd (not_both (has_scroller p sc) e l) }

    lacking : has_scroller p sc ≡ false → Standing s sc ax (entry a (event.Activate k ms) ∷ h)
    lacking e =
        let t = r.lacks (act.not_before e) in
        let o = act.not_of_page e in
        let now : v.pending_base +ℤ ((v.active_delta -ℤ v.reflected_pending) +ℤ amount_in sc ax ms) ≡ pending_base s h sc ax =
        to_base v.pending_base v.active_delta v.reflected_pending (amount_in sc ax ms) t.0 t.2 o ∙ (sums s n sc ax h legal).pending_base in
        let fits : clamp_to (most p sc ax) (pending_base s h sc ax) ≡ pending_base s h sc ax = subst (λ (q : Page). clamp_to (most q sc ax) (pending_base s h sc ax) ≡ pending_base s h sc ax) act.same_page b.fits in
        record {
          in_range = ap (clamp_to (most p sc ax)) now ∙ (fits ∙ sym now);
          lacks = λ l. (nothing_left v.active_delta v.reflected_pending (amount_in sc ax ms) t.0 t.2 o, t.1, refl);
        }

-- the other kinds

same_value : (b d m : ℤ) → (b +ℤ m) +ℤ (d -ℤ m) ≡ b +ℤ d
same_value b d m = omega (arith, ints)

zero_rest : (d m : ℤ) → d ≡ pos 0 → m ≡ pos 0 → d -ℤ m ≡ pos 0
zero_rest d m e f = omega (arith, ints, e, f)

pulled_step : (p q : Page) (v : Synced) (sc : ℕ) (ax : Axis) → q ≡ p → StandsOf p v sc ax → StandsOf q (table.pulled v) sc ax
pulled_step p q v sc ax e r = subst (λ (z : Page). StandsOf z (table.pulled v) sc ax) (sym e) (record {
  in_range = r.in_range;
  lacks = λ l. let t = r.lacks l in (t.0, zero_rest v.active_delta v.reflected_pending t.0 t.2, t.2);
})

pushed_step : (p : Page) (x : ℤ) (v : Synced) (sc : ℕ) (ax : Axis) → StandsOf p v sc ax → StandsOf p (table.pushed x v) sc ax
pushed_step p x v sc ax r = record { in_range = r.in_range; lacks = λ l. let t = r.lacks l in (t.0, refl, t.1) }

aborted_step : (p : Page) (v : Synced) (sc : ℕ) (ax : Axis) → StandsOf p v sc ax → StandsOf p (table.aborted v) sc ax
aborted_step p v sc ax r =
    let e : (v.active_base +ℤ v.reflected_main) +ℤ (v.active_delta -ℤ v.reflected_main) ≡ v.active_base +ℤ v.active_delta = same_value v.active_base v.active_delta v.reflected_main in
    record {
      in_range = ap (clamp_to (most p sc ax)) e ∙ (r.in_range ∙ sym e);
      lacks = λ l. let t = r.lacks l in (zero_rest v.active_delta v.reflected_main t.0 t.1, refl, t.2);
    }

one_step : (s : ScriptModel) (n : ℕ) (h : List Entry) (a : ℕ) (e : Event) (sc : ℕ) (ax : Axis) → Legal s n h → Standing s sc ax h → Next s n h (entry a e) → Standing s sc ax (entry a e ∷ h)
one_step s n h a (event.Send k ms) sc ax l r x =
    pulled_step (active_page s h) (active_page s (entry a (event.Send k ms) ∷ h)) (values s sc ax h) sc ax
    (page_stays s n h a (event.Send k ms) x (up_to (active h)) (active_sent h (course s n h l))) r
one_step s n h a (event.Abort k) sc ax l r x = aborted_step (active_page s h) (values s sc ax h) sc ax r
one_step s n h a (event.Commit k) sc ax l r x = pushed_step (active_page s h) _ (values s sc ax h) sc ax r
one_step s n h a (event.Activate k ms) sc ax l r x = activate_case s n h a k ms sc ax l r x
one_step s n h a (event.Scroll i dx dy) sc ax l r x =
    taken_step (active_page s h) (offset s h) (values s sc ax h) sc ax (amount_in sc ax (moves s (event.Scroll i dx dy))) (offset_is_value s h sc ax (sums s n sc ax h l))
    (scroll_taken s h i dx dy sc ax (at_scroll s n h a i dx dy x)) r
one_step s n h a (event.Wheel i layer rest_x rest_y ms) sc ax l r x =
    taken_step (active_page s h) (offset s h) (values s sc ax h) sc ax (amount_in sc ax ms) (offset_is_value s h sc ax (sums s n sc ax h l))
    (wheel_taken s h i layer rest_x rest_y ms sc ax (at_wheel s n h a i layer rest_x rest_y ms x)) r
one_step s n h a _ sc ax l r x = r

clamp_none : clamp_to 0 (pos 0) ≡ pos 0
unfolding clamp_to
clamp_none = refl

-- where the scrollers stand after every legal past
pub standing : (s : ScriptModel) (n : ℕ) (sc : ℕ) (ax : Axis) (h : List Entry) → Legal s n h → Standing s sc ax h
standing s n sc ax [] l = record { in_range = clamp_none; lacks = λ e. (refl, refl, refl) }
standing s n sc ax (e ∷ h) l = one_step s n h e.actor e.event sc ax l.0 (standing s n sc ax h l.0) l.1

pub offset_fits : (s : ScriptModel) (n : ℕ) (h : List Entry) (sc : ℕ) (ax : Axis) → Legal s n h → clamp_to (most (active_page s h) sc ax) (offset s h sc ax) ≡ offset s h sc ax
offset_fits s n h sc ax l =
    let e : offset s h sc ax ≡ table.active_value (values s sc ax h) = offset_is_value s h sc ax (sums s n sc ax h l) in
    ap (clamp_to (most (active_page s h) sc ax)) e ∙ ((standing s n sc ax h l).in_range ∙ sym e)

-- a scroller that the active page lacks stands at 0, and so do its base and its delta
base_zero : (b d o : ℤ) → o ≡ b +ℤ d → o ≡ pos 0 → d ≡ pos 0 → b ≡ pos 0
base_zero b d o e f g = omega (arith, ints, e, f, g)

pub lacking_stands : (s : ScriptModel) (n : ℕ) (h : List Entry) (sc : ℕ) (ax : Axis) → Legal s n h → has_scroller (active_page s h) sc ≡ false
    → (base s h sc ax ≡ pos 0) × (delta s h sc ax ≡ pos 0) × (offset s h sc ax ≡ pos 0)
lacking_stands s n h sc ax l e =
    let o : offset s h sc ax ≡ pos 0 = zero_absent (active_page s h) sc ax (offset s h sc ax) e (offset_fits s n h sc ax l) in
    let d : delta s h sc ax ≡ pos 0 = sym (sums s n sc ax h l).active_delta ∙ ((standing s n sc ax h l).lacks e).0 in
    (base_zero (base s h sc ax) (delta s h sc ax) (offset s h sc ax) refl o d, d, o)

-- before the first activation all stand at 0
pub stands_first : (s : ScriptModel) (n : ℕ) (h : List Entry) (sc : ℕ) (ax : Axis) → Legal s n h → active h ≡ None
    → (base s h sc ax ≡ pos 0) × (delta s h sc ax ≡ pos 0) × (offset s h sc ax ≡ pos 0)
stands_first s n h sc ax l e = lacking_stands s n h sc ax l (ap (λ o. has_scroller (page s (pulls_of h) (up_to o)) sc) e)

-- after the activation of a commit that clobbers a scroller its delta is 0

at_its_base : (d p x pb at_then : ℤ) → at_then ≡ pb +ℤ (d -ℤ p) → x ≡ pb -ℤ at_then → (d -ℤ p) +ℤ x ≡ pos 0
at_its_base d p x pb at_then e f = omega (arith, ints, e, f)

pub clobbered_delta : (s : ScriptModel) (n : ℕ) (h : List Entry) (a k : ℕ) (ms : List Move) (sc : ℕ) (ax : Axis)
    → Legal s n (entry a (event.Activate k ms) ∷ h) → clobbers s (Some k) sc ≡ true → delta s (entry a (event.Activate k ms) ∷ h) sc ax ≡ pos 0
clobbered_delta s n h a k ms sc ax legal clob = sym (sums s n sc ax (entry a (event.Activate k ms) ∷ h) legal).active_delta ∙ by_test (has_scroller p sc) there lacking
  where
    d : AtActivate s h k ms
    d = at_activate s n h a k ms legal.1

    p : Page
    p = page s (pulls_of h) (suc k)

    v : Synced
    v = values s sc ax h

    act : Activated s h k ms sc ax
    act = activated s n h a k ms sc ax legal.0 legal.1

    b : Before s h k sc ax
    b = before s n h k sc ax legal.0 d.frame

    at_base : pending_offset s h sc ax ≡ pending_base s h sc ax
    at_base = ap (λ c. cond c (pending_base s h sc ax) (clamp_to (most (pending_page s h) sc ax) (offset_then s h sc ax))) (ap (λ o. clobbers s o sc) d.frame ∙ clob)

    there : has_scroller p sc ≡ true → (v.active_delta -ℤ v.reflected_pending) +ℤ amount_in sc ax ms ≡ pos 0
    there e =
        at_its_base v.active_delta v.reflected_pending (amount_in sc ax ms) v.pending_base (offset_then s h sc ax) b.then_at
        (act.of_page e ∙ ap (λ (z : ℤ). z -ℤ offset_then s h sc ax) (at_base ∙ sym (sums s n sc ax h legal.0).pending_base))

    lacking : has_scroller p sc ≡ false → (v.active_delta -ℤ v.reflected_pending) +ℤ amount_in sc ax ms ≡ pos 0
    lacking e =
        let t = (standing s n sc ax h legal.0).lacks (act.not_before e) in
        nothing_left v.active_delta v.reflected_pending (amount_in sc ax ms) t.0 t.2 (act.not_of_page e)
