-- Passes built layer by layer, and group by group.
use Rattle.std.proofs.Common.{ℕ, ℤ, suc, ◌≡◌, ◌+◌, ◌<◌, ◌≤◌, ◌==◌, true, List, [], ◌∷◌, ◌++◌, length, take, drop, get_or, All, refl, ap, sym, ◌∙◌, subst, append-nil, append_assoc, arith}
use Rattle.std.specs.Prelude.{slice_index_or}
use Rattle.std.specs.List.{prefix_len}
use Rattle.std.proofs.lemmas.Bool.Decides.{nat_tests}
use Rattle.std.proofs.lemmas.List.{length-append}
use Rattle.std.proofs.lemmas.List.Elements.{All-nil, All-cons, All-append, All-head, All-tail, All-take, All-drop, All-rest, All-same, All-weaker}
use Rattle.geom.specs.declared.rect.Rect.{Rect}
use Rattle.geom.specs.Covers.{covers}
use Rattle.pixel.specs.Colours.{Parts, blend, scaled, clear}
use Rattle.page_layers.specs.declared.paint.Group.{Group}
use Rattle.page_layers.specs.Painting.{folded, items_at}
use Rattle.page_layers.specs.inner.Runs.{lies_in}
use Rattle.page_layers.proofs.PaintSteps.{first_here, drop_past, group_step, layer_step, run_some}
use Rattle.viz_scene.specs.Views.{QuadView, tiled, plain, grouped}
use Rattle.viz_scene.specs.Pixels.{quad_over, quads_over, passes_at}
use Rattle.viz_scene.specs.Sound.{QuadFits, AreSound}
use Rattle.viz_scene.proofs.Steps.{quads_append, passes_append, passes_push, length-passes_at, fits_later, sound_append}
use Rattle.viz_quads.specs.declared.parts.LayerParts.{LayerParts}
use Rattle.viz_quads.specs.inner.Passes.{groups_of, own_quads, own_colour, IsLayer, HaveOpacities, AreBuilt}
use Rattle.viz_quads.proofs.Lists.{index_front, index_last}

-- ---- passes that are added later do not change what quads show

same_quad : (w h : ℕ) (x y : ℤ) (below : Parts) (before more : List Parts) (q : QuadView) → QuadFits w h (length before) q → quad_over (before ++ more) x y below q ≡ quad_over before x y below q
same_quad w h x y below before more (tiled image at from) f = refl
same_quad w h x y below before more (plain at colour) f = refl
same_quad w h x y below before more (grouped pass opacity) f = ap (λ (c : Parts). blend below (scaled c opacity)) (index_front before more pass clear f)

same_quads : (w h : ℕ) (x y : ℤ) (below : Parts) (before more : List Parts) (qs : List QuadView) → All (QuadFits w h (length before)) qs → quads_over (before ++ more) x y below qs ≡ quads_over before x y below qs
same_quads w h x y below before more [] f = refl
same_quads w h x y below before more (q ∷ qs) f =
    ap (λ (c : Parts). quads_over (before ++ more) x y c qs) (same_quad w h x y below before more q (All-head (QuadFits w h (length before)) q qs f))
    ∙ same_quads w h x y (quad_over before x y below q) before more qs (All-tail (QuadFits w h (length before)) q qs f)

-- passes begin with those that were there
passes_begin : (x y : ℤ) (before : List Parts) (ps : List (List QuadView)) → (added : List Parts) × (passes_at x y before ps ≡ before ++ added)
passes_begin x y before [] = ([], sym (append-nil before))
passes_begin x y before (p ∷ ps) =
    let c : Parts = quads_over before x y clear p in
    let rest = passes_begin x y (before ++ c ∷ []) ps in
    (c ∷ rest.0, rest.1 ∙ append_assoc before (c ∷ []) rest.0)

-- quads that may stand after some passes show the same with more passes after those
pub over_later : (w h : ℕ) (x y : ℤ) (below : Parts) (ps more : List (List QuadView)) (qs : List QuadView) → All (QuadFits w h (length ps)) qs
    → quads_over (passes_at x y [] (ps ++ more)) x y below qs ≡ quads_over (passes_at x y [] ps) x y below qs
over_later w h x y below ps more qs f =
    let later = passes_begin x y (passes_at x y [] ps) more in
    let count : length (passes_at x y [] ps) ≡ length ps = length-passes_at x y [] ps ∙ omega arith in
    ap (λ (cs : List Parts). quads_over cs x y below qs) (passes_append x y [] ps more ∙ later.1)
    ∙ same_quads w h x y below (passes_at x y [] ps) later.0 qs (subst (λ (n : ℕ). All (QuadFits w h n) qs) (sym count) f)

-- ---- the state of the building

-- some quads, and passes after those that were there, show the layers that come before the rest
pub record Building (w h : ℕ) (view : Rect) (depth : ℕ) (layers rest : List LayerParts) (old new : List (List QuadView)) (quads : List QuadView) : Type 0 where
  pub left : All (IsLayer w h view) rest
  pub added : List (List QuadView)
  pub grown : new ≡ old ++ added
  pub sound : AreSound w h (length old) added
  pub fit : All (QuadFits w h (length new)) quads
  pub painted : (opacity : ℕ → ℕ) → HaveOpacities opacity layers → HaveOpacities opacity rest
      × ((x y : ℤ) → covers view x y ≡ true → (below : Parts) → folded opacity (items_at groups_of (own_colour x y) depth rest) (quads_over (passes_at x y [] new) x y below quads) ≡ folded opacity (items_at groups_of (own_colour x y) depth layers) below)

pub begun : (w h : ℕ) (view : Rect) (depth : ℕ) (layers : List LayerParts) (old : List (List QuadView)) → All (IsLayer w h view) layers → Building w h view depth layers layers old old []
begun w h view depth layers old all = record {
  left = all;
  added = [];
  grown = sym (append-nil old);
  sound = tt;
  fit = All-nil (QuadFits w h (length old));
  painted = λ opacity have. (have, λ x y view below. refl);
}

pub finished : (w h : ℕ) (view : Rect) (depth : ℕ) (layers rest : List LayerParts) (old new : List (List QuadView)) (quads : List QuadView) → length rest ≡ 0 → Building w h view depth layers rest old new quads → AreBuilt w h view depth layers old new quads
finished w h view depth layers (l ∷ rest) old new quads none b = absurd (omega (arith, none))
finished w h view depth layers [] old new quads none b = record {
  added = b.added;
  grown = b.grown;
  sound = b.sound;
  fit = b.fit;
  painted = λ opacity have x y seen below. (b.painted opacity have).1 x y seen below;
}

-- ---- a layer

pub layer_turn : (w h : ℕ) (view : Rect) (depth : ℕ) (layers rest tail : List LayerParts) (first : LayerParts) (old new : List (List QuadView)) (quads more : List QuadView)
    → rest ≡ first ∷ tail → length first.groups.items ≤ depth → more ≡ quads ++ own_quads first → Building w h view depth layers rest old new quads → Building w h view depth layers tail old new more
layer_turn w h view depth layers rest tail first old new quads more is past made b =
    let each : All (IsLayer w h view) (first ∷ tail) = All-same (IsLayer w h view) (first ∷ tail) rest (sym is) b.left in
    let one : IsLayer w h view first = All-head (IsLayer w h view) first tail each in
    record {
      left = All-tail (IsLayer w h view) first tail each;
      added = b.added;
      grown = b.grown;
      sound = b.sound;
      fit = All-same (QuadFits w h (length new)) more (quads ++ own_quads first) made (All-append (QuadFits w h (length new)) quads (own_quads first) b.fit (All-weaker (QuadFits w h 0) (QuadFits w h (length new)) (λ q f. fits_later w h 0 (length new) q (omega arith) f) (own_quads first) one.fit));
      painted = λ opacity have.
          let was = b.painted opacity have in (
            All-rest (λ l. All (λ g. opacity g.effect ≡ g.opacity) l.groups.items) first tail rest is was.0,
            λ x y seen below.
                let ps = passes_at x y [] new in
                ap (λ (qs : List QuadView). folded opacity (items_at groups_of (own_colour x y) depth tail) (quads_over (passes_at x y [] new) x y below qs)) made
                ∙ ap (λ (c : Parts). folded opacity (items_at groups_of (own_colour x y) depth tail) c) (quads_append (passes_at x y [] new) x y below quads (own_quads first) ∙ one.acts (passes_at x y [] new) x y (quads_over (passes_at x y [] new) x y below quads) seen)
                ∙ sym (layer_step groups_of (own_colour x y) opacity depth rest first tail (quads_over (passes_at x y [] new) x y below quads) is (drop_past (λ (g : Group). g.effect) depth first.groups.items past))
                ∙ was.1 x y seen below,
          );
    }

-- ---- a group

lies_here : (l : LayerParts) (depth : ℕ) (g : Group) → depth < length l.groups.items → g ≡ get_or l.groups.items depth g → lies_in groups_of depth g.effect l ≡ true
lies_here l depth g lt is =
    first_here (λ (x : Group). x.effect) g.effect depth l.groups.items g lt
    ∙ ap (λ (x : Group). g.effect == x.effect) (sym is)
    ∙ grind (arith, nat_tests)

-- the run of a layer's group has at least that layer
pub run_not_empty : (depth n : ℕ) (rest tail : List LayerParts) (first : LayerParts) (g : Group) → rest ≡ first ∷ tail → depth < length first.groups.items → g ≡ get_or first.groups.items depth g
    → n ≡ prefix_len (lies_in groups_of depth g.effect) rest → 1 ≤ n
run_not_empty depth n rest tail first g is lt here len =
    let some : 1 ≤ prefix_len (lies_in groups_of depth g.effect) rest = run_some (lies_in groups_of depth g.effect) rest first tail is (lies_here first depth g lt here) in
    omega (arith, len, some)

-- passes of a group after others, and the group itself
group_sound : (w h : ℕ) (old new mid more : List (List QuadView)) (added inner_added : List (List QuadView)) (inner : List QuadView) → new ≡ old ++ added → mid ≡ new ++ inner_added → AreSound w h (length old) added → AreSound w h (length new) inner_added → All (QuadFits w h (length mid)) inner
    → AreSound w h (length old) (added ++ (inner_added ++ inner ∷ []))
group_sound w h old new mid more added inner_added inner grown mid_grown sound inner_sound fit =
    let n : length new ≡ length old + length added = ap length grown ∙ length-append old added in
    let m : length mid ≡ length new + length inner_added = ap length mid_grown ∙ length-append new inner_added in
    sound_append w h (length old) added (inner_added ++ inner ∷ []) sound
    (subst (λ (k : ℕ). AreSound w h k (inner_added ++ inner ∷ [])) n
    (sound_append w h (length new) inner_added (inner ∷ []) inner_sound (subst (λ (k : ℕ). All (QuadFits w h k) inner) m fit, tt)))

-- what the group's quad shows
group_colour : (w h : ℕ) (view : Rect) (depth : ℕ) (run : List LayerParts) (new mid : List (List QuadView)) (inner : List QuadView) (opacity : ℕ → ℕ) (o : ℕ) (x y : ℤ) (below : Parts)
    → AreBuilt w h view depth run new mid inner → HaveOpacities opacity run → covers view x y ≡ true
    → quad_over (passes_at x y [] (mid ++ inner ∷ [])) x y below (grouped (length mid) o) ≡ blend below (scaled (folded opacity (items_at groups_of (own_colour x y) depth run) clear) o)
group_colour w h view depth run new mid inner opacity o x y below built have seen =
    let count : length mid ≡ length (passes_at x y [] mid) = sym (length-passes_at x y [] mid ∙ omega arith) in
    ap (λ (cs : List Parts). blend below (scaled (slice_index_or cs (length mid) clear) o)) (passes_push x y [] mid inner)
    ∙ ap (λ (c : Parts). blend below (scaled c o)) (index_last (passes_at x y [] mid) (quads_over (passes_at x y [] mid) x y clear inner) clear (length mid) count ∙ built.painted opacity have x y seen clear)

pub group_turn : (w h : ℕ) (view : Rect) (depth n : ℕ) (layers rest run after tail : List LayerParts) (first : LayerParts) (g : Group) (old new mid last : List (List QuadView)) (quads inner more : List QuadView)
    → rest ≡ first ∷ tail → depth < length first.groups.items → g ≡ get_or first.groups.items depth g
    → n ≡ prefix_len (lies_in groups_of depth g.effect) rest → run ≡ take n rest → after ≡ drop n rest
    → (All (IsLayer w h view) run → AreBuilt w h view (suc depth) run new mid inner)
    → last ≡ mid ++ inner ∷ [] → more ≡ quads ++ grouped (length mid) g.opacity ∷ []
    → Building w h view depth layers rest old new quads → Building w h view depth layers after old last more
group_turn w h view depth n layers rest run after tail first g old new mid last quads inner more is lt here len run_is after_is make last_is more_is b =
    let built : AreBuilt w h view (suc depth) run new mid inner = make (All-same (IsLayer w h view) run (take n rest) run_is (All-take (IsLayer w h view) n rest b.left)) in
    let whole : last ≡ new ++ (built.added ++ inner ∷ []) = last_is ∙ ap (λ (ps : List (List QuadView)). ps ++ inner ∷ []) built.grown ∙ append_assoc new built.added (inner ∷ []) in
    let long : length new ≤ length last = let e = ap length whole ∙ length-append new (built.added ++ inner ∷ []) in omega (arith, e) in
    let longer : length mid < length last = let e = ap length last_is ∙ length-append mid (inner ∷ []) in omega (arith, e) in
    record {
      left = All-same (IsLayer w h view) after (drop n rest) after_is (All-drop (IsLayer w h view) n rest b.left);
      added = b.added ++ (built.added ++ inner ∷ []);
      grown = whole ∙ ap (λ (ps : List (List QuadView)). ps ++ (built.added ++ inner ∷ [])) b.grown ∙ append_assoc old b.added (built.added ++ inner ∷ []);
      sound = group_sound w h old new mid last b.added built.added inner b.grown built.grown b.sound built.sound built.fit;
      fit = All-same (QuadFits w h (length last)) more (quads ++ grouped (length mid) g.opacity ∷ []) more_is
          (All-append (QuadFits w h (length last)) quads (grouped (length mid) g.opacity ∷ [])
          (All-weaker (QuadFits w h (length new)) (QuadFits w h (length last)) (λ q f. fits_later w h (length new) (length last) q long f) quads b.fit)
          (All-cons (QuadFits w h (length last)) (grouped (length mid) g.opacity) [] longer (All-nil (QuadFits w h (length last)))));
      painted = λ opacity have.
          let was = b.painted opacity have in
          let p : LayerParts → Type 0 = λ l. All (λ (z : Group). opacity z.effect ≡ z.opacity) l.groups.items in
          let of_first : All (λ (z : Group). opacity z.effect ≡ z.opacity) first.groups.items = All-head p first tail (All-same p (first ∷ tail) rest (sym is) was.0) in
          let of_group : opacity g.effect ≡ g.opacity = subst (λ (z : Group). opacity z.effect ≡ z.opacity) (sym here) (of_first depth g lt) in
          let of_run : HaveOpacities opacity run = All-same p run (take n rest) run_is (All-take p n rest was.0) in (
            All-same p after (drop n rest) after_is (All-drop p n rest was.0),
            λ x y seen below. painted x y seen below opacity of_group of_run (was.1 x y seen below) built whole,
          );
    }
  where
    painted : (x y : ℤ) → covers view x y ≡ true → (below : Parts) (opacity : ℕ → ℕ) → opacity g.effect ≡ g.opacity → HaveOpacities opacity run
        → folded opacity (items_at groups_of (own_colour x y) depth rest) (quads_over (passes_at x y [] new) x y below quads) ≡ folded opacity (items_at groups_of (own_colour x y) depth layers) below
        → (built : AreBuilt w h view (suc depth) run new mid inner) → last ≡ new ++ (built.added ++ inner ∷ [])
        → folded opacity (items_at groups_of (own_colour x y) depth after) (quads_over (passes_at x y [] last) x y below more) ≡ folded opacity (items_at groups_of (own_colour x y) depth layers) below
    painted x y seen below opacity of_group of_run was built whole =
        let before : Parts = quads_over (passes_at x y [] new) x y below quads in
        let same : quads_over (passes_at x y [] last) x y below quads ≡ quads_over (passes_at x y [] new) x y below quads =
        ap (λ (ps : List (List QuadView)). quads_over (passes_at x y [] ps) x y below quads) whole ∙ over_later w h x y below new (built.added ++ inner ∷ []) quads b.fit in
        let shown : quads_over (passes_at x y [] last) x y below more ≡ blend before (scaled (folded opacity (items_at groups_of (own_colour x y) (suc depth) run) clear) g.opacity) =
        ap (λ (qs : List QuadView). quads_over (passes_at x y [] last) x y below qs) more_is
        ∙ quads_append (passes_at x y [] last) x y below quads (grouped (length mid) g.opacity ∷ [])
        ∙ ap (λ (c : Parts). quad_over (passes_at x y [] last) x y c (grouped (length mid) g.opacity)) same
        ∙ ap (λ (ps : List (List QuadView)). quad_over (passes_at x y [] ps) x y before (grouped (length mid) g.opacity)) last_is
        ∙ group_colour w h view (suc depth) run new mid inner opacity g.opacity x y before built of_run seen in
        let step = group_step groups_of (own_colour x y) opacity depth g.effect rest first tail before is (lies_here first depth g lt here) in
        ap (λ (ls : List LayerParts). folded opacity (items_at groups_of (own_colour x y) depth ls) (quads_over (passes_at x y [] last) x y below more)) after_is
        ∙ ap (λ (c : Parts). folded opacity (items_at groups_of (own_colour x y) depth (drop n rest)) c) shown
        ∙ ap (λ (ls : List LayerParts). folded opacity (items_at groups_of (own_colour x y) depth (drop n rest)) (blend before (scaled (folded opacity (items_at groups_of (own_colour x y) (suc depth) ls) clear) g.opacity))) run_is
        ∙ ap (λ (o : ℕ). folded opacity (items_at groups_of (own_colour x y) depth (drop n rest)) (blend before (scaled (folded opacity (items_at groups_of (own_colour x y) (suc depth) (take n rest)) clear) o))) (sym of_group)
        ∙ ap (λ (k : ℕ). folded opacity (items_at groups_of (own_colour x y) depth (drop k rest)) (blend before (scaled (folded opacity (items_at groups_of (own_colour x y) (suc depth) (take k rest)) clear) (opacity g.effect)))) len
        ∙ sym step
        ∙ was
