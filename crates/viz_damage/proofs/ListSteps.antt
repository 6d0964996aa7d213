-- Two lists of quads, one step further.
use Rattle.std.proofs.Common.{◌≡◌, ℕ, suc, add-one, drop-cons, ◌+◌, ◌-◌, ◌<◌, ℤ, false, List, [], ◌∷◌, length, get_or, take, drop, refl, sym, ◌∙◌, ap, subst, arith}
use Rattle.std.specs.Prelude.{All}
use Rattle.std.proofs.lemmas.List.{take-append-drop, take-map, map-append, length-map, take_all}
use Rattle.std.proofs.lemmas.List.Elements.{All-take}
use Rattle.geom.specs.declared.Rect.{Rect}
use Rattle.geom.specs.Covers.{covers}
use Rattle.region.specs.Points.{covered}
use Rattle.pixel.specs.Colours.{Parts}
use Rattle.viz_scene.specs.declared.Quad.{Quad}
use Rattle.viz_scene.specs.Views.{QuadView, quad_view, quads_view}
use Rattle.viz_scene.specs.Pixels.{quad_over, quads_over}
use Rattle.viz_scene.specs.Sound.{QuadFits}
use Rattle.viz_scene.proofs.Steps.{quads_append}
use Rattle.viz_damage.specs.inner.Areas.{HoldAll}
use Rattle.viz_damage.specs.inner.Alike.{ActAlike, ActListsAlike, GoOnAlike, ActWithin, DifferWithin}
use Rattle.viz_damage.proofs.AreaSteps.{neither, neither_of}
use Rattle.viz_damage.proofs.QuadSteps.{over_more}

-- quads that act alike after two prefixes
pub go_on : (olds news : List Quad) (i j : ℕ) (q r : Quad) → i < length olds → j < length news → q ≡ get_or olds i q → r ≡ get_or news j r
    → ActAlike (quad_view q) (quad_view r) → GoOnAlike (quads_view olds) i (quads_view news) j
go_on olds news i j q r lt less e f act passes x y below same =
    over_more passes x y below olds i q lt e
    ∙ act passes x y (quads_over passes x y below (take i (quads_view olds)))
    ∙ ap (λ (c : Parts). quad_over passes x y c (quad_view r)) same
    ∙ sym (over_more passes x y below news j r less f)

-- quads that are gone and quads that have come
pub changed : (reaches damage first second : List Rect) (qs qs2 rs rs2 : List QuadView) → HoldAll first damage → HoldAll second first
    → DifferWithin reaches damage qs rs → DifferWithin reaches first qs2 qs → DifferWithin reaches second rs2 rs → DifferWithin reaches second qs2 rs2
changed reaches damage first second qs qs2 rs rs2 holds more d gone come x y h passes clears below =
    let out = more x y h in
    gone x y out passes clears below ∙ d x y (holds x y out) passes clears below ∙ sym (come x y h passes clears below)

-- a quad that stands in the place of another
pub changed_one : (reaches damage more : List Rect) (olds news : List Quad) (i j : ℕ) (q r : Quad) → i < length olds → j < length news
    → q ≡ get_or olds i q → r ≡ get_or news j r → HoldAll more damage → DifferWithin reaches more (quad_view q ∷ []) (quad_view r ∷ [])
    → DifferWithin reaches damage (take i (quads_view olds)) (take j (quads_view news))
    → DifferWithin reaches more (take (i + 1) (quads_view olds)) (take (j + 1) (quads_view news))
changed_one reaches damage more olds news i j q r lt less e f held one d x y out passes clears below =
    over_more passes x y below olds i q lt e
    ∙ one x y out passes clears (quads_over passes x y below (take i (quads_view olds)))
    ∙ ap (λ (c : Parts). quad_over passes x y c (quad_view r)) (d x y (held x y out) passes clears below)
    ∙ sym (over_more passes x y below news j r less f)

-- one more area
pub area_more : (reaches damage more : List Rect) (area : Rect) (quads : List Quad) (start i : ℕ) (q : Quad) → i < length quads → q ≡ get_or quads i q
    → HoldAll more (area ∷ damage) → ActWithin reaches (area ∷ []) (quad_view q ∷ [])
    → DifferWithin reaches damage (take i (quads_view quads)) (take start (quads_view quads))
    → DifferWithin reaches more (take (i + 1) (quads_view quads)) (take start (quads_view quads))
area_more reaches damage more area quads start i q lt e holds act d x y h passes clears below =
    let k = neither (covers area x y) (covered damage x y) (holds x y h) in
    over_more passes x y below quads i q lt e
    ∙ act x y (neither_of (covers area x y) false k.0 refl) passes clears (quads_over passes x y below (take i (quads_view quads)))
    ∙ d x y k.1 passes clears below

pub held_more : (damage more before : List Rect) (area : Rect) → HoldAll more (area ∷ damage) → HoldAll damage before → HoldAll more before
held_more damage more before area holds had x y h = had x y (neither (covers area x y) (covered damage x y) (holds x y h)).1

-- a list from one of its quads on
drop_at : (quads : List Quad) (i : ℕ) (q : Quad) → i < length quads → q ≡ get_or quads i q → drop i quads ≡ q ∷ drop (i + 1) quads
drop_at quads i q lt e =
    drop-cons quads i q lt ∙ ap (λ (r : Quad). r ∷ drop (suc i) quads) (sym e) ∙ ap (λ (n : ℕ). q ∷ drop n quads) (sym (add-one i))

end_more : (quads : List Quad) (n : ℕ) (q : Quad) → n < length quads → q ≡ get_or quads (length quads - 1 - n) q
    → drop (length quads - (n + 1)) quads ≡ q ∷ drop (length quads - n) quads
end_more quads n q lt e =
    let i : length quads - (n + 1) ≡ length quads - 1 - n = omega arith in
    let j : length quads - 1 - n + 1 ≡ length quads - n = omega arith in
    ap (λ (k : ℕ). drop k quads) i ∙ drop_at quads (length quads - 1 - n) q (omega arith) e ∙ ap (λ (k : ℕ). q ∷ drop k quads) j

pub ends_more : (olds news : List Quad) (n : ℕ) (q r : Quad) → n < length olds → n < length news → q ≡ get_or olds (length olds - 1 - n) q
    → r ≡ get_or news (length news - 1 - n) r → ActAlike (quad_view q) (quad_view r)
    → ActListsAlike (quads_view (drop (length olds - n) olds)) (quads_view (drop (length news - n) news))
    → ActListsAlike (quads_view (drop (length olds - (n + 1)) olds)) (quads_view (drop (length news - (n + 1)) news))
ends_more olds news n q r lt less e f act alike passes x y below =
    ap (λ (qs : List Quad). quads_over passes x y below (quads_view qs)) (end_more olds n q lt e)
    ∙ alike passes x y (quad_over passes x y below (quad_view q))
    ∙ ap (λ (c : Parts). quads_over passes x y c (quads_view (drop (length news - n) news))) (act passes x y below)
    ∙ ap (λ (qs : List Quad). quads_over passes x y below (quads_view qs)) (sym (end_more news n r less f))

-- fronts and ends
parted : (passes : List Parts) (x y : ℤ) (below : Parts) (quads : List Quad) (n : ℕ)
    → quads_over passes x y below (quads_view quads) ≡ quads_over passes x y (quads_over passes x y below (quads_view (take n quads))) (quads_view (drop n quads))
parted passes x y below quads n =
    ap (λ (qs : List Quad). quads_over passes x y below (quads_view qs)) (sym (take-append-drop n quads))
    ∙ ap (quads_over passes x y below) (map-append quad_view (take n quads) (drop n quads))
    ∙ quads_append passes x y below (quads_view (take n quads)) (quads_view (drop n quads))

pub ends_joined : (reaches damage : List Rect) (olds news : List Quad) (n m : ℕ)
    → ActListsAlike (quads_view (drop n olds)) (quads_view (drop m news))
    → DifferWithin reaches damage (quads_view (take n olds)) (quads_view (take m news))
    → DifferWithin reaches damage (quads_view olds) (quads_view news)
ends_joined reaches damage olds news n m alike d x y h passes clears below =
    parted passes x y below olds n
    ∙ alike passes x y (quads_over passes x y below (quads_view (take n olds)))
    ∙ ap (λ (c : Parts). quads_over passes x y c (quads_view (drop m news))) (d x y h passes clears below)
    ∙ sym (parted passes x y below news m)

pub fit_front : (n : ℕ) (quads : List Quad) (k : ℕ) → All (QuadFits 2048 2048 n) (quads_view quads) → All (QuadFits 2048 2048 n) (quads_view (take k quads))
fit_front n quads k all =
    subst (All (QuadFits 2048 2048 n)) (take-map quad_view k quads) (All-take (QuadFits 2048 2048 n) k (quads_view quads) all)

-- all quads
pub differ_all : (reaches damage : List Rect) (olds news : List Quad) (i j : ℕ) → length olds ≡ i → length news ≡ j
    → DifferWithin reaches damage (take i (quads_view olds)) (take j (quads_view news)) → DifferWithin reaches damage (quads_view olds) (quads_view news)
differ_all reaches damage olds news i j e f d =
    let long : length (quads_view olds) ≡ length olds = length-map olds quad_view in
    let wide : length (quads_view news) ≡ length news = length-map news quad_view in
    subst (λ (qs : List QuadView). DifferWithin reaches damage qs (quads_view news)) (take_all i (quads_view olds) (omega arith))
    (subst (DifferWithin reaches damage (take i (quads_view olds))) (take_all j (quads_view news) (omega arith)) d)
