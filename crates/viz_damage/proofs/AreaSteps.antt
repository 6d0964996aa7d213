-- Rects that hold others.
use Rattle.std.proofs.Common.{◌≡◌, ℕ, zero, suc, ◌+◌, ◌<◌, ℤ, ◌+ℤ◌, ◌≤ℤ◌, Bool, true, false, ◌||◌, List, [], ◌∷◌, ◌++◌, length, get_or, take, drop, set, refl, sym, ◌∙◌, ap, add-one, drop-cons, arith}
use Rattle.std.proofs.lemmas.Int.{ints}
use Rattle.std.proofs.lemmas.List.{take-append-drop, take-set, drop-set}
use Rattle.std.proofs.lemmas.List.Folds.{list_any-append}
use Rattle.geom.specs.declared.Rect.{Rect}
use Rattle.geom.specs.Covers.{covers, within}
use Rattle.geom.proofs.Spans.{inside, is_within_of, both, both_of}
use Rattle.region.specs.Points.{covered}
use Rattle.region.proofs.Covering.{covered_push}
use Rattle.std.specs.Prelude.{All}
use Rattle.viz_scene.specs.Areas.{Holds, IsOnScreen}
use Rattle.viz_scene.proofs.RectSteps.{not_either}
use Rattle.viz_damage.specs.inner.Areas.{HoldAll}

-- neither of two tests holds
pub neither : (a b : Bool) → (a || b) ≡ false → (a ≡ false) × (b ≡ false)
neither true b h = cc
neither false b h = (refl, h)

pub neither_of : (a b : Bool) → a ≡ false → b ≡ false → (a || b) ≡ false
neither_of a b h k = rw (h, k) refl

-- rects of which one is taken out
out_of : (rs : List Rect) (i : ℕ) (r : Rect) → i < length rs → r ≡ get_or rs i r → rs ≡ take i rs ++ r ∷ drop (i + 1) rs
out_of rs i r lt e =
    sym (take-append-drop i rs)
    ∙ ap (λ (ts : List Rect). take i rs ++ ts) (drop-cons rs i r lt ∙ ap (λ (t : Rect). t ∷ drop (suc i) rs) (sym e))
    ∙ ap (λ (n : ℕ). take i rs ++ r ∷ drop n rs) (sym (add-one i))

-- the area, joined with a rect that is taken out of the list, and the rest of the list hold what both held
pub joined_holds : (rs rest : List Rect) (i : ℕ) (r area whole : Rect) → i < length rs → r ≡ get_or rs i r → rest ≡ take i rs ++ drop (i + 1) rs
    → Holds whole area → Holds whole r → HoldAll (whole ∷ rest) (area ∷ rs)
joined_holds rs rest i r area whole lt e f first second x y h =
    let k = neither (covers whole x y) (covered rest x y) h in
    let parts = sym (list_any-append (λ s. covers s x y) (take i rs) (drop (i + 1) rs)) ∙ sym (ap (λ ss. covered ss x y) f) ∙ k.1 in
    let p = neither (covered (take i rs) x y) (covered (drop (i + 1) rs) x y) parts in
    neither_of (covers area x y) (covered rs x y) (first x y k.0)
    (ap (λ ss. covered ss x y) (out_of rs i r lt e) ∙ list_any-append (λ s. covers s x y) (take i rs) (r ∷ drop (i + 1) rs)
    ∙ neither_of (covered (take i rs) x y) (covered (r ∷ drop (i + 1) rs) x y) p.0
    (neither_of (covers r x y) (covered (drop (i + 1) rs) x y) (second x y k.0) p.1))

-- rects of which one is put in the place of another
set_at : (rs : List Rect) (i : ℕ) (whole : Rect) → i < length rs → set rs i whole ≡ take i rs ++ whole ∷ drop (i + 1) rs
set_at rs i whole lt =
    sym (take-append-drop i (set rs i whole))
    ∙ ap (λ (ts : List Rect). ts ++ drop i (set rs i whole)) (take-set rs i whole)
    ∙ ap (λ (ts : List Rect). take i rs ++ ts) (drop-set rs i whole lt)

-- a rect that holds an area, and the rect in whose place it is put
pub set_holds : (rs : List Rect) (i : ℕ) (r area whole : Rect) → i < length rs → r ≡ get_or rs i r
    → Holds whole r → Holds whole area → HoldAll (set rs i whole) (area ∷ rs)
set_holds rs i r area whole lt e first second x y h =
    let parts = sym (ap (λ ss. covered ss x y) (set_at rs i whole lt) ∙ list_any-append (λ s. covers s x y) (take i rs) (whole ∷ drop (i + 1) rs)) ∙ h in
    let p = neither (covered (take i rs) x y) (covered (whole ∷ drop (i + 1) rs) x y) parts in
    let k = neither (covers whole x y) (covered (drop (i + 1) rs) x y) p.1 in
    neither_of (covers area x y) (covered rs x y) (second x y k.0)
    (ap (λ ss. covered ss x y) (out_of rs i r lt e) ∙ list_any-append (λ s. covers s x y) (take i rs) (r ∷ drop (i + 1) rs)
    ∙ neither_of (covered (take i rs) x y) (covered (r ∷ drop (i + 1) rs) x y) p.0
    (neither_of (covers r x y) (covered (drop (i + 1) rs) x y) (first x y k.0) k.1))

pub holds_through : (rs ss ts : List Rect) → HoldAll rs ss → HoldAll ss ts → HoldAll rs ts
holds_through rs ss ts f g x y h = g x y (f x y h)

-- a rect at the end of a list holds as at its front
pub pushed_holds : (rs : List Rect) (r : Rect) → HoldAll (rs ++ r ∷ []) (r ∷ rs)
pushed_holds rs r x y h =
    let k = neither (covered rs x y) (covers r x y) (sym (covered_push rs r x y) ∙ h) in
    neither_of (covers r x y) (covered rs x y) k.1 k.0

pub one_on_screen : (r : Rect) → IsOnScreen r → All IsOnScreen (r ∷ [])
one_on_screen r s zero d lt = s
one_on_screen r s (suc k) d lt = absurd (omega arith)

-- a number of a span is one of a span that ends nowhere before it
within_held : (a m b n p : ℤ) → a ≤ℤ b → (b +ℤ n) ≤ℤ (a +ℤ m) → within b n p ≡ true → within a m p ≡ true
within_held a m b n p start end h = let i = inside b n p h in is_within_of a m p (record { low = omega (arith, ints); high = omega (arith, ints) })

-- a rect holds another that ends nowhere beyond it
pub holds_inner : (r s : Rect) → r.x ≤ℤ s.x → (s.x +ℤ s.w) ≤ℤ (r.x +ℤ r.w) → r.y ≤ℤ s.y → (s.y +ℤ s.h) ≤ℤ (r.y +ℤ r.h) → Holds r s
holds_inner r s left right top bottom x y =
    not_either (covers r x y) (covers s x y)
    (λ h. let k = both _ _ h in both_of _ _ (within_held r.x r.w s.x s.w x left right k.0) (within_held r.y r.h s.y s.h y top bottom k.1))
