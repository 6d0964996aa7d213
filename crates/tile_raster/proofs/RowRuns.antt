-- The colour of a run of columns of a row, told by the topmost opaque span and those above it.
use Rattle.std.proofs.Common.{◌≡◌, ℕ, ◌<◌, ◌≤◌, ◌+◌, ◌-◌, ◌*◌, inl, inr, Bool, true, false, ◌&&◌, nat_le, nat_lt, cond, List, ◌∷◌, length, take, drop, sym, ◌∙◌, ap, subst, arith}
use Rattle.std.specs.Prelude.{fold, slice_index_or}
use Rattle.std.proofs.lemmas.Bool.{cases_lt}
use Rattle.std.proofs.lemmas.Bool.Decides.{nat_tests}
use Rattle.std.proofs.lemmas.List.{drop_more, take-append-drop}
use Rattle.std.proofs.lemmas.List.Sums.{fold-append}
use Rattle.pixel.specs.declared.Area.{Area}
use Rattle.pixel.specs.Colours.{Parts, blend, clear, above, times_255}
use Rattle.pixel.specs.Rows.{pixel}
use Rattle.pixel.specs.Surfaces.{holds, within_rows, EachPixel}
use Rattle.tile_raster.specs.declared.spans.Span.{Span}
use Rattle.tile_raster.specs.inner.Patches.{has_column, spanned, spans_show, AreAlike}

-- one more span below those that are alike
alike_below : (s : Span) (rest : List Span) (x end next : ℕ) → AreAlike rest x end → next ≤ end
    → ((z : ℕ) → x ≤ z → z < next → has_column s z ≡ has_column s x) → AreAlike (s ∷ rest) x next
alike_below s rest x end next alike le same z from to below =
    alike z from (omega arith) (spanned z below s)
    ∙ ap (λ (t : Bool). fold (spanned x) (cond t (blend below s.colour) below) rest) (same z from to)

pub alike_more : (spans : List Span) (first x end next : ℕ) (d : Span) → first < length spans → AreAlike (drop (first + 1) spans) x end → next ≤ end
    → ((z : ℕ) → x ≤ z → z < next → has_column (slice_index_or spans first d) z ≡ has_column (slice_index_or spans first d) x)
    → AreAlike (drop first spans) x next
alike_more spans first x end next d lt alike le same =
    subst (λ (l : List Span). AreAlike l x next) (sym (drop_more spans first d lt))
    (alike_below (slice_index_or spans first d) (drop (first + 1) spans) x end next alike le same)

-- nothing shows below an opaque colour
nothing_below : (n : ℕ) → times_255 n 0 ≡ 0
nothing_below n = omega arith

opaque_part : (below source alpha : ℕ) → alpha ≡ 255 → above below source alpha ≡ source
opaque_part below source alpha e =
    let none : 255 - alpha ≡ 0 = omega arith in
    let zero : times_255 below (255 - alpha) ≡ 0 = ap (times_255 below) none ∙ nothing_below below in
    omega arith

opaque_blend : (below c : Parts) → c.a ≡ 255 → blend below c ≡ blend clear c
opaque_blend below c e =
    let r = opaque_part below.r c.r c.a e ∙ sym (opaque_part 0 c.r c.a e) in
    let g = opaque_part below.g c.g c.a e ∙ sym (opaque_part 0 c.g c.a e) in
    let b = opaque_part below.b c.b c.a e ∙ sym (opaque_part 0 c.b c.a e) in
    let a = opaque_part below.a c.a c.a e ∙ sym (opaque_part 0 c.a c.a e) in
    λ i. record { r = r i; g = g i; b = b i; a = a i }

hides : (s : Span) (x : ℕ) (below : Parts) → has_column s x ≡ true → s.colour.a ≡ 255 → spanned x below s ≡ spanned x clear s
hides s x below there opaque =
    ap (λ (t : Bool). cond t (blend below s.colour) below) there
    ∙ opaque_blend below s.colour opaque
    ∙ sym (ap (λ (t : Bool). cond t (blend clear s.colour) clear) there)

-- all spans, in a column where those from a place on are alike
parted : (spans : List Span) (first x end z : ℕ) → AreAlike (drop first spans) x end → x ≤ z → z < end
    → spans_show spans z ≡ fold (spanned x) (fold (spanned z) clear (take first spans)) (drop first spans)
parted spans first x end z alike from to =
    ap (fold (spanned z) clear) (sym (take-append-drop first spans))
    ∙ fold-append (spanned z) clear (take first spans) (drop first spans)
    ∙ alike z from to (fold (spanned z) clear (take first spans))

-- below an opaque span that has the column no other tells the colour
pub told_from : (spans : List Span) (first x end : ℕ) (d : Span) → first < length spans → AreAlike (drop first spans) x end
    → has_column (slice_index_or spans first d) x ≡ true → (slice_index_or spans first d).colour.a ≡ 255
    → (z : ℕ) → x ≤ z → z < end → spans_show spans z ≡ fold (spanned x) clear (drop first spans)
told_from spans first x end d lt alike there opaque z from to =
    let s = slice_index_or spans first d in
    let rest = drop (first + 1) spans in
    let below = fold (spanned z) clear (take first spans) in
    let cut : drop first spans ≡ s ∷ rest = drop_more spans first d lt in
    parted spans first x end z alike from to
    ∙ ap (fold (spanned x) below) cut
    ∙ ap (λ (c : Parts). fold (spanned x) c rest) (hides s x below there opaque)
    ∙ sym (ap (fold (spanned x) clear) cut)

-- the colour of the columns up to `next`, told by the span that was looked at last and those above it
pub told_here : (spans : List Span) (last x end next : ℕ) (s : Span) → 0 < last → last ≤ length spans → s ≡ slice_index_or spans (last - 1) s
    → AreAlike (drop last spans) x end → next ≤ end → ((z : ℕ) → x ≤ z → z < next → has_column s z ≡ has_column s x)
    → has_column s x ≡ true → s.colour.a ≡ 255
    → (z : ℕ) → x ≤ z → z < next → spans_show spans z ≡ fold (spanned x) clear (drop (last - 1) spans)
told_here spans last x end next s some there is alike le same column opaque =
    let first = last - 1 in
    let low : first < length spans = omega arith in
    let e : last ≡ first + 1 = omega arith in
    let above = subst (λ (n : ℕ). AreAlike (drop n spans) x end) e alike in
    told_from spans first x next s low
    (alike_more spans first x end next s low above le (λ z from to. subst (λ (t : Span). has_column t z ≡ has_column t x) is (same z from to)))
    (subst (λ (t : Span). has_column t x ≡ true) is column) (subst (λ (t : Span). t.colour.a ≡ 255) is opaque)

-- ---- one run drawn

-- the columns of a run, in one row
abbrev pub run_area : ℕ → ℕ → ℕ → Area
run_area x end y = record { x = x; y = y; w = end - x; h = 1 }

in_run : (x end y z : ℕ) → x ≤ z → z < end → holds (run_area x end y) z y ≡ true
in_run x end y z from to = in_it x (x + (end - x)) y (y + 1) z y from (omega arith) (omega arith) (omega arith)
  where
    in_it : (a b c d z y : ℕ) → a ≤ z → z < b → c ≤ y → y < d → nat_le a z && nat_lt z b && nat_le c y && nat_lt y d ≡ true
    in_it a b c d z y l r u v = grind (arith, nat_tests)

left_of_run : (x end y z : ℕ) → z < x → holds (run_area x end y) z y ≡ false
left_of_run x end y z lt = not_in x (x + (end - x)) (nat_le y y) (nat_lt y (y + 1)) z lt
  where
    not_in : (a b : ℕ) (t u : Bool) (z : ℕ) → z < a → nat_le a z && nat_lt z b && t && u ≡ false
    not_in a b t u z l = grind (arith, nat_tests)

other_row : (x end y z t : ℕ) → (t ≡ y → ⊥) → holds (run_area x end y) z t ≡ false
other_row x end y z t other = not_in (nat_le x z) (nat_lt z (x + (end - x))) y t other
  where
    not_in : (a b : Bool) (y t : ℕ) → (t ≡ y → ⊥) → a && b && nat_le y t && nat_lt t (y + 1) ≡ false
    not_in a b y t o = grind (arith, nat_tests)

module _ (width kept place x end : ℕ) (colour : Parts) (old new : List ℕ)
    (each : EachPixel width kept (within_rows (run_area x end place) 1 (λ z y below. colour)) old new) where
  pub run_drawn : (spans : List Span) → place < kept → end ≤ width
      → ((z : ℕ) → z < x → pixel old (place * width + z) ≡ spans_show spans z)
      → ((z : ℕ) → x ≤ z → z < end → spans_show spans z ≡ colour)
      → (z : ℕ) → z < end → pixel new (place * width + z) ≡ spans_show spans z
  run_drawn spans row le before told z lt =
      let here = each z place (omega arith) row in
      elim (cases_lt z x) as (λ _. pixel new (place * width + z) ≡ spans_show spans z) [
        | inl less ↦
            here ∙ ap (λ (t : Bool). cond t colour (pixel old (place * width + z))) (left_of_run x end place z less) ∙ before z less
        | inr from ↦
            here ∙ ap (λ (t : Bool). cond t colour (pixel old (place * width + z))) (in_run x end place z from lt) ∙ sym (told z from lt)
      ]

  pub others_stay : (z y : ℕ) → z < width → y < kept → (y ≡ place → ⊥) → pixel new (y * width + z) ≡ pixel old (y * width + z)
  others_stay z y zw yk other =
      each z y zw yk ∙ ap (λ (t : Bool). cond t colour (pixel old (y * width + z))) (other_row x end place z y other)
