-- Rects written one by one.
use Rattle.std.proofs.Common.{◌≡◌, ℕ, zero, suc, ◌+◌, ◌-◌, ◌^◌, ◌<◌, ◌≤◌, ℤ, pos, negsuc, ◌≤ℤ◌, List, [], ◌∷◌, ◌++◌, length, take, set, get_or, filter_map, Option, Some, None, refl, ap, sym, ◌∙◌, arith, length-append}
use Rattle.std.specs.List.{cons_option}
use Rattle.std.specs.Int.{int_min, int_max, saturate_to_bits}
use Rattle.std.proofs.lemmas.Int.{ints, clamps}
use Rattle.std.proofs.lemmas.List.{take_more}
use Rattle.std.proofs.lemmas.List.Elements.{filter_map-append}
use Rattle.geom.specs.declared.rect.Rect.{Rect}
use Rattle.cc_c.specs.declared.damage.DamageRect.{DamageRect}
use Rattle.cc_c.specs.Damages.{part_in, parts_in, put_at, written}

-- a rect past the end of a buffer is not written
pub put_past : (at : ℕ) (r : DamageRect) (old : List DamageRect) → (at < length old → ⊥) → set old at r ≡ old
put_past at r [] h = refl
put_past zero r (o ∷ os) h = absurd (h (omega arith))
put_past (suc at) r (o ∷ os) h = ap (λ (xs : List DamageRect). o ∷ xs) (put_past at r os (λ lt. h (omega (arith, lt))))

-- one part more, if there is one
pub written_more : (rs : List DamageRect) (p : Option DamageRect) (old : List DamageRect) → written (rs ++ cons_option p []) old ≡ put_at (length rs) p (written rs old)
written_more [] None old = refl
written_more [] (Some r) [] = refl
written_more [] (Some r) (o ∷ os) = refl
written_more (q ∷ rs) None [] = refl
written_more (q ∷ rs) (Some r) [] = refl
written_more (q ∷ rs) None (o ∷ os) = ap (λ (xs : List DamageRect). q ∷ xs) (written_more rs None os)
written_more (q ∷ rs) (Some r) (o ∷ os) = ap (λ (xs : List DamageRect). q ∷ xs) (written_more rs (Some r) os)

added : (i count : ℕ) (p : Option DamageRect) → count ≤ i → count + length (cons_option p []) ≤ i + 1
added i count None le = omega (arith, le)
added i count (Some r) le = omega (arith, le)

-- there are at most as many as rects were looked at
pub few_more : (i count next : ℕ) (p : Option DamageRect) → count ≤ i → next ≡ count + length (cons_option p []) → next ≤ i + 1
few_more i count next p le is = let h = added i count p le in omega (arith, h, is)

-- the parts of some rects and of one more
parts_more : (w h : ℕ) (rs : List Rect) (i : ℕ) (d : Rect) → i < length rs → parts_in w h (take (i + 1) rs) ≡ parts_in w h (take i rs) ++ cons_option (part_in w h (get_or rs i d)) []
parts_more w h rs i d lt = ap (λ (qs : List Rect). filter_map (part_in w h) qs) (take_more rs i d lt) ∙ filter_map-append (part_in w h) (take i rs) (get_or rs i d ∷ [])

-- how many there are then
pub count_more : (w h : ℕ) (rs : List Rect) (i count next : ℕ) (d : Rect) → i < length rs → count ≡ length (parts_in w h (take i rs)) → next ≡ count + length (cons_option (part_in w h (get_or rs i d)) [])
    → next ≡ length (parts_in w h (take (i + 1) rs))
count_more w h rs i count next d lt was is =
    is ∙ ap (λ n. n + length (cons_option (part_in w h (get_or rs i d)) [])) was
    ∙ sym (ap length (parts_more w h rs i d lt) ∙ length-append (parts_in w h (take i rs)) (cons_option (part_in w h (get_or rs i d)) []))

-- what is written then
pub rects_more : (w h : ℕ) (rs : List Rect) (i count : ℕ) (d : Rect) (old to new : List DamageRect) → i < length rs → count ≡ length (parts_in w h (take i rs)) → to ≡ written (parts_in w h (take i rs)) old
    → new ≡ put_at count (part_in w h (get_or rs i d)) to → new ≡ written (parts_in w h (take (i + 1) rs)) old
rects_more w h rs i count d old to new lt long was is =
    is ∙ ap (λ (xs : List DamageRect). put_at count (part_in w h (get_or rs i d)) xs) was
    ∙ ap (λ n. put_at n (part_in w h (get_or rs i d)) (written (parts_in w h (take i rs)) old)) long
    ∙ sym (ap (λ (xs : List DamageRect). written xs old) (parts_more w h rs i d lt) ∙ written_more (parts_in w h (take i rs)) (part_in w h (get_or rs i d)) old)

-- ---- spans

-- a sum that is too large or too small is cut without harm, as what is taken of it lies between 0 and a side
pub end_saturated : (side z : ℤ) → pos 0 ≤ℤ side → side ≤ℤ pos (2 ^ 31 - 1) → int_min (int_max (saturate_to_bits 31 z) (pos 0)) side ≡ int_min (int_max z (pos 0)) side
end_saturated side (pos n) low high = omega (arith, ints, clamps)
end_saturated side (negsuc n) low high = omega (arith, ints, clamps)
