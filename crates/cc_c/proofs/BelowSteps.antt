-- Numbers that may not be below 0, one after another.
use Rattle.std.proofs.Common.{◌≡◌, ℕ, ◌+◌, ◌<◌, ◌≤◌, ℤ, Bool, true, false, cond, Option, Some, None, List, length, drop, get_or, refl, ap, ◌∙◌}
use Rattle.std.proofs.lemmas.List.{drop_more, drop_all}
use Rattle.cc_c.specs.declared.bad_numbers.BadNumbers.{BadNumbers}
use Rattle.cc_c.specs.declared.bad_numbers.BadNumbers.TheVariants as cause
use Rattle.cc_c.specs.BadNumbers.{is_below, first_below}

step : (i : ℕ) (ws : List Bool) (ns : List ℤ) (d : Bool) (e : ℤ) → i < length ws → i < length ns
    → first_below i (drop i ws) (drop i ns) ≡ cond (is_below (get_or ws i d) (get_or ns i e)) (Some (cause.BelowZero i (get_or ns i e))) (first_below (i + 1) (drop (i + 1) ws) (drop (i + 1) ns))
step i ws ns d e lt le = λ k. first_below i (drop_more ws i d lt k) (drop_more ns i e le k)

-- this number is the first
pub below_here : (i : ℕ) (ws : List Bool) (ns : List ℤ) (d : Bool) (e : ℤ) → i < length ws → i < length ns → is_below (get_or ws i d) (get_or ns i e) ≡ true
    → first_below i (drop i ws) (drop i ns) ≡ Some (cause.BelowZero i (get_or ns i e))
below_here i ws ns d e lt le below = step i ws ns d e lt le ∙ ap (λ (b : Bool). cond b (Some (cause.BelowZero i (get_or ns i e))) (first_below (i + 1) (drop (i + 1) ws) (drop (i + 1) ns))) below

-- this number is not
pub below_next : (i : ℕ) (ws : List Bool) (ns : List ℤ) (d : Bool) (e : ℤ) → i < length ws → i < length ns → is_below (get_or ws i d) (get_or ns i e) ≡ false
    → first_below i (drop i ws) (drop i ns) ≡ first_below (i + 1) (drop (i + 1) ws) (drop (i + 1) ns)
below_next i ws ns d e lt le above = step i ws ns d e lt le ∙ ap (λ (b : Bool). cond b (Some (cause.BelowZero i (get_or ns i e))) (first_below (i + 1) (drop (i + 1) ws) (drop (i + 1) ns))) above

-- no number is left
pub below_none : (i : ℕ) (ws : List Bool) (ns : List ℤ) → length ws ≤ i → first_below i (drop i ws) (drop i ns) ≡ None
below_none i ws ns le = ap (λ (bs : List Bool). first_below i bs (drop i ns)) (drop_all i ws le)
