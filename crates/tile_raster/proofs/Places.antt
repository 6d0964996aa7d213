-- The places of the rows among those that are kept.
use Rattle.std.proofs.Common.{◌≡◌, ℕ, zero, suc, ◌<◌, ◌≤◌, ◌+◌, ◌-◌, inl, inr, ◌⊎◌, Bool, true, false, cond, List, [], ◌∷◌, ◌++◌, length, take, slice_index, refl, sym, ◌∙◌, ap, subst, arith}
use Rattle.std.specs.Prelude.{slice_index_or, All}
use Rattle.std.proofs.lemmas.Bool.{cases_lt}
use Rattle.std.proofs.lemmas.Grind.{common_steps}
use Rattle.std.proofs.lemmas.Int.{clamps}
use Rattle.std.proofs.lemmas.List.{get_or_default, get_or_past, get_or-take, length-take}
use Rattle.tile_raster.specs.inner.Bands.{IsStep, AreSteps, IsCount, place_of}

old_place : (places : List ℕ) (p k : ℕ) → k < length places → slice_index (places ++ p ∷ []) k ≡ slice_index places k
old_place places p k lt = grind (arith, common_steps)

new_place : (places : List ℕ) (p k : ℕ) → k ≡ length places → slice_index (places ++ p ∷ []) k ≡ p
new_place places p k e = grind (arith, common_steps)

-- whether a row has the next place
abbrev pub one_if : Bool → ℕ
one_if change = cond change 1 0

step_at : (level : ℕ → Type 0) (places : List ℕ) (p k : ℕ) (change : Bool) → k + 1 ≡ length places
    → p ≡ slice_index places k + one_if change → (change ≡ false → level k) → IsStep level (places ++ p ∷ []) k
step_at level places p k true e next same =
    let old = old_place places p k (omega arith) in
    let new = new_place places p (k + 1) e in
    inr (omega arith)
step_at level places p k false e next same =
    let old = old_place places p k (omega arith) in
    let new = new_place places p (k + 1) e in
    inl (omega arith, same refl)

-- one more place
pub count_more : (places : List ℕ) (p : ℕ) → length (places ++ p ∷ []) ≡ length places + 1
count_more places p = grind (arith, common_steps)

pub steps_more : (places : List ℕ) (p : ℕ) (change : ℕ → Bool)
    → ((k : ℕ) → k + 1 < length places → IsStep (λ y. change (y + 1) ≡ false) places k)
    → ((k : ℕ) → k + 1 ≡ length places → p ≡ slice_index places k + one_if (change (k + 1)))
    → (k : ℕ) → k + 1 < length places + 1 → IsStep (λ y. change (y + 1) ≡ false) (places ++ p ∷ []) k
steps_more places p change steps next k lt =
    elim (cases_lt (k + 1) (length places)) as (λ _. IsStep (λ y. change (y + 1) ≡ false) (places ++ p ∷ []) k) [
      | inl low ↦
          let one = old_place places p k (omega arith) in
          let two = old_place places p (k + 1) low in
          elim (steps k low) as (λ _. IsStep (λ y. change (y + 1) ≡ false) (places ++ p ∷ []) k) [
            | inl stays ↦ inl (omega (arith, stays.0, one, two), stays.1)
            | inr more ↦ inr (omega (arith, more, one, two))
          ]
      | inr last ↦
          let e : k + 1 ≡ length places = omega arith in
          step_at (λ y. change (y + 1) ≡ false) places p k (change (k + 1)) e (next k e) (λ same. same)
    ]

one_if_small : (b : Bool) → one_if b ≤ 1
one_if_small true = omega arith
one_if_small false = omega arith

-- the next place is no more than how many there are
place_small : (places : List ℕ) (p : ℕ) (change : ℕ → Bool) → ((k : ℕ) → k < length places → slice_index places k ≤ k)
    → (length places ≡ 0 → p ≡ 0) → ((k : ℕ) → k + 1 ≡ length places → p ≡ slice_index places k + one_if (change (k + 1)))
    → (n : ℕ) → length places ≡ n → p ≤ n
place_small places p change small none next zero e = let z = none e in omega arith
place_small places p change small none next (suc n) e =
    let one = next n (omega arith) in
    let two = small n (omega arith) in
    let three = one_if_small (change (n + 1)) in
    omega arith

pub small_more : (places : List ℕ) (p : ℕ) (change : ℕ → Bool) → ((k : ℕ) → k < length places → slice_index places k ≤ k)
    → (length places ≡ 0 → p ≡ 0) → ((k : ℕ) → k + 1 ≡ length places → p ≡ slice_index places k + one_if (change (k + 1)))
    → (k : ℕ) → k < length places + 1 → slice_index (places ++ p ∷ []) k ≤ k
small_more places p change small none next k lt =
    elim (cases_lt k (length places)) as (λ _. slice_index (places ++ p ∷ []) k ≤ k) [
      | inl low ↦ let one = old_place places p k low in let two = small k low in omega arith
      | inr last ↦
          let one = new_place places p k (omega arith) in
          let two = place_small places p change small none next (length places) refl in
          omega arith
    ]

-- ---- items

-- what holds of the first items and of the next holds of one more
pub all_more : {X : Type 0} (holds : X → Type 0) (xs : List X) (i : ℕ) (x : X) → i < length xs → x ≡ slice_index_or xs i x
    → All holds (take i xs) → holds x → All holds (take (i + 1) xs)
all_more holds xs i x lt is before one k d low =
    let many = length-take (i + 1) xs in
    let few = length-take i xs in
    let short : k < i + 1 = omega (arith, clamps, many, low) in
    let here = get_or-take (i + 1) xs k d short in
    elim (cases_lt k i) as (λ _. holds (slice_index_or (take (i + 1) xs) k d)) [
      | inl less ↦ subst holds (get_or-take i xs k d less ∙ sym here) (before k d (omega (arith, clamps, few, lt, less)))
      | inr more ↦
          let e : i ≡ k = omega arith in
          subst holds (is ∙ get_or_default xs i x d lt ∙ ap (λ (n : ℕ). slice_index_or xs n d) e ∙ sym here) one
    ]

-- ---- steps

-- steps of which less is known
pub steps_map : (l m : ℕ → Type 0) (rows : ℕ) (places : List ℕ) → AreSteps l rows places → ((y : ℕ) → y + 1 < rows → l y → m y)
    → AreSteps m rows places
steps_map l m rows places s f = record {
  count = s.count;
  small = s.small;
  steps = λ y lt.
      elim (s.steps y lt) as (λ _. IsStep m places y) [
        | inl stays ↦ inl (stays.0, f y lt stays.1)
        | inr more ↦ inr more
      ];
}

-- the steps by the marks of rows, where rows that are not marked are level with the row above
pub steps_of_marks : (level : ℕ → Type 0) (rows : ℕ) (marks read : List Bool) (places lent : List ℕ) → read ≡ marks → lent ≡ places
    → length marks ≡ rows → AreSteps (λ y. slice_index_or read (y + 1) true ≡ false) (length read) places
    → ((y : ℕ) → y + 1 < rows → slice_index_or marks (y + 1) true ≡ false → level y) → AreSteps level rows lent
steps_of_marks level rows marks read places lent is own count s low =
    let marked = subst (λ (l : List Bool). AreSteps (λ y. slice_index_or l (y + 1) true ≡ false) (length l) places) is s in
    let steps = subst (λ (n : ℕ). AreSteps (λ y. slice_index_or marks (y + 1) true ≡ false) n places) count marked in
    subst (AreSteps level rows) (sym own) (steps_map (λ y. slice_index_or marks (y + 1) true ≡ false) level rows places steps low)

-- the place of a row of the picture
pub place_is : (places : List ℕ) (kept y : ℕ) → y < length places → place_of places kept y ≡ slice_index places y
place_is places kept y lt = get_or_default places y kept 0 lt

-- a row has the place of the row above, or the next; after the last row it is the next
pub step_of : (level : ℕ → Type 0) (rows : ℕ) (places : List ℕ) (kept y : ℕ) → AreSteps level rows places → IsCount places kept → y < rows
    → ((y + 1 < rows) × (place_of places kept (y + 1) ≡ place_of places kept y) × level y) ⊎ (place_of places kept (y + 1) ≡ place_of places kept y + 1)
step_of level rows places kept y s last lt =
    let here = place_is places kept y (omega (arith, s.count)) in
    elim (cases_lt (y + 1) rows) as (λ _. ((y + 1 < rows) × (place_of places kept (y + 1) ≡ place_of places kept y) × level y) ⊎ (place_of places kept (y + 1) ≡ place_of places kept y + 1)) [
      | inl low ↦
          let there = place_is places kept (y + 1) (omega (arith, s.count)) in
          elim (s.steps y low) as (λ _. ((y + 1 < rows) × (place_of places kept (y + 1) ≡ place_of places kept y) × level y) ⊎ (place_of places kept (y + 1) ≡ place_of places kept y + 1)) [
            | inl stays ↦ inl (low, there ∙ stays.0 ∙ sym here, stays.1)
            | inr more ↦ inr (there ∙ more ∙ ap (λ (n : ℕ). n + 1) (sym here))
          ]
      | inr end ↦
          let past = get_or_past places (y + 1) kept (omega (arith, s.count)) in
          inr (past ∙ last y (omega (arith, s.count)) ∙ ap (λ (n : ℕ). n + 1) (sym here))
    ]

-- places never fall
pub places_rise : (level : ℕ → Type 0) (rows : ℕ) (places : List ℕ) (kept y : ℕ) → AreSteps level rows places → IsCount places kept
    → (k : ℕ) → y + k ≤ rows → place_of places kept y ≤ place_of places kept (y + k)
places_rise level rows places kept y s last zero le =
    let e : y + zero ≡ y = omega arith in
    let there = ap (place_of places kept) e in
    omega (arith, there)
places_rise level rows places kept y s last (suc k) le =
    let e : y + suc k ≡ y + k + 1 = omega arith in
    let there = ap (place_of places kept) e in
    let before = places_rise level rows places kept y s last k (omega arith) in
    elim (step_of level rows places kept (y + k) s last (omega arith)) as (λ _. place_of places kept y ≤ place_of places kept (y + suc k)) [
      | inl stays ↦ omega (arith, stays.1, before, there)
      | inr more ↦ omega (arith, more, before, there)
    ]

-- nor do they rise by more than the rows
pub places_climb : (level : ℕ → Type 0) (rows : ℕ) (places : List ℕ) (kept y : ℕ) → AreSteps level rows places → IsCount places kept
    → (k : ℕ) → y + k ≤ rows → place_of places kept (y + k) ≤ place_of places kept y + k
places_climb level rows places kept y s last zero le =
    let e : y + zero ≡ y = omega arith in
    let there = ap (place_of places kept) e in
    omega (arith, there)
places_climb level rows places kept y s last (suc k) le =
    let e : y + suc k ≡ y + k + 1 = omega arith in
    let there = ap (place_of places kept) e in
    let before = places_climb level rows places kept y s last k (omega arith) in
    elim (step_of level rows places kept (y + k) s last (omega arith)) as (λ _. place_of places kept (y + suc k) ≤ place_of places kept y + suc k) [
      | inl stays ↦ omega (arith, stays.1, before, there)
      | inr more ↦ omega (arith, more, before, there)
    ]

-- from one row to a later
pub rise_to : (level : ℕ → Type 0) (rows : ℕ) (places : List ℕ) (kept y z : ℕ) → AreSteps level rows places → IsCount places kept
    → y ≤ z → z ≤ rows → place_of places kept y ≤ place_of places kept z
rise_to level rows places kept y z s last le fit =
    let e : y + (z - y) ≡ z = omega arith in
    let there = ap (place_of places kept) e in
    omega (arith, there, places_rise level rows places kept y s last (z - y) (omega arith))

-- where a row is not level with the row above, all rows above have smaller places
pub rise_past : (level : ℕ → Type 0) (rows : ℕ) (places : List ℕ) (kept y t : ℕ) → AreSteps level rows places → IsCount places kept
    → y ≤ t → t < rows → (t + 1 < rows → level t → ⊥) → place_of places kept y < place_of places kept (t + 1)
rise_past level rows places kept y t s last le fit other =
    let before = rise_to level rows places kept y t s last le (omega arith) in
    elim (step_of level rows places kept t s last fit) as (λ _. place_of places kept y < place_of places kept (t + 1)) [
      | inl stays ↦ absurd (other stays.0 stays.2)
      | inr more ↦ omega (arith, more, before)
    ]

-- a place of a row of the picture is one of the rows that are kept
pub place_below : (level : ℕ → Type 0) (rows : ℕ) (places : List ℕ) (kept y : ℕ) → AreSteps level rows places → IsCount places kept
    → y < rows → slice_index places y < kept
place_below level rows places kept y s last lt =
    let e : rows - 1 + 1 ≡ rows = omega arith in
    let past = get_or_past places rows kept (omega (arith, s.count)) in
    let there = ap (place_of places kept) e in
    let here = place_is places kept y (omega (arith, s.count)) in
    let up = rise_past level rows places kept y (rows - 1) s last (omega arith) (omega arith) (λ low at. absurd (omega arith)) in
    omega (arith, past, there, here, up)
