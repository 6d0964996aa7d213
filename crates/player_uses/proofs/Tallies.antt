-- The counts of a history, entry by entry.
use Rattle.std.proofs.Common.{◌≡◌, ℕ, zero, suc, ◌+◌, ◌≤◌, ◌⊎◌, inl, inr, List, [], ◌∷◌, length, drop, Some, refl, ap, sym, arith, add-one}
use Rattle.std.specs.List.{slice_get}
use Rattle.model_history.specs.declared.history.Entry.{Entry}
use Rattle.player_uses.specs.Demos.{image_count, missing_count, images_in, missing_in}

-- an entry that stands at a place is the first of those from there on
entry_first : (xs : List Entry) (at : ℕ) (e : Entry) → slice_get xs at ≡ Some e → drop at xs ≡ e ∷ drop (suc at) xs
entry_first [] at e is = absurd (cc is)
entry_first (x ∷ xs) zero e is = cc is
entry_first (x ∷ xs) (suc at) e is = entry_first xs at e is

-- none stands after all
none_left : (xs : List Entry) (at : ℕ) → length xs ≤ at → drop at xs ≡ []
none_left [] zero le = refl
none_left [] (suc at) le = refl
none_left (x ∷ xs) zero le = absurd (omega (arith, le))
none_left (x ∷ xs) (suc at) le = none_left xs at (omega (arith, le))

-- one entry more is counted
pub images_more : (xs : List Entry) (at : ℕ) (e : Entry) (before after whole : ℕ) → slice_get xs at ≡ Some e → after ≡ before + images_in e.event → before + image_count (drop at xs) ≡ whole → after + image_count (drop (at + 1) xs) ≡ whole
images_more xs at e before after whole is more all =
    let first : image_count (drop at xs) ≡ images_in e.event + image_count (drop (suc at) xs) = ap image_count (entry_first xs at e is) in
    let next : image_count (drop (suc at) xs) ≡ image_count (drop (at + 1) xs) = ap (λ (n : ℕ). image_count (drop n xs)) (sym (add-one at)) in
    omega (arith, first, next, more, all)

pub missing_more : (xs : List Entry) (at : ℕ) (e : Entry) (before after whole : ℕ) → slice_get xs at ≡ Some e → after ≡ before + missing_in e.event → before + missing_count (drop at xs) ≡ whole → after + missing_count (drop (at + 1) xs) ≡ whole
missing_more xs at e before after whole is more all =
    let first : missing_count (drop at xs) ≡ missing_in e.event + missing_count (drop (suc at) xs) = ap missing_count (entry_first xs at e is) in
    let next : missing_count (drop (suc at) xs) ≡ missing_count (drop (at + 1) xs) = ap (λ (n : ℕ). missing_count (drop n xs)) (sym (add-one at)) in
    omega (arith, first, next, more, all)

-- all entries are counted
pub images_whole : (xs : List Entry) (at before whole : ℕ) → length xs ≤ at → before + image_count (drop at xs) ≡ whole → before ≡ whole
images_whole xs at before whole le all = let none : image_count (drop at xs) ≡ 0 = ap image_count (none_left xs at le) in omega (arith, none, all)

pub missing_whole : (xs : List Entry) (at before whole : ℕ) → length xs ≤ at → before + missing_count (drop at xs) ≡ whole → before ≡ whole
missing_whole xs at before whole le all = let none : missing_count (drop at xs) ≡ 0 = ap missing_count (none_left xs at le) in omega (arith, none, all)

-- what is over with the current entry is over with all
pub over_whole : (xs : List Entry) (at : ℕ) (e : Entry) (limit seen lacking : ℕ) → slice_get xs at ≡ Some e → seen + image_count (drop at xs) ≡ image_count xs → lacking + missing_count (drop at xs) ≡ missing_count xs → limit ≤ seen + images_in e.event ⊎ limit ≤ lacking + missing_in e.event → limit ≤ image_count xs ⊎ limit ≤ missing_count xs
over_whole xs at e limit seen lacking is seen-all lacking-all (inl over) =
    let all : (seen + images_in e.event) + image_count (drop (at + 1) xs) ≡ image_count xs = images_more xs at e seen (seen + images_in e.event) (image_count xs) is refl seen-all in
    inl (omega (arith, all, over))
over_whole xs at e limit seen lacking is seen-all lacking-all (inr over) =
    let all : (lacking + missing_in e.event) + missing_count (drop (at + 1) xs) ≡ missing_count xs = missing_more xs at e lacking (lacking + missing_in e.event) (missing_count xs) is refl lacking-all in
    inr (omega (arith, all, over))
