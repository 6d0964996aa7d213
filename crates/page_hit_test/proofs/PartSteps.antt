-- The steps along a chain of scrollers.
use Rattle.std.proofs.Common.{◌≡◌, ℕ, ◌+◌, ◌<◌, ℤ, ◌-ℤ◌, Bool, true, false, cond, List, [], ◌∷◌, ◌++◌, length, map, get_or, drop, refl, sym, ◌∙◌, ap, add-one, append_assoc, drop-cons}
use Rattle.std.proofs.lemmas.List.{map-append}
use Rattle.page_layers.specs.declared.moves.Move.{Move}
use Rattle.page_layers.specs.Axes.{Axis, across, down, is_still, with_move}
use Rattle.page_layers.specs.Wheels.{chain_parts, chain_rest}
use Rattle.page_hit_test.specs.declared.parts.WheelPart.{WheelPart}
use Rattle.page_hit_test.specs.Wheels.{wheel_part, part_move}

rest_is : (xs : List ℕ) (i : ℕ) → i < length xs → drop i xs ≡ get_or xs i 0 ∷ drop (i + 1) xs
rest_is xs i lt = drop-cons xs i 0 lt ∙ ap (λ (n : ℕ). get_or xs i 0 ∷ drop n xs) (sym (add-one i))

-- what is left after one scroller more
pub left_more : (takes : ℕ → Axis → ℤ → ℤ) (ax : Axis) (xs : List ℕ) (i : ℕ) (asked next all : ℤ) → i < length xs → next ≡ asked -ℤ takes (get_or xs i 0) ax asked
    → chain_rest takes ax (drop i xs) asked ≡ all → chain_rest takes ax (drop (i + 1) xs) next ≡ all
left_more takes ax xs i asked next all lt e old =
    ap (λ (z : ℤ). chain_rest takes ax (drop (i + 1) xs) z) e ∙ sym (ap (λ (ys : List ℕ). chain_rest takes ax ys asked) (rest_is xs i lt)) ∙ old

with_is : (m : Move) (ms : List Move) → with_move m ms ≡ cond (is_still m) [] (m ∷ []) ++ ms
with_is m ms = by_still (is_still m)
  where
    by_still : (b : Bool) → cond b ms (m ∷ ms) ≡ cond b [] (m ∷ []) ++ ms
    by_still true = refl
    by_still false = refl

map_cond : (b : Bool) (r : WheelPart) → map part_move (cond b [] (r ∷ [])) ≡ cond b [] (part_move r ∷ [])
map_cond true r = refl
map_cond false r = refl

pushed : (old new : List WheelPart) (r : WheelPart) → new ≡ old ++ cond (is_still (part_move r)) [] (r ∷ []) → map part_move new ≡ map part_move old ++ cond (is_still (part_move r)) [] (part_move r ∷ [])
pushed old new r e =
    ap (map part_move) e
    ∙ map-append part_move old (cond (is_still (part_move r)) [] (r ∷ []))
    ∙ ap (λ (ms : List Move). map part_move old ++ ms) (map_cond (is_still (part_move r)) r)

-- the part of one scroller more, which takes bx and by
pub parts_more : (takes : ℕ → Axis → ℤ → ℤ) (xs : List ℕ) (i : ℕ) (x y bx by nx ny : ℤ) (old new : List WheelPart) (all : List Move) → i < length xs
    → bx ≡ takes (get_or xs i 0) across x → by ≡ takes (get_or xs i 0) down y
    → new ≡ old ++ cond (is_still (part_move (wheel_part (get_or xs i 0) bx by))) [] (wheel_part (get_or xs i 0) bx by ∷ []) → nx ≡ x -ℤ bx → ny ≡ y -ℤ by
    → map part_move old ++ chain_parts takes (drop i xs) x y ≡ all → map part_move new ++ chain_parts takes (drop (i + 1) xs) nx ny ≡ all
parts_more takes xs i x y bx by nx ny old new all lt ex ey made dx dy was =
    let sc = get_or xs i 0 in
    let rest : ℤ → ℤ → List Move = λ a b. chain_parts takes (drop (i + 1) xs) (x -ℤ a) (y -ℤ b) in
    let m : ℤ → ℤ → Move = λ a b. record { scroller = sc; dx = a; dy = b } in
    ap (λ (ms : List Move). ms ++ chain_parts takes (drop (i + 1) xs) nx ny) (pushed old new (wheel_part sc bx by) made)
    ∙ append_assoc (map part_move old) (cond (is_still (m bx by)) [] (m bx by ∷ [])) (chain_parts takes (drop (i + 1) xs) nx ny)
    ∙ ap (λ (ms : List Move). map part_move old ++ ms)
    (sym (with_is (m bx by) (chain_parts takes (drop (i + 1) xs) nx ny))
    ∙ (λ j. with_move (m bx by) (chain_parts takes (drop (i + 1) xs) (dx j) (dy j)))
    ∙ (λ j. with_move (m (ex j) (ey j)) (rest (ex j) (ey j)))
    ∙ sym (ap (λ (ys : List ℕ). chain_parts takes ys x y) (rest_is xs i lt)))
    ∙ was
