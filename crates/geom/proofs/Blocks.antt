-- Of a grid's places those that an area touches are a block.
use Rattle.std.proofs.Common.{◌≡◌, ℕ, zero, suc, ◌+◌, ◌-◌, ◌<◌, ◌≤◌, min, cond, Bool, true, false, ◌&&◌, nat_lt, nat_le, List, [], ◌∷◌, ◌++◌, map, arith, refl, sym, ◌∙◌, ap, subst, inl, inr, ◌⊎◌}
use Rattle.std.specs.List.{range_with_len, flat_map, filter}
use Rattle.std.proofs.lemmas.Bool.Decides.{nat_tests}
use Rattle.std.proofs.lemmas.Bool.{cases_lt}
use Rattle.std.proofs.lemmas.List.{append-nil}
use Rattle.std.proofs.lemmas.List.Concat.{flat_map-append, flat_map_single}
use Rattle.std.proofs.lemmas.List.Elements.{filter-append}
use Rattle.std.proofs.lemmas.List.FromFn.{map-range_with_len_more}
use Rattle.geom.specs.declared.rect.Rect.{Rect}
use Rattle.geom.specs.declared.cut.IndexRange.{IndexRange}
use Rattle.geom.specs.declared.tile.Place.{Place}
use Rattle.geom.specs.Common.{meets}
use Rattle.geom.specs.Sides.{Sides}
use Rattle.geom.specs.Grids.{tiles, rect_of_place, place, places_touching}
use Rattle.geom.specs.IndexRanges.{indices_in, line, block, IsMeeting}
use Rattle.geom.proofs.Spans.{and_false}

map_same : (xs : List ℕ) → map (λ x. x) xs ≡ xs
map_same [] = refl
map_same (x ∷ xs) = ap (λ t. x ∷ t) (map_same xs)

range_more : (a n : ℕ) → range_with_len a (n + 1) ≡ range_with_len a n ++ (a + n) ∷ []
range_more a n = sym (map_same (range_with_len a (n + 1))) ∙ (map-range_with_len_more (λ x. x) a n (a + n) refl ∙ ap (λ t. t ++ (a + n) ∷ []) (map_same (range_with_len a n)))

-- one more piece
flat_more : {X : Type 0} (g : ℕ → List X) (first n j : ℕ) → first + n ≡ j
    → flat_map g (range_with_len first (n + 1)) ≡ flat_map g (range_with_len first n) ++ g j
flat_more g first n j e =
    rw (range_more first n, e, flat_map-append g (range_with_len first n) (j ∷ [])) (ap (λ t. flat_map g (range_with_len first n) ++ t) (append-nil (g j)))

-- one more column of a row, and one more row
pub line_more : (y first x : ℕ) → first ≤ x
    → map (place y) (range_with_len first (x + 1 - first)) ≡ map (place y) (range_with_len first (x - first)) ++ place y x ∷ []
line_more y first x h =
    let e : x + 1 - first ≡ x - first + 1 = omega arith in
    rw e (map-range_with_len_more (place y) first (x - first) x (omega arith))

pub lines_more : (columns : IndexRange) (first y : ℕ) → first ≤ y
    → flat_map (line columns) (range_with_len first (y + 1 - first)) ≡ flat_map (line columns) (range_with_len first (y - first)) ++ line columns y
lines_more columns first y h =
    let e : y + 1 - first ≡ y - first + 1 = omega arith in
    rw e (flat_more (line columns) first (y - first) y (omega arith))

-- the pieces of the numbers below `n` that are in a run, and one more number
run_step : {X : Type 0} (g : ℕ → List X) (r : IndexRange) (n : ℕ) (t : Bool) → t ≡ nat_le r.first n && nat_lt n r.end
    → (n < r.first) ⊎ (r.first ≤ n) → (n < r.end) ⊎ (r.end ≤ n)
    → flat_map g (range_with_len r.first (min n r.end - r.first)) ++ cond t (g n) [] ≡ flat_map g (range_with_len r.first (min (n + 1) r.end - r.first))
run_step g r n t e (inl low) j =
    let f : t ≡ false = e ∙ grind (arith, nat_tests) in
    let a : min n r.end - r.first ≡ 0 = omega arith in
    let b : min (n + 1) r.end - r.first ≡ 0 = omega arith in
    rw (f, a, b) refl
run_step g r n t e (inr low) (inl high) =
    let f : t ≡ true = e ∙ grind (arith, nat_tests) in
    let a : min n r.end - r.first ≡ n - r.first = omega arith in
    let b : min (n + 1) r.end - r.first ≡ n - r.first + 1 = omega arith in
    rw (f, a, b) (sym (flat_more g r.first (n - r.first) n (omega arith)))
run_step g r n t e (inr low) (inr high) =
    let f : t ≡ false = e ∙ grind (arith, nat_tests) in
    let a : min n r.end - r.first ≡ r.end - r.first = omega arith in
    let b : min (n + 1) r.end - r.first ≡ r.end - r.first = omega arith in
    rw (f, a, b) (append-nil (flat_map g (range_with_len r.first (r.end - r.first))))

-- a filter that keeps of each piece what `g` gives where the number is in the run, and nothing elsewhere
kept_flat : {X : Type 0} (p : X → Bool) (piece g : ℕ → List X) (r : IndexRange) (n : ℕ)
    → ((k : ℕ) → filter p (piece k) ≡ cond (nat_le r.first k && nat_lt k r.end) (g k) [])
    → filter p (flat_map piece (range_with_len 0 n)) ≡ flat_map g (range_with_len r.first (min n r.end - r.first))
kept_flat p piece g r zero e = let a : min 0 r.end - r.first ≡ 0 = omega arith in rw a refl
kept_flat p piece g r (suc n) e =
    let q : n + 1 ≡ suc n = omega arith in
    subst (λ (k : ℕ). filter p (flat_map piece (range_with_len 0 k)) ≡ flat_map g (range_with_len r.first (min k r.end - r.first))) q
    (ap (filter p) (flat_more piece 0 n n (omega arith))
    ∙ (filter-append p (flat_map piece (range_with_len 0 n)) (piece n)
    ∙ (rw (kept_flat p piece g r n e, e n) (run_step g r n (nat_le r.first n && nat_lt n r.end) refl (cases_lt n r.first) (cases_lt n r.end)))))

whole_run : {X : Type 0} (g : ℕ → List X) (r : IndexRange) (n : ℕ) → r.end ≤ n
    → flat_map g (range_with_len r.first (min n r.end - r.first)) ≡ flat_map g (indices_in r)
whole_run g r n h = let a : min n r.end ≡ r.end = omega arith in rw a refl

and_true : (b : Bool) → b && true ≡ b
and_true true = refl
and_true false = refl

either_nil : {X : Type 0} (t : Bool) → cond {A = List X} t [] [] ≡ []
either_nil true = refl
either_nil false = refl

-- of one row the columns of the run are kept where the row is kept at all
kept_line : (p : Place → Bool) (columns : IndexRange) (n y : ℕ) (t : Bool) → columns.end ≤ n
    → ((x : ℕ) → p (place y x) ≡ (nat_le columns.first x && nat_lt x columns.end) && t)
    → filter p (map (place y) (range_with_len 0 n)) ≡ cond t (line columns y) []
kept_line p columns n y true h e =
    ap (filter p) (sym (flat_map_single (place y) (range_with_len 0 n)))
    ∙ (kept_flat p (λ x. place y x ∷ []) (λ x. place y x ∷ []) columns n (λ x. rw (e x, and_true) refl)
    ∙ (whole_run (λ x. place y x ∷ []) columns n h ∙ flat_map_single (place y) (indices_in columns)))
kept_line p columns n y false h e =
    let none : min n 0 - 0 ≡ 0 = omega arith in
    ap (filter p) (sym (flat_map_single (place y) (range_with_len 0 n)))
    ∙ (kept_flat p (λ x. place y x ∷ []) (λ x. []) (record { first = 0; end = 0 }) n (λ x. rw (e x, and_false) (sym (either_nil (nat_le 0 x && nat_lt x 0)))) ∙ rw none refl)

-- of all places the block is kept
pub kept_block : (p : Place → Bool) (columns rows : IndexRange) (m n : ℕ) → columns.end ≤ m → rows.end ≤ n
    → ((y x : ℕ) → p (place y x) ≡ (nat_le columns.first x && nat_lt x columns.end) && (nat_le rows.first y && nat_lt y rows.end))
    → filter p (flat_map (λ y. map (place y) (range_with_len 0 m)) (range_with_len 0 n)) ≡ block columns rows
unfolding block
kept_block p columns rows m n h k e =
    kept_flat p (λ y. map (place y) (range_with_len 0 m)) (line columns) rows n
    (λ y. kept_line p columns m y (nat_le rows.first y && nat_lt y rows.end) h (e y))
    ∙ whole_run (line columns) rows n k

-- the places that an area touches are the block of the runs that its spans meet
pub touching_block : (g : Sides) (area : Rect) (columns rows : IndexRange) → IsMeeting g.w g.tile area.x area.w columns → IsMeeting g.h g.tile area.y area.h rows
    → places_touching g area ≡ block columns rows
unfolding places_touching
touching_block g area columns rows i j =
    kept_block (λ p. meets (rect_of_place g p) area) columns rows (tiles g.w g.tile) (tiles g.h g.tile) i.bounded j.bounded
    (λ y x. rw (i.meeting x, j.meeting y) refl)
