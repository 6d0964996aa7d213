-- How far runs of columns reach, and what a walk along a row writes.
use Rattle.std.proofs.Common.{◌≡◌, ℕ, ◌<◌, ◌≤◌, ◌+◌, ◌*◌, ◌⊎◌, inl, inr, max, nat_eq, nat_le, nat_lt, Bool, true, false, cond, ◌&&◌, ◌||◌, List, length, take, get_or, refl, sym, ◌∙◌, ap, subst, arith}
use Rattle.std.specs.Prelude.{◌≢◌, slice_index}
use Rattle.std.proofs.lemmas.Bool.Decides.{nat_tests}
use Rattle.std.proofs.lemmas.List.{take_all}
use Rattle.std.proofs.lemmas.Int.{clamps}
use Rattle.geom.specs.declared.rect.Rect.{Rect}
use Rattle.geom.specs.declared.tile.Place.{Place}
use Rattle.geom.specs.declared.cut.IndexRange.{IndexRange}
use Rattle.geom.specs.Common.{meets, empty_rect}
use Rattle.geom.specs.Sides.{Sides}
use Rattle.geom.specs.Grids.{has, tiles, rect_of_place}
use Rattle.geom.specs.IndexRanges.{IsMeeting}
use Rattle.region.specs.Points.{touched}
use Rattle.tile_tiling.specs.Tiles.{index_of}
use Rattle.tile_tiling.specs.inner.Reach.{Reach, IsFarthest}
use Rattle.tile_tiling.specs.inner.Writes.{in_run, WritesRow, WritesCells, WritesPlaces}
use Rattle.tile_tiling.proofs.Cells.{cell, meets_runs, places_of_cells, touched_more}

-- tests that agree are of the same runs
pub reach_same : (reach : List ℕ) (wide : ℕ) (t u : ℕ → Bool) → ((x : ℕ) → u x ≡ t x) → Reach reach wide t → Reach reach wide u
reach_same reach wide t u same r = record {
  found = λ x lt e. r.found x lt (sym (same x) ∙ e);
  right = λ x k lt le b. same x ∙ r.right x k lt le b;
}

-- no run
pub reach_none : (reach : List ℕ) (wide : ℕ) → ((i : ℕ) → slice_index reach i ≤ 0) → Reach reach wide (λ x. false)
reach_none reach wide none = record {
  found = λ x lt e. absurd cc;
  right = λ x k lt le b. let n : slice_index reach k ≤ 0 = none k in absurd (omega (arith, b, n));
}

-- one run more
or_left : (a b : Bool) → a ≡ true → (a || b) ≡ true
or_left a b e = ap (λ c. c || b) e

or_right : (a b : Bool) → b ≡ true → (a || b) ≡ true
or_right true b e = refl
or_right false b e = e

in_run_of : (columns : IndexRange) (x : ℕ) → columns.first ≤ x → x < columns.end → in_run columns x ≡ true
in_run_of columns x le lt = grind (arith, nat_tests)

first_of : (columns : IndexRange) (x : ℕ) → in_run columns x ≡ true → columns.first ≤ x
first_of columns x e = grind (arith, nat_tests)

end_of : (columns : IndexRange) (x : ℕ) → in_run columns x ≡ true → x < columns.end
end_of columns x e = grind (arith, nat_tests)

by_either : (a b : Bool) {A : Type 0} → (a || b) ≡ true → (a ≡ true → A) → (b ≡ true → A) → A
by_either true b e f g = f refl
by_either false b e f g = g e

same_or_other : (k n : ℕ) → (k ≡ n) ⊎ (k ≢ n)
same_or_other k n = by_test (nat_eq k n) refl
  where
    by_test : (t : Bool) → nat_eq k n ≡ t → (k ≡ n) ⊎ (k ≢ n)
    by_test true e = inl (grind (arith, nat_tests))
    by_test false e = inr (λ is. grind (arith, nat_tests))

pub reach_more : (old new : List ℕ) (wide : ℕ) (test : ℕ → Bool) (columns : IndexRange) → columns.first < columns.end
    → slice_index new columns.first ≡ max (slice_index old columns.first) columns.end
    → ((i : ℕ) → i ≢ columns.first → slice_index new i ≡ slice_index old i)
    → Reach old wide test → Reach new wide (λ x. test x || in_run columns x)
reach_more old new wide test columns some there others r = record { found = found; right = right }
  where
    risen : (k : ℕ) → slice_index old k ≤ slice_index new k
    risen k = elim (same_or_other k columns.first) as (λ _. slice_index old k ≤ slice_index new k) [
      | inl is ↦ subst (λ z. slice_index old z ≤ slice_index new z) (sym is) (omega (arith, clamps, there))
      | inr other ↦ let e : slice_index new k ≡ slice_index old k = others k other in omega (arith, e)
    ]

    found : (x : ℕ) → x < wide → (test x || in_run columns x) ≡ true → (k : ℕ) × (k ≤ x) × (x < slice_index new k)
    found x lt e =
        by_either (test x) (in_run columns x) e
        (λ was. let (k, le, b) = r.found x lt was in let up : slice_index old k ≤ slice_index new k = risen k in (k, le, omega (arith, b, up)))
        (λ is. let b : x < columns.end = end_of columns x is in (columns.first, first_of columns x is, omega (arith, clamps, there, b)))

    right : (x k : ℕ) → x < wide → k ≤ x → x < slice_index new k → (test x || in_run columns x) ≡ true
    right x k lt le b = elim (same_or_other k columns.first) as (λ _. (test x || in_run columns x) ≡ true) [
      | inl is ↦
          let c : x < slice_index new columns.first = subst (λ z. x < slice_index new z) is b in
          let d : x < max (slice_index old columns.first) columns.end = subst (λ z. x < z) there c in
          by_size (nat_lt x (slice_index old columns.first)) refl (subst (λ z. z ≤ x) is le) d
      | inr other ↦ or_left (test x) (in_run columns x) (r.right x k lt le (subst (λ z. x < z) (others k other) b))
    ]
      where
        by_size : (t : Bool) → nat_lt x (slice_index old columns.first) ≡ t → columns.first ≤ x → x < max (slice_index old columns.first) columns.end → (test x || in_run columns x) ≡ true
        by_size true e from d =
            let s : x < slice_index old columns.first = grind (arith, nat_tests) in
            or_left (test x) (in_run columns x) (r.right x columns.first lt from s)
        by_size false e from d =
            let s : slice_index old columns.first ≤ x = grind (arith, nat_tests) in
            or_right (test x) (in_run columns x) (in_run_of columns x from (omega (arith, clamps, d, s)))

-- a rect touches the places of a row of its rows that are in its columns, and none of another row
pub touching_row : (g : Sides) (area : Rect) (columns rows : IndexRange) (y : ℕ) → IsMeeting g.w g.tile area.x area.w columns → IsMeeting g.h g.tile area.y area.h rows
    → in_run rows y ≡ true → (x : ℕ) → meets (rect_of_place g (record { x = x; y = y })) area ≡ in_run columns x
touching_row g area columns rows y a d e x = meets_runs g area columns rows a d (record { x = x; y = y }) ∙ (ap (λ b. in_run columns x && b) e ∙ and_true (in_run columns x))
  where
    and_true : (b : Bool) → (b && true) ≡ b
    and_true true = refl
    and_true false = refl

pub touching_no_row : (g : Sides) (area : Rect) (columns rows : IndexRange) (y : ℕ) → IsMeeting g.w g.tile area.x area.w columns → IsMeeting g.h g.tile area.y area.h rows
    → in_run rows y ≡ false → (x : ℕ) → meets (rect_of_place g (record { x = x; y = y })) area ≡ false
touching_no_row g area columns rows y a d e x = meets_runs g area columns rows a d (record { x = x; y = y }) ∙ (ap (λ b. in_run columns x && b) e ∙ and_false (in_run columns x))
  where
    and_false : (b : Bool) → (b && false) ≡ false
    and_false true = refl
    and_false false = refl

-- the farthest of one column more
pub farthest_none : (reach : List ℕ) → IsFarthest reach 0 0
farthest_none reach = record { bound = λ k lt. absurd (omega (arith, lt)); some = inl refl }

pub farthest_more : (reach : List ℕ) (x far : ℕ) → IsFarthest reach x far → IsFarthest reach (x + 1) (max far (slice_index reach x))
farthest_more reach x far f = record { bound = bound; some = some }
  where
    bound : (k : ℕ) → k < x + 1 → slice_index reach k ≤ max far (slice_index reach x)
    bound k lt = elim (same_or_other k x) as (λ _. slice_index reach k ≤ max far (slice_index reach x)) [
      | inl is ↦ subst (λ z. slice_index reach z ≤ max far (slice_index reach x)) (sym is) (omega (arith, clamps))
      | inr other ↦ let b : slice_index reach k ≤ far = f.bound k (less k lt other) in omega (arith, clamps, b)
    ]
      where
        less : (k : ℕ) → k < x + 1 → k ≢ x → k < x
        less k lt other = grind arith

    some : (max far (slice_index reach x) ≡ 0) ⊎ ((k : ℕ) × (k < x + 1) × (max far (slice_index reach x) ≡ slice_index reach k))
    some = by_size (nat_lt far (slice_index reach x)) refl
      where
        by_size : (t : Bool) → nat_lt far (slice_index reach x) ≡ t → (max far (slice_index reach x) ≡ 0) ⊎ ((k : ℕ) × (k < x + 1) × (max far (slice_index reach x) ≡ slice_index reach k))
        by_size true e = let l : far < slice_index reach x = grind (arith, nat_tests) in inr (x, omega arith, omega (arith, clamps, l))
        by_size false e =
            let l : slice_index reach x ≤ far = grind (arith, nat_tests) in
            let m : max far (slice_index reach x) ≡ far = omega (arith, clamps, l) in
            elim (f.some) as (λ _. (max far (slice_index reach x) ≡ 0) ⊎ ((k : ℕ) × (k < x + 1) × (max far (slice_index reach x) ≡ slice_index reach k))) [
              | inl zero ↦ inl (m ∙ zero)
              | inr there ↦ let (k, lt, is) = there in inr (k, omega (arith, lt), m ∙ is)
            ]

-- the farthest of the columns up to one tells whether that is of a run
pub far_tells : (reach : List ℕ) (wide : ℕ) (test : ℕ → Bool) (x far : ℕ) → x < wide → IsFarthest reach (x + 1) far → Reach reach wide test → test x ≡ nat_lt x far
far_tells reach wide test x far lt f r = by_size (nat_lt x far) refl
  where
    not_true : (b : Bool) → (b ≡ true → false ≡ true) → b ≡ false
    not_true true h = sym (h refl)
    not_true false h = refl

    by_size : (t : Bool) → nat_lt x far ≡ t → test x ≡ t
    by_size true e =
        let l : x < far = grind (arith, nat_tests) in
        elim (f.some) as (λ _. test x ≡ true) [
          | inl zero ↦ absurd (omega (arith, l, zero))
          | inr there ↦ let (k, le, is) = there in r.right x k lt (omega (arith, le)) (subst (λ z. x < z) is l)
        ]
    by_size false e =
        let l : far ≤ x = grind (arith, nat_tests) in
        not_true (test x) (λ is. let (k, le, b) = r.found x lt is in let m : slice_index reach k ≤ far = f.bound k (omega (arith, le)) in absurd (omega (arith, l, b, m)))

-- cells of one row, column by column
pub row_none : (wide y : ℕ) (xs : List ℕ) (test : ℕ → Bool) (stamp : ℕ) → WritesCells wide xs xs (λ x r. nat_eq r y && (nat_lt x 0 && test x)) stamp
row_none wide y xs test stamp = record { long = refl; each = λ x r lt. none (nat_eq r y) x (get_or xs (r * wide + x) 0) }
  where
    none : (t : Bool) (x o : ℕ) → o ≡ cond (t && (nat_lt x 0 && test x)) stamp o
    none false x o = refl
    none true x o = let e : nat_lt x 0 ≡ false = grind (arith, nat_tests) in rw e refl

one_column : (t : Bool) (x n s o : ℕ) (test : ℕ → Bool) (here : Bool) → test n ≡ here
    → cond (t && (nat_le n x && nat_lt x (n + cond here 1 0))) s (cond (t && (nat_lt x n && test x)) s o) ≡ cond (t && (nat_lt x (n + 1) && test x)) s o
one_column false x n s o test here e = refl
one_column true x n s o test here e = by_place (nat_lt x n) (nat_eq x n) refl refl here e
  where
    by_place : (b c : Bool) → nat_lt x n ≡ b → nat_eq x n ≡ c → (here : Bool) → test n ≡ here
        → cond (nat_le n x && nat_lt x (n + cond here 1 0)) s (cond (nat_lt x n && test x) s o) ≡ cond (nat_lt x (n + 1) && test x) s o
    by_place true c l d here e =
        let f : nat_le n x ≡ false = grind (arith, nat_tests) in
        let g : nat_lt x (n + 1) ≡ true = grind (arith, nat_tests) in
        rw (f, g, l) refl
    by_place false true l d true e =
        let is : x ≡ n = grind (arith, nat_tests) in
        let f : (nat_le n x && nat_lt x (n + 1)) ≡ true = grind (arith, nat_tests) in
        let g : nat_lt x (n + 1) ≡ true = grind (arith, nat_tests) in
        let h : test x ≡ true = subst (λ z. test z ≡ true) (sym is) e in
        rw (f, g, h) refl
    by_place false true l d false e =
        let is : x ≡ n = grind (arith, nat_tests) in
        let f : nat_lt x (n + 0) ≡ false = grind (arith, nat_tests) in
        let g : nat_le n x ≡ true = grind (arith, nat_tests) in
        let i : nat_lt x (n + 1) ≡ true = grind (arith, nat_tests) in
        let h : test x ≡ false = subst (λ z. test z ≡ false) (sym is) e in
        rw (f, g, i, l, h) refl
    by_place false false l d true e =
        let f : (nat_le n x && nat_lt x (n + 1)) ≡ false = grind (arith, nat_tests) in
        let g : nat_lt x (n + 1) ≡ false = grind (arith, nat_tests) in
        rw (f, g, l) refl
    by_place false false l d false e =
        let f : (nat_le n x && nat_lt x (n + 0)) ≡ false = grind (arith, nat_tests) in
        let g : nat_lt x (n + 1) ≡ false = grind (arith, nat_tests) in
        rw (f, g, l) refl

pub row_more : (wide y : ℕ) (old now new : List ℕ) (test : ℕ → Bool) (n far stamp : ℕ) → n < wide → test n ≡ nat_lt n far
    → WritesCells wide old now (λ x r. nat_eq r y && (nat_lt x n && test x)) stamp
    → WritesRow now new (y * wide + n) (y * wide + n + cond (nat_lt n far) 1 0) stamp
    → WritesCells wide old new (λ x r. nat_eq r y && (nat_lt x (n + 1) && test x)) stamp
row_more wide y old now new test n far stamp lt e w v = record {
  long = v.long ∙ w.long;
  each = λ x r xl.
      v.each (r * wide + x)
      ∙ (ap (λ z. cond (nat_le (y * wide + n) (r * wide + x) && nat_lt (r * wide + x) z) stamp (get_or now (r * wide + x) 0)) (grouped (cond (nat_lt n far) 1 0))
      ∙ (ap (λ b. cond b stamp (get_or now (r * wide + x) 0)) (cell wide x r n (n + cond (nat_lt n far) 1 0) y xl (ends (nat_lt n far)))
      ∙ (ap (λ o. cond (nat_eq r y && (nat_le n x && nat_lt x (n + cond (nat_lt n far) 1 0))) stamp o) (w.each x r xl)
      ∙ one_column (nat_eq r y) x n stamp (get_or old (r * wide + x) 0) test (nat_lt n far) e)));
}
  where
    grouped : (c : ℕ) → y * wide + n + c ≡ y * wide + (n + c)
    grouped c = omega arith

    ends : (t : Bool) → n + cond t 1 0 ≤ wide
    ends true = omega (arith, lt)
    ends false = omega (arith, lt)

pub row_all : (wide y : ℕ) (old new : List ℕ) (test : ℕ → Bool) (stamp : ℕ)
    → WritesCells wide old new (λ x r. nat_eq r y && (nat_lt x wide && test x)) stamp → WritesCells wide old new (λ x r. nat_eq r y && test x) stamp
row_all wide y old new test stamp w = record {
  long = w.long;
  each = λ x r lt. let e : nat_lt x wide ≡ true = grind (arith, nat_tests) in w.each x r lt ∙ ap (λ b. cond (nat_eq r y && (b && test x)) stamp (get_or old (r * wide + x) 0)) e;
}

-- what a row writes
of_row : (g : Sides) (rs : List Rect) (y : ℕ) (p : Place) (t : Bool) → nat_eq p.y y ≡ t
    → (t && touched rs (rect_of_place g p)) ≡ (t && touched rs (rect_of_place g (record { x = p.x; y = y })))
of_row g rs y p false e = refl
of_row g rs y p true e = let is : p.y ≡ y = grind (arith, nat_tests) in ap (λ z. touched rs (rect_of_place g (record { x = p.x; y = z }))) is

pub row_written : (g : Sides) (rs : List Rect) (y wide : ℕ) (old new reach : List ℕ) (stamp : ℕ) → wide ≡ tiles g.w g.tile
    → Reach reach (tiles g.w g.tile) (λ x. touched rs (rect_of_place g (record { x = x; y = y })))
    → ((test : ℕ → Bool) → Reach reach wide test → WritesCells wide old new (λ x r. nat_eq r y && test x) stamp)
    → WritesPlaces g old new (λ p. nat_eq p.y y && touched rs (rect_of_place g p)) stamp
row_written g rs y wide old new reach stamp e r w =
    let test : ℕ → Bool = λ x. touched rs (rect_of_place g (record { x = x; y = y })) in
    let here : Reach reach wide test = subst (λ n. Reach reach n test) (sym e) r in
    places_of_cells g old new (λ x z. nat_eq z y && test x) (λ p. nat_eq p.y y && touched rs (rect_of_place g p)) stamp
    (λ p h. of_row g rs y p (nat_eq p.y y) refl)
    (subst (λ n. WritesCells n old new (λ x z. nat_eq z y && test x) stamp) e (w test here))

-- one row more
rows_and : (a : Bool) (n y s o : ℕ) → cond (nat_eq n y && a) s (cond (nat_lt n y && a) s o) ≡ cond (nat_lt n (y + 1) && a) s o
rows_and a n y s o = either (nat_eq n y) (nat_lt n y) a ∙ ap (λ b. cond (b && a) s o) (sym (up_to (nat_lt n y) (nat_eq n y) refl refl))
  where
    either : (e l a : Bool) → cond (e && a) s (cond (l && a) s o) ≡ cond ((e || l) && a) s o
    either true l true = refl
    either true true false = refl
    either true false false = refl
    either false l a = refl

    up_to : (l e : Bool) → nat_lt n y ≡ l → nat_eq n y ≡ e → nat_lt n (y + 1) ≡ (e || l)
    up_to true true f g = grind (arith, nat_tests)
    up_to true false f g = grind (arith, nat_tests)
    up_to false true f g = grind (arith, nat_tests)
    up_to false false f g = grind (arith, nat_tests)

pub rows_none : (g : Sides) (xs : List ℕ) (rs : List Rect) (stamp : ℕ) → WritesPlaces g xs xs (λ p. nat_lt p.y 0 && touched rs (rect_of_place g p)) stamp
rows_none g xs rs stamp = record { long = refl; each = λ p h. let e : nat_lt p.y 0 ≡ false = grind (arith, nat_tests) in rw e refl }

pub rows_more : (g : Sides) (old now new : List ℕ) (rs : List Rect) (y stamp : ℕ)
    → WritesPlaces g old now (λ p. nat_lt p.y y && touched rs (rect_of_place g p)) stamp
    → WritesPlaces g now new (λ p. nat_eq p.y y && touched rs (rect_of_place g p)) stamp
    → WritesPlaces g old new (λ p. nat_lt p.y (y + 1) && touched rs (rect_of_place g p)) stamp
rows_more g old now new rs y stamp w v = record {
  long = v.long ∙ w.long;
  each = λ p h.
      v.each p h
      ∙ (ap (λ o. cond (nat_eq p.y y && touched rs (rect_of_place g p)) stamp o) (w.each p h)
      ∙ rows_and (touched rs (rect_of_place g p)) p.y y stamp (get_or old (index_of g p) 0));
}

pub rows_all : (g : Sides) (old new : List ℕ) (rs : List Rect) (y stamp : ℕ) → y ≡ tiles g.h g.tile
    → WritesPlaces g old new (λ p. nat_lt p.y y && touched rs (rect_of_place g p)) stamp → WritesPlaces g old new (λ p. touched rs (rect_of_place g p)) stamp
rows_all g old new rs y stamp e w = record {
  long = w.long;
  each = λ p h. w.each p h ∙ ap (λ b. cond (b && touched rs (rect_of_place g p)) stamp (get_or old (index_of g p) 0)) (below p h);
}
  where
    and_right : (a b : Bool) → (a && b) ≡ true → b ≡ true
    and_right true b e = e
    and_right false b e = absurd cc

    below : (p : Place) → has g p ≡ true → nat_lt p.y y ≡ true
    below p h = ap (λ n. nat_lt p.y n) e ∙ and_right (nat_lt p.x (tiles g.w g.tile)) (nat_lt p.y (tiles g.h g.tile)) h

-- one rect more
pub touched_in_row : (g : Sides) (reach : List ℕ) (wide : ℕ) (rs : List Rect) (i y : ℕ) → i < length rs
    → Reach reach wide (λ x. touched (take i rs) (rect_of_place g (record { x = x; y = y })) || meets (rect_of_place g (record { x = x; y = y })) (get_or rs i empty_rect))
    → Reach reach wide (λ x. touched (take (i + 1) rs) (rect_of_place g (record { x = x; y = y })))
touched_in_row g reach wide rs i y lt r =
    reach_same reach wide (λ x. touched (take i rs) (rect_of_place g (record { x = x; y = y })) || meets (rect_of_place g (record { x = x; y = y })) (get_or rs i empty_rect))
    (λ x. touched (take (i + 1) rs) (rect_of_place g (record { x = x; y = y })))
    (λ x. touched_more rs i (rect_of_place g (record { x = x; y = y })) lt) r

pub touched_all_in_row : (g : Sides) (reach : List ℕ) (wide : ℕ) (rs : List Rect) (i y : ℕ) → length rs ≤ i
    → Reach reach wide (λ x. touched (take i rs) (rect_of_place g (record { x = x; y = y })))
    → Reach reach wide (λ x. touched rs (rect_of_place g (record { x = x; y = y })))
touched_all_in_row g reach wide rs i y le r = subst (λ zs. Reach reach wide (λ x. touched zs (rect_of_place g (record { x = x; y = y })))) (take_all i rs le) r
