-- The scrollers of a chain take in turn.
use Rattle.std.proofs.Common.{◌≡◌, ◌⊎◌, inl, inr, ℕ, ℤ, pos, ◌+ℤ◌, ◌-ℤ◌, ◌≤ℤ◌, ◌<ℤ◌, int_lt, Bool, true, false, cond, ◌&&◌, List, [], ◌∷◌, ◌++◌, refl, sym, ◌∙◌, subst, arith}
use Rattle.std.specs.Ordering.{int_eq}
use Rattle.std.proofs.lemmas.Int.{ints, clamps}
use Rattle.geom.specs.declared.rect.Point.{Point}
use Rattle.page_properties.specs.OffsetMap.{AreOffsets}
use Rattle.page_layers.specs.declared.moves.Move.{Move}
use Rattle.page_layers.specs.Axes.{Axis, across, down, along, amount, is_still, with_move}
use Rattle.page_layers.specs.Scrolls.{clamp_to, IsInRange}
use Rattle.page_layers.specs.Scrollers.{has_scroller, most}
use Rattle.page_layers.specs.Pages.{Page}
use Rattle.page_layers.specs.Wheels.{chain_parts, chain_rest, takes_at}
use Rattle.page_hit_test.specs.Wheels.{IsAmount, AreWithinRanges}
use Rattle.page_hit_test.specs.Laws.{total_amount, TakeInTurn}

-- what is left of an amount is no more than it
pub what_is_left : (most : ℕ) (at asked : ℤ) → pos 0 ≤ℤ at → at ≤ℤ pos most → IsAmount asked → IsAmount (asked -ℤ (clamp_to most (at +ℤ asked) -ℤ at))
unfolding clamp_to
what_is_left most at asked low high a =
    let l = a.least in
    let g = a.greatest in
    record { least = omega (arith, ints, clamps); greatest = omega (arith, ints, clamps) }

-- a number that is no more than another is less, or is that
no_more : (a b : ℤ) → a ≤ℤ b → (a <ℤ b) ⊎ (a ≡ b)
no_more a b h = by_test (int_lt a b) refl
  where
    by_test : (t : Bool) → int_lt a b ≡ t → (a <ℤ b) ⊎ (a ≡ b)
    by_test true e = inl (grind (arith, ints))
    by_test false e = inr (grind (arith, ints))

-- a scroller in its range takes in the direction of what is asked, and no more than that; where it leaves some it is at the end of its range
pub record IsTaken (most : ℕ) (at asked by : ℤ) : Type 0 where
  pub forwards : pos 0 ≤ℤ asked → (pos 0 ≤ℤ by) × (by ≤ℤ asked)
  pub backwards : asked ≤ℤ pos 0 → (by ≤ℤ pos 0) × (asked ≤ℤ by)
  pub end_forwards : pos 0 ≤ℤ asked → by <ℤ asked → at +ℤ by ≡ pos most
  pub end_backwards : asked ≤ℤ pos 0 → asked <ℤ by → at +ℤ by ≡ pos 0

is_taken : (most : ℕ) (at asked : ℤ) → IsInRange most at → IsTaken most at asked (clamp_to most (at +ℤ asked) -ℤ at)
unfolding clamp_to
is_taken most at asked r =
    let l = r.low in
    let g = r.high in
    record {
      forwards = λ h. (omega (arith, ints, clamps), omega (arith, ints, clamps));
      backwards = λ h. (omega (arith, ints, clamps), omega (arith, ints, clamps));
      end_forwards = λ h k. omega (arith, ints, clamps);
      end_backwards = λ h k. omega (arith, ints, clamps);
    }

module _ (p : Page) (offset : ℕ → Point) (ax : Axis) (ranges : AreWithinRanges p offset) where
  abbrev takes : ℕ → Axis → ℤ → ℤ
  takes = takes_at p offset

  known_takes : (sc : ℕ) (asked : ℤ) → has_scroller p sc ≡ true → IsTaken (most p sc ax) (along ax (offset sc)) asked (takes sc ax asked)
  known_takes sc asked h =
      subst (λ (b : Bool). IsTaken (most p sc ax) (along ax (offset sc)) asked (cond b (clamp_to (most p sc ax) (along ax (offset sc) +ℤ asked) -ℤ along ax (offset sc)) (pos 0))) (sym h)
      (is_taken (most p sc ax) (along ax (offset sc)) asked (ranges sc ax))

  -- any number takes in the direction of what is asked, and no more
  takes_toward : (sc : ℕ) (asked : ℤ) → (pos 0 ≤ℤ asked → (pos 0 ≤ℤ takes sc ax asked) × (takes sc ax asked ≤ℤ asked)) × (asked ≤ℤ pos 0 → (takes sc ax asked ≤ℤ pos 0) × (asked ≤ℤ takes sc ax asked))
  takes_toward sc asked = by_known (has_scroller p sc) refl
    where
      by_known : (b : Bool) → has_scroller p sc ≡ b → (pos 0 ≤ℤ asked → (pos 0 ≤ℤ takes sc ax asked) × (takes sc ax asked ≤ℤ asked)) × (asked ≤ℤ pos 0 → (takes sc ax asked ≤ℤ pos 0) × (asked ≤ℤ takes sc ax asked))
      by_known true e = let t = known_takes sc asked e in (t.forwards, t.backwards)
      by_known false e =
          let z : takes sc ax asked ≡ pos 0 = rw e refl in
          ((λ h. (omega (arith, ints, z), omega (arith, ints, z))), (λ h. (omega (arith, ints, z), omega (arith, ints, z))))

  rest_append : (xs : List ℕ) (b : ℕ) (ys : List ℕ) (asked : ℤ) → chain_rest takes ax (xs ++ b ∷ ys) asked ≡ chain_rest takes ax ys (chain_rest takes ax xs asked -ℤ takes b ax (chain_rest takes ax xs asked))
  rest_append [] b ys asked = refl
  rest_append (x ∷ xs) b ys asked = rest_append xs b ys (asked -ℤ takes x ax asked)

  rest_forwards : (xs : List ℕ) (asked : ℤ) → pos 0 ≤ℤ asked → pos 0 ≤ℤ chain_rest takes ax xs asked
  rest_forwards [] asked h = h
  rest_forwards (x ∷ xs) asked h =
      let t = (takes_toward x asked).0 h in
      rest_forwards xs (asked -ℤ takes x ax asked) (let a = t.0 in let b = t.1 in omega (arith, ints))

  rest_backwards : (xs : List ℕ) (asked : ℤ) → asked ≤ℤ pos 0 → chain_rest takes ax xs asked ≤ℤ pos 0
  rest_backwards [] asked h = h
  rest_backwards (x ∷ xs) asked h =
      let t = (takes_toward x asked).1 h in
      rest_backwards xs (asked -ℤ takes x ax asked) (let a = t.0 in let b = t.1 in omega (arith, ints))

  -- where nothing is left nothing is taken
  nothing_left : (ys : List ℕ) (r : ℤ) → r ≡ pos 0 → chain_rest takes ax ys r ≡ pos 0
  nothing_left ys r e =
      let a : pos 0 ≤ℤ chain_rest takes ax ys r = rest_forwards ys r (omega (arith, ints)) in
      let b : chain_rest takes ax ys r ≤ℤ pos 0 = rest_backwards ys r (omega (arith, ints)) in
      omega (arith, ints)

  nothing_taken : (sc : ℕ) (r : ℤ) → r ≡ pos 0 → takes sc ax r ≡ pos 0
  nothing_taken sc r e =
      let a = (takes_toward sc r).0 (omega (arith, ints)) in
      let a0 = a.0 in
      let a1 = a.1 in
      omega (arith, ints)

  pub take_in_turn : TakeInTurn p offset ax
  take_in_turn before b between sc asked some known =
      let r : ℤ = chain_rest takes ax before asked in
      let t : IsTaken (most p b ax) (along ax (offset b)) r (takes b ax r) = known_takes b r known in
      record {
        forwards = λ h.
            let q : pos 0 ≤ℤ r = rest_forwards before asked (omega (arith, ints)) in
            let u = (t.forwards q).1 in
            t.end_forwards q (less q u);
        backwards = λ h.
            let q : r ≤ℤ pos 0 = rest_backwards before asked (omega (arith, ints)) in
            let u = (t.backwards q).1 in
            t.end_backwards q (more q u);
      }
    where
      all_taken : chain_rest takes ax before asked -ℤ takes b ax (chain_rest takes ax before asked) ≡ pos 0 → ⊥
      all_taken z = some (nothing_taken sc _ (rest_append before b between asked ∙ nothing_left between _ z))

      less : pos 0 ≤ℤ chain_rest takes ax before asked → takes b ax (chain_rest takes ax before asked) ≤ℤ chain_rest takes ax before asked → takes b ax (chain_rest takes ax before asked) <ℤ chain_rest takes ax before asked
      less q u = elim (no_more (takes b ax (chain_rest takes ax before asked)) (chain_rest takes ax before asked) u) [ inl k ↦ k | inr e ↦ absurd (all_taken (omega (arith, ints, e))) ]

      more : chain_rest takes ax before asked ≤ℤ pos 0 → chain_rest takes ax before asked ≤ℤ takes b ax (chain_rest takes ax before asked) → chain_rest takes ax before asked <ℤ takes b ax (chain_rest takes ax before asked)
      more q u = elim (no_more (chain_rest takes ax before asked) (takes b ax (chain_rest takes ax before asked)) u) [ inl k ↦ k | inr e ↦ absurd (all_taken (omega (arith, ints, e))) ]

-- the parts add up

and_left : (a b : Bool) → a && b ≡ true → a ≡ true
and_left true b h = refl
and_left false b h = h

and_right : (a b : Bool) → a && b ≡ true → b ≡ true
and_right true b h = h
and_right false b h = cc

is_zero : (z : ℤ) → int_eq z (pos 0) ≡ true → z ≡ pos 0
is_zero z h = grind (arith, ints)

still_zero : (ax : Axis) (m : Move) → is_still m ≡ true → amount ax m ≡ pos 0
still_zero across m h = is_zero m.dx (and_left (int_eq m.dx (pos 0)) (int_eq m.dy (pos 0)) h)
still_zero down m h = is_zero m.dy (and_right (int_eq m.dx (pos 0)) (int_eq m.dy (pos 0)) h)

total_with : (ax : Axis) (m : Move) (ms : List Move) → total_amount ax (with_move m ms) ≡ amount ax m +ℤ total_amount ax ms
total_with ax m ms = by_still (is_still m) refl
  where
    by_still : (b : Bool) → is_still m ≡ b → total_amount ax (cond b ms (m ∷ ms)) ≡ amount ax m +ℤ total_amount ax ms
    by_still true e = let z = still_zero ax m e in omega (arith, ints)
    by_still false e = refl

pub adds_across : (takes : ℕ → Axis → ℤ → ℤ) (scs : List ℕ) (dx dy : ℤ) → total_amount across (chain_parts takes scs dx dy) +ℤ chain_rest takes across scs dx ≡ dx
adds_across takes [] dx dy = omega (arith, ints)
adds_across takes (sc ∷ scs) dx dy =
    let r = adds_across takes scs (dx -ℤ takes sc across dx) (dy -ℤ takes sc down dy) in
    let t = total_with across (record { scroller = sc; dx = takes sc across dx; dy = takes sc down dy }) (chain_parts takes scs (dx -ℤ takes sc across dx) (dy -ℤ takes sc down dy)) in
    omega (arith, ints)

pub adds_down : (takes : ℕ → Axis → ℤ → ℤ) (scs : List ℕ) (dx dy : ℤ) → total_amount down (chain_parts takes scs dx dy) +ℤ chain_rest takes down scs dy ≡ dy
adds_down takes [] dx dy = omega (arith, ints)
adds_down takes (sc ∷ scs) dx dy =
    let r = adds_down takes scs (dx -ℤ takes sc across dx) (dy -ℤ takes sc down dy) in
    let t = total_with down (record { scroller = sc; dx = takes sc across dx; dy = takes sc down dy }) (chain_parts takes scs (dx -ℤ takes sc across dx) (dy -ℤ takes sc down dy)) in
    omega (arith, ints)

-- offsets in the ranges of a page are offsets
pub offsets_within : (p : Page) (offset : ℕ → Point) → AreWithinRanges p offset → AreOffsets offset
offsets_within p offset r id =
    let a = r id across in
    let b = r id down in
    let ah = a.high in
    let am = a.bounded in
    let bh = b.high in
    let bm = b.bounded in
    record { left = a.low; right = omega (arith, ints); upper = b.low; lower = omega (arith, ints) }
