-- What lists of rects cover.
use Rattle.std.proofs.Common.{◌≡◌, ◌⊎◌, inl, inr, ℕ, zero, suc, ◌<◌, ◌≤ℤ◌, ◌+ℤ◌, int_le, ℤ, Bool, true, false, ◌&&◌, ◌||◌, List, [], ◌∷◌, ◌++◌, length, map, get_or, set, take, drop, ◌+◌, ◌≤◌, refl, sym, ◌∙◌, ap, subst, ◌↔◌, IsTrue, append-nil, append_assoc, arith}
use Rattle.std.specs.List.{All}
use Rattle.std.proofs.lemmas.List.Folds.{list_any-append}
use Rattle.std.proofs.lemmas.List.Elements.{All-append}
use Rattle.std.proofs.lemmas.List.{take_more, take_all, drop_all}
use Rattle.geom.specs.declared.rect.Rect.{Rect}
use Rattle.geom.specs.Covers.{covers, within, IsSound}
use Rattle.geom.specs.Common.{common, meets}
use Rattle.std.proofs.lemmas.Int.{ints}
use Rattle.std.proofs.lemmas.List.Edits.{map_over_more}
use Rattle.geom.proofs.Spans.{inside, is_within_of, same_test, both, both_of, common_points}
use Rattle.geom.proofs.Meets.{meet_points, points_meet}
use Rattle.region.specs.Laws.{PointsDecide}
use Rattle.region.specs.inner.Holding.{span_holds, rect_holds, any_holds}
use Rattle.region.specs.Points.{covered, touched, Touch}

pub or-false : (b : Bool) → (b || false) ≡ b
or-false true = refl
or-false false = refl

pub or-true : (b : Bool) → (b || true) ≡ true
or-true true = refl
or-true false = refl

-- a list with one more rect
pub covered_push : (rs : List Rect) (r : Rect) (x y : ℤ) → covered (rs ++ r ∷ []) x y ≡ (covered rs x y || covers r x y)
covered_push rs r x y = list_any-append (λ s. covers s x y) rs (r ∷ []) ∙ ap (λ b. covered rs x y || b) (or-false (covers r x y))

pub sound_push : (rs : List Rect) (r : Rect) → All IsSound rs → IsSound r → All IsSound (rs ++ r ∷ [])
sound_push rs r a s = All-append IsSound rs (r ∷ []) a (one r s)
  where
    one : (r : Rect) → IsSound r → All IsSound (r ∷ [])
    one r s zero d lt = s
    one r s (suc k) d lt = absurd (omega arith)

-- a list touches a rect as a test exactly where they share a point
touched_by : (s : Rect) (ss : List Rect) (r : Rect) (t : Bool) → meets s r ≡ t → (touched ss r ≡ true → Touch ss r) → (t || touched ss r) ≡ true
    → Touch (s ∷ ss) r
touched_by s ss r true e f h = let (x, y, p, q) = meet_points s r e in (x, y, ap (λ b. b || covered ss x y) p, q)
touched_by s ss r false e f h = let (x, y, p, q) = f h in (x, y, ap (λ b. covers s x y || b) p ∙ or-true (covers s x y), q)

touched_points : (rs : List Rect) (r : Rect) → touched rs r ≡ true → Touch rs r
touched_points [] r h = cc
touched_points (s ∷ ss) r h = touched_by s ss r (meets s r) refl (touched_points ss r) h

points_by : (s : Rect) (ss : List Rect) (r : Rect) (x y : ℤ) (t : Bool) → covers s x y ≡ t → covers r x y ≡ true → (covered ss x y ≡ true → touched ss r ≡ true)
    → (t || covered ss x y) ≡ true → touched (s ∷ ss) r ≡ true
points_by s ss r x y true e q f h = ap (λ b. b || touched ss r) (points_meet s r (x, y, e, q))
points_by s ss r x y false e q f h = ap (λ b. meets s r || b) (f h) ∙ or-true (meets s r)

points_touched_at : (rs : List Rect) (r : Rect) (x y : ℤ) → covers r x y ≡ true → covered rs x y ≡ true → touched rs r ≡ true
points_touched_at [] r x y q h = cc
points_touched_at (s ∷ ss) r x y q h = points_by s ss r x y (covers s x y) refl q (points_touched_at ss r x y q) h

points_touched : (rs : List Rect) (r : Rect) → Touch rs r → touched rs r ≡ true
points_touched rs r (x, y, p, q) = points_touched_at rs r x y q p

alike_by : (rs ss : List Rect) (r : Rect) → ((x y : ℤ) → covered rs x y ≡ covered ss x y) → touched rs r ≡ true → touched ss r ≡ true
alike_by rs ss r same h = let (x, y, p, q) = touched_points rs r h in points_touched ss r (x, y, sym (same x y) ∙ p, q)

pub points_decide : PointsDecide
points_decide = record {
  shared = touched_points;
  touches = points_touched;
  alike = λ rs ss r same. same_test (touched rs r) (touched ss r) (alike_by rs ss r same) (alike_by ss rs r (λ x y. sym (same x y)));
}

pub touching : (rs : List Rect) (r : Rect) (t : Bool) → t ≡ touched rs r → IsTrue t ↔ Touch rs r
touching rs r t e = rw e (touched_points rs r, points_touched rs r)

-- a list of which each rect is cut
clipped_by : (a b c : Bool) → ((a && c) || (b && c)) ≡ ((a || b) && c)
clipped_by true b true = refl
clipped_by true true false = refl
clipped_by true false false = refl
clipped_by false b c = refl

pub covered_clip : (rs : List Rect) (r : Rect) (x y : ℤ) → covered (map (λ s. common s r) rs) x y ≡ (covered rs x y && covers r x y)
covered_clip [] r x y = refl
covered_clip (s ∷ ss) r x y =
    (λ i. common_points s r x y i || covered_clip ss r x y i) ∙ clipped_by (covers s x y) (covered ss x y) (covers r x y)

-- what a list has grown by, one rect after another
pub record HasGrown (old new others : List Rect) : Type 0 where
  pub more : List Rect
  pub front : new ≡ old ++ more
  pub points : (x y : ℤ) → covered new x y ≡ (covered old x y || covered others x y)
  pub sound : All IsSound new

pub or_assoc : (a b c : Bool) → ((a || b) || c) ≡ (a || (b || c))
or_assoc true b c = refl
or_assoc false b c = refl

pub grown_more : (old now new others : List Rect) (r : Rect) → HasGrown old now others → IsSound r
    → (new ≡ now) ⊎ (new ≡ now ++ r ∷ []) → ((x y : ℤ) → covered new x y ≡ (covered now x y || covers r x y))
    → HasGrown old new (others ++ r ∷ [])
grown_more old now new others r g s f p = record {
  more = (longer f).0;
  front = (longer f).1;
  points = λ x y. p x y ∙ (ap (λ b. b || covers r x y) (g.points x y) ∙ (or_assoc (covered old x y) (covered others x y) (covers r x y) ∙ ap (λ b. covered old x y || b) (sym (covered_push others r x y))));
  sound = sound f;
}
  where
    longer : (new ≡ now) ⊎ (new ≡ now ++ r ∷ []) → (more : List Rect) × (new ≡ old ++ more)
    longer (inl e) = (g.more, e ∙ g.front)
    longer (inr e) = (g.more ++ r ∷ [], e ∙ (ap (λ ws. ws ++ r ∷ []) g.front ∙ append_assoc old g.more (r ∷ [])))

    sound : (new ≡ now) ⊎ (new ≡ now ++ r ∷ []) → All IsSound new
    sound (inl e) = rw e g.sound
    sound (inr e) = rw e (sound_push now r g.sound s)

-- where the one span starts no later, its end decides
pub end_decides : (a m b n : ℤ) → a ≤ℤ b → int_le (b +ℤ n) (a +ℤ m) ≡ span_holds a m b n
unfolding span_holds
end_decides a m b n h = let e : int_le a b ≡ true = grind (arith, ints) in rw e refl

-- a number of a span that another holds is in the other
span_held : (a m b n p : ℤ) → span_holds a m b n ≡ true → within b n p ≡ true → within a m p ≡ true
unfolding span_holds
span_held a m b n p h t =
    let k = both (int_le a b) (int_le (b +ℤ n) (a +ℤ m)) h in
    let starts : a ≤ℤ b = grind (arith, ints) in
    let ends : (b +ℤ n) ≤ℤ (a +ℤ m) = grind (arith, ints) in
    let i = inside b n p t in
    is_within_of a m p (record { low = omega (arith, ints); high = omega (arith, ints) })

rect_held : (s r : Rect) (x y : ℤ) → rect_holds s r ≡ true → covers r x y ≡ true → covers s x y ≡ true
rect_held s r x y h t =
    let k = both (span_holds s.x s.w r.x r.w) (span_holds s.y s.h r.y r.h) h in
    let i = both (within r.x r.w x) (within r.y r.h y) t in
    both_of _ _ (span_held s.x s.w r.x r.w x k.0 i.0) (span_held s.y s.h r.y r.h y k.1 i.1)

-- a point of a rect that the list holds is covered by the list
any_by : (s : Rect) (ss : List Rect) (r : Rect) (x y : ℤ) (t : Bool) → rect_holds s r ≡ t → covers r x y ≡ true
    → (any_holds ss r ≡ true → covered ss x y ≡ true) → (t || any_holds ss r) ≡ true → covered (s ∷ ss) x y ≡ true
any_by s ss r x y true e c f h = ap (λ b. b || covered ss x y) (rect_held s r x y e c)
any_by s ss r x y false e c f h = ap (λ b. covers s x y || b) (f h) ∙ or-true (covers s x y)

any_covered : (rs : List Rect) (r : Rect) (x y : ℤ) → covers r x y ≡ true → any_holds rs r ≡ true → covered rs x y ≡ true
any_covered [] r x y c h = cc
any_covered (s ∷ ss) r x y c h = any_by s ss r x y (rect_holds s r) refl c (any_covered ss r x y c) h

-- so it adds nothing
held_by : (rs : List Rect) (r : Rect) (x y : ℤ) (t : Bool) → covers r x y ≡ t → any_holds rs r ≡ true → covered rs x y ≡ (covered rs x y || covers r x y)
held_by rs r x y false e h = rw e (sym (or-false (covered rs x y)))
held_by rs r x y true e h = let l : covered rs x y ≡ true = any_covered rs r x y e h in rw l refl

-- what the last of them hold, one of them holds
last_by : (s : Rect) (ss : List Rect) (r : Rect) → any_holds ss r ≡ true → any_holds (s ∷ ss) r ≡ true
last_by s ss r h = ap (λ b. rect_holds s r || b) h ∙ or-true (rect_holds s r)

pub last_held : (n : ℕ) (rs : List Rect) (r : Rect) → any_holds (drop n rs) r ≡ true → any_holds rs r ≡ true
last_held zero rs r h = h
last_held (suc n) [] r h = h
last_held (suc n) (s ∷ ss) r h = last_by s ss r (last_held n ss r h)

pub any_held : (rs : List Rect) (r : Rect) → any_holds rs r ≡ true → (x y : ℤ) → covered rs x y ≡ (covered rs x y || covers r x y)
any_held rs r h x y = held_by rs r x y (covers r x y) refl h

-- a list of which the first rects are cut
pub cut_more : (rs ws : List Rect) (r : Rect) (i : ℕ) (s : Rect) → i < length rs → ws ≡ map (λ s. common s r) (take i rs) ++ drop i rs
    → s ≡ get_or ws i s → set ws i (common s r) ≡ map (λ s. common s r) (take (i + 1) rs) ++ drop (i + 1) rs
cut_more rs ws r i s lt e k = map_over_more (λ s. common s r) rs ws i s lt e k

pub cut_all : (rs ws : List Rect) (r : Rect) (i : ℕ) → length rs ≤ i → ws ≡ map (λ s. common s r) (take i rs) ++ drop i rs
    → (x y : ℤ) → covered ws x y ≡ (covered rs x y && covers r x y)
cut_all rs ws r i le e x y =
    let t : take i rs ≡ rs = take_all i rs le in
    let d : drop i rs ≡ [] = drop_all i rs le in
    let w : ws ≡ map (λ s. common s r) rs = e ∙ ((λ j. map (λ s. common s r) (t j) ++ d j) ∙ append-nil (map (λ s. common s r) rs)) in
    ap (λ vs. covered vs x y) w ∙ covered_clip rs r x y

-- the same at an element that a loop has come to
pub grown_at : (old now new others : List Rect) (i : ℕ) (r : Rect) → HasGrown old now (take i others) → i < length others → r ≡ get_or others i r → IsSound r
    → (new ≡ now) ⊎ (new ≡ now ++ r ∷ []) → ((x y : ℤ) → covered new x y ≡ (covered now x y || covers r x y))
    → HasGrown old new (take (i + 1) others)
grown_at old now new others i r g lt e s f p =
    subst (HasGrown old new) (sym (take_more others i r lt ∙ ap (λ z. take i others ++ z ∷ []) (sym e))) (grown_more old now new (take i others) r g s f p)

get_again : (xs : List Rect) (i : ℕ) (d : Rect) → i < length xs → get_or xs i d ≡ get_or xs i (get_or xs i d)
get_again [] i d lt = absurd (omega arith)
get_again (x ∷ xs) zero d lt = refl
get_again (x ∷ xs) (suc i) d lt = other xs i d (get_or (x ∷ xs) (suc i) d) (omega arith)
  where
    other : (xs : List Rect) (i : ℕ) (d e : Rect) → i < length xs → get_or xs i d ≡ get_or xs i e
    other [] i d e lt = absurd (omega arith)
    other (x ∷ xs) zero d e lt = refl
    other (x ∷ xs) (suc i) d e lt = other xs i d e (omega arith)

pub grown_here : (old now new others : List Rect) (i : ℕ) (d : Rect) → HasGrown old now (take i others) → i < length others → All IsSound others
    → (new ≡ now) ⊎ (new ≡ now ++ get_or others i d ∷ []) → ((x y : ℤ) → covered new x y ≡ (covered now x y || covers (get_or others i d) x y))
    → HasGrown old new (take (i + 1) others)
grown_here old now new others i d g lt s f p = grown_at old now new others i (get_or others i d) g lt (get_again others i d lt) (s i d lt) f p
