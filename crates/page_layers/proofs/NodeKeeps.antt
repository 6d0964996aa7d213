-- What stays true of property nodes and scroll values when a node is added or changed.
use Rattle.std.proofs.lemmas.List.{set_split}
use Rattle.std.proofs.Math.Seq.{drop-cons}
use Rattle.std.proofs.Common.{suc, ◌++◌, get_or, take, drop, set, ℕ, ℤ, pos, ◌≡◌, ◌<◌, ◌≤◌, ◌==◌, ◌||◌, Bool, true, false, cond, Option, Some, None, List, [], ◌∷◌, length, refl, ap, sym, ◌∙◌, subst, arith}
use Rattle.std.specs.Prelude.{is_some}
use Rattle.std.proofs.lemmas.Int.{ints, clamps}
use Rattle.geom.specs.declared.rect.Point.{Point}
use Rattle.page_properties.specs.declared.nodes.ScrollNode.{ScrollNode}
use Rattle.page_properties.specs.Entries.{find, knows, is_known, with_node_changed}
use Rattle.page_properties.specs.OffsetMap.{IsOffset}
use Rattle.page_layers.specs.Effects.{clamped_in}
use Rattle.page_layers.specs.Scrolls.{clamp_to, or_origin, IsInRange, AreInRange}

-- ---- known nodes

-- a node that is known stays known when one is added
pub knows-more : {N : Type 0} (x id : ℕ) (n : N) (nodes : List (ℕ × N)) → knows x nodes ≡ true → knows x ((id, n) ∷ nodes) ≡ true
knows-more x id n nodes h = go (id == x) h
  where
    go : (b : Bool) → is_some (find x nodes) ≡ true → is_some (cond b (Some n) (find x nodes)) ≡ true
    go true h = refl
    go false h = h

-- a change of a node keeps what is known
pub knows-changed : {N : Type 0} (x id : ℕ) (f : N → N) (nodes : List (ℕ × N)) → knows x (with_node_changed id f nodes) ≡ knows x nodes
knows-changed x id f [] = refl
knows-changed {N} x id f (e ∷ older) = go (e.0 == id) (knows-changed x id f older)
  where
    other_node : (c : Bool) → is_some (cond c (Some (f e.1)) (find x older)) ≡ is_some (cond c (Some e.1) (find x older))
    other_node true = refl
    other_node false = refl

    other_rest : (c : Bool) → is_some (find x (with_node_changed id f older)) ≡ is_some (find x older) → is_some (cond c (Some e.1) (find x (with_node_changed id f older))) ≡ is_some (cond c (Some e.1) (find x older))
    other_rest true same = refl
    other_rest false same = same

    go : (b : Bool) → is_some (find x (with_node_changed id f older)) ≡ is_some (find x older) → is_some (find x (cond b ((e.0, f e.1) ∷ older) (e ∷ with_node_changed id f older))) ≡ is_some (cond (e.0 == x) (Some e.1) (find x older))
    go true rest = other_node (e.0 == x)
    go false rest = other_rest (e.0 == x) rest

-- 0 or a node that is known
pub is_known-more : {N : Type 0} (x id : ℕ) (n : N) (nodes : List (ℕ × N)) → is_known x nodes ≡ true → is_known x ((id, n) ∷ nodes) ≡ true
is_known-more x id n nodes h = go (x == 0) (knows-more x id n nodes) h
  where
    go : (b : Bool) → (knows x nodes ≡ true → knows x ((id, n) ∷ nodes) ≡ true) → (b || knows x nodes) ≡ true → (b || knows x ((id, n) ∷ nodes)) ≡ true
    go true more h = refl
    go false more h = more h

pub is_known-changed : {N : Type 0} (x id : ℕ) (f : N → N) (nodes : List (ℕ × N)) → is_known x nodes ≡ true → is_known x (with_node_changed id f nodes) ≡ true
is_known-changed x id f nodes h = ap (λ (b : Bool). (x == 0) || b) (knows-changed x id f nodes) ∙ h

-- ---- scroll values

-- a clamped number is in its range
pub in_range_clamped : (most : ℕ) (z : ℤ) → most ≤ 1048576 → IsInRange most (clamp_to most z)
unfolding clamp_to
in_range_clamped most z le = record { low = omega (arith, ints, clamps); high = omega (arith, ints, clamps); bounded = le }

-- a clamped number is clamped to itself
pub clamp_again : (m : ℕ) (z : ℤ) → clamp_to m (clamp_to m z) ≡ clamp_to m z
unfolding clamp_to
clamp_again m z = omega (arith, ints, clamps)

-- the origin is in every range
pub in_range_origin : (most : ℕ) → most ≤ 1048576 → IsInRange most (pos 0)
in_range_origin most le = record { low = omega (arith, ints); high = omega (arith, ints); bounded = le }

-- a value that is set in a scroller's range keeps each in its own
pub values-set : (id : ℕ) (p : Point) (ss : List (ℕ × ScrollNode)) (vs : List (ℕ × Point)) → ((n : ScrollNode) → find id ss ≡ Some n → IsInRange n.max_x p.x × IsInRange n.max_y p.y) → AreInRange ss vs → AreInRange ss (with_node_changed id (λ v. p) vs)
values-set id p [] [] new all = tt
values-set id p [] (v ∷ vs) new all = absurd all
values-set id p (s ∷ ss) [] new all = absurd all
values-set id p (s ∷ ss) (v ∷ vs) new all = go (s.0 == id) (v.0 == id) (ap (λ (n : ℕ). n == id) (sym all.0)) new (λ rest. values-set id p ss vs rest all.3)
  where
    go : (a b : Bool) → a ≡ b → ((n : ScrollNode) → cond a (Some s.1) (find id ss) ≡ Some n → IsInRange n.max_x p.x × IsInRange n.max_y p.y)
        → (((n : ScrollNode) → find id ss ≡ Some n → IsInRange n.max_x p.x × IsInRange n.max_y p.y) → AreInRange ss (with_node_changed id (λ w. p) vs))
        → AreInRange (s ∷ ss) (cond b ((v.0, p) ∷ vs) (v ∷ with_node_changed id (λ w. p) vs))
    go true true same n rest = let r : IsInRange s.1.max_x p.x × IsInRange s.1.max_y p.y = n s.1 refl in (all.0, r.0, r.1, all.3)
    go false false same n rest = (all.0, all.1, all.2, rest n)
    go true false same n rest = absurd (cc)
    go false true same n rest = absurd (cc)

-- a scroller's range and its value changed together
pub values-ranged : (id x y : ℕ) (p : Point) (ss : List (ℕ × ScrollNode)) (vs : List (ℕ × Point)) → IsInRange x p.x → IsInRange y p.y → AreInRange ss vs → AreInRange (with_node_changed id (λ n. record n { max_x = x; max_y = y }) ss) (with_node_changed id (λ v. p) vs)
values-ranged id x y p [] [] across down all = tt
values-ranged id x y p [] (v ∷ vs) across down all = absurd all
values-ranged id x y p (s ∷ ss) [] across down all = absurd all
values-ranged id x y p (s ∷ ss) (v ∷ vs) across down all = go (s.0 == id) (v.0 == id) (ap (λ (n : ℕ). n == id) (sym all.0)) (values-ranged id x y p ss vs across down all.3)
  where
    go : (a b : Bool) → a ≡ b → AreInRange (with_node_changed id (λ n. record n { max_x = x; max_y = y }) ss) (with_node_changed id (λ w. p) vs)
        → AreInRange (cond a ((s.0, record s.1 { max_x = x; max_y = y }) ∷ ss) (s ∷ with_node_changed id (λ n. record n { max_x = x; max_y = y }) ss)) (cond b ((v.0, p) ∷ vs) (v ∷ with_node_changed id (λ w. p) vs))
    go true true same rest = (all.0, across, down, all.3)
    go false false same rest = (all.0, all.1, all.2, rest)
    go true false same rest = absurd (cc)
    go false true same rest = absurd (cc)

-- a scroller that is there has a value, and one that is not has none
pub values-known : (id : ℕ) (ss : List (ℕ × ScrollNode)) (vs : List (ℕ × Point)) → AreInRange ss vs → knows id vs ≡ knows id ss
values-known id [] [] all = refl
values-known id [] (v ∷ vs) all = absurd all
values-known id (s ∷ ss) [] all = absurd all
values-known id (s ∷ ss) (v ∷ vs) all = go (v.0 == id) (s.0 == id) (ap (λ (n : ℕ). n == id) all.0) (values-known id ss vs all.3)
  where
    go : (a b : Bool) → a ≡ b → knows id vs ≡ knows id ss → is_some (cond a (Some v.1) (find id vs)) ≡ is_some (cond b (Some s.1) (find id ss))
    go true true same rest = refl
    go false false same rest = rest
    go true false same rest = absurd (cc)
    go false true same rest = absurd (cc)

-- the value of a scroller that is there is in its range
pub values-in_range : (id : ℕ) (n : ScrollNode) (ss : List (ℕ × ScrollNode)) (vs : List (ℕ × Point)) → AreInRange ss vs → find id ss ≡ Some n → IsInRange n.max_x (or_origin (find id vs)).x × IsInRange n.max_y (or_origin (find id vs)).y
values-in_range id n [] [] all found = absurd (cc)
values-in_range id n [] (v ∷ vs) all found = absurd all
values-in_range id n (s ∷ ss) [] all found = absurd all
values-in_range id n (s ∷ ss) (v ∷ vs) all found = go (v.0 == id) (s.0 == id) (ap (λ (m : ℕ). m == id) all.0) found (values-in_range id n ss vs all.3)
  where
    go : (a b : Bool) → a ≡ b → cond b (Some s.1) (find id ss) ≡ Some n → (find id ss ≡ Some n → IsInRange n.max_x (or_origin (find id vs)).x × IsInRange n.max_y (or_origin (find id vs)).y)
        → IsInRange n.max_x (or_origin (cond a (Some v.1) (find id vs))).x × IsInRange n.max_y (or_origin (cond a (Some v.1) (find id vs))).y
    go true true same f rest = let node : s.1 ≡ n = cc in subst (λ (m : ScrollNode). IsInRange m.max_x v.1.x × IsInRange m.max_y v.1.y) node (all.1, all.2)
    go false false same f rest = rest f
    go true false same f rest = absurd (cc)
    go false true same f rest = absurd (cc)

-- the changed node of an id
pub found-changed : {N : Type 0} (id : ℕ) (f : N → N) (nodes : List (ℕ × N)) (n : N) → find id nodes ≡ Some n → find id (with_node_changed id f nodes) ≡ Some (f n)
found-changed id f [] n found = absurd (cc)
found-changed {N} id f (e ∷ older) n found = go (e.0 == id) refl found (found-changed id f older n)
  where
    go : (b : Bool) → (e.0 == id) ≡ b → cond b (Some e.1) (find id older) ≡ Some n → (find id older ≡ Some n → find id (with_node_changed id f older) ≡ Some (f n)) → find id (cond b ((e.0, f e.1) ∷ older) (e ∷ with_node_changed id f older)) ≡ Some (f n)
    go true here found rest = ap (λ (b : Bool). cond b (Some (f e.1)) (find id older)) here ∙ ap (λ (m : N). Some (f m)) (let same : e.1 ≡ n = cc in same)
    go false here found rest = ap (λ (b : Bool). cond b (Some e.1) (find id (with_node_changed id f older))) here ∙ rest found

-- a node that is known is found
pub known_found : {N : Type 0} (id : ℕ) (nodes : List (ℕ × N)) → knows id nodes ≡ true → (n : N) × (find id nodes ≡ Some n)
known_found {N} id nodes h = go (find id nodes) h
  where
    go : (o : Option N) → is_some o ≡ true → (n : N) × (o ≡ Some n)
    go (Some n) h = (n, refl)
    go None h = absurd (cc)

-- a change where a walk from the start has come to the first entry with the id
pub changed_here : {N : Type 0} (id : ℕ) (n : N) (xs all : List (ℕ × N)) (i : ℕ) (d : ℕ × N) → i < length xs → ((get_or xs i d).0 == id) ≡ true → take i xs ++ with_node_changed id (λ m. n) (drop i xs) ≡ all → set xs i ((get_or xs i d).0, n) ≡ all
changed_here {N} id n xs all i d lt here rest =
    set_split xs i ((get_or xs i d).0, n) lt
    ∙ ap (λ (ys : List (ℕ × N)). take i xs ++ ys) (sym (ap (λ (b : Bool). cond b (((get_or xs i d).0, n) ∷ drop (suc i) xs) (get_or xs i d ∷ with_node_changed id (λ m. n) (drop (suc i) xs))) here))
    ∙ ap (λ (ys : List (ℕ × N)). take i xs ++ with_node_changed id (λ m. n) ys) (sym (drop-cons xs i d lt))
    ∙ rest

-- the value of any scroller is an offset: 0 to 2^20 on both axes
pub values-offset : (id : ℕ) (ss : List (ℕ × ScrollNode)) (vs : List (ℕ × Point)) → AreInRange ss vs → IsOffset (or_origin (find id vs))
values-offset id ss [] all = record { left = omega (arith, ints); right = omega (arith, ints); upper = omega (arith, ints); lower = omega (arith, ints) }
values-offset id [] (v ∷ vs) all = absurd all
values-offset id (s ∷ ss) (v ∷ vs) all = go (v.0 == id) (values-offset id ss vs all.3)
  where
    go : (b : Bool) → IsOffset (or_origin (find id vs)) → IsOffset (or_origin (cond b (Some v.1) (find id vs)))
    go true rest = record { left = all.1.low; right = omega (arith, ints, all.1.high, all.1.bounded); upper = all.2.low; lower = omega (arith, ints, all.2.high, all.2.bounded) }
    go false rest = rest

-- nothing changes where no entry has the id
pub not_changed : {N : Type 0} (id : ℕ) (f : N → N) (nodes : List (ℕ × N)) → knows id nodes ≡ false → with_node_changed id f nodes ≡ nodes
not_changed id f [] none = refl
not_changed {N} id f (e ∷ older) none = go (e.0 == id) none (not_changed id f older)
  where
    go : (b : Bool) → is_some (cond b (Some e.1) (find id older)) ≡ false → (knows id older ≡ false → with_node_changed id f older ≡ older) → cond b ((e.0, f e.1) ∷ older) (e ∷ with_node_changed id f older) ≡ e ∷ older
    go true none rest = absurd (cc)
    go false none rest = ap (λ (ns : List (ℕ × N)). e ∷ ns) (rest none)

-- the value of a scroller clamped to a range
abbrev pub within_range : ℕ → ℕ → Option Point → Point
within_range x y o = record { x = clamp_to x (or_origin o).x; y = clamp_to y (or_origin o).y }

-- values clamped to a range that a scroller was given
pub range_values : (id x y : ℕ) (ss : List (ℕ × ScrollNode)) (vs after : List (ℕ × Point)) (at : Point) → knows id ss ≡ true → after ≡ with_node_changed id (λ v. at) vs → at ≡ within_range x y (find id vs)
    → after ≡ with_node_changed id (λ v. clamped_in (find id (with_node_changed id (λ n. record n { max_x = x; max_y = y }) ss)) (or_origin (find id vs)).x (or_origin (find id vs)).y) vs
range_values id x y ss vs after at known set_is at-is =
    let node = known_found id ss known in
    let found = found-changed id (λ n. record n { max_x = x; max_y = y }) ss node.0 node.1 in
    set_is ∙ ap (λ (p : Point). with_node_changed id (λ (v : Point). p) vs) (at-is ∙ ap (λ (o : Option ScrollNode). clamped_in o (or_origin (find id vs)).x (or_origin (find id vs)).y) (sym found))
