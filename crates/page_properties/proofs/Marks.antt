-- Effects above one another, marks at their places, and layers that stand together.
use Rattle.std.proofs.Common.{◌≡◌, ℕ, zero, suc, ◌+◌, ◌-◌, ◌<◌, ◌≤◌, ◌==◌, Bool, true, false, cond, not, ◌&&◌, ◌||◌, List, [], ◌∷◌, length, get_or, set, slice_index, replicate, Option, Some, None, is_some, arith, refl, sym, ◌∙◌, ap, inl, inr, ◌⊎◌}
use Rattle.std.proofs.lemmas.Bool.Decides.{nat_tests}
use Rattle.std.proofs.lemmas.Bool.{cases_lt, cases_eq}
use Rattle.std.proofs.lemmas.List.{get_or-set_same, get_or-set_other, length-replicate}
use Rattle.page_properties.specs.declared.nodes.EffectNode.{EffectNode}
use Rattle.page_properties.specs.Entries.{find, knows, ids}
use Rattle.page_properties.specs.inner.Marks.{mark_at, marked}
use Rattle.page_properties.specs.Nesting.{lies_in, AreNested}
use Rattle.page_properties.specs.inner.Index.{place_of}
use Rattle.page_properties.specs.Trees.{AreEffects, IsEffect}
use Rattle.page_properties.proofs.Chains.{lies_law, parent_older, known_other}
use Rattle.page_properties.proofs.Indexes.{is_at}

-- the chain in a longer list
lies_other : (e : ℕ × EffectNode) (older : List (ℕ × EffectNode)) (a k : ℕ) → e.0 == k ≡ false → lies_in (e ∷ older) a k ≡ lies_in older a k
unfolding lies_in
lies_other e older a k h = rw h refl

lies_newest : (e : ℕ × EffectNode) (older : List (ℕ × EffectNode)) (a k : ℕ) → e.0 == k ≡ true
    → lies_in (e ∷ older) a k ≡ (e.0 == a) || lies_in older a e.1.parent
unfolding lies_in
lies_newest e older a k h = rw h refl

lies_none : (a k : ℕ) → lies_in [] a k ≡ false
unfolding lies_in
lies_none a k = refl

or_false : (a b : Bool) → a ≡ false → b ≡ false → a || b ≡ false
or_false a b h k = rw (h, k) refl

-- nothing lies in an effect that is unknown
unknown_by : (e : ℕ × EffectNode) (older : List (ℕ × EffectNode)) (a k : ℕ) (t u : Bool) → e.0 == k ≡ t → e.0 == a ≡ u → is_some (cond u (Some e.1) (find a older)) ≡ false
    → ((j : ℕ) → knows a older ≡ false → lies_in older a j ≡ false) → lies_in (e ∷ older) a k ≡ false
unknown_by e older a k t true h i n f = cc
unknown_by e older a k true false h i n f = lies_newest e older a k h ∙ or_false _ _ i (f e.1.parent n)
unknown_by e older a k false false h i n f = lies_other e older a k h ∙ f k n

pub unknown_lies : (nodes : List (ℕ × EffectNode)) (a k : ℕ) → knows a nodes ≡ false → lies_in nodes a k ≡ false
unknown_lies [] a k h = lies_none a k
unknown_lies (e ∷ older) a k h = unknown_by e older a k (e.0 == k) (e.0 == a) refl refl h (λ j n. unknown_lies older a j n)

bool_cases : (b : Bool) → (b ≡ true) ⊎ (b ≡ false)
bool_cases true = inl refl
bool_cases false = inr refl

clash : (b : Bool) → b ≡ true → b ≡ false → ⊥
clash b h k = cc

-- so what something lies in is known
known_by_lies : (nodes : List (ℕ × EffectNode)) (a k : ℕ) → lies_in nodes a k ≡ true → (knows a nodes ≡ true) ⊎ (knows a nodes ≡ false) → knows a nodes ≡ true
known_by_lies nodes a k h (inl y) = y
known_by_lies nodes a k h (inr n) = absurd (clash _ h (unknown_lies nodes a k n))

pub known_lies : (nodes : List (ℕ × EffectNode)) (a k : ℕ) → lies_in nodes a k ≡ true → knows a nodes ≡ true
known_lies nodes a k h = known_by_lies nodes a k h (bool_cases (knows a nodes))

or_left : (a b : Bool) → a ≡ true → a || b ≡ true
or_left a b h = rw h refl

or_true : (a b : Bool) → b ≡ true → a || b ≡ true
or_true true b h = refl
or_true false b h = h

fresh_by : (e : ℕ × EffectNode) (older : List (ℕ × EffectNode)) (k : ℕ) (t : Bool) → e.0 == k ≡ t → knows e.0 older ≡ false → knows k older ≡ true → t ≡ false
fresh_by e older k false i f h = refl
fresh_by e older k true i f h =
    let same : e.0 ≡ k = grind (arith, nat_tests) in absurd (clash _ h (ap (λ (m : ℕ). knows m older) (sym same) ∙ f))

fresh_other : (e : ℕ × EffectNode) (older : List (ℕ × EffectNode)) (k : ℕ) → knows e.0 older ≡ false → knows k older ≡ true → e.0 == k ≡ false
fresh_other e older k f h = fresh_by e older k (e.0 == k) refl f h

-- an effect lies in itself, and its parent does not lie in it
pub lies_self : (nodes : List (ℕ × EffectNode)) → AreEffects nodes → (id : ℕ) (n : EffectNode) → find id nodes ≡ Some n → lies_in nodes id id ≡ true
lies_self nodes j id n h =
    let t : id == id ≡ true = grind (arith, nat_tests) in lies_law nodes j id id n h ∙ rw t refl

acyclic_by : (e : ℕ × EffectNode) (older : List (ℕ × EffectNode)) → AreEffects (e ∷ older) → (id : ℕ) (n : EffectNode) (t : Bool) → e.0 == id ≡ t
    → cond t (Some e.1) (find id older) ≡ Some n → find id (e ∷ older) ≡ Some n
    → (find id older ≡ Some n → lies_in older id n.parent ≡ false) → lies_in (e ∷ older) id n.parent ≡ false
acyclic_by e older j id n true i h g f =
    let name : e.0 ≡ id = grind (arith, nat_tests) in
    let o = known_other e.0 n.parent older j.0.fresh j.0.id_low (parent_older (λ (m : EffectNode). m.parent) IsEffect id n e older j g) in
    lies_other e older id n.parent o ∙ unknown_lies older id n.parent (ap (λ (k : ℕ). knows k older) (sym name) ∙ j.0.fresh)
acyclic_by e older j id n false i h g f =
    let o = known_other e.0 n.parent older j.0.fresh j.0.id_low (parent_older (λ (m : EffectNode). m.parent) IsEffect id n e older j g) in
    lies_other e older id n.parent o ∙ f h

pub acyclic : (nodes : List (ℕ × EffectNode)) → AreEffects nodes → (id : ℕ) (n : EffectNode) → find id nodes ≡ Some n → lies_in nodes id n.parent ≡ false
acyclic [] j id n h = absurd (cc h)
acyclic (e ∷ older) j id n h = acyclic_by e older j id n (e.0 == id) refl h h (λ k. acyclic older j.1 id n k)

-- what lies in an effect lies in those above it
trans_by : (e : ℕ × EffectNode) (older : List (ℕ × EffectNode)) → AreEffects (e ∷ older) → (a b c : ℕ) (t u : Bool) → e.0 == c ≡ t → e.0 == b ≡ u
    → lies_in (e ∷ older) a b ≡ true → lies_in (e ∷ older) b c ≡ true
    → ((d : ℕ) → lies_in older a b ≡ true → lies_in older b d ≡ true → lies_in older a d ≡ true) → lies_in (e ∷ older) a c ≡ true
trans_by e older j a b c true true h i l m f =
    let same : b ≡ c = grind (arith, nat_tests) in ap (lies_in (e ∷ older) a) (sym same) ∙ l
trans_by e older j a b c true false h i l m f =
    let n : lies_in older b e.1.parent ≡ true = ap (λ s. s || lies_in older b e.1.parent) (sym i) ∙ (sym (lies_newest e older b c h) ∙ m) in
    let k = f e.1.parent (sym (lies_other e older a b i) ∙ l) n in
    lies_newest e older a c h ∙ or_true (e.0 == a) _ k
trans_by e older j a b c false u h i l m f =
    let n = sym (lies_other e older b c h) ∙ m in
    let o = fresh_other e older b j.0.fresh (known_lies older b c n) in
    lies_other e older a c h ∙ f c (sym (lies_other e older a b o) ∙ l) n

pub lies_trans : (nodes : List (ℕ × EffectNode)) → AreEffects nodes → (a b c : ℕ) → lies_in nodes a b ≡ true → lies_in nodes b c ≡ true → lies_in nodes a c ≡ true
lies_trans [] j a b c h k = absurd (clash _ k (lies_none b c))
lies_trans (e ∷ older) j a b c h k =
    trans_by e older j a b c (e.0 == c) (e.0 == b) refl refl h k (λ d l m. lies_trans older j.1 a b d l m)

-- nothing lies in the root
pub lies_root : (nodes : List (ℕ × EffectNode)) → AreEffects nodes → (a : ℕ) → lies_in nodes a 0 ≡ false
lies_root [] j a = lies_none a 0
lies_root (e ∷ older) j a =
    let low = j.0.id_low in
    let t : e.0 == 0 ≡ false = grind (arith, nat_tests) in lies_other e older a 0 t ∙ lies_root older j.1 a

-- nor in an unknown id
none_by : (e : ℕ × EffectNode) (older : List (ℕ × EffectNode)) (a k : ℕ) (t : Bool) → e.0 == k ≡ t → cond t (Some e.1) (find k older) ≡ None
    → (find k older ≡ None → lies_in older a k ≡ false) → lies_in (e ∷ older) a k ≡ false
none_by e older a k true i h f = absurd (cc h)
none_by e older a k false i h f = lies_other e older a k i ∙ f h

pub unknown_in : (nodes : List (ℕ × EffectNode)) (a k : ℕ) → find k nodes ≡ None → lies_in nodes a k ≡ false
unknown_in [] a k h = lies_none a k
unknown_in (e ∷ older) a k h = none_by e older a k (e.0 == k) refl h (λ i. unknown_in older a k i)

-- how far a chain is from its end: places fall from a node to its parent
abbrev pub rank_of : Option ℕ → ℕ
rank_of None = 0
rank_of (Some p) = p + 1

abbrev pub rank : List (ℕ × EffectNode) → ℕ → ℕ
rank nodes id = rank_of (place_of id (ids nodes))

rank_by : (x : ℕ) (xs : List ℕ) (id : ℕ) (t : Bool) → rank_of (place_of id xs) ≤ length xs → rank_of (cond t (Some (length xs)) (place_of id xs)) ≤ length (x ∷ xs)
rank_by x xs id true h = omega arith
rank_by x xs id false h = omega arith

rank_le : (xs : List ℕ) (id : ℕ) → rank_of (place_of id xs) ≤ length xs
rank_le [] id = omega arith
rank_le (x ∷ xs) id = rank_by x xs id (x == id) (rank_le xs id)

falls_by : (e : ℕ × EffectNode) (older : List (ℕ × EffectNode)) (id k : ℕ) (n : EffectNode) (t : Bool) → e.0 == k ≡ false
    → cond t (Some e.1) (find id older) ≡ Some n → (find id older ≡ Some n → rank older k < rank older id)
    → rank (e ∷ older) k < rank_of (cond t (Some (length (ids older))) (place_of id (ids older)))
falls_by e older id k n true o h f = rw o (omega (arith, rank_le (ids older) k))
falls_by e older id k n false o h f = rw o (f h)

pub rank_falls : (nodes : List (ℕ × EffectNode)) → AreEffects nodes → (id : ℕ) (n : EffectNode) → find id nodes ≡ Some n → rank nodes n.parent < rank nodes id
rank_falls [] j id n h = absurd (cc h)
rank_falls (e ∷ older) j id n h =
    let o = known_other e.0 n.parent older j.0.fresh j.0.id_low (parent_older (λ (m : EffectNode). m.parent) IsEffect id n e older j h) in
    falls_by e older id n.parent n (e.0 == id) o h (λ k. rank_falls older j.1 id n k)

read_same : {A : Type 0} (x y : A) → Some x ≡ Some y → x ≡ y
read_same x y h = cc

-- no two ids have the same place
pub same_place : (nodes : List (ℕ × EffectNode)) (j k p : ℕ) → place_of j (ids nodes) ≡ Some p → place_of k (ids nodes) ≡ Some p → j ≡ k
same_place nodes j k p h i =
    let f = is_at j nodes p h in
    let g = is_at k nodes p i in
    let e : f.0 ≡ g.0 = read_same f.0 g.0 (sym f.1.read ∙ g.1.read) in
    sym f.1.named ∙ (ap (λ (m : ℕ × EffectNode). m.0) e ∙ g.1.named)

set_by : (nodes : List (ℕ × EffectNode)) (marks : List Bool) (id k p : ℕ) (o : Option ℕ) → place_of id (ids nodes) ≡ Some p → p < length marks
    → place_of k (ids nodes) ≡ o → (k ≡ id) ⊎ (k ≡ id → ⊥) → mark_at (set marks p true) o ≡ cond (k == id) true (mark_at marks o)
set_by nodes marks id k p None h l i (inl same) = absurd (cc (sym h ∙ (ap (λ (m : ℕ). place_of m (ids nodes)) (sym same) ∙ i)))
set_by nodes marks id k p None h l i (inr other) = let t : k == id ≡ false = grind (arith, nat_tests) in rw t refl
set_by nodes marks id k p (Some q) h l i (inl same) =
    let t : k == id ≡ true = grind (arith, nat_tests) in
    let e : q ≡ p = read_same q p (sym i ∙ (ap (λ (m : ℕ). place_of m (ids nodes)) same ∙ h)) in
    rw (t, e) (get_or-set_same marks p true false l)
set_by nodes marks id k p (Some q) h l i (inr other) =
    let t : k == id ≡ false = grind (arith, nat_tests) in
    rw t (get_or-set_other marks p q true false (λ e. other (same_place nodes k id p (i ∙ ap Some e) h)))

-- one more mark
pub marked_set : (nodes : List (ℕ × EffectNode)) (marks : List Bool) (id k p : ℕ) → place_of id (ids nodes) ≡ Some p → p < length marks
    → marked nodes (set marks p true) k ≡ cond (k == id) true (marked nodes marks k)
unfolding marked
marked_set nodes marks id k p h l = set_by nodes marks id k p (place_of k (ids nodes)) h l refl (cases_eq k id)

pub marked_at : (nodes : List (ℕ × EffectNode)) (marks : List Bool) (id p : ℕ) → place_of id (ids nodes) ≡ Some p → marked nodes marks id ≡ get_or marks p false
unfolding marked
marked_at nodes marks id p h = rw h refl

-- the pass up the chain of `effect`: from `id` on it is left, and what was passed was not marked before
pub record Climbed (nodes : List (ℕ × EffectNode)) (before marks : List Bool) (effect id : ℕ) : Type 0 where
  pub now_marked : (k : ℕ) → marked nodes marks k ≡ marked nodes before k || (lies_in nodes k effect && not (lies_in nodes k id))
  pub left : (k : ℕ) → lies_in nodes k id ≡ true → lies_in nodes k effect ≡ true
  pub fresh : (k : ℕ) → lies_in nodes k effect ≡ true → lies_in nodes k id ≡ false → marked nodes before k ≡ false

plain : (a b : Bool) → a || (b && not true) ≡ a
plain true b = refl
plain false true = refl
plain false false = refl

module _ (nodes : List (ℕ × EffectNode)) (family : AreEffects nodes) (before marks : List Bool) (effect id : ℕ) (w : Climbed nodes before marks effect id) where
  module _ (n : EffectNode) (found : find id nodes ≡ Some n) where
    in_chain : lies_in nodes id effect ≡ true
    in_chain = w.left id (lies_self nodes family id n found)

    was_marked : marked nodes marks id ≡ marked nodes before id
    was_marked =
        let s = lies_self nodes family id n found in
        w.now_marked id ∙ rw s (plain (marked nodes before id) (lies_in nodes id effect))

    -- a marked effect ends the pass
    pub climbed_stop : (p : ℕ) → place_of id (ids nodes) ≡ Some p → get_or marks p false ≡ true
        → (id ≡ 0) ⊎ ((marked nodes before id ≡ true) × (lies_in nodes id effect ≡ true))
    climbed_stop p h i = inr (sym was_marked ∙ (marked_at nodes marks id p h ∙ i), in_chain)

    above_other : (k : ℕ) → (k ≡ id → ⊥) → lies_in nodes k id ≡ lies_in nodes k n.parent
    above_other k other =
        let t : id == k ≡ false = grind (arith, nat_tests) in lies_law nodes family k id n found ∙ rw t refl

    step_mark : (k : ℕ) → (k ≡ id) ⊎ (k ≡ id → ⊥)
        → cond (k == id) true (marked nodes marks k) ≡ marked nodes before k || (lies_in nodes k effect && not (lies_in nodes k n.parent))
    step_mark k (inl same) =
        let t : k == id ≡ true = grind (arith, nat_tests) in
        let a : lies_in nodes k effect ≡ true = ap (λ (m : ℕ). lies_in nodes m effect) same ∙ in_chain in
        let b : lies_in nodes k n.parent ≡ false = ap (λ (m : ℕ). lies_in nodes m n.parent) same ∙ acyclic nodes family id n found in
        rw (t, a, b) (sym (or_true (marked nodes before k) true refl))
    step_mark k (inr other) =
        let t : k == id ≡ false = grind (arith, nat_tests) in
        rw (t, w.now_marked k, above_other k other) refl

    step_fresh : (p : ℕ) → place_of id (ids nodes) ≡ Some p → get_or marks p false ≡ false → (k : ℕ) → lies_in nodes k effect ≡ true
        → lies_in nodes k n.parent ≡ false → (k ≡ id) ⊎ (k ≡ id → ⊥) → marked nodes before k ≡ false
    step_fresh p h i k a b (inl same) = ap (marked nodes before) same ∙ (sym was_marked ∙ (marked_at nodes marks id p h ∙ i))
    step_fresh p h i k a b (inr other) = w.fresh k a (above_other k other ∙ b)

    -- an unmarked effect is marked, and its parent is next
    pub climbed_step : (p : ℕ) → place_of id (ids nodes) ≡ Some p → p < length marks → get_or marks p false ≡ false
        → Climbed nodes before (set marks p true) effect n.parent
    climbed_step p h l i = record {
      now_marked = λ k. marked_set nodes marks id k p h l ∙ step_mark k (cases_eq k id);
      left = λ k a. w.left k (lies_law nodes family k id n found ∙ or_true (id == k) _ a);
      fresh = λ k a b. step_fresh p h i k a b (cases_eq k id);
    }

  -- at the root nothing is left
  root_lies : find id nodes ≡ None → (k : ℕ) → lies_in nodes k id ≡ lies_in nodes k 0
  root_lies h k = unknown_in nodes k id h ∙ sym (lies_root nodes family k)

  pub climbed_all : find id nodes ≡ None → Climbed nodes before marks effect 0
  climbed_all h = record {
    now_marked = λ k. w.now_marked k ∙ ap (λ b. marked nodes before k || (lies_in nodes k effect && not b)) (root_lies h k);
    left = λ k a. absurd (clash _ a (lies_root nodes family k));
    fresh = λ k a b. w.fresh k a (unknown_in nodes k id h);
  }

-- layers so far: they are nested, and the marked effects are those that a layer lies in
pub record IsMet (nodes : List (ℕ × EffectNode)) (layers : List ℕ) (at : ℕ) (marks : List Bool) (last : ℕ) : Type 0 where
  pub room : length nodes ≤ length marks
  pub together : (e i j k : ℕ) → i ≤ j → j ≤ k → k < at → lies_in nodes e (slice_index layers i) ≡ true → lies_in nodes e (slice_index layers k) ≡ true
      → lies_in nodes e (slice_index layers j) ≡ true
  pub some_layer : (e : ℕ) → marked nodes marks e ≡ true → (i : ℕ) × (i < at) × (lies_in nodes e (slice_index layers i) ≡ true)
  pub each_layer : (e i : ℕ) → i < at → lies_in nodes e (slice_index layers i) ≡ true → marked nodes marks e ≡ true
  pub newest_layer : 0 < at → last ≡ slice_index layers (at - 1)

-- what the pass up the chain of one more layer gives
pub record IsMeeting (nodes : List (ℕ × EffectNode)) (before after : List Bool) (effect meeting : ℕ) : Type 0 where
  pub now_marked : (k : ℕ) → marked nodes after k ≡ marked nodes before k || (lies_in nodes k effect && not (lies_in nodes k meeting))
  pub stop : (meeting ≡ 0) ⊎ ((marked nodes before meeting ≡ true) × (lies_in nodes meeting effect ≡ true))
  pub fresh : (k : ℕ) → lies_in nodes k effect ≡ true → lies_in nodes k meeting ≡ false → marked nodes before k ≡ false

module _ (nodes : List (ℕ × EffectNode)) (family : AreEffects nodes) (layers : List ℕ) (at : ℕ) (before after : List Bool) (last effect meeting : ℕ)
    (m : IsMet nodes layers at before last) (w : IsMeeting nodes before after effect meeting) (here : effect ≡ slice_index layers at) where
  here_in : (e k : ℕ) → k ≡ at → lies_in nodes e (slice_index layers k) ≡ true → lies_in nodes e effect ≡ true
  here_in e k same h = ap (lies_in nodes e) (here ∙ ap (slice_index layers) (sym same)) ∙ h

  last_in : (e : ℕ) → 0 < at → lies_in nodes e last ≡ lies_in nodes e (slice_index layers (at - 1))
  last_in e some = ap (lies_in nodes e) (m.newest_layer some)

  apart_by : (meeting ≡ 0 → ⊥) → at < length layers → lies_in nodes meeting last ≡ false → AreNested nodes layers
      → (meeting ≡ 0) ⊎ ((marked nodes before meeting ≡ true) × (lies_in nodes meeting effect ≡ true)) → ⊥
  apart_by some within out nested (inl at_root) = some at_root
  apart_by some within out nested (inr (mark, lies)) =
      let f = m.some_layer meeting mark in
      let l = f.1 in
      clash _
      (nested meeting f.0 (at - 1) at (omega (arith, l)) (omega arith) within f.2 (ap (lies_in nodes meeting) (sym here) ∙ lies))
      (sym (last_in meeting (omega (arith, l))) ∙ out)

  -- a layer that leaves the effect where it was met stands between two that are in it
  pub met_apart : (meeting ≡ 0 → ⊥) → at < length layers → lies_in nodes meeting last ≡ false → AreNested nodes layers → ⊥
  met_apart some within out nested = apart_by some within out nested w.stop

  must_by : (e : ℕ) → marked nodes before e ≡ true → lies_in nodes e effect ≡ true → (lies_in nodes e meeting ≡ true) ⊎ (lies_in nodes e meeting ≡ false)
      → lies_in nodes e meeting ≡ true
  must_by e mark h (inl y) = y
  must_by e mark h (inr n) = absurd (clash _ mark (w.fresh e h n))

  still_by : (e : ℕ) → 0 < at → lies_in nodes e meeting ≡ true → (meeting ≡ 0) ⊎ (lies_in nodes meeting last ≡ true)
      → lies_in nodes e (slice_index layers (at - 1)) ≡ true
  still_by e some h (inl at_root) = absurd (clash _ h (ap (lies_in nodes e) at_root ∙ lies_root nodes family e))
  still_by e some h (inr lies) = sym (last_in e some) ∙ lies_trans nodes family e meeting last h lies

  -- an effect of the new layer that was met before has the layer just before too
  still_in : (meeting ≡ 0) ⊎ (lies_in nodes meeting last ≡ true) → (e i : ℕ) → i < at → lies_in nodes e (slice_index layers i) ≡ true → lies_in nodes e effect ≡ true
      → lies_in nodes e (slice_index layers (at - 1)) ≡ true
  still_in s e i l h k =
      still_by e (omega arith) (must_by e (m.each_layer e i l h) k (bool_cases (lies_in nodes e meeting))) s

  together_by : (meeting ≡ 0) ⊎ (lies_in nodes meeting last ≡ true) → (e i j k : ℕ) → i ≤ j → j ≤ k → k < at + 1 → lies_in nodes e (slice_index layers i) ≡ true
      → lies_in nodes e (slice_index layers k) ≡ true → (k < at) ⊎ (at ≤ k) → (j < at) ⊎ (at ≤ j) → lies_in nodes e (slice_index layers j) ≡ true
  together_by s e i j k p q r h t (inl below) u = m.together e i j k p q below h t
  together_by s e i j k p q r h t (inr new) (inl below) =
      let last_one = still_in s e i (omega arith) h (here_in e k (omega arith) t) in
      m.together e i j (at - 1) p (omega arith) (omega arith) h last_one
  together_by s e i j k p q r h t (inr new) (inr same) =
      let e' : j ≡ k = omega arith in ap (λ (n : ℕ). lies_in nodes e (slice_index layers n)) e' ∙ t

  some_by : (e : ℕ) → marked nodes before e || (lies_in nodes e effect && not (lies_in nodes e meeting)) ≡ true
      → (marked nodes before e ≡ true) ⊎ (marked nodes before e ≡ false) → (lies_in nodes e effect ≡ true) ⊎ (lies_in nodes e effect ≡ false)
      → (i : ℕ) × (i < at + 1) × (lies_in nodes e (slice_index layers i) ≡ true)
  some_by e h (inl y) u = let f = m.some_layer e y in let l = f.1 in (f.0, omega (arith, l), f.2)
  some_by e h (inr n) (inl y) = (at, omega arith, ap (lies_in nodes e) (sym here) ∙ y)
  some_by e h (inr n) (inr o) = absurd (clash _ h (rw (n, o) refl))

  each_by : (e : ℕ) → lies_in nodes e effect ≡ true → (lies_in nodes e meeting ≡ true) ⊎ (lies_in nodes e meeting ≡ false)
      → (meeting ≡ 0) ⊎ ((marked nodes before meeting ≡ true) × (lies_in nodes meeting effect ≡ true))
      → marked nodes before e || (lies_in nodes e effect && not (lies_in nodes e meeting)) ≡ true
  each_by e h (inl y) (inl at_root) = absurd (clash _ y (ap (lies_in nodes e) at_root ∙ lies_root nodes family e))
  each_by e h (inl y) (inr (mark, lies)) =
      let f = m.some_layer meeting mark in
      or_left _ _ (m.each_layer e f.0 f.1 (lies_trans nodes family e meeting _ y f.2))
  each_by e h (inr n) s = or_true (marked nodes before e) (lies_in nodes e effect && not (lies_in nodes e meeting)) (rw (h, n) refl)

  mark_by : (e i : ℕ) → i < at + 1 → lies_in nodes e (slice_index layers i) ≡ true → (i < at) ⊎ (at ≤ i) → marked nodes after e ≡ true
  mark_by e i l h (inl below) = w.now_marked e ∙ or_left _ _ (m.each_layer e i below h)
  mark_by e i l h (inr new) = w.now_marked e ∙ each_by e (here_in e i (omega arith) h) (bool_cases (lies_in nodes e meeting)) w.stop

  -- else the layers so far are nested with it
  pub met_more : (meeting ≡ 0) ⊎ (lies_in nodes meeting last ≡ true) → length nodes ≤ length after → IsMet nodes layers (at + 1) after effect
  met_more s room = record {
    room = room;
    together = λ e i j k p q r h t. together_by s e i j k p q r h t (cases_lt k at) (cases_lt j at);
    some_layer = λ e h. some_by e (sym (w.now_marked e) ∙ h) (bool_cases (marked nodes before e)) (bool_cases (lies_in nodes e effect));
    each_layer = λ e i l h. mark_by e i l h (cases_lt i at);
    newest_layer = λ _. let n : at ≡ at + 1 - 1 = omega arith in here ∙ ap (slice_index layers) n;
  }

unmarked_at : (n p : ℕ) → get_or (replicate n false) p false ≡ false
unmarked_at zero p = refl
unmarked_at (suc n) zero = refl
unmarked_at (suc n) (suc p) = unmarked_at n p

unmarked_by : (n : ℕ) (o : Option ℕ) → mark_at (replicate n false) o ≡ false
unmarked_by n None = refl
unmarked_by n (Some p) = unmarked_at n p

-- before the first layer nothing is marked
unmarked : (nodes : List (ℕ × EffectNode)) (n k : ℕ) → marked nodes (replicate n false) k ≡ false
unfolding marked
unmarked nodes n k = unmarked_by n (place_of k (ids nodes))

pub met_none : (nodes : List (ℕ × EffectNode)) (layers : List ℕ) (n : ℕ) → length nodes ≤ n → IsMet nodes layers 0 (replicate n false) 0
met_none nodes layers n h = record {
  room = omega (arith, length-replicate n false);
  together = λ e i j k p q r. absurd (omega arith);
  some_layer = λ e t. absurd (clash _ t (unmarked nodes n e));
  each_layer = λ e i l. absurd (omega arith);
  newest_layer = λ l. absurd (omega arith);
}

-- all layers
pub met_all : (nodes : List (ℕ × EffectNode)) (layers : List ℕ) (at : ℕ) (marks : List Bool) (last : ℕ) → IsMet nodes layers at marks last → length layers ≤ at
    → AreNested nodes layers
met_all nodes layers at marks last m h = λ e i j k p q r. m.together e i j k p q (omega arith)
