-- Nested layers stay nested.
use Rattle.std.proofs.Common.{ℕ, zero, suc, ◌≡◌, ◌<◌, ◌≤◌, ◌==◌, ◌||◌, Bool, true, false, cond, List, [], ◌∷◌, length, map, refl, ap, sym, ◌∙◌, arith, eqb-true}
use Rattle.std.specs.Prelude.{slice_index}
use Rattle.std.specs.List.{AllByRecursion}
use Rattle.std.proofs.lemmas.List.Elements.{All-from_recursion}
use Rattle.std.proofs.lemmas.Bool.Decides.{nat_tests}
use Rattle.page_properties.specs.declared.nodes.EffectNode.{EffectNode}
use Rattle.page_properties.specs.Entries.{knows, is_known, with_node_changed, gathered}
use Rattle.page_properties.specs.Nesting.{lies_in, AreNested}
use Rattle.page_layers.specs.Layers.{PageLayer}
use Rattle.page_layers.specs.Lists.{without_first}

-- ---- without one of the layers

-- some of a list's elements in their order
record Within (some all : List ℕ) : Type 0 where
  pub place : ℕ → ℕ
  pub bound : (k : ℕ) → k < length some → place k < length all
  pub same : (k : ℕ) → k < length some → slice_index some k ≡ slice_index all (place k)
  pub order : (i j : ℕ) → i ≤ j → place i ≤ place j

-- places after one more element
abbrev up : (ℕ → ℕ) → ℕ → ℕ
up g zero = zero
up g (suc k) = suc (g k)

up-order : (g : ℕ → ℕ) → ((i j : ℕ) → i ≤ j → g i ≤ g j) → (i j : ℕ) → i ≤ j → up g i ≤ up g j
up-order g order zero j le = omega arith
up-order g order (suc i) zero le = absurd (omega arith)
up-order g order (suc i) (suc j) le = let rest : g i ≤ g j = order i j (omega arith) in omega (arith, rest)

within-next : (x : ℕ) (some all : List ℕ) → Within some all → Within (x ∷ some) (x ∷ all)
within-next x some all w = record { place = up w.place; bound = bound; same = same; order = up-order w.place w.order }
  where
    bound : (k : ℕ) → k < suc (length some) → up w.place k < suc (length all)
    bound zero lt = omega arith
    bound (suc k) lt = let rest : w.place k < length all = w.bound k (omega arith) in omega (arith, rest)

    same : (k : ℕ) → k < suc (length some) → slice_index (x ∷ some) k ≡ slice_index (x ∷ all) (up w.place k)
    same zero lt = refl
    same (suc k) lt = w.same k (omega arith)

without-within : (p : PageLayer → Bool) (ls : List PageLayer) → Within (map (λ l. l.effect) (without_first p ls)) (map (λ l. l.effect) ls)
without-within p [] = record { place = λ k. k; bound = λ k lt. lt; same = λ k lt. refl; order = λ i j le. le }
without-within p (l ∷ ls) = go (p l) (without-within p ls)
  where
    go : (b : Bool) → Within (map (λ l. l.effect) (without_first p ls)) (map (λ l. l.effect) ls) → Within (map (λ l. l.effect) (cond b ls (l ∷ without_first p ls))) (map (λ l. l.effect) (l ∷ ls))
    go true w = record { place = suc; bound = λ k lt. omega (arith, lt); same = λ k lt. refl; order = λ i j le. omega (arith, le) }
    go false w = within-next l.effect (map (λ l. l.effect) (without_first p ls)) (map (λ l. l.effect) ls) w

nested-within : (nodes : List (ℕ × EffectNode)) (some all : List ℕ) → Within some all → AreNested nodes all → AreNested nodes some
nested-within nodes some all w h = λ e i j k ij jk kl first last.
    let il : i < length some = omega (arith, ij, jk, kl) in
    let jl : j < length some = omega (arith, jk, kl) in
    ap (λ (x : ℕ). lies_in nodes e x) (w.same j jl)
    ∙ h e (w.place i) (w.place j) (w.place k) (w.order i j ij) (w.order j k jk) (w.bound k kl)
    (ap (λ (x : ℕ). lies_in nodes e x) (sym (w.same i il)) ∙ first)
    (ap (λ (x : ℕ). lies_in nodes e x) (sym (w.same k kl)) ∙ last)

pub nested-without : (nodes : List (ℕ × EffectNode)) (p : PageLayer → Bool) (ls : List PageLayer) → AreNested nodes (map (λ l. l.effect) ls) → AreNested nodes (map (λ l. l.effect) (without_first p ls))
nested-without nodes p ls h = nested-within nodes (map (λ l. l.effect) (without_first p ls)) (map (λ l. l.effect) ls) (without-within p ls) h

-- ---- with other nodes

-- effects that lie in the same effects are nested alike
nested-alike : (nodes others : List (ℕ × EffectNode)) (es : List ℕ) → ((e k : ℕ) → k < length es → lies_in others e (slice_index es k) ≡ lies_in nodes e (slice_index es k)) → AreNested nodes es → AreNested others es
nested-alike nodes others es alike h = λ e i j k ij jk kl first last.
    let il : i < length es = omega (arith, ij, jk, kl) in
    let jl : j < length es = omega (arith, jk, kl) in
    alike e j jl ∙ h e i j k ij jk kl (sym (alike e i il) ∙ first) (sym (alike e k kl) ∙ last)

-- an effect that is there is no new one
not_new : (id x : ℕ) (nodes : List (ℕ × EffectNode)) → 1 ≤ id → knows id nodes ≡ false → is_known x nodes ≡ true → (id == x) ≡ false
not_new id x nodes low new known = go (id == x) refl
  where
    zero_test : (id == 0) ≡ false
    zero_test = grind (arith, nat_tests, low)

    go : (b : Bool) → (id == x) ≡ b → b ≡ false
    go false e = refl
    go true e =
        let same : id ≡ x = eqb-true id x e in
        let there : is_known id nodes ≡ true = ap (λ (n : ℕ). is_known n nodes) same ∙ known in
        let gone : is_known id nodes ≡ false = ap (λ (b : Bool). b || knows id nodes) zero_test ∙ new in
        absurd (cc)

lies-more : (id : ℕ) (n : EffectNode) (nodes : List (ℕ × EffectNode)) (e x : ℕ) → (id == x) ≡ false → lies_in ((id, n) ∷ nodes) e x ≡ lies_in nodes e x
unfolding lies_in
lies-more id n nodes e x other = ap (λ (b : Bool). cond b ((id == e) || gathered (λ (m : EffectNode). m.parent) false (λ m t. (m.0 == e) || t) nodes n.parent) (gathered (λ (m : EffectNode). m.parent) false (λ m t. (m.0 == e) || t) nodes x)) other

-- where a new effect is added, in which no layer lies
pub nested-more : (id : ℕ) (n : EffectNode) (nodes : List (ℕ × EffectNode)) (es : List ℕ) → 1 ≤ id → knows id nodes ≡ false → AllByRecursion (λ e. is_known e nodes ≡ true) es → AreNested nodes es → AreNested ((id, n) ∷ nodes) es
nested-more id n nodes es low new known h =
    nested-alike nodes ((id, n) ∷ nodes) es (λ e k kl. lies-more id n nodes e (slice_index es k) (not_new id (slice_index es k) nodes low new (All-from_recursion (λ (x : ℕ). is_known x nodes ≡ true) es known k 0 kl))) h

lies-changed : (id opacity : ℕ) (nodes : List (ℕ × EffectNode)) (e x : ℕ) → gathered (λ (m : EffectNode). m.parent) false (λ m t. (m.0 == e) || t) (with_node_changed id (λ n. record n { opacity = opacity }) nodes) x ≡ gathered (λ (m : EffectNode). m.parent) false (λ m t. (m.0 == e) || t) nodes x
lies-changed id opacity [] e x = refl
lies-changed id opacity (m ∷ older) e x = go (m.0 == id) (lies-changed id opacity older e m.1.parent) (lies-changed id opacity older e x)
  where
    go : (b : Bool)
        → gathered (λ (m : EffectNode). m.parent) false (λ m t. (m.0 == e) || t) (with_node_changed id (λ n. record n { opacity = opacity }) older) m.1.parent ≡ gathered (λ (m : EffectNode). m.parent) false (λ m t. (m.0 == e) || t) older m.1.parent
        → gathered (λ (m : EffectNode). m.parent) false (λ m t. (m.0 == e) || t) (with_node_changed id (λ n. record n { opacity = opacity }) older) x ≡ gathered (λ (m : EffectNode). m.parent) false (λ m t. (m.0 == e) || t) older x
        → gathered (λ (m : EffectNode). m.parent) false (λ m t. (m.0 == e) || t) (cond b ((m.0, record m.1 { opacity = opacity }) ∷ older) (m ∷ with_node_changed id (λ n. record n { opacity = opacity }) older)) x ≡ gathered (λ (m : EffectNode). m.parent) false (λ m t. (m.0 == e) || t) (m ∷ older) x
    go true above here = refl
    go false above here = ap (λ (t : Bool). cond (m.0 == x) ((m.0 == e) || t) (gathered (λ (m : EffectNode). m.parent) false (λ m t. (m.0 == e) || t) (with_node_changed id (λ n. record n { opacity = opacity }) older) x)) above ∙ ap (λ (t : Bool). cond (m.0 == x) ((m.0 == e) || gathered (λ (m : EffectNode). m.parent) false (λ m t. (m.0 == e) || t) older m.1.parent) t) here

-- where the opacity of an effect is another
pub nested-changed : (id opacity : ℕ) (nodes : List (ℕ × EffectNode)) (es : List ℕ) → AreNested nodes es → AreNested (with_node_changed id (λ n. record n { opacity = opacity }) nodes) es
unfolding lies_in
nested-changed id opacity nodes es h = nested-alike nodes (with_node_changed id (λ n. record n { opacity = opacity }) nodes) es (λ e k kl. lies-changed id opacity nodes e (slice_index es k)) h
