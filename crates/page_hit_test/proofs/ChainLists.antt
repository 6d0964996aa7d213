-- The scrollers of a chain are the tree's, and none stands there twice.
use Rattle.std.proofs.Common.{◌≡◌, ℕ, ◌==◌, Bool, true, false, cond, ◌||◌, List, [], ◌∷◌, Some, is_some, refl, ap}
use Rattle.page_properties.specs.declared.nodes.ScrollNode.{ScrollNode}
use Rattle.page_properties.specs.Entries.{find, knows}
use Rattle.page_properties.specs.Trees.{AreScrollers, IsTrees}
use Rattle.page_layers.specs.Layers.{PageLayer}
use Rattle.page_layers.specs.Pages.{Page}
use Rattle.page_layers.specs.Hits.{nearest_scroller, scrollers_from, chain}
use Rattle.page_hit_test.specs.Laws.{stands_in, AreDistinctNumbers, AreScrollersOf}

known_more : (e : ℕ × ScrollNode) (older : List (ℕ × ScrollNode)) (n : ℕ) → knows n older ≡ true → knows n (e ∷ older) ≡ true
known_more e older n h = by_test (e.0 == n)
  where
    by_test : (b : Bool) → is_some (cond b (Some e.1) (find n older)) ≡ true
    by_test true = refl
    by_test false = h

known_itself : (e : ℕ × ScrollNode) (older : List (ℕ × ScrollNode)) (n : ℕ) → (e.0 == n) ≡ true → knows n (e ∷ older) ≡ true
known_itself e older n h = ap (λ (b : Bool). is_some (cond b (Some e.1) (find n older))) h

pub all_known : (nodes : List (ℕ × ScrollNode)) (id n : ℕ) → stands_in (scrollers_from nodes id) n ≡ true → knows n nodes ≡ true
all_known [] id n h = absurd cc
all_known (e ∷ older) id n h = by_test (e.0 == id) h (all_known older e.1.parent n) (all_known older id n)
  where
    in_head : (a : Bool) → (e.0 == n) ≡ a → a || stands_in (scrollers_from older e.1.parent) n ≡ true → (stands_in (scrollers_from older e.1.parent) n ≡ true → knows n older ≡ true) → knows n (e ∷ older) ≡ true
    in_head true t h f = known_itself e older n t
    in_head false t h f = known_more e older n (f h)

    by_test : (b : Bool) → stands_in (cond b (e.0 ∷ scrollers_from older e.1.parent) (scrollers_from older id)) n ≡ true
        → (stands_in (scrollers_from older e.1.parent) n ≡ true → knows n older ≡ true) → (stands_in (scrollers_from older id) n ≡ true → knows n older ≡ true) → knows n (e ∷ older) ≡ true
    by_test true h f g = in_head (e.0 == n) refl h f
    by_test false h f g = known_more e older n (g h)

not_known : (nodes : List (ℕ × ScrollNode)) (id n : ℕ) → knows n nodes ≡ false → stands_in (scrollers_from nodes id) n ≡ false
not_known nodes id n h = by_test (stands_in (scrollers_from nodes id) n) refl
  where
    by_test : (b : Bool) → stands_in (scrollers_from nodes id) n ≡ b → b ≡ false
    by_test true e = let k : knows n nodes ≡ true = all_known nodes id n e in absurd cc
    by_test false e = refl

pub all_distinct : (nodes : List (ℕ × ScrollNode)) → AreScrollers nodes → (id : ℕ) → AreDistinctNumbers (scrollers_from nodes id)
all_distinct [] s id = tt
all_distinct (e ∷ older) s id = by_test (e.0 == id) (all_distinct older s.1 e.1.parent) (all_distinct older s.1 id)
  where
    by_test : (b : Bool) → AreDistinctNumbers (scrollers_from older e.1.parent) → AreDistinctNumbers (scrollers_from older id) → AreDistinctNumbers (cond b (e.0 ∷ scrollers_from older e.1.parent) (scrollers_from older id))
    by_test true f g = (not_known older e.1.parent e.0 s.0.fresh, f)
    by_test false f g = g

pub chain_distinct : (p : Page) (l : PageLayer) → IsTrees p.props → AreDistinctNumbers (chain p l)
unfolding chain
chain_distinct p l t = all_distinct p.props.scrollers t.scrollers (nearest_scroller p.props.transforms l.transform)

pub chain_known : (p : Page) (l : PageLayer) → AreScrollersOf p (chain p l)
unfolding chain
chain_known p l n h = all_known p.props.scrollers (nearest_scroller p.props.transforms l.transform) n h
