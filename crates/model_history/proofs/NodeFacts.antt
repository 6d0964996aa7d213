-- Nodes under ids: the node of an id in a changed list.
use Rattle.std.proofs.Common.{◌≡◌, ℕ, Bool, true, false, cond, ◌==◌, List, [], ◌∷◌, Option, Some, None, is_some, option_map, refl, sym, ◌∙◌, ap}
use Rattle.page_properties.specs.Entries.{find, knows, with_node_changed}
use Rattle.model_history.proofs.BoolFacts.{by_test, not_both, same_number, is_same, is_other}

-- the changed node
pub find_changed : {N : Type 0} (id : ℕ) (f : N → N) (nodes : List (ℕ × N)) → find id (with_node_changed id f nodes) ≡ option_map f (find id nodes)
find_changed id f [] = refl
find_changed id f (e ∷ older) = at_head (e.0 == id) refl (find_changed id f older)
  where
    at_head : (b : Bool) → (e.0 == id) ≡ b → find id (with_node_changed id f older) ≡ option_map f (find id older)
        → find id (cond b ((e.0, f e.1) ∷ older) (e ∷ with_node_changed id f older)) ≡ option_map f (cond b (Some e.1) (find id older))
    at_head true h r = ap (λ b. cond b (Some (f e.1)) (find id older)) h
    at_head false h r = ap (λ b. cond b (Some e.1) (find id (with_node_changed id f older))) h ∙ r

-- any other node
pub find_other : {N : Type 0} (id k : ℕ) (f : N → N) (nodes : List (ℕ × N)) → (id ≡ k → ⊥) → find k (with_node_changed id f nodes) ≡ find k nodes
find_other id k f [] n = refl
find_other id k f (e ∷ older) n = at_head (e.0 == id) refl (find_other id k f older n)
  where
    at_head : (b : Bool) → (e.0 == id) ≡ b → find k (with_node_changed id f older) ≡ find k older
        → find k (cond b ((e.0, f e.1) ∷ older) (e ∷ with_node_changed id f older)) ≡ cond (e.0 == k) (Some e.1) (find k older)
    at_head true h r =
        let other : (e.0 == k) ≡ false = is_other e.0 k (λ i. n (sym (same_number e.0 id h) ∙ i)) in
        ap (λ b. cond b (Some (f e.1)) (find k older)) other ∙ sym (ap (λ b. cond b (Some e.1) (find k older)) other)
    at_head false h r = ap (cond (e.0 == k) (Some e.1)) r

some_map : {N : Type 0} (f : N → N) (o : Option N) → is_some (option_map f o) ≡ is_some o
some_map f None = refl
some_map f (Some x) = refl

-- the ids stay
pub knows_changed : {N : Type 0} (id k : ℕ) (f : N → N) (nodes : List (ℕ × N)) → knows k (with_node_changed id f nodes) ≡ knows k nodes
knows_changed id k f nodes = by_test (id == k) (λ h. same (same_number id k h)) (λ h. ap is_some (find_other id k f nodes (λ i. not_both (id == k) (is_same id k i) h)))
  where
    same : id ≡ k → knows k (with_node_changed id f nodes) ≡ knows k nodes
    same i = ap (λ z. knows k (with_node_changed z f nodes)) i ∙ (ap is_some (find_changed k f nodes) ∙ some_map f (find k nodes))
