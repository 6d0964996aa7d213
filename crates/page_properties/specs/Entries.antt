-- What contracts see of a family of nodes: its nodes under their ids, the newest first.
use Rattle.std.specs.Prelude.{ℕ, ◌==◌, nat_lt, Bool, false, cond, ◌||◌, ◌≡◌, List, [], ◌∷◌, map, Option, Some, None, is_some}

-- the ids alone
abbrev pub ids : {N : Type 0} → List (ℕ × N) → List ℕ
ids nodes = map (λ e. e.0) nodes

-- an id put before the first one that is not smaller, and ids by rising id
abbrev pub put_id : ℕ → List ℕ → List ℕ
put_id id [] = id ∷ []
put_id id (x ∷ xs) = cond (nat_lt x id) (x ∷ put_id id xs) (id ∷ x ∷ xs)

abbrev pub rising : List ℕ → List ℕ
rising [] = []
rising (id ∷ older) = put_id id (rising older)

-- the node of an id in a family, if it has one; whether it has one; the same of 0 too, the root, which is in no list
abbrev pub find : {N : Type 0} → ℕ → List (ℕ × N) → Option N
find id [] = None
find id (e ∷ older) = cond (e.0 == id) (Some e.1) (find id older)

abbrev pub knows : {N : Type 0} → ℕ → List (ℕ × N) → Bool
knows id nodes = is_some (find id nodes)

abbrev pub is_known : {N : Type 0} → ℕ → List (ℕ × N) → Bool
is_known id nodes = (id == 0) || knows id nodes

-- the node of one id changed, all others as they were
abbrev pub with_node_changed : {N : Type 0} → ℕ → (N → N) → List (ℕ × N) → List (ℕ × N)
with_node_changed id f [] = []
with_node_changed id f (e ∷ older) = cond (e.0 == id) ((e.0, f e.1) ∷ older) (e ∷ with_node_changed id f older)

-- no id stands twice
abbrev pub AreDistinctIds : {N : Type 0} → List (ℕ × N) → Type 0
AreDistinctIds [] = Unit {0}
AreDistinctIds (e ∷ older) = (knows e.0 older ≡ false) × AreDistinctIds older

-- what is gathered along the chain of a node, from the root down: `root` above all nodes, and `step` at each node of the chain
abbrev pub gathered : {N A : Type 0} → (N → ℕ) → A → (ℕ × N → A → A) → List (ℕ × N) → ℕ → A
gathered parent root step [] id = root
gathered parent root step (e ∷ older) id =
    cond (e.0 == id) (step e (gathered parent root step older (parent e.1))) (gathered parent root step older id)
