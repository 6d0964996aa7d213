-- Families whose nodes were added one after another: each parent was there before its child.
use Rattle.std.specs.Prelude.{ℕ, ◌<◌, ◌≤◌, false, ◌≡◌, List, [], ◌∷◌, length, IsTrue}
use Rattle.geom.specs.Limits.{max_id, max_nodes}
use Rattle.page_properties.specs.Entries.{is_known, knows}

-- a family of at most 256 nodes, each with a parent and a range for its values
module _ {N : Type 0} (parent : N → ℕ) (fits : N → Type 0) where
  -- a node may join a family under this id: the id is new and from 1 to 65535, the family has fewer than 256 nodes, the parent is there or 0, and the values are in range
  pub record MayJoin (id : ℕ) (n : N) (nodes : List (ℕ × N)) : Type 0 where
    pub fresh : knows id nodes ≡ false
    pub id_low : 1 ≤ id
    pub id_high : id ≤ max_id
    pub few : length nodes < max_nodes
    pub parent_known : IsTrue (is_known (parent n) nodes)
    pub in_range : fits n

  -- each node might have joined those before it: so a parent was there before its child, and each chain ends at the root
  abbrev pub IsFamily : List (ℕ × N) → Type 0
  IsFamily [] = Unit {0}
  IsFamily (e ∷ older) = MayJoin e.0 e.1 older × IsFamily older
