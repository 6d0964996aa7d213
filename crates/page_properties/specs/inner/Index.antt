-- The index of a family: for each id the place of its node, by rising id.
use Rattle.std.specs.Prelude.{◌≡◌, ℕ, ◌==◌, nat_lt, ◌<◌, cond, List, [], ◌∷◌, length, Option, Some, None}
use Rattle.std.specs.List.{prefix_len}
use Rattle.page_properties.specs.Entries.{find, ids}
use Rattle.page_properties.specs.declared.index.IndexEntry.{IndexEntry}

-- an entry put before the first one that has no smaller id
abbrev pub put : IndexEntry → List IndexEntry → List IndexEntry
put s [] = s ∷ []
put s (x ∷ xs) = cond (nat_lt x.id s.id) (x ∷ put s xs) (s ∷ x ∷ xs)

-- the index of ids, the newest first: places count from the oldest
abbrev pub index_of : List ℕ → List IndexEntry
index_of [] = []
index_of (id ∷ older) = put (record { id = id; place = length older }) (index_of older)

-- the place of an id
abbrev pub place_of : ℕ → List ℕ → Option ℕ
place_of id [] = None
place_of id (x ∷ older) = cond (x == id) (Some (length older)) (place_of id older)

-- the place that the index names
abbrev pub listed_place : ℕ → List IndexEntry → Option ℕ
listed_place id [] = None
listed_place id (s ∷ ss) = cond (s.id == id) (Some s.place) (listed_place id ss)

-- each id is smaller than those after it
abbrev pub AreAbove : ℕ → List IndexEntry → Type 0
AreAbove id [] = Unit {0}
AreAbove id (s ∷ ss) = (id < s.id) × AreAbove id ss

abbrev pub AreRising : List IndexEntry → Type 0
AreRising [] = Unit {0}
AreRising (s ∷ ss) = AreAbove s.id ss × AreRising ss

-- how many of the first entries have a smaller id
unfoldable pub front : ℕ → List IndexEntry → ℕ
front id entries = prefix_len (λ s. nat_lt s.id id) entries

-- what is kept of the index of ids, the newest first
pub record IsIndex (ids : List ℕ) (entries : List IndexEntry) : Type 0 where
  pub all : entries ≡ index_of ids
  pub rising : AreRising entries

-- the node of an id, with its place
pub record IsEntryOf {N : Type 0} (id : ℕ) (nodes : List (ℕ × N)) (p : ℕ) (n : N) : Type 0 where
  pub place : place_of id (ids nodes) ≡ Some p
  pub inside : p < length nodes
  pub node : find id nodes ≡ Some n
