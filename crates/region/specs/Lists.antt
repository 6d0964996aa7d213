-- Lists of changes: one for a layer at most, by rising number.
use Rattle.std.specs.Prelude.{◌≡◌, ◌<◌, ℕ, nat_eq, ℤ, Bool, false, ◌&&◌, ◌||◌, not, if◌then◌else◌, Option, Some, None, List, [], ◌∷◌, filter}
use Rattle.region.specs.declared.change.LayerChange.{LayerChange}
use Rattle.region.specs.Points.{covered}

-- what contracts see of the changes: the list, and whether the tile size of the tree changed
pub record Changed : Type 0 where
  pub list : List LayerChange
  pub retiled : Bool

-- each layer of the list is above this one
abbrev pub AreChangesAbove : ℕ → List LayerChange → Type 0
AreChangesAbove n [] = Unit {0}
AreChangesAbove n (c ∷ cs) = (n < c.layer) × AreChangesAbove n cs

-- each layer of the list is below this one
abbrev pub AllBelow : ℕ → List LayerChange → Type 0
AllBelow n [] = Unit {0}
AllBelow n (c ∷ cs) = (c.layer < n) × AllBelow n cs

-- the list is empty or its first layer is above this one
abbrev pub StartsAbove : ℕ → List LayerChange → Type 0
StartsAbove n [] = Unit {0}
StartsAbove n (c ∷ cs) = n < c.layer

-- the numbers of the layers rise
abbrev pub IsRising : List LayerChange → Type 0
IsRising [] = Unit {0}
IsRising (c ∷ cs) = AreChangesAbove c.layer cs × IsRising cs

-- this layer is above the last one of the list, if there is one
abbrev pub IsAboveLast : List LayerChange → ℕ → Type 0
IsAboveLast [] n = Unit {0}
IsAboveLast (c ∷ []) n = c.layer < n
IsAboveLast (c ∷ d ∷ ds) n = IsAboveLast (d ∷ ds) n

-- the change of a layer, if it is listed
abbrev pub change_of : List LayerChange → ℕ → Option LayerChange
change_of [] n = None
change_of (c ∷ cs) n = if nat_eq c.layer n then Some c else change_of cs n

-- the layer is listed
abbrev pub is_listed : List LayerChange → ℕ → Bool
is_listed [] n = false
is_listed (c ∷ cs) n = nat_eq c.layer n || is_listed cs n

-- the layer is listed as changed whole
abbrev pub is_listed_whole : List LayerChange → ℕ → Bool
is_listed_whole [] n = false
is_listed_whole (c ∷ cs) n = (nat_eq c.layer n && c.whole) || is_listed_whole cs n

-- the point is in the region that is listed for the layer
abbrev pub has_changed : List LayerChange → ℕ → ℤ → ℤ → Bool
has_changed [] n x y = false
has_changed (c ∷ cs) n x y = (nat_eq c.layer n && covered c.region x y) || has_changed cs n x y

-- one layer's change before and its change later made into one
pub record IsJoined (before later after : LayerChange) : Type 0 where
  pub layer : after.layer ≡ before.layer
  pub whole : after.whole ≡ (before.whole || later.whole)
  pub points : (x y : ℤ) → covered after.region x y ≡ (covered before.region x y || covered later.region x y)

-- what is changed after is what was changed before or later: the same layers are listed, whole, and changed at a point
pub record AreJoined (before later after : List LayerChange) : Type 0 where
  pub listed : (n : ℕ) → is_listed after n ≡ (is_listed before n || is_listed later n)
  pub whole : (n : ℕ) → is_listed_whole after n ≡ (is_listed_whole before n || is_listed_whole later n)
  pub points : (n : ℕ) (x y : ℤ) → has_changed after n x y ≡ (has_changed before n x y || has_changed later n x y)

-- the list without a layer
abbrev pub without_layer : ℕ → List LayerChange → List LayerChange
without_layer n = filter (λ c. not (nat_eq c.layer n))
