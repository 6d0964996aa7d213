-- How a list stands in its slots.
use Rattle.std.specs.Prelude.{◌≡◌, ℕ, ◌+◌, ◌<◌, ◌≤◌, ◌==◌, ◌%◌, zero, suc, nat_lt, Bool, true, false, List, [], ◌∷◌, ◌++◌, length, get_or}
use Rattle.std.specs.List.{sum_by}

-- a list, and for how many elements it has room
pub record Listing (T : Type 0) : Type 0 where
  pub items : List T
  pub room : ℕ

abbrev pub one_if : Bool → ℕ
one_if true = 1
one_if false = 0

-- how often a slot stands among these
abbrev pub uses : ℕ → List ℕ → ℕ
uses i xs = sum_by (λ j. one_if (j == i)) xs

-- the first slots
abbrev pub up_to : ℕ → List ℕ
up_to zero = []
up_to (suc n) = up_to n ++ n ∷ []

-- the place in the word of an element
abbrev pub place_in : ℕ → ℕ
place_in w = w % 4194304

-- each slot stands once in the order or among the free ones, and nothing else does; there is room for the given number
pub record IsListing {T : Type 0} (slots : List T) (order free : List ℕ) (room slots_room order_room free_room : ℕ) : Type 0 where
  pub once : (i : ℕ) → uses i order + uses i free ≡ one_if (nat_lt i (length slots))
  pub all : length order + length free ≡ length slots
  pub few : length slots ≤ room
  pub small : room ≤ 4294967295
  pub fits_slots : room ≤ slots_room
  pub fits_order : room ≤ order_room
  pub fits_free : room ≤ free_room

-- an element is put into a slot that was free or new: the slots that were taken have what they had
pub record IsStored {T : Type 0} (x : T) (slots : List T) (free : List ℕ) (slots' : List T) (free' : List ℕ) (s : ℕ) : Type 0 where
  pub there : (d : T) → get_or slots' s d ≡ x
  pub kept : (i : ℕ) (d : T) → uses i free ≡ 0 → i < length slots → get_or slots' i d ≡ get_or slots i d
  pub taken : (i : ℕ) → (uses i free' + one_if (s == i)) + one_if (nat_lt i (length slots)) ≡ uses i free + one_if (nat_lt i (length slots'))
  pub lengths : (length free' + 1) + length slots ≡ length free + length slots'
  pub fewer : length free' ≤ length free
  pub full : (m : ℕ) → length slots ≤ m → length slots < m + length free → length slots' ≤ m
