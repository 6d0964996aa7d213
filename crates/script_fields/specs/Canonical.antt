-- Canonical values: the names of each object rise, and only a number below 0 has a sign.
use Rattle.std.specs.Prelude.{◌≡◌, pos, List, ℕ, ⊤}
use Rattle.std.specs.Ordering.{nat_cmp}
use Rattle.std.specs.declared.cmp.Ordering.TheVariants.{Less}
use Rattle.std.specs.Cmp.Lexicographic.{slice_cmp}
use Rattle.serde_json.specs.Data.{Num, negative, Data, number, array, object, Items, no_items, item, Members, no_members, member}

-- a name before those of all these members, byte by byte
abbrev pub IsBefore : List ℕ → Members → Type 0
IsBefore name no_members = ⊤
IsBefore name (member other d ms) = (slice_cmp nat_cmp name other ≡ Less) × IsBefore name ms

-- a number with a sign is below 0
abbrev pub IsSigned : Num → Type 0
IsSigned (negative (pos n)) = ⊥
IsSigned _ = ⊤

-- a value whose objects and numbers are told in one way
abbrev mutual
  pub IsCanonical : Data → Type 0
  IsCanonical (number n) = IsSigned n
  IsCanonical (array ds) = AreCanonical ds
  IsCanonical (object ms) = AreInOrder ms
  IsCanonical _ = ⊤

  -- values
  pub AreCanonical : Items → Type 0
  AreCanonical no_items = ⊤
  AreCanonical (item d ds) = IsCanonical d × AreCanonical ds

  -- members, the names in rising order
  pub AreInOrder : Members → Type 0
  AreInOrder no_members = ⊤
  AreInOrder (member name d ms) = IsBefore name ms × IsCanonical d × AreInOrder ms
