-- When two lists of changes say the same. Which rects a region is kept as is left out.
use Rattle.std.specs.Prelude.{◌≡◌, ℕ, ℤ}
use Rattle.region.specs.Lists.{Changed, is_listed, is_listed_whole, has_changed}

-- the same layers are listed, the same of them as whole, the region of each covers the same points, and both or none retiled
pub record SameChanges (c d : Changed) : Type 0 where
  pub listed : (layer : ℕ) → is_listed c.list layer ≡ is_listed d.list layer
  pub whole : (layer : ℕ) → is_listed_whole c.list layer ≡ is_listed_whole d.list layer
  pub points : (layer : ℕ) (x y : ℤ) → has_changed c.list layer x y ≡ has_changed d.list layer x y
  pub retiled : c.retiled ≡ d.retiled
