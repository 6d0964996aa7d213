-- Where a layer stands in a list.
use Rattle.std.specs.Prelude.{ℕ, ◌≡◌, ◌<◌, ◌==◌, List, length, map, Option, None, MatchOption}
use Rattle.std.specs.List.{find, position_or_len}
use Rattle.page_layers.specs.declared.layer.Layer.{Layer}
use Rattle.page_layers.specs.Layers.{parts_of, has_id}

-- the first layer with this id stands at this place
pub record StandsAt (id : ℕ) (layers : List Layer) (place : ℕ) : Type 0 where
  pub within : place < length layers
  pub first : place ≡ position_or_len (λ (l : Layer). l.id == id) layers

-- the same, or no layer has this id and there is no place
abbrev pub IsPlaceOf : ℕ → List Layer → Option ℕ → Type 0
IsPlaceOf id layers place = MatchOption place (find (has_id id) (map parts_of layers) ≡ None) (StandsAt id layers)
