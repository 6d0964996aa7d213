-- What holds of every page, whatever commands made it.
use Rattle.std.specs.Prelude.{ℕ, ◌≡◌, ◌≤◌, Bool, true, false, ◌==◌, List, [], ◌∷◌, length, map, Ok}
use Rattle.std.specs.List.{list_any, AllByRecursion}
use Rattle.geom.specs.Limits.{max_layers}
use Rattle.page_properties.specs.Trees.{Trees as Props}
use Rattle.page_properties.specs.Entries.{is_known}
use Rattle.page_layers.specs.Tests.{is_id, is_size}
use Rattle.page_layers.specs.Layers.{PageLayer}
use Rattle.page_layers.specs.Pages.{Page, IsView}
use Rattle.page_layers.specs.Scrolls.{AreInRange}
use Rattle.page_layers.specs.Refusals.{has_layer}
use Rattle.page_properties.specs.Nesting.{AreNested}

-- whether a layer ever had this id
abbrev pub is_used : ℕ → List ℕ → Bool
is_used id used = list_any (λ u. u == id) used

-- a layer of a page: each node that it names is there or 0, its id from 1 to 65535 is a used one, and its sides are 1 to 16384
pub record IsLayer (props : Props) (used : List ℕ) (l : PageLayer) : Type 0 where
  pub transform : is_known l.transform props.transforms ≡ true
  pub clip : is_known l.clip props.clips ≡ true
  pub effect : is_known l.effect props.effects ≡ true
  pub id_used : is_used l.id used ≡ true
  pub id : is_id l.id ≡ Ok tt
  pub size : is_size l.w l.h ≡ Ok tt

-- no two layers have one id
abbrev pub AreDistinctLayers : List PageLayer → Type 0
AreDistinctLayers [] = Unit {0}
AreDistinctLayers (l ∷ ls) = (has_layer l.id ls ≡ false) × AreDistinctLayers ls

-- a page: at most 64 layers with ids of their own, whose named nodes are there; the layers of each effect, with those of the effects below it, stand together; the main scroll values are in their ranges
pub record IsPage (p : Page) : Type 0 where
  pub view : IsView p.view
  pub few : length p.layers ≤ max_layers
  pub layers : AllByRecursion (IsLayer p.props p.used) p.layers
  pub distinct : AreDistinctLayers p.layers
  pub nested : AreNested p.props.effects (map (λ l. l.effect) p.layers)
  pub values : AreInRange p.props.scrollers p.values
