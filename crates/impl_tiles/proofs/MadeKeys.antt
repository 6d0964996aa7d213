-- The keys whose tiles have an image.
use Rattle.std.proofs.Common.{◌≡◌, ℕ, Bool, true, false, cond, List, [], ◌∷◌, map, filter, Option, Some, None, is_some, option_map, refl, sym, ◌∙◌, ap}
use Rattle.std.specs.Option.{option_and_then}
use Rattle.std.specs.FinMap as fin
use Rattle.std.specs.FinMap.{entries-from_sorted}
use Rattle.slab.specs.Slab.{Slab, get}
use Rattle.geom.specs.declared.tile.TileKey.{TileKey}
use Rattle.geom.specs.KeyOrder.{key_cmp}
use Rattle.tile_raster.specs.Images.{Image}
use Rattle.impl_tiles.specs.declared.held.KeyedPlace.{KeyedPlace}
use Rattle.impl_tiles.specs.declared.held.Tile.{Tile}
use Rattle.impl_tiles.specs.inner.Rows.{ready_rows, ready_of}
use Rattle.impl_tiles.specs.inner.TileTables.{shown, rows, is_made, made_keys, Rises}
use Rattle.impl_tiles.proofs.SlabRows.{image_at}
use Rattle.impl_tiles.proofs.Parts.{keys_ready}
use Rattle.impl_tiles.proofs.TableSteps.{held_map, sorted}

mapped : {A B : Type 0} (f : A → B) (o : Option A) → is_some o ≡ is_some (option_map f o)
mapped f None = refl
mapped f (Some a) = refl

-- a tile has its image where it shows one
pub made_is_shown : (t : Option Tile) → is_made t ≡ is_some (option_and_then shown t)
made_is_shown None = refl
made_is_shown (Some t) = mapped (λ a. a.value) t.image

one_row : (k : TileKey) (o : Option Image) (rest : List (TileKey × Option Image)) → map (λ e. e.0) (ready_rows ((k, o) ∷ rest)) ≡ cond (is_some o) (k ∷ map (λ e. e.0) (ready_rows rest)) (map (λ e. e.0) (ready_rows rest))
one_row k (Some x) rest = refl
one_row k None rest = refl

one_more : (h : KeyedPlace) (hs : List KeyedPlace) (b : Bool) → map (λ (h : KeyedPlace). h.key) (cond b (h ∷ hs) hs) ≡ cond b (h.key ∷ map (λ (h : KeyedPlace). h.key) hs) (map (λ (h : KeyedPlace). h.key) hs)
one_more h hs true = refl
one_more h hs false = refl

made_rows : (g : ℕ → Option Tile) (hs : List KeyedPlace) → made_keys g hs ≡ map (λ e. e.0) (ready_rows (rows g hs))
made_rows g [] = refl
made_rows g (h ∷ hs) =
    one_more h (filter (λ h. is_made (g h.place)) hs) (is_made (g h.place))
    ∙ (λ i. cond (made_is_shown (g h.place) i) (h.key ∷ made_rows g hs i) (made_rows g hs i))
    ∙ sym (one_row h.key (image_at g h) (rows g hs))

-- they are the ready keys
pub made_all : (tiles : Slab Tile) (held : List KeyedPlace) → Rises held → made_keys (get tiles) held ≡ fin.keys (ready_of (held_map tiles held))
made_all tiles held r =
    made_rows (get tiles) held
    ∙ ap (λ es. map (λ e. e.0) (ready_rows es)) (sym (entries-from_sorted key_cmp (rows (get tiles) held) (sorted tiles held r)))
    ∙ sym (keys_ready (held_map tiles held))
