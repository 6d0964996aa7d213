-- A key with a rank names a tile near the viewport.
use Rattle.std.proofs.Common.{◌≡◌, Bool, true, false, cond, option_map, Option, Some, None, find, refl, sym, ◌∙◌, ap}
use Rattle.geom.specs.declared.tile.TileKey.{TileKey}
use Rattle.geom.specs.Common.{meets}
use Rattle.geom.specs.Grids.{has, places}
use Rattle.tile_priority.specs.declared.rank.Bin.{Bin}
use Rattle.tile_priority.specs.declared.rank.Rank.{Rank}
use Rattle.tile_priority.specs.declared.rank.Side.{Side}
use Rattle.tile_priority.specs.Bins.{bin_of}
use Rattle.page_layers.specs.Layers.{PageLayer, has_id}
use Rattle.page_layers.specs.Sound.{IsPage, IsLayer}
use Rattle.page_layers.proofs.LayerKeeps.{each-found}
use Rattle.page_layers.proofs.Placing.{size_facts}
use Rattle.tile_visible.specs.Visible.{grid_of, seen, screen_rect}
use Rattle.model_history.specs.Scripts.{ScriptModel}
use Rattle.model_history.specs.Accepted.{IsPlayable}
use Rattle.model_history.specs.Tiles.{Tree}
use Rattle.model_history.specs.Ranking.{place_named, borders, rank_on, rank_in}
use Rattle.model_history.proofs.BoolFacts.{and_left}
use Rattle.model_history.proofs.FindKeys.{has_place, key_in, key_on, key_of_page}
use Rattle.impl_ranks.specs.Areas.{area_near}
use Rattle.impl_ranks.proofs.NoBin.{bin_near}
use Rattle.impl_ranks.proofs.GridPlaces.{place_had}
use Rattle.impl_ranks.proofs.SeenLayers.{has_in}
use Rattle.impl_ranks.proofs.SeenRanks.{ranked_as}
use Rattle.impl_ranks.proofs.BothTrees.{near_seen}

pub near_ranked : (s : ScriptModel) (a : Side) (t : Tree) (q : TileKey) (r : Rank) → IsPlayable s → IsPage t.page → rank_in s a t q ≡ Some r
    → (l : PageLayer) × (find (has_id q.layer) t.page.layers ≡ Some l) × (meets (screen_rect t.page t.offset l (place_named q)) (area_near (borders s t.page)) ≡ true)
unfolding rank_in
near_ranked s a t q r acc page e = by_layer (find (has_id q.layer) t.page.layers) refl (ap (λ (b : Bool). cond b (rank_on s a t q (find (has_id q.layer) t.page.layers)) None) (sym (key_of_page t.page t.stamp q page.distinct)) ∙ e)
  where
    by_bin : (l : PageLayer) (o : Option Bin) → find (has_id q.layer) t.page.layers ≡ Some l → has (grid_of t.page l) (place_named q) ≡ true → bin_of (borders s t.page) (seen t.page t.offset l (place_named q)) ≡ o
        → option_map (ranked_as (borders s t.page) a (seen t.page t.offset l (place_named q)) q) o ≡ Some r
        → meets (screen_rect t.page t.offset l (place_named q)) (area_near (borders s t.page)) ≡ true
    by_bin l None f h g e = cc
    by_bin l (Some x) f h g e =
        let k = each-found (IsLayer t.page.props t.page.used) (has_id q.layer) t.page.layers l f page.layers in
        let w = size_facts l.w l.h k.size in
        bin_near (borders s t.page) (seen t.page t.offset l (place_named q)) x (near_seen s t l acc page.view w.0 w.1 (place_named q) h) g

    by_key : (l : PageLayer) (b : Bool) → find (has_id q.layer) t.page.layers ≡ Some l → key_in t.page t.stamp q l ≡ b → cond b (rank_on s a t q (Some l)) None ≡ Some r
        → meets (screen_rect t.page t.offset l (place_named q)) (area_near (borders s t.page)) ≡ true
    by_key l true f h e =
        by_bin l (bin_of (borders s t.page) (seen t.page t.offset l (place_named q))) f
        (place_had (grid_of t.page l) (place_named q) (has_in (places (grid_of t.page l)) (place_named q) (and_left (has_place (places (grid_of t.page l)) (place_named q)) _ h))) refl e
    by_key l false f h e = cc

    by_layer : (o : Option PageLayer) → find (has_id q.layer) t.page.layers ≡ o → cond (key_on t.page t.stamp q o) (rank_on s a t q o) None ≡ Some r
        → (l : PageLayer) × (find (has_id q.layer) t.page.layers ≡ Some l) × (meets (screen_rect t.page t.offset l (place_named q)) (area_near (borders s t.page)) ≡ true)
    by_layer None f e = cc
    by_layer (Some l) f e = (l, f, by_key l (key_in t.page t.stamp q l) f refl e)
