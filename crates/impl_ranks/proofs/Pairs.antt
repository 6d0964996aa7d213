-- The ranks of a layer beside the layer of the same number in the other tree.
use Rattle.std.proofs.Common.{◌≡◌, inl, inr, ◌==◌, ℕ, Bool, true, false, cond, ◌&&◌, option_map, Option, Some, None, is_some, List, [], ◌∷◌, ◌++◌, filter_map, refl, sym, ◌∙◌, ap}
use Rattle.std.specs.List.{flat_map, cons_option}
use Rattle.std.specs.Option.{option_and_then}
use Rattle.geom.specs.declared.tile.Place.{Place}
use Rattle.geom.specs.declared.tile.TileKey.{TileKey}
use Rattle.geom.specs.Gaps.{shifted, distance}
use Rattle.geom.specs.Grids.{has, rect_of_place}
use Rattle.tile_tiling.specs.Tiles.{stamp_at, key_of}
use Rattle.tile_priority.specs.declared.rank.Bin.{Bin}
use Rattle.tile_priority.specs.declared.rank.Bin.TheVariants as bin
use Rattle.tile_priority.specs.declared.rank.Rank.{Rank}
use Rattle.tile_priority.specs.declared.rank.Side.{Side}
use Rattle.tile_priority.specs.declared.rank.Side.TheVariants as side
use Rattle.tile_priority.specs.declared.tile.Borders.{Borders}
use Rattle.tile_priority.specs.declared.tree_priority.TreePriority.{TreePriority}
use Rattle.tile_priority.specs.declared.tree_priority.TreePriority.TheVariants as priority
use Rattle.std.specs.declared.cmp.Ordering.{Ordering}
use Rattle.std.specs.declared.cmp.Ordering.TheVariants.{Less, Equal, Greater}
use Rattle.tile_priority.specs.declared.tile.Seen.{Seen}
use Rattle.tile_priority.specs.Bins.{bin_of, rank_of, tree_number}
use Rattle.tile_priority.specs.Ranks.{least, rank_cmp}
use Rattle.std.specs.Ordering.{match_ordering}
use Rattle.tile_priority.specs.Ordered.{In}
use Rattle.impl_ranks.specs.SeenTrees.{SeenLayerModel}
use Rattle.impl_ranks.specs.inner.Lists.{layer_at, layer_has, tile_seen, layer_rank, rank_on_layer, place_rank, near_ranks, better_on, alone_on}
use Rattle.impl_ranks.specs.inner.Pairs.{SameBorders, StandAlike, better_side, better_beside, alone_beside, better_near, alone_near}
use Rattle.impl_ranks.proofs.SeenRanks.{ranked_as, near_has}

-- ---- two walks as one

module _ {X Y Z : Type 0} (f : X → Option Y) (g : Y → Option Z) where
  pub fused : (xs : List X) → filter_map g (filter_map f xs) ≡ filter_map (λ x. option_and_then g (f x)) xs
  fused [] = refl
  fused (x ∷ xs) = by_some (f x) (fused xs)
    where
      by_some : (o : Option Y) → filter_map g (filter_map f xs) ≡ filter_map (λ x. option_and_then g (f x)) xs
          → filter_map g (cons_option o (filter_map f xs)) ≡ cons_option (option_and_then g o) (filter_map (λ x. option_and_then g (f x)) xs)
      by_some None e = e
      by_some (Some y) e = ap (cons_option (g y)) e

module _ {X Y : Type 0} (f g : X → Option Y) where
  same_walk : (xs : List X) → ((x : X) → In x xs → f x ≡ g x) → filter_map f xs ≡ filter_map g xs
  same_walk [] e = refl
  same_walk (x ∷ xs) e = (λ i. cons_option (e x (inl refl) i) (same_walk xs (λ y j. e y (inr j)) i))

module _ {X Y : Type 0} (f : X → Option Y) where
  walk_append : (xs ys : List X) → filter_map f (xs ++ ys) ≡ filter_map f xs ++ filter_map f ys
  walk_append [] ys = refl
  walk_append (x ∷ xs) ys = by_some (f x) (walk_append xs ys)
    where
      by_some : (o : Option Y) → filter_map f (xs ++ ys) ≡ filter_map f xs ++ filter_map f ys → cons_option o (filter_map f (xs ++ ys)) ≡ cons_option o (filter_map f xs) ++ filter_map f ys
      by_some None e = e
      by_some (Some y) e = ap (λ zs. y ∷ zs) e

-- ---- one place, where the layers stand alike

either_way : (c : Ordering) (o : Option Rank) → o ≡ match_ordering c o o o
either_way Less o = refl
either_way Equal o = refl
either_way Greater o = refl

-- of a tile that is seen alike in both trees
module _ (d : ℕ) (k : TileKey) where
  abbrev rank_at : Bin → ℕ → Rank
  rank_at x t = record { bin = x; tree = t; distance = d; key = k }

  -- one tree gives the better rank
  side_rank : (p : TreePriority) (x : Bin) → Some (rank_at x (tree_number p (better_side p))) ≡ least (Some (rank_at x (tree_number p side.Active))) (Some (rank_at x (tree_number p side.Pending)))
  side_rank priority.Same x = either_way (rank_cmp (rank_at x 0) (rank_at x 0)) (Some (rank_at x 0))
  side_rank priority.Smooth bin.Now = refl
  side_rank priority.Smooth bin.Soon = refl
  side_rank priority.Smooth bin.Eventually = refl
  side_rank priority.New bin.Now = refl
  side_rank priority.New bin.Soon = refl
  side_rank priority.New bin.Eventually = refl

one_side : (b : Borders) (z : Seen) (k : TileKey) → rank_of b (better_side b.priority) z k ≡ least (rank_of b side.Active z k) (rank_of b side.Pending z k)
one_side b z k = by_bin (bin_of b z)
  where
    by_bin : (o : Option Bin) → option_map (ranked_as b (better_side b.priority) z k) o ≡ least (option_map (ranked_as b side.Active z k) o) (option_map (ranked_as b side.Pending z k) o)
    by_bin None = refl
    by_bin (Some x) = side_rank (distance z.screen b.viewport) k b.priority x

module _ (b : Borders) (v w : SeenLayerModel) (place : Place) (there : has v.grid place ≡ true) (alike : StandAlike v w) where
  abbrev seen : Seen
  seen = tile_seen v place

  abbrev key : TileKey
  key = key_of v.stamps v.id place

  abbrev is_same_stamp : Bool
  is_same_stamp = stamp_at w.stamps place == stamp_at v.stamps place

  -- the other layer gives the key the rank that this one would, where it has it
  twin_rank : (a : Side) → layer_rank b a w key ≡ cond is_same_stamp (rank_of b a seen key) None
  twin_rank a =
      let has_place : has w.grid place ≡ true = ap (λ g. has g place) alike.grid ∙ there in
      let has_key : layer_has w key ≡ is_same_stamp = ap (λ t. t && is_same_stamp) has_place in
      let sees : tile_seen w place ≡ seen = λ i. record { screen = shifted (rect_of_place (alike.grid i) place) (alike.by i); clip = alike.clip i; draws = alike.draws i } in
      λ i. cond (has_key i) (rank_of b a (sees i) key) None

  better_by : (o : Option Bin) (t : Bool) → layer_rank b side.Pending w key ≡ cond t (option_map (ranked_as b side.Pending seen key) o) None
      → cond t (least (option_map (ranked_as b side.Active seen key) o) (option_map (ranked_as b side.Pending seen key) o)) (option_map (ranked_as b side.Active seen key) o)
      ≡ option_and_then (better_beside b (Some w)) (option_map (ranked_as b side.Active seen key) o)
  better_by None true e = refl
  better_by None false e = refl
  better_by (Some x) true e = ap (least (Some (ranked_as b side.Active seen key x))) (sym e)
  better_by (Some x) false e = ap (least (Some (ranked_as b side.Active seen key x))) (sym e)

  by_side : (t : Bool) → rank_of b (cond t (better_side b.priority) side.Active) seen key ≡ cond t (least (rank_of b side.Active seen key) (rank_of b side.Pending seen key)) (rank_of b side.Active seen key)
  by_side true = one_side b seen key
  by_side false = refl

  pub better_twin : place_rank b (cond is_same_stamp (better_side b.priority) side.Active) v place ≡ option_and_then (better_beside b (Some w)) (place_rank b side.Active v place)
  better_twin = by_side is_same_stamp ∙ better_by (bin_of b seen) is_same_stamp (twin_rank side.Pending)

  alone_by : (o : Option Bin) (t : Bool) → layer_rank b side.Active w key ≡ cond t (option_map (ranked_as b side.Active seen key) o) None
      → cond t None (option_map (ranked_as b side.Pending seen key) o)
      ≡ option_and_then (alone_beside b (Some w)) (option_map (ranked_as b side.Pending seen key) o)
  alone_by None true e = refl
  alone_by None false e = refl
  alone_by (Some x) true e = ap (λ r. cond (is_some r) None (Some (ranked_as b side.Pending seen key x))) (sym e)
  alone_by (Some x) false e = ap (λ r. cond (is_some r) None (Some (ranked_as b side.Pending seen key x))) (sym e)

  pub alone_twin : cond is_same_stamp None (rank_of b side.Pending seen key) ≡ option_and_then (alone_beside b (Some w)) (place_rank b side.Pending v place)
  alone_twin = alone_by (bin_of b seen) is_same_stamp (twin_rank side.Active)

-- borders that are the same are one
pub one_borders : (b c : Borders) → SameBorders b c → b ≡ c
one_borders b c same = sym (λ i. record { viewport = same.viewport i; soon = same.soon i; eventually = same.eventually i; priority = same.priority i })

-- ---- without a layer beside

pub better_without : (c : Borders) (o : Option Rank) → o ≡ option_and_then (better_beside c None) o
better_without c None = refl
better_without c (Some r) = refl

pub alone_without : (c : Borders) (o : Option Rank) → o ≡ option_and_then (alone_beside c None) o
alone_without c None = refl
alone_without c (Some r) = refl

-- ---- all layers of a tree

module _ (b c : Borders) (vs : List SeenLayerModel) where
  pub better_all : (ls : List SeenLayerModel) → flat_map (better_near b c vs) ls ≡ filter_map (better_on c vs) (flat_map (near_ranks b side.Active) ls)
  better_all [] = refl
  better_all (v ∷ ls) =
      (λ i. one i ++ better_all ls i) ∙ sym (walk_append (better_on c vs) (near_ranks b side.Active v) (flat_map (near_ranks b side.Active) ls))
    where
      one : better_near b c vs v ≡ filter_map (better_on c vs) (near_ranks b side.Active v)
      one = same_walk (better_beside c (layer_at v.id vs)) (better_on c vs) (near_ranks b side.Active v)
          (λ r i. ap (λ n. least (Some r) (rank_on_layer c side.Pending (layer_at n vs) r.key)) (sym (near_has b side.Active v r i).0))

  pub alone_all : (ls : List SeenLayerModel) → flat_map (alone_near b c vs) ls ≡ filter_map (alone_on c vs) (flat_map (near_ranks b side.Pending) ls)
  alone_all [] = refl
  alone_all (v ∷ ls) =
      (λ i. one i ++ alone_all ls i) ∙ sym (walk_append (alone_on c vs) (near_ranks b side.Pending v) (flat_map (near_ranks b side.Pending) ls))
    where
      one : alone_near b c vs v ≡ filter_map (alone_on c vs) (near_ranks b side.Pending v)
      one = same_walk (alone_beside c (layer_at v.id vs)) (alone_on c vs) (near_ranks b side.Pending v)
          (λ r i. ap (λ n. cond (is_some (rank_on_layer c side.Active (layer_at n vs) r.key)) None (Some r)) (sym (near_has b side.Pending v r i).0))
