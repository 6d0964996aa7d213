-- Lists with the same keys, and the choice that is made from them.
use Rattle.std.proofs.Common.{◌≡◌, suc, Bool, true, false, not, ◌&&◌, ◌||◌, List, [], ◌∷◌, ◌++◌, length, map, filter, filter_map, refl, sym, ◌∙◌, ap, subst}
use Rattle.geom.specs.declared.tile.TileKey.{TileKey}
use Rattle.geom.specs.KeyLists.{same_key, has_key, AreDistinctKeys}
use Rattle.geom.proofs.KeyLists.{one_key, same_from}
use Rattle.tile_priority.specs.declared.rank.Rank.{Rank}
use Rattle.tile_priority.specs.Tiles.{Tile}
use Rattle.tile_priority.specs.Ordered.{In, SameMembers}
use Rattle.tile_priority.specs.Alike.{AsMany, Alike}
use Rattle.tile_priority.proofs.InOrder.{in_map, map_in}
use Rattle.model_history.specs.Scripts.{ScriptModel}
use Rattle.model_history.specs.Tiles.{Tree, keys_of}
use Rattle.model_history.proofs.BoolFacts.{not_both}
use Rattle.model_history.proofs.KeyFacts.{has_in, in_has, has_filter, distinct_filter}
use Rattle.model_steps.specs.Choices.{rank_in_both, lacks_key, tile_in_both, choice_of}
use Rattle.model_steps.proofs.Picks.{filter_map_test, shorter}

self_key : (k : TileKey) → same_key k k ≡ true
self_key k = same_from k k refl

-- distinct keys are as many as others that are the same

pub same_count : (ks ls : List TileKey) → AreDistinctKeys ks → AreDistinctKeys ls → ((q : TileKey) → has_key ks q ≡ has_key ls q) → length ks ≡ length ls
same_count [] [] d e same = refl
same_count [] (l ∷ ls) d e same = absurd (not_both (same_key l l || has_key ls l) (ap (λ b. b || has_key ls l) (self_key l)) (sym (same l)))
same_count (k ∷ ks) ls d e same = (let n : length ks ≡ length others = same_count ks others d.1 (distinct_filter (λ x. not (has_key (k ∷ []) x)) ls e) rest in ap suc n) ∙ shorter ls k e there
  where
    others : List TileKey
    others = filter (λ x. not (has_key (k ∷ []) x)) ls

    there : has_key ls k ≡ true
    there = sym (same k) ∙ ap (λ b. b || has_key ks k) (self_key k)

    by_key : (q : TileKey) (b : Bool) → same_key k q ≡ b → has_key ks q ≡ ((b || has_key ks q) && not (b || false))
    by_key q true t = ap (has_key ks) (sym (one_key k q t)) ∙ d.0
    by_key q false t = and_true (has_key ks q)
      where
        and_true : (a : Bool) → a ≡ a && true
        and_true true = refl
        and_true false = refl

    rest : (q : TileKey) → has_key ks q ≡ has_key others q
    rest q = by_key q (same_key k q) refl ∙ (ap (λ b. b && not (same_key k q || false)) (same q) ∙ sym (has_filter (λ x. not (has_key (k ∷ []) x)) ls q))

-- and as many of them pass each test

pub as_many_keys : (ks ls : List TileKey) → AreDistinctKeys ks → AreDistinctKeys ls → ((q : TileKey) → has_key ks q ≡ has_key ls q) → AsMany ks ls
as_many_keys ks ls d e same f =
    same_count (filter f ks) (filter f ls) (distinct_filter f ks d) (distinct_filter f ls e)
    (λ q. has_filter f ks q ∙ (ap (λ b. b && f q) (same q) ∙ sym (has_filter f ls q)))

length_mapped : {X Y : Type 0} (g : X → Y) (xs : List X) → length (map g xs) ≡ length xs
length_mapped g [] = refl
length_mapped g (x ∷ xs) = ap suc (length_mapped g xs)

as_many_mapped : {X Y : Type 0} (g : X → Y) (xs ys : List X) → AsMany xs ys → AsMany (map g xs) (map g ys)
as_many_mapped g xs ys m f =
    ap length (filter_map_test g f xs) ∙ (length_mapped g (filter (λ x. f (g x)) xs) ∙ (m (λ x. f (g x))
    ∙ sym (ap length (filter_map_test g f ys) ∙ length_mapped g (filter (λ x. f (g x)) ys))))

moved_in : (g : TileKey → Tile) (ks ls : List TileKey) → ((q : TileKey) → has_key ks q ≡ true → has_key ls q ≡ true) → (t : Tile) → In t (map g ks) → In t (map g ls)
moved_in g ks ls f t i =
    let (k, j, e) = in_map g t ks i in
    let m : In (g k) (map g ls) = map_in g k ls (in_has ls k (f k (has_in ks k j))) in
    subst (λ u. In u (map g ls)) e m

same_tiles : (g : TileKey → Tile) (ks ls : List TileKey) → ((q : TileKey) → has_key ks q ≡ has_key ls q) → SameMembers (map g ks) (map g ls)
same_tiles g ks ls same = record {
  there = moved_in g ks ls (λ q t. sym (same q) ∙ t);
  back = moved_in g ls ks (λ q t. same q ∙ t);
}

-- a choice from these ranks and ready keys, where they are those of the trees

pub rebuilt_alike : (s : ScriptModel) (a p : Tree) (ready in_flight pinned kept : List TileKey) (ranks : List Rank)
    → SameMembers ranks (filter_map (rank_in_both s a p) (filter (lacks_key ready in_flight) (keys_of a ++ keys_of p)))
    → AreDistinctKeys kept → AreDistinctKeys ready → ((q : TileKey) → has_key kept q ≡ has_key ready q)
    → Alike (record { wanted = ranks; ready = map (tile_in_both s a p pinned) kept; in_flight = length in_flight; budget = s.budget }) (choice_of s a p ready in_flight pinned)
rebuilt_alike s a p ready in_flight pinned kept ranks w d e same = record {
  wanted = w;
  ready = same_tiles (tile_in_both s a p pinned) kept ready same;
  as_many = as_many_mapped (tile_in_both s a p pinned) kept ready (as_many_keys kept ready d e same);
  in_flight = refl;
  budget = refl;
}
