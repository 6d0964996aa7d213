-- Lists that loops build, one element more at a time.
use Rattle.std.proofs.Common.{◌≡◌, ℕ, ◌+◌, ◌<◌, Bool, true, false, cond, not, List, [], ◌∷◌, ◌++◌, length, get_or, take, map, filter, refl, sym, ◌∙◌, ap, append_assoc}
use Rattle.std.proofs.lemmas.List.{take_more, map-append}
use Rattle.std.proofs.lemmas.List.Elements.{filter_more, filter-append}
use Rattle.geom.specs.declared.tile.TileKey.{TileKey}
use Rattle.geom.specs.KeyLists.{has_key}
use Rattle.tile_priority.specs.Tiles.{Tile}
use Rattle.model_history.specs.Scripts.{ScriptModel}
use Rattle.model_history.specs.Tiles.{Tree}
use Rattle.model_steps.specs.Choices.{rank_in_both, tile_in_both}

-- an element is kept where it passes a test
pub kept_more : {X : Type 0} (f : X → Bool) (xs : List X) (i : ℕ) (d : X) (base old new : List X) (b : Bool) → i < length xs → old ≡ base ++ filter f (take i xs) → new ≡ old ++ cond b (get_or xs i d ∷ []) [] → b ≡ f (get_or xs i d)
    → new ≡ base ++ filter f (take (i + 1) xs)
kept_more {X} f xs i d base old new b lt was made is =
    made
    ∙ (λ j. was j ++ cond (is j) (get_or xs i d ∷ []) [])
    ∙ append_assoc base (filter f (take i xs)) (cond (f (get_or xs i d)) (get_or xs i d ∷ []) [])
    ∙ ap (λ (zs : List X). base ++ zs) (sym (filter_more f xs i d lt))

-- what passes a test of what a function gives of an element
pub mapped_more : {X Y : Type 0} (f : Y → Bool) (g : X → Y) (xs : List X) (i : ℕ) (d : X) (old new : List Y) → i < length xs → old ≡ filter f (map g (take i xs)) → new ≡ old ++ filter f (g (get_or xs i d) ∷ [])
    → new ≡ filter f (map g (take (i + 1) xs))
mapped_more {X} {Y} f g xs i d old new lt was made =
    made
    ∙ ap (λ (zs : List Y). zs ++ filter f (g (get_or xs i d) ∷ [])) was
    ∙ sym (filter-append f (map g (take i xs)) (g (get_or xs i d) ∷ []))
    ∙ ap (filter f) (sym (map-append g (take i xs) (get_or xs i d ∷ [])))
    ∙ ap (λ (zs : List X). filter f (map g zs)) (sym (take_more xs i d lt))

-- a key that is left out passes no test that others do not pass
pub left_more : (f : TileKey → Bool) (others ks : List TileKey) (i : ℕ) (d : TileKey) (old new : List TileKey) (r : Bool) → i < length ks → ((q : TileKey) → has_key others q ≡ true → f q ≡ false)
    → (r ≡ true → has_key others (get_or ks i d) ≡ true) → new ≡ old ++ cond (not r) (get_or ks i d ∷ []) [] → filter f old ≡ filter f (take i ks) → filter f new ≡ filter f (take (i + 1) ks)
left_more f others ks i d old new r lt out is made was =
    ap (filter f) made
    ∙ filter-append f old (cond (not r) (get_or ks i d ∷ []) [])
    ∙ (λ j. was j ++ one r is j)
    ∙ sym (filter_more f ks i d lt)
  where
    one : (r : Bool) → (r ≡ true → has_key others (get_or ks i d) ≡ true) → filter f (cond (not r) (get_or ks i d ∷ []) []) ≡ cond (f (get_or ks i d)) (get_or ks i d ∷ []) []
    one true is = sym (ap (λ b. cond b (get_or ks i d ∷ []) []) (out (get_or ks i d) (is refl)))
    one false is = refl

-- a tile that is pinned where its key is
pub pinned_as : (s : ScriptModel) (a p : Tree) (pins : List TileKey) (q : TileKey) (b : Bool) (t : Tile) → t ≡ record { key = q; rank = rank_in_both s a p q; pinned = b } → b ≡ has_key pins q → t ≡ tile_in_both s a p pins q
pinned_as s a p pins q b t is pinned = is ∙ (λ i. record { key = q; rank = rank_in_both s a p q; pinned = pinned i })
