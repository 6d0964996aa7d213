-- Samples with the colours and the groups of layers are painted as the layers are.
use Rattle.std.proofs.Common.{ℕ, ℤ, ◌≡◌, ◌+◌, ◌<◌, ◌≤◌, List, [], ◌∷◌, ◌++◌, length, get_or, take, drop, map, set, All, refl, ap, sym, ◌∙◌, subst, add-one, arith}
use Rattle.std.proofs.lemmas.List.{map-append, map_more, take_all, get_or-map, length-map}
use Rattle.std.proofs.lemmas.List.Elements.{All-same}
use Rattle.std.proofs.Math.Seq.{take-suc-set}
use Rattle.std.proofs.lemmas.Simd.{map-map}
use Rattle.geom.specs.declared.rect.Point.{Point}
use Rattle.geom.specs.declared.tile.TileKey.{TileKey}
use Rattle.pixel.specs.Colours.{Parts}
use Rattle.page_layers.specs.declared.paint.Group.{Group}
use Rattle.page_layers.specs.declared.paint.LayerSample.{LayerSample}
use Rattle.page_layers.specs.Layers.{PageLayer}
use Rattle.page_layers.specs.Pages.{Page}
use Rattle.page_layers.specs.Painting.{Items, folded, items_at, layer_before}
use Rattle.page_layers.specs.inner.LayerSamples.{groups_of, colour_of, HaveOpacities}
use Rattle.page_layers.specs.TreePainting.{groups_in, opacity_in, layer_colour_at, paint}
use Rattle.page_layers.specs.Paintings.{Placed, Ready, ReadyShows, placed_colour}

-- ---- colours, one sample after another

pub colours_more : (f : Placed → Parts) (ls : List Placed) (ss : List LayerSample) (i : ℕ) (new : LayerSample) (l : Placed) → i < length ss → i < length ls
    → map colour_of (take i ss) ≡ map f (take i ls) → l ≡ get_or ls i l → new.colour ≡ f l → map colour_of (take (i + 1) (set ss i new)) ≡ map f (take (i + 1) ls)
colours_more f ls ss i new l in-samples in-layers old is colour =
    ap (λ (n : ℕ). map colour_of (take n (set ss i new))) (add-one i)
    ∙ ap (λ (xs : List LayerSample). map colour_of xs) (take-suc-set ss i new in-samples)
    ∙ map-append colour_of (take i ss) (new ∷ [])
    ∙ ap (λ (cs : List Parts). cs ++ new.colour ∷ []) old
    ∙ ap (λ (c : Parts). map f (take i ls) ++ c ∷ []) (colour ∙ ap f is)
    ∙ sym (map_more f ls i l in-layers)

pub colours_all : (f : Placed → Parts) (ls : List Placed) (ss : List LayerSample) (i : ℕ) → length ls ≡ length ss → length ls ≤ i → map colour_of (take i ss) ≡ map f (take i ls) → map colour_of ss ≡ map f ls
colours_all f ls ss i same past h =
    ap (λ (xs : List LayerSample). map colour_of xs) (sym (take_all i ss (omega (arith, same, past)))) ∙ h ∙ ap (λ (xs : List Placed). map f xs) (take_all i ls past)

-- ---- groups

-- the groups of each sample
abbrev pub lists_of : List LayerSample → List (List Group)
lists_of ss = map (λ (s : LayerSample). s.groups.items) ss

-- what holds of the groups of each sample
pub each-sample : (P : List Group → Type 0) (ss : List LayerSample) (lists : List (List Group)) → lists ≡ lists_of ss → All P lists → All (λ s. P s.groups.items) ss
each-sample P ss lists is all k d lt =
    let there : k < length (lists_of ss) = grind (arith, length-map, lt) in
    subst P (get_or-map (λ (s : LayerSample). s.groups.items) ss k d d.groups.items lt) (All-same P (lists_of ss) lists (sym is) all k d.groups.items there)

pub effects_of_lists : (ss : List LayerSample) → map groups_of ss ≡ map (λ (gs : List Group). map (λ (g : Group). g.effect) gs) (lists_of ss)
effects_of_lists ss = sym (map-map (λ (gs : List Group). map (λ (g : Group). g.effect) gs) (λ (s : LayerSample). s.groups.items) ss)

-- ---- the painting

-- layers of two kinds with the same groups and colours make the same items
pub same_items : {A B : Type 0} (ga : A → List ℕ) (ca : A → Parts) (gb : B → List ℕ) (cb : B → Parts) (depth : ℕ) (xs : List A) (ys : List B) → map ga xs ≡ map gb ys → map ca xs ≡ map cb ys
    → items_at ga ca depth xs ≡ items_at gb cb depth ys
same_items ga ca gb cb depth [] [] groups colours = refl
same_items ga ca gb cb depth [] (y ∷ ys) groups colours = absurd (cc)
same_items ga ca gb cb depth (x ∷ xs) [] groups colours = absurd (cc)
same_items ga ca gb cb depth (x ∷ xs) (y ∷ ys) groups colours =
    let g : ga x ≡ gb y = cc in
    let c : ca x ≡ cb y = cc in
    let gs : map ga xs ≡ map gb ys = cc in
    let cs : map ca xs ≡ map cb ys = cc in
    ap (λ (es : List ℕ). layer_before (drop depth es) (ca x) (items_at ga ca depth xs)) g
    ∙ ap (λ (p : Parts). layer_before (drop depth (gb y)) p (items_at ga ca depth xs)) c
    ∙ ap (λ (items : Items). layer_before (drop depth (gb y)) (cb y) items) (same_items ga ca gb cb depth xs ys gs cs)

-- samples with the groups and the colours of what is ready are painted as the page that it shows
pub painted : (p : Page) (offset : ℕ → Point) (missing : List TileKey) (r : Ready) (ss : List LayerSample) (background result : Parts) (x y : ℤ) → ReadyShows p offset missing r
    → lists_of ss ≡ r.groups → map colour_of ss ≡ map (placed_colour r.tile x y) r.layers
    → ((opacity : ℕ → ℕ) → HaveOpacities opacity ss → result ≡ folded opacity (items_at groups_of colour_of 0 ss) background)
    → result ≡ paint p offset missing background x y
unfolding paint
painted p offset missing r ss background result x y shows lists colours is =
    let opacity : ℕ → ℕ = opacity_in p.props.effects in
    let have : HaveOpacities opacity ss = each-sample (λ (gs : List Group). All (λ (g : Group). opacity g.effect ≡ g.opacity) gs) ss r.groups (sym lists) shows.opacities in
    let groups : map groups_of ss ≡ map (λ (l : PageLayer). groups_in p.props.effects l.effect) p.layers =
    effects_of_lists ss ∙ ap (λ (ls : List (List Group)). map (λ (gs : List Group). map (λ (g : Group). g.effect) gs) ls) lists ∙ shows.groups in
    is opacity have
    ∙ ap (λ (items : Items). folded opacity items background) (same_items groups_of colour_of (λ (l : PageLayer). groups_in p.props.effects l.effect) (layer_colour_at p offset missing x y) 0 ss p.layers groups (colours ∙ shows.colours x y))
