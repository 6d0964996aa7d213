-- What a page looks like after a command that changes items: as before, but where the layer shows the rects of the change.
use Rattle.std.proofs.Common.{ℕ, ℤ, pos, ◌≡◌, ◌<◌, ◌==◌, ◌&&◌, ◌||◌, Bool, true, false, cond, Option, Some, None, List, [], ◌∷◌, drop, refl, ap, sym, ◌∙◌, subst, Ok}
use Rattle.std.specs.Prelude.{find, is_some, insert, remove, slice_set, option_map, IfSome}
use Rattle.geom.specs.declared.rect.Point.{Point}
use Rattle.geom.specs.declared.rect.Rect.{Rect}
use Rattle.geom.specs.Covers.{covers}
use Rattle.geom.proofs.Spans.{common_points, both, both_of}
use Rattle.pixel.specs.Colours.{Parts, clear}
use Rattle.region.specs.declared.change.LayerChange.{LayerChange}
use Rattle.region.specs.Lists.{Changed}
use Rattle.region.specs.Points.{covered}
use Rattle.page_properties.specs.Placement.{clip_of}
use Rattle.page_display_list.specs.declared.item.Item.{Item}
use Rattle.page_display_list.specs.Content.{content, rect_of_item}
use Rattle.page_layers.specs.declared.command.Command.{Command}
use Rattle.page_layers.specs.declared.command.Command.TheVariants as command
use Rattle.page_layers.specs.declared.view.View.{View}
use Rattle.page_layers.specs.Layers.{PageLayer, has_id, with_items}
use Rattle.page_layers.specs.Lists.{with_first_changed}
use Rattle.page_layers.specs.Pages.{Page, viewport}
use Rattle.page_layers.specs.Sound.{IsPage}
use Rattle.page_layers.specs.Refusals.{has_layer}
use Rattle.page_layers.specs.Effects.{with_layer_changed, page_after_command, layer_change_of, retiles, main_point, item_rect_at}
use Rattle.page_layers.specs.IfThere.{rects_of}
use Rattle.page_layers.specs.Outcomes.{Accepts, Outcome, ListsChange, HoldsOnly}
use Rattle.page_layers.specs.Contents.{content_at, shows_at}
use Rattle.page_layers.specs.Painting.{Items, folded, items_at, layer_before}
use Rattle.page_layers.specs.TreePainting.{groups_in, opacity_in, lets_through, lies_at, point_in, layer_colour_at, paint}
use Rattle.page_layers.proofs.FoundLayers.{found-here}
use Rattle.page_layers.proofs.Unlisted.{unlisted_stays}
use Rattle.tile_visible.specs.Visible.{cut_by}
use Rattle.cc.specs.inner.Edits.{LookAlikeOutside, CoverBoth, CoverFirst, IsNoted, changes_items, shows_rects}
use Rattle.cc.specs.inner.Flags.{TellsEdited}
use Rattle.cc.proofs.Pictures.{inside}

-- ---- tests

pub left_false : (a b : Bool) → a || b ≡ false → a ≡ false
left_false true b e = absurd (cc)
left_false false b e = refl

pub right_false : (a b : Bool) → a || b ≡ false → b ≡ false
right_false true b e = absurd (cc)
right_false false b e = e

and_false : (a b : Bool) → b ≡ false → a && b ≡ false
and_false true b e = e
and_false false b e = refl

first_false : (a b : Bool) → a && b ≡ false → b ≡ true → a ≡ false
first_false false b e h = refl
first_false true b e h = absurd (cc)

-- ---- the painting of a page of which one layer has other items

-- a list of which the first layer that passes is changed, to one with the same groups and the same colour
items_alike : (groups : PageLayer → List ℕ) (colour : PageLayer → Parts) (t : PageLayer → Bool) (f : PageLayer → PageLayer) → ((l : PageLayer) → groups (f l) ≡ groups l) → (ls : List PageLayer)
    → ((l : PageLayer) → find t ls ≡ Some l → colour (f l) ≡ colour l) → items_at groups colour 0 (with_first_changed t f ls) ≡ items_at groups colour 0 ls
items_alike groups colour t f same [] h = refl
items_alike groups colour t f same (x ∷ xs) h = go (t x) h (items_alike groups colour t f same xs)
  where
    go : (b : Bool) → ((l : PageLayer) → cond b (Some x) (find t xs) ≡ Some l → colour (f l) ≡ colour l)
        → (((l : PageLayer) → find t xs ≡ Some l → colour (f l) ≡ colour l) → items_at groups colour 0 (with_first_changed t f xs) ≡ items_at groups colour 0 xs)
        → items_at groups colour 0 (cond b (f x ∷ xs) (x ∷ with_first_changed t f xs)) ≡ items_at groups colour 0 (x ∷ xs)
    go true h rest = λ i. layer_before (drop 0 (same x i)) (h x refl i) (items_at groups colour 0 xs)
    go false h rest = ap (λ (its : Items). layer_before (drop 0 (groups x)) (colour x) its) (rest h)

by_lying : (b : Bool) (a c d : Parts) → (b ≡ true → a ≡ c) → cond b a d ≡ cond b c d
by_lying true a c d h = h refl
by_lying false a c d h = refl

-- the layer shows the same at a point where it lies
abbrev SameThere : Page → (List Item → List Item) → ℤ → ℤ → PageLayer → Type 0
SameThere p f x y l =
    lies_at p (main_point p) x y l ≡ true
    → content (f l.items) (point_in p (main_point p) l x y).x (point_in p (main_point p) l x y).y ≡ content l.items (point_in p (main_point p) l x y).x (point_in p (main_point p) l x y).y

colour_alike : (p : Page) (f : List Item → List Item) (x y : ℤ) (l : PageLayer) → SameThere p f x y l → layer_colour_at p (main_point p) [] x y (with_items f l) ≡ layer_colour_at p (main_point p) [] x y l
colour_alike p f x y l h =
    by_lying (lies_at p (main_point p) x y l) (content (f l.items) (point_in p (main_point p) l x y).x (point_in p (main_point p) l x y).y) (content l.items (point_in p (main_point p) l x y).x (point_in p (main_point p) l x y).y) clear h

paint_alike : (p : Page) (id : ℕ) (f : List Item → List Item) (background : Parts) (x y : ℤ) → ((l : PageLayer) → find (has_id id) p.layers ≡ Some l → SameThere p f x y l)
    → paint (with_layer_changed p id (with_items f)) (main_point (with_layer_changed p id (with_items f))) [] background x y ≡ paint p (main_point p) [] background x y
unfolding paint
paint_alike p id f background x y h =
    ap (λ (its : Items). folded (opacity_in p.props.effects) its background)
    (items_alike (λ l. groups_in p.props.effects l.effect) (layer_colour_at p (main_point p) [] x y) (has_id id) (with_items f) (λ l. refl) p.layers (λ l e. colour_alike p f x y l (h l e)))

-- ---- where a change does not show

some_parts : (a b : Parts) → Some a ≡ Some b → a ≡ b
some_parts a b e = cc

-- a clip that lets a point of the viewport through leaves it
through : (view : Rect) (clip : Option Rect) (x y : ℤ) → lets_through clip x y ≡ true → covers view x y ≡ true → covers (cut_by view clip) x y ≡ true
through view None x y lets there = there
through view (Some clip) x y lets there = common_points clip view x y ∙ both_of (covers clip x y) (covers view x y) lets there

-- the items of one layer are changed, as some rects tell, and it shows elsewhere what it did
items_stay : (p : Page) (id : ℕ) (f : List Item → List Item) (rs : List Rect) (cs : List LayerChange) (rects : List Rect)
    → ((x y : ℤ) → has_layer id p.layers ≡ true → has_layer id (with_layer_changed p id (with_items f)).layers ≡ true → shows_at (Some (record { layer = id; whole = false; rects = rs })) id x y ≡ false
    → content_at (with_layer_changed p id (with_items f)) id x y ≡ content_at p id x y)
    → HoldsOnly (Some (record { layer = id; whole = false; rects = rs })) cs → CoverFirst (with_layer_changed p id (with_items f)) cs rects
    → LookAlikeOutside rects p (with_layer_changed p id (with_items f))
items_stay p id f rs [] rects keeps holds cover = absurd holds
items_stay p id f rs (c ∷ d ∷ ds) rects keeps holds cover = absurd holds
items_stay p id f rs (c ∷ []) rects keeps holds cover = record {
  view = refl;
  pixels = λ background x y across down off.
      sym (paint_alike p id f background (pos x) (pos y) (λ l e lies. here x y across down off l e lies));
}
  where
    q : Page
    q = with_layer_changed p id (with_items f)

    here : (x y : ℕ) → x < p.view.w → y < p.view.h → covered rects (pos x) (pos y) ≡ false → (l : PageLayer) → find (has_id id) p.layers ≡ Some l → SameThere p f (pos x) (pos y) l
    here x y across down off l e lies =
        let at : Point = point_in p (main_point p) l (pos x) (pos y) in
        let after : find (has_id id) q.layers ≡ Some (with_items f l) = found-here id (with_items f) (λ k. refl) p.layers ∙ ap (option_map (with_items f)) e in
        let named : find (has_id c.layer) q.layers ≡ Some (with_items f l) = ap (λ (n : ℕ). find (has_id n) q.layers) holds.layer ∙ after in
        let lets = (both (lets_through (clip_of (main_point p) p.props.transforms p.props.clips l.clip) (pos x) (pos y)) _ lies).0 in
        let seen = through (viewport p) (clip_of (main_point p) p.props.transforms p.props.clips l.clip) (pos x) (pos y) lets (inside p x y across down) in
        let quiet : shows_rects q c.region (with_items f l) (pos x) (pos y) ≡ false = (cover.first c refl).points (with_items f l) (pos x) (pos y) named off in
        let out : covered rs at.x at.y ≡ false = sym (holds.points at.x at.y) ∙ first_false (covered c.region at.x at.y) _ quiet seen in
        some_parts (content (f l.items) at.x at.y) (content l.items at.x at.y)
        (sym (ap (option_map (λ (k : PageLayer). content k.items at.x at.y)) after)
        ∙ keeps at.x at.y (ap is_some e) (ap is_some after) (and_false (id == id) (covered rs at.x at.y) out)
        ∙ ap (option_map (λ (k : PageLayer). content k.items at.x at.y)) e)

-- a command that changes items changes the screen at most where its changes show
pub items_changed : (p q : Page) (c : Command) (changes : Changed) (rects : List Rect) → IsPage p → Accepts p c → q ≡ page_after_command p c → ListsChange (layer_change_of p c) (retiles p c) changes
    → changes_items c ≡ true → CoverFirst q changes.list rects → LookAlikeOutside rects p q
items_changed p q c changes rects is ok e lists items cover =
    subst (λ (o : Page). LookAlikeOutside rects p o) (sym e) (after c ok lists items (subst (λ (o : Page). CoverFirst o changes.list rects) e cover))
  where
    after : (c : Command) → Accepts p c → ListsChange (layer_change_of p c) (retiles p c) changes → changes_items c ≡ true → CoverFirst (page_after_command p c) changes.list rects → LookAlikeOutside rects p (page_after_command p c)
    after (command.InsertItem c) ok lists t cover =
        items_stay p c.layer (λ its. insert its c.at c.item) (rect_of_item c.item ∷ []) changes.list rects (λ x y before there out. (unlisted_stays p (command.InsertItem c) is ok).content c.layer x y before there out) lists.holds cover
    after (command.RemoveItem c) ok lists t cover =
        items_stay p c.layer (λ its. remove its c.at) (rects_of (item_rect_at c.layer c.at p.layers)) changes.list rects (λ x y before there out. (unlisted_stays p (command.RemoveItem c) is ok).content c.layer x y before there out) lists.holds cover
    after (command.ReplaceItem c) ok lists t cover =
        items_stay p c.layer (λ its. slice_set its c.at c.item) (rect_of_item c.item ∷ rects_of (item_rect_at c.layer c.at p.layers)) changes.list rects (λ x y before there out. (unlisted_stays p (command.ReplaceItem c) is ok).content c.layer x y before there out) lists.holds cover
    after _ ok lists t cover = absurd (cc)

-- ---- what was noted

-- what looks alike outside of some rects, and then outside of others, does so outside of all
alike_more : (old new all : List Rect) (p q r : Page) → CoverBoth old new all → LookAlikeOutside old p q → LookAlikeOutside new q r → LookAlikeOutside all p r
alike_more old new all p q r both a b = record {
  view = a.view ∙ b.view;
  pixels = λ background x y across down off.
      let none = sym (both.points (pos x) (pos y)) ∙ off in
      a.pixels background x y across down (left_false (covered old (pos x) (pos y)) (covered new (pos x) (pos y)) none)
      ∙ b.pixels background x y (subst (λ (v : View). x < v.w) a.view across) (subst (λ (v : View). y < v.h) a.view down) (right_false (covered old (pos x) (pos y)) (covered new (pos x) (pos y)) none);
}

one_noted : (active p q : Page) (c : Command) (changes : Changed) (before : Option (List Rect)) (after : List Rect) → IsPage p → Outcome p c q (Ok changes) → TellsEdited before active p → IsNoted before c q changes.list after
    → LookAlikeOutside after active q
one_noted active p q c changes before after is ok tells n =
    alike_more n.old n.new after active p q n.both (subst (λ (o : Option (List Rect)). IfSome o (λ rects. LookAlikeOutside rects active p)) n.known tells.alike)
    (items_changed p q c changes n.new is ok.0 ok.1 ok.2 n.items n.changes)

-- the main page looks like the active one outside of what was noted, if that is known
pub edited_after : (active p q : Page) (c : Command) (changes : Changed) (before after : Option (List Rect)) → IsPage p → Outcome p c q (Ok changes) → TellsEdited before active p → IfSome after (IsNoted before c q changes.list)
    → TellsEdited after active q
edited_after active p q c changes before (Some rects) is ok tells n = record { alike = one_noted active p q c changes before rects is ok tells n }
edited_after active p q c changes before None is ok tells n = record { alike = tt }
