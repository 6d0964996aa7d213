-- A command that passes its tests leaves a page a page.
use Rattle.std.proofs.Common.{ℕ, ℤ, ◌≡◌, ◌≤◌, ◌<◌, ◌==◌, ◌&&◌, ◌||◌, Bool, true, false, not, Option, Some, Ok, List, [], ◌∷◌, ◌++◌, length, map, refl, ap, sym, ◌∙◌, subst, arith, eqb-true}
use Rattle.std.specs.Prelude.{nat_lt, nat_le, slice_set}
use Rattle.std.specs.List.{list_any, insert, remove, AllByRecursion}
use Rattle.std.proofs.lemmas.List.Edits.{length-insert}
use Rattle.std.proofs.lemmas.Bool.Decides.{nat_tests}
use Rattle.geom.specs.declared.rect.Point.{Point}
use Rattle.page_properties.specs.declared.nodes.ScrollNode.{ScrollNode}
use Rattle.page_properties.specs.declared.nodes.TransformNode.{TransformNode}
use Rattle.page_properties.specs.declared.nodes.ClipNode.{ClipNode}
use Rattle.page_properties.specs.declared.nodes.EffectNode.{EffectNode}
use Rattle.page_properties.specs.Nesting.{AreNested}
use Rattle.page_properties.specs.Trees.{Trees as Props}
use Rattle.page_properties.specs.Entries.{find, knows, is_known}
use Rattle.page_properties.specs.Entries as entries
use Rattle.page_layers.specs.declared.fault.EditFault.TheVariants as fault
use Rattle.page_layers.specs.declared.command.Command.{Command}
use Rattle.page_layers.specs.declared.command.Command.TheVariants as command
use Rattle.page_layers.specs.Tests.{require, is_id}
use Rattle.page_layers.specs.Layers.{PageLayer, has_id, with_size, with_colour, with_items}
use Rattle.page_layers.specs.Pages.{Page, IsView}
use Rattle.page_layers.specs.Scrolls.{IsInRange, AreInRange}
use Rattle.page_layers.specs.Refusals.{has_layer, takes, test_of}
use Rattle.page_layers.specs.Effects.{page_after_command, with_layer_changed, scrolled_to, clamped_in, main_point}
use Rattle.page_layers.specs.Outcomes.{StandTogether}
use Rattle.page_layers.specs.inner.Tested.{may_part}
use Rattle.page_layers.specs.Sound.{is_used, IsLayer, AreDistinctLayers, IsPage}
use Rattle.page_layers.proofs.LayerKeeps.{each-weaker, each-changed, each-without, each-insert, each-moved, length-changed, length-without, length-moved, view-changed, absent-both, distinct-changed, distinct-without, distinct-insert, distinct-moved}
use Rattle.page_layers.proofs.TestFacts.{passed, held, both, is_not, scroll_range_facts, add_effect_facts, view_facts}
use Rattle.page_layers.proofs.NodeKeeps.{values-in_range, is_known-more, is_known-changed, in_range_clamped, in_range_origin, values-set, values-ranged, found-changed, known_found}
use Rattle.page_layers.proofs.Nested.{nested-without, nested-more, nested-changed}

-- ---- layers

-- a layer whose named nodes are there is one of a page with more of them
layers-kept : (props more : Props) (used : List ℕ) (ls : List PageLayer)
    → ((id : ℕ) → is_known id props.transforms ≡ true → is_known id more.transforms ≡ true)
    → ((id : ℕ) → is_known id props.clips ≡ true → is_known id more.clips ≡ true)
    → ((id : ℕ) → is_known id props.effects ≡ true → is_known id more.effects ≡ true)
    → AllByRecursion (IsLayer props used) ls → AllByRecursion (IsLayer more used) ls
layers-kept props more used ls t c e all = each-weaker (IsLayer props used) (IsLayer more used) (λ l h. record { transform = t l.transform h.transform; clip = c l.clip h.clip; effect = e l.effect h.effect; id_used = h.id_used; id = h.id; size = h.size }) ls all

-- an id stays used
used-more : (x id : ℕ) (used : List ℕ) → is_used x used ≡ true → is_used x (used ++ id ∷ []) ≡ true
used-more x id [] h = absurd (cc)
used-more x id (u ∷ us) h = go (u == x) h (used-more x id us)
  where
    go : (b : Bool) → (b || is_used x us) ≡ true → (is_used x us ≡ true → is_used x (us ++ id ∷ []) ≡ true) → (b || is_used x (us ++ id ∷ [])) ≡ true
    go true h rest = refl
    go false h rest = rest h

-- a new id is used
used-new : (id : ℕ) (used : List ℕ) → is_used id (used ++ id ∷ []) ≡ true
used-new id [] = grind (arith, nat_tests)
used-new id (u ∷ us) = go (u == id) (used-new id us)
  where
    go : (b : Bool) → is_used id (us ++ id ∷ []) ≡ true → (b || is_used id (us ++ id ∷ [])) ≡ true
    go true rest = refl
    go false rest = rest

-- no layer has an id that was never used
unused-absent : (props : Props) (used : List ℕ) (id : ℕ) (ls : List PageLayer) → is_used id used ≡ false → AllByRecursion (IsLayer props used) ls → has_layer id ls ≡ false
unused-absent props used id [] un all = refl
unused-absent props used id (l ∷ ls) un all = absent-both id l ls (go (l.id == id) refl) (unused-absent props used id ls un all.1)
  where
    go : (b : Bool) → (l.id == id) ≡ b → b ≡ false
    go false e = refl
    go true e = let is_used_id : is_used id used ≡ true = ap (λ (n : ℕ). is_used n used) (sym (eqb-true l.id id e)) ∙ all.0.id_used in absurd (cc)

-- ---- the nodes

after-transforms : (p : Page) (nodes : List (ℕ × TransformNode)) → ((id : ℕ) → is_known id p.props.transforms ≡ true → is_known id nodes ≡ true) → IsPage p → IsPage (record p { props = record p.props { transforms = nodes } })
after-transforms p nodes more h = record {
  view = h.view;
  few = h.few;
  layers = layers-kept p.props (record p.props { transforms = nodes }) p.used p.layers more (λ n k. k) (λ n k. k) h.layers;
  distinct = h.distinct;
  nested = h.nested;
  values = h.values;
}

after-clips : (p : Page) (nodes : List (ℕ × ClipNode)) → ((id : ℕ) → is_known id p.props.clips ≡ true → is_known id nodes ≡ true) → IsPage p → IsPage (record p { props = record p.props { clips = nodes } })
after-clips p nodes more h = record {
  view = h.view;
  few = h.few;
  layers = layers-kept p.props (record p.props { clips = nodes }) p.used p.layers (λ n k. k) more (λ n k. k) h.layers;
  distinct = h.distinct;
  nested = h.nested;
  values = h.values;
}

after-effects : (p : Page) (nodes : List (ℕ × EffectNode)) → ((id : ℕ) → is_known id p.props.effects ≡ true → is_known id nodes ≡ true) → AreNested nodes (map (λ l. l.effect) p.layers) → IsPage p → IsPage (record p { props = record p.props { effects = nodes } })
after-effects p nodes more stands h = record {
  view = h.view;
  few = h.few;
  layers = layers-kept p.props (record p.props { effects = nodes }) p.used p.layers (λ n k. k) (λ n k. k) more h.layers;
  distinct = h.distinct;
  nested = stands;
  values = h.values;
}

after-scrollers : (p : Page) (nodes : List (ℕ × ScrollNode)) (values : List (ℕ × Point)) → AreInRange nodes values → IsPage p → IsPage (record p { props = record p.props { scrollers = nodes }; values = values })
after-scrollers p nodes values in' h = record {
  view = h.view;
  few = h.few;
  layers = layers-kept p.props (record p.props { scrollers = nodes }) p.used p.layers (λ n k. k) (λ n k. k) (λ n k. k) h.layers;
  distinct = h.distinct;
  nested = h.nested;
  values = in';
}

-- the effects of the layers are there
effects-known : (props : Props) (used : List ℕ) (ls : List PageLayer) → AllByRecursion (IsLayer props used) ls → AllByRecursion (λ e. is_known e props.effects ≡ true) (map (λ l. l.effect) ls)
effects-known props used [] all = tt
effects-known props used (l ∷ ls) all = (all.0.effect, effects-known props used ls all.1)

after-add_effect : (p : Page) (id parent opacity : ℕ) → IsPage p → test_of p (command.AddEffect (record { id = id; parent = parent; opacity = opacity })) ≡ Ok tt → IsPage (page_after_command p (command.AddEffect (record { id = id; parent = parent; opacity = opacity })))
unfolding test_of takes
after-add_effect p id parent opacity h ok =
    let known = passed (require (is_known parent p.props.effects) fault.UnknownId) _ tt ok in
    let rest = passed (takes id p.props.effects) _ tt known.2 in
    let new = passed (require (not (knows id p.props.effects)) fault.IdUsed) _ tt rest.1 in
    after-effects p ((id, record { parent = parent; opacity = opacity }) ∷ p.props.effects) (λ n. is_known-more n id (record { parent = parent; opacity = opacity }) p.props.effects)
    (nested-more id (record { parent = parent; opacity = opacity }) p.props.effects (map (λ l. l.effect) p.layers) (add_effect_facts p id parent opacity ok).0.id_low (is_not (knows id p.props.effects) (held (not (knows id p.props.effects)) fault.IdUsed new.1)) (effects-known p.props p.used p.layers h.layers) h.nested)
    h

-- ---- the scroll values

-- a place clamped in a scroller's range is in it
clamped_in_range : (id : ℕ) (x y : ℤ) (ss : List (ℕ × ScrollNode)) (n : ScrollNode) → n.max_x ≤ 1048576 → n.max_y ≤ 1048576 → find id ss ≡ Some n → IsInRange n.max_x (clamped_in (find id ss) x y).x × IsInRange n.max_y (clamped_in (find id ss) x y).y
clamped_in_range id x y ss n across down found =
    subst (λ (o : Option ScrollNode). IsInRange n.max_x (clamped_in o x y).x × IsInRange n.max_y (clamped_in o x y).y) (sym found) (in_range_clamped n.max_x x across, in_range_clamped n.max_y y down)

pub after-scrolled : (p : Page) (id : ℕ) (x y : ℤ) → IsPage p → IsPage (scrolled_to p id x y)
after-scrolled p id x y h = record {
  view = h.view;
  few = h.few;
  layers = h.layers;
  distinct = h.distinct;
  nested = h.nested;
  values = values-set id (clamped_in (find id p.props.scrollers) x y) p.props.scrollers p.values (λ n found. let old = values-in_range id n p.props.scrollers p.values h.values found in clamped_in_range id x y p.props.scrollers n old.0.bounded old.1.bounded found) h.values;
}

after-set_range : (p : Page) (id max_x max_y : ℕ) → IsPage p → test_of p (command.SetRange (record { id = id; max_x = max_x; max_y = max_y })) ≡ Ok tt → IsPage (page_after_command p (command.SetRange (record { id = id; max_x = max_x; max_y = max_y })))
unfolding test_of
after-set_range p id max_x max_y h ok =
    let known = passed (require (knows id p.props.scrollers) fault.UnknownId) _ tt ok in
    let node = known_found id p.props.scrollers (held (knows id p.props.scrollers) fault.UnknownId known.1) in
    let size = scroll_range_facts max_x max_y known.2 in
    let ranges : List (ℕ × ScrollNode) = entries.with_node_changed id (λ n. record n { max_x = max_x; max_y = max_y }) p.props.scrollers in
    let fits = clamped_in_range id (main_point p id).x (main_point p id).y ranges (record node.0 { max_x = max_x; max_y = max_y }) size.0 size.1 (found-changed id (λ n. record n { max_x = max_x; max_y = max_y }) p.props.scrollers node.0 node.1) in
    after-scrollers p ranges _ (values-ranged id max_x max_y (clamped_in (find id ranges) (main_point p id).x (main_point p id).y) p.props.scrollers p.values fits.0 fits.1 h.values) h

after-add_scroller : (p : Page) (id parent max_x max_y : ℕ) → IsPage p → test_of p (command.AddScroller (record { id = id; parent = parent; max_x = max_x; max_y = max_y })) ≡ Ok tt → IsPage (page_after_command p (command.AddScroller (record { id = id; parent = parent; max_x = max_x; max_y = max_y })))
unfolding test_of
after-add_scroller p id parent max_x max_y h ok =
    let known = passed (require (is_known parent p.props.scrollers) fault.UnknownId) _ tt ok in
    let new = passed (takes id p.props.scrollers) _ tt known.2 in
    let size = scroll_range_facts max_x max_y new.2 in
    after-scrollers p _ _ (refl, in_range_origin max_x size.0, in_range_origin max_y size.1, h.values) h

-- ---- the layers

-- a layer that keeps its id, its named nodes and has a size in range
after-layer : (p : Page) (id : ℕ) (f : PageLayer → PageLayer) → ((l : PageLayer) → (f l).id ≡ l.id) → ((l : PageLayer) → (f l).effect ≡ l.effect) → ((l : PageLayer) → IsLayer p.props p.used l → IsLayer p.props p.used (f l)) → IsPage p → IsPage (with_layer_changed p id f)
after-layer p id f ids effects fits h = record {
  view = h.view;
  few = omega (arith, h.few, length-changed (has_id id) f p.layers);
  layers = each-changed (IsLayer p.props p.used) (has_id id) f fits p.layers h.layers;
  distinct = distinct-changed (has_id id) f ids p.layers h.distinct;
  nested = subst (λ (es : List ℕ). AreNested p.props.effects es) (sym (view-changed (λ l. l.effect) (has_id id) f effects p.layers)) h.nested;
  values = h.values;
}

after-resize_layer : (p : Page) (id w h : ℕ) → IsPage p → test_of p (command.ResizeLayer (record { id = id; w = w; h = h })) ≡ Ok tt → IsPage (page_after_command p (command.ResizeLayer (record { id = id; w = w; h = h })))
unfolding test_of
after-resize_layer p id w h' h ok =
    let known = passed (require (has_layer id p.layers) fault.UnknownId) _ tt ok in
    after-layer p id (with_size w h') (λ l. refl) (λ l. refl) (λ l k. record { transform = k.transform; clip = k.clip; effect = k.effect; id_used = k.id_used; id = k.id; size = known.2 }) h

-- a layer that keeps all but its colour and its items
after-shown : (p : Page) (id : ℕ) (f : PageLayer → PageLayer) → IsPage p → IsPage (with_layer_changed p id (λ l. record l { colour = (f l).colour; items = (f l).items }))
after-shown p id f h = after-layer p id (λ l. record l { colour = (f l).colour; items = (f l).items }) (λ l. refl) (λ l. refl) (λ l k. record { transform = k.transform; clip = k.clip; effect = k.effect; id_used = k.id_used; id = k.id; size = k.size }) h

after-remove_layer : (p : Page) (id : ℕ) → IsPage p → IsPage (page_after_command p (command.RemoveLayer (record { id = id })))
after-remove_layer p id h = record {
  view = h.view;
  few = omega (arith, h.few, length-without (has_id id) p.layers);
  layers = each-without (IsLayer p.props p.used) (has_id id) p.layers h.layers;
  distinct = distinct-without (has_id id) p.layers h.distinct;
  nested = nested-without p.props.effects (has_id id) p.layers h.nested;
  values = h.values;
}

after-move_layer : (p : Page) (id at : ℕ) → IsPage p → test_of p (command.MoveLayer (record { id = id; at = at })) ≡ Ok tt → StandTogether (page_after_command p (command.MoveLayer (record { id = id; at = at }))) → IsPage (page_after_command p (command.MoveLayer (record { id = id; at = at })))
unfolding test_of
after-move_layer p id at h ok stand =
    let known = passed (require (has_layer id p.layers) fault.UnknownId) _ tt ok in
    let below : nat_lt at (length p.layers) ≡ true = held (nat_lt at (length p.layers)) fault.BadPlace known.2 in
    record {
      view = h.view;
      few = length-moved id at 64 p.layers (grind (arith, nat_tests, below)) h.few;
      layers = each-moved (IsLayer p.props p.used) id at p.layers h.layers;
      distinct = distinct-moved id at p.layers h.distinct;
      nested = stand;
      values = h.values;
    }

after-add_layer : (p : Page) (l : PageLayer) (at : ℕ) → IsPage p → test_of p (command.AddLayer (record { id = l.id; at = at; transform = l.transform; clip = l.clip; effect = l.effect; w = l.w; h = l.h; colour = l.colour })) ≡ Ok tt → AreNested p.props.effects (map (λ k. k.effect) (insert p.layers at l)) → IsPage (record p { layers = insert p.layers at l; used = p.used ++ l.id ∷ [] })
unfolding test_of
after-add_layer p l at h ok stand =
    let known = passed (require (is_known l.transform p.props.transforms && is_known l.clip p.props.clips && is_known l.effect p.props.effects) fault.UnknownId) _ tt ok in
    let unused = passed (require (not (list_any (λ id. id == l.id) p.used)) fault.IdUsed) _ tt known.2 in
    let place = passed (require (nat_le at (length p.layers)) fault.BadPlace) _ tt unused.2 in
    let few = passed (require (nat_lt (length p.layers) 64) (fault.TooMany 64)) _ tt place.2 in
    let id = passed (is_id l.id) _ tt few.2 in
    let names = both (is_known l.transform p.props.transforms && is_known l.clip p.props.clips) (is_known l.effect p.props.effects) (held _ fault.UnknownId known.1) in
    let first = both (is_known l.transform p.props.transforms) (is_known l.clip p.props.clips) names.0 in
    let below : nat_le at (length p.layers) ≡ true = held (nat_le at (length p.layers)) fault.BadPlace place.1 in
    let room : nat_lt (length p.layers) 64 ≡ true = held (nat_lt (length p.layers) 64) (fault.TooMany 64) few.1 in
    let at_le : at ≤ length p.layers = grind (arith, nat_tests, below) in
    let len_lt : length p.layers < 64 = grind (arith, nat_tests, room) in
    record {
      view = h.view;
      few = omega (arith, len_lt, length-insert p.layers at l at_le);
      layers = each-insert (IsLayer p.props (p.used ++ l.id ∷ [])) p.layers at l (record { transform = first.0; clip = first.1; effect = names.1; id_used = used-new l.id p.used; id = id.1; size = id.2 }) (each-weaker (IsLayer p.props p.used) (IsLayer p.props (p.used ++ l.id ∷ [])) (λ k f. record { transform = f.transform; clip = f.clip; effect = f.effect; id_used = used-more k.id l.id p.used f.id_used; id = f.id; size = f.size }) p.layers h.layers);
      distinct = distinct-insert l p.layers at (unused-absent p.props p.used l.id p.layers (is_not (is_used l.id p.used) (held (not (is_used l.id p.used)) fault.IdUsed unused.1)) h.layers) h.distinct;
      nested = stand;
      values = h.values;
    }

after-set_view : (p : Page) (w h tile : ℕ) → IsPage p → test_of p (command.SetView (record { w = w; h = h; tile = tile })) ≡ Ok tt → IsPage (page_after_command p (command.SetView (record { w = w; h = h; tile = tile })))
after-set_view p w h tile k ok = record {
  view = view_facts p w h tile ok;
  few = k.few;
  layers = k.layers;
  distinct = k.distinct;
  nested = k.nested;
  values = k.values;
}

-- a page stays a page
pub after-keeps : (p : Page) (c : Command) → IsPage p → test_of p c ≡ Ok tt → (may_part c ≡ true → StandTogether (page_after_command p c)) → IsPage (page_after_command p c)
after-keeps p (command.AddTransform c) h ok stand = after-transforms p _ (λ n. is_known-more n c.id (record { parent = c.parent; x = c.x; y = c.y; scroller = c.scroller }) p.props.transforms) h
after-keeps p (command.SetTransform c) h ok stand = after-transforms p _ (λ n. is_known-changed n c.id (λ t. record t { x = c.x; y = c.y }) p.props.transforms) h
after-keeps p (command.AddClip c) h ok stand = after-clips p _ (λ n. is_known-more n c.id (record { parent = c.parent; transform = c.transform; rect = c.rect }) p.props.clips) h
after-keeps p (command.SetClip k) h ok stand = after-clips p _ (λ n. is_known-changed n k.id (λ c. record c { rect = k.rect }) p.props.clips) h
after-keeps p (command.AddEffect c) h ok stand = after-add_effect p c.id c.parent c.opacity h ok
after-keeps p (command.SetOpacity c) h ok stand = after-effects p _ (λ n. is_known-changed n c.id (λ e. record e { opacity = c.opacity }) p.props.effects) (nested-changed c.id c.opacity p.props.effects (map (λ l. l.effect) p.layers) h.nested) h
after-keeps p (command.AddScroller c) h ok stand = after-add_scroller p c.id c.parent c.max_x c.max_y h ok
after-keeps p (command.SetRange c) h ok stand = after-set_range p c.id c.max_x c.max_y h ok
after-keeps p (command.ScrollBy c) h ok stand = after-scrolled p c.id _ _ h
after-keeps p (command.ScrollTo c) h ok stand = after-scrolled p c.id _ _ h
after-keeps p (command.AddLayer c) h ok stand = after-add_layer p _ c.at h ok (stand refl)
after-keeps p (command.RemoveLayer c) h ok stand = after-remove_layer p c.id h
after-keeps p (command.ResizeLayer c) h ok stand = after-resize_layer p c.id c.w c.h h ok
after-keeps p (command.SetColour c) h ok stand = after-shown p c.id (with_colour c.colour) h
after-keeps p (command.InsertItem c) h ok stand = after-shown p c.layer (with_items (λ items. insert items c.at c.item)) h
after-keeps p (command.RemoveItem c) h ok stand = after-shown p c.layer (with_items (λ items. remove items c.at)) h
after-keeps p (command.ReplaceItem c) h ok stand = after-shown p c.layer (with_items (λ items. slice_set items c.at c.item)) h
after-keeps p (command.MoveLayer c) h ok stand = after-move_layer p c.id c.at h ok (stand refl)
after-keeps p (command.SetView c) h ok stand = after-set_view p c.w c.h c.tile h ok

-- a page without layers and scrollers
pub empty-page : (p : Page) → IsView p.view → p.layers ≡ [] → p.values ≡ [] → p.props.scrollers ≡ [] → IsPage p
empty-page p view layers values scrollers = record {
  view = view;
  few = subst (λ (ls : List PageLayer). length ls ≤ 64) (sym layers) (omega arith);
  layers = subst (λ (ls : List PageLayer). AllByRecursion (IsLayer p.props p.used) ls) (sym layers) tt;
  distinct = subst AreDistinctLayers (sym layers) tt;
  nested = subst (λ (ls : List PageLayer). AreNested p.props.effects (map (λ l. l.effect) ls)) (sym layers) (λ e i j k ij jk kl first last. absurd (omega (arith, kl)));
  values = subst (λ (ss : List (ℕ × ScrollNode)). AreInRange ss p.values) (sym scrollers) (subst (λ (vs : List (ℕ × Point)). AreInRange [] vs) (sym values) tt);
}
