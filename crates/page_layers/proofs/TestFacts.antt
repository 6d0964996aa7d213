-- What a command's tests tell where they passed.
use Rattle.std.proofs.Common.{ℕ, ℤ, pos, ◌≡◌, ◌<◌, ◌≤◌, Bool, true, false, not, cond, ◌&&◌, Result, Ok, Err, List, length, refl, sym, subst, arith}
use Rattle.std.specs.Prelude.{⊤, neg_ℤ, ◌≤ℤ◌, int_lt, nat_lt, nat_le, find, ◌==◌, IfSome, Option, Some, None}
use Rattle.std.specs.List.{list_any}
use Rattle.std.proofs.lemmas.Int.{ints}
use Rattle.std.proofs.lemmas.Bool.Decides.{nat_tests}
use Rattle.geom.specs.declared.rect.Point.{Point}
use Rattle.geom.specs.declared.rect.Rect.{Rect}
use Rattle.geom.specs.Covers.{IsSound}
use Rattle.page_properties.specs.Entries.{knows, is_known}
use Rattle.page_properties.specs.Trees.{IsNearParent, IsClipRect, MayJoinTransforms, MayJoinClips, MayJoinEffects, MayJoinScrollers}
use Rattle.page_display_list.specs.declared.item.Item.{Item}
use Rattle.page_display_list.specs.Content.{rect_of_item}
use Rattle.page_layers.specs.declared.command.Command.{Command}
use Rattle.page_layers.specs.declared.command.Command.TheVariants as command
use Rattle.page_layers.specs.declared.fault.EditFault.{EditFault}
use Rattle.page_layers.specs.declared.fault.EditFault.TheVariants as fault
use Rattle.page_layers.specs.Tests.{◌>>=◌, require, check_range, is_id}
use Rattle.page_layers.specs.Pages.{Page, IsView}
use Rattle.page_layers.specs.Layers.{PageLayer, has_id}
use Rattle.page_layers.specs.Refusals.{is_offset, is_clip_rect, is_item_rect, is_scroll_range, takes, item_count, test_of, has_layer}
use Rattle.page_layers.specs.IfThere.{count_in}

-- both tests of a chain passed
pub passed : {A B : Type 0} (r : Result A EditFault) (k : A → Result B EditFault) (y : B) → (r >>= k) ≡ Ok y → (x : A) × (r ≡ Ok x) × (k x ≡ Ok y)
passed (Ok x) k y e = (x, refl, e)
passed (Err f) k y e = absurd (cc)

-- the condition of a test that passed
pub held : (b : Bool) (f : EditFault) → require b f ≡ Ok tt → b ≡ true
held true f e = refl
held false f e = absurd (cc)

-- both parts of a condition
pub both : (a b : Bool) → (a && b) ≡ true → (a ≡ true) × (b ≡ true)
both true b h = (refl, h)
both false b h = absurd (cc)

pub is_not : (b : Bool) → not b ≡ true → b ≡ false
is_not true h = absurd (cc)
is_not false h = refl

-- ---- ranges

-- a number that does not pass the end of a range
below_end : (z high : ℤ) (b : Bool) (f : EditFault) (r : Result ⊤ EditFault) → int_lt high z ≡ b → r ≡ Ok tt → cond b (Err f) r ≡ Ok tt → z ≤ℤ high
below_end z high true f r e same ok = absurd (cc)
below_end z high false f r e same ok = grind (arith, ints, e)

above_start : (z low : ℤ) (b : Bool) (f : EditFault) (r : Result ⊤ EditFault) → int_lt z low ≡ b → cond b (Err f) r ≡ Ok tt → (low ≤ℤ z) × (r ≡ Ok tt)
above_start z low true f r e ok = absurd (cc)
above_start z low false f r e ok = (grind (arith, ints, e), ok)

-- a number in a range
pub range_facts : (z low high : ℤ) → check_range z low high ≡ Ok tt → (low ≤ℤ z) × (z ≤ℤ high)
unfolding check_range
range_facts z low high ok =
    let first = above_start z low (int_lt z low) (fault.OutOfRange z low) (cond (int_lt high z) (Err (fault.OutOfRange z high)) (Ok tt)) refl ok in
    (first.0, below_end z high (int_lt high z) (fault.OutOfRange z high) (Ok tt) refl refl first.1)

-- a number without a sign in a range
pub count_facts : (n low high : ℕ) → check_range (pos n) (pos low) (pos high) ≡ Ok tt → (low ≤ n) × (n ≤ high)
count_facts n low high ok = let r = range_facts (pos n) (pos low) (pos high) ok in (omega (arith, ints, r.0), omega (arith, ints, r.1))

pub scroll_range_facts : (x y : ℕ) → is_scroll_range x y ≡ Ok tt → (x ≤ 1048576) × (y ≤ 1048576)
unfolding is_scroll_range
scroll_range_facts x y ok =
    let first = passed (check_range (pos x) (pos 0) (pos 1048576)) _ tt ok in
    ((count_facts x 0 1048576 first.1).1, (count_facts y 0 1048576 first.2).1)

offset_facts : (x y : ℤ) → is_offset x y ≡ Ok tt → IsNearParent x × IsNearParent y
unfolding is_offset
offset_facts x y ok =
    let first = passed (check_range x (neg_ℤ (pos 65536)) (pos 65536)) _ tt ok in
    let a = range_facts x (neg_ℤ (pos 65536)) (pos 65536) first.1 in
    let b = range_facts y (neg_ℤ (pos 65536)) (pos 65536) first.2 in
    (record { low = a.0; high = a.1 }, record { low = b.0; high = b.1 })

clip_rect_facts : (r : Rect) → is_clip_rect r ≡ Ok tt → IsClipRect r
unfolding is_clip_rect
clip_rect_facts r ok =
    let first = passed (check_range r.x (neg_ℤ (pos 65536)) (pos 65536)) _ tt ok in
    let second = passed (check_range r.y (neg_ℤ (pos 65536)) (pos 65536)) _ tt first.2 in
    let third = passed (check_range r.w (pos 0) (pos 65536)) _ tt second.2 in
    let a = range_facts r.x (neg_ℤ (pos 65536)) (pos 65536) first.1 in
    let b = range_facts r.y (neg_ℤ (pos 65536)) (pos 65536) second.1 in
    let c = range_facts r.w (pos 0) (pos 65536) third.1 in
    let d = range_facts r.h (pos 0) (pos 65536) third.2 in
    record { across = record { low = a.0; high = a.1 }; down = record { low = b.0; high = b.1 }; width = record { low = c.0; high = c.1 }; height = record { low = d.0; high = d.1 } }

-- the rect of an item in its range is sound
pub item_rect_facts : (r : Rect) → is_item_rect r ≡ Ok tt → IsSound r
unfolding is_item_rect
item_rect_facts r ok =
    let first = passed (check_range r.x (neg_ℤ (pos 16384)) (pos 16384)) _ tt ok in
    let second = passed (check_range r.y (neg_ℤ (pos 16384)) (pos 16384)) _ tt first.2 in
    let third = passed (check_range r.w (pos 1) (pos 16384)) _ tt second.2 in
    let a = range_facts r.x (neg_ℤ (pos 16384)) (pos 16384) first.1 in
    let b = range_facts r.y (neg_ℤ (pos 16384)) (pos 16384) second.1 in
    let c = range_facts r.w (pos 1) (pos 16384) third.1 in
    let d = range_facts r.h (pos 1) (pos 16384) third.2 in
    record {
      across = record { from_low = omega (arith, ints, a.0, a.1); from_high = omega (arith, ints, a.0, a.1); length_low = omega (arith, ints, c.0, c.1); length_high = omega (arith, ints, c.0, c.1) };
      down = record { from_low = omega (arith, ints, b.0, b.1); from_high = omega (arith, ints, b.0, b.1); length_low = omega (arith, ints, d.0, d.1); length_high = omega (arith, ints, d.0, d.1) };
    }

-- ---- nodes

-- a family that takes a node
record Takes {N : Type 0} (id : ℕ) (nodes : List (ℕ × N)) : Type 0 where
  pub fresh : knows id nodes ≡ false
  pub few : length nodes < 256
  pub low : 1 ≤ id
  pub high : id ≤ 65535

takes_facts : {N : Type 0} (id : ℕ) (nodes : List (ℕ × N)) → takes id nodes ≡ Ok tt → Takes id nodes
unfolding takes is_id
takes_facts id nodes ok =
    let new = passed (require (not (knows id nodes)) fault.IdUsed) _ tt ok in
    let room = passed (require (nat_lt (length nodes) 256) (fault.TooMany 256)) _ tt new.2 in
    let few : nat_lt (length nodes) 256 ≡ true = held (nat_lt (length nodes) 256) (fault.TooMany 256) room.1 in
    let range = count_facts id 1 65535 room.2 in
    record { fresh = is_not (knows id nodes) (held (not (knows id nodes)) fault.IdUsed new.1); few = grind (arith, nat_tests, few); low = range.0; high = range.1 }

pub add_transform_facts : (p : Page) (id parent : ℕ) (x y : ℤ) (scroller : ℕ) → test_of p (command.AddTransform (record { id = id; parent = parent; x = x; y = y; scroller = scroller })) ≡ Ok tt
    → MayJoinTransforms id (record { parent = parent; x = x; y = y; scroller = scroller }) p.props.transforms × (is_known scroller p.props.scrollers ≡ true)
unfolding test_of
add_transform_facts p id parent x y scroller ok =
    let known = passed (require (is_known parent p.props.transforms && is_known scroller p.props.scrollers) fault.UnknownId) _ tt ok in
    let names = both (is_known parent p.props.transforms) (is_known scroller p.props.scrollers) (held _ fault.UnknownId known.1) in
    let new = passed (takes id p.props.transforms) _ tt known.2 in
    let t = takes_facts id p.props.transforms new.1 in
    let near = offset_facts x y new.2 in
    (record { fresh = t.fresh; id_low = t.low; id_high = t.high; few = t.few; parent_known = names.0; in_range = record { across = near.0; down = near.1 } }, names.1)

pub set_transform_facts : (p : Page) (id : ℕ) (x y : ℤ) → test_of p (command.SetTransform (record { id = id; x = x; y = y })) ≡ Ok tt → (knows id p.props.transforms ≡ true) × IsNearParent x × IsNearParent y
unfolding test_of
set_transform_facts p id x y ok =
    let known = passed (require (knows id p.props.transforms) fault.UnknownId) _ tt ok in
    let near = offset_facts x y known.2 in
    (held (knows id p.props.transforms) fault.UnknownId known.1, near.0, near.1)

pub add_clip_facts : (p : Page) (id parent transform : ℕ) (rect : Rect) → test_of p (command.AddClip (record { id = id; parent = parent; transform = transform; rect = rect })) ≡ Ok tt
    → MayJoinClips id (record { parent = parent; transform = transform; rect = rect }) p.props.clips × (is_known transform p.props.transforms ≡ true)
unfolding test_of
add_clip_facts p id parent transform rect ok =
    let known = passed (require (is_known parent p.props.clips && is_known transform p.props.transforms) fault.UnknownId) _ tt ok in
    let names = both (is_known parent p.props.clips) (is_known transform p.props.transforms) (held _ fault.UnknownId known.1) in
    let new = passed (takes id p.props.clips) _ tt known.2 in
    let t = takes_facts id p.props.clips new.1 in
    (record { fresh = t.fresh; id_low = t.low; id_high = t.high; few = t.few; parent_known = names.0; in_range = clip_rect_facts rect new.2 }, names.1)

pub set_clip_facts : (p : Page) (id : ℕ) (rect : Rect) → test_of p (command.SetClip (record { id = id; rect = rect })) ≡ Ok tt → (knows id p.props.clips ≡ true) × IsClipRect rect
unfolding test_of
set_clip_facts p id rect ok =
    let known = passed (require (knows id p.props.clips) fault.UnknownId) _ tt ok in
    (held (knows id p.props.clips) fault.UnknownId known.1, clip_rect_facts rect known.2)

pub add_effect_facts : (p : Page) (id parent opacity : ℕ) → test_of p (command.AddEffect (record { id = id; parent = parent; opacity = opacity })) ≡ Ok tt
    → MayJoinEffects id (record { parent = parent; opacity = opacity }) p.props.effects × (opacity ≤ 255)
unfolding test_of
add_effect_facts p id parent opacity ok =
    let known = passed (require (is_known parent p.props.effects) fault.UnknownId) _ tt ok in
    let new = passed (takes id p.props.effects) _ tt known.2 in
    let t = takes_facts id p.props.effects new.1 in
    let range = count_facts opacity 0 255 new.2 in
    (record { fresh = t.fresh; id_low = t.low; id_high = t.high; few = t.few; parent_known = held (is_known parent p.props.effects) fault.UnknownId known.1; in_range = tt }, range.1)

pub set_opacity_facts : (p : Page) (id opacity : ℕ) → test_of p (command.SetOpacity (record { id = id; opacity = opacity })) ≡ Ok tt → (knows id p.props.effects ≡ true) × (opacity ≤ 255)
unfolding test_of
set_opacity_facts p id opacity ok =
    let known = passed (require (knows id p.props.effects) fault.UnknownId) _ tt ok in
    (held (knows id p.props.effects) fault.UnknownId known.1, (count_facts opacity 0 255 known.2).1)

pub add_scroller_facts : (p : Page) (id parent max_x max_y : ℕ) → test_of p (command.AddScroller (record { id = id; parent = parent; max_x = max_x; max_y = max_y })) ≡ Ok tt
    → MayJoinScrollers id (record { parent = parent; max_x = max_x; max_y = max_y }) p.props.scrollers
unfolding test_of
add_scroller_facts p id parent max_x max_y ok =
    let known = passed (require (is_known parent p.props.scrollers) fault.UnknownId) _ tt ok in
    let new = passed (takes id p.props.scrollers) _ tt known.2 in
    let t = takes_facts id p.props.scrollers new.1 in
    let size = scroll_range_facts max_x max_y new.2 in
    record { fresh = t.fresh; id_low = t.low; id_high = t.high; few = t.few; parent_known = held (is_known parent p.props.scrollers) fault.UnknownId known.1; in_range = record { across = size.0; down = size.1 } }

pub set_range_facts : (p : Page) (id max_x max_y : ℕ) → test_of p (command.SetRange (record { id = id; max_x = max_x; max_y = max_y })) ≡ Ok tt → (knows id p.props.scrollers ≡ true) × (max_x ≤ 1048576) × (max_y ≤ 1048576)
unfolding test_of
set_range_facts p id max_x max_y ok =
    let known = passed (require (knows id p.props.scrollers) fault.UnknownId) _ tt ok in
    let size = scroll_range_facts max_x max_y known.2 in
    (held (knows id p.props.scrollers) fault.UnknownId known.1, size.0, size.1)

-- ---- items

-- what is found has the given number of items
count_found : (o : Option PageLayer) (n : ℕ) (P : ℕ → Type 0) → count_in o ≡ Ok n → P n → IfSome o (λ l. P (length l.items))
count_found None n P e h = absurd (cc)
count_found (Some l) n P e h = let same : length l.items ≡ n = cc in subst P (sym same) h

pub insert_item_facts : (p : Page) (layer at : ℕ) (item : Item) → test_of p (command.InsertItem (record { layer = layer; at = at; item = item })) ≡ Ok tt → IfSome (find (has_id layer) p.layers) (λ l. (at ≤ length l.items) × (length l.items < 256)) × IsSound (rect_of_item item)
unfolding test_of
insert_item_facts p layer at item ok =
    let count = passed (item_count layer p.layers) _ tt ok in
    let place = passed (require (nat_le at count.0) fault.BadPlace) _ tt count.2 in
    let room = passed (require (nat_lt count.0 256) (fault.TooMany 256)) _ tt place.2 in
    let below : nat_le at count.0 ≡ true = held (nat_le at count.0) fault.BadPlace place.1 in
    let few : nat_lt count.0 256 ≡ true = held (nat_lt count.0 256) (fault.TooMany 256) room.1 in
    let a : at ≤ count.0 = grind (arith, nat_tests, below) in
    let b : count.0 < 256 = grind (arith, nat_tests, few) in
    (count_found (find (has_id layer) p.layers) count.0 (λ (n : ℕ). (at ≤ n) × (n < 256)) count.1 (a, b), item_rect_facts (rect_of_item item) room.2)

pub remove_item_facts : (p : Page) (layer at : ℕ) → test_of p (command.RemoveItem (record { layer = layer; at = at })) ≡ Ok tt → IfSome (find (has_id layer) p.layers) (λ l. at < length l.items)
unfolding test_of
remove_item_facts p layer at ok =
    let count = passed (item_count layer p.layers) _ tt ok in
    let below : nat_lt at count.0 ≡ true = held (nat_lt at count.0) fault.BadPlace count.2 in
    let a : at < count.0 = grind (arith, nat_tests, below) in
    count_found (find (has_id layer) p.layers) count.0 (λ (n : ℕ). at < n) count.1 a

pub replace_item_facts : (p : Page) (layer at : ℕ) (item : Item) → test_of p (command.ReplaceItem (record { layer = layer; at = at; item = item })) ≡ Ok tt → IfSome (find (has_id layer) p.layers) (λ l. at < length l.items) × IsSound (rect_of_item item)
unfolding test_of
replace_item_facts p layer at item ok =
    let count = passed (item_count layer p.layers) _ tt ok in
    let place = passed (require (nat_lt at count.0) fault.BadPlace) _ tt count.2 in
    let below : nat_lt at count.0 ≡ true = held (nat_lt at count.0) fault.BadPlace place.1 in
    let a : at < count.0 = grind (arith, nat_tests, below) in
    (count_found (find (has_id layer) p.layers) count.0 (λ (n : ℕ). at < n) count.1 a, item_rect_facts (rect_of_item item) place.2)

pub view_facts : (p : Page) (w h tile : ℕ) → test_of p (command.SetView (record { w = w; h = h; tile = tile })) ≡ Ok tt → IsView (record { w = w; h = h; tile = tile })
unfolding test_of
view_facts p w h tile ok =
    let first = passed (check_range (pos w) (pos 1) (pos 2048)) _ tt ok in
    let second = passed (check_range (pos h) (pos 1) (pos 2048)) _ tt first.2 in
    let a = count_facts w 1 2048 first.1 in
    let b = count_facts h 1 2048 second.1 in
    let c = count_facts tile 16 256 second.2 in
    record { w_low = a.0; w_high = a.1; h_low = b.0; h_high = b.1; tile_low = c.0; tile_high = c.1 }

pub move_layer_facts : (p : Page) (id at : ℕ) → test_of p (command.MoveLayer (record { id = id; at = at })) ≡ Ok tt → at < length p.layers
unfolding test_of
move_layer_facts p id at ok =
    let known = passed (require (has_layer id p.layers) fault.UnknownId) _ tt ok in
    let below : nat_lt at (length p.layers) ≡ true = held (nat_lt at (length p.layers)) fault.BadPlace known.2 in
    grind (arith, nat_tests, below)

pub add_layer_facts : (p : Page) (l : PageLayer) (at : ℕ) → test_of p (command.AddLayer (record { id = l.id; at = at; transform = l.transform; clip = l.clip; effect = l.effect; w = l.w; h = l.h; colour = l.colour })) ≡ Ok tt → at ≤ length p.layers
unfolding test_of
add_layer_facts p l at ok =
    let known = passed (require (is_known l.transform p.props.transforms && is_known l.clip p.props.clips && is_known l.effect p.props.effects) fault.UnknownId) _ tt ok in
    let unused = passed (require (not (list_any (λ id. id == l.id) p.used)) fault.IdUsed) _ tt known.2 in
    let place = passed (require (nat_le at (length p.layers)) fault.BadPlace) _ tt unused.2 in
    let below : nat_le at (length p.layers) ≡ true = held (nat_le at (length p.layers)) fault.BadPlace place.1 in
    grind (arith, nat_tests, below)

-- ---- main values

-- a page takes the same commands whatever its main values are
pub test_values : (p : Page) (vs : List (ℕ × Point)) (c : Command) → test_of (record p { values = vs }) c ≡ test_of p c
unfolding test_of
test_values p vs (command.AddTransform c) = refl
test_values p vs _ = refl
