-- What the commands of a frame do not list they do not change: sizes, items and the tile size.
use Rattle.std.proofs.Common.{ℕ, ◌≡◌, ◌==◌, nat_eq, nat_lt, Bool, true, false, cond, not, ◌&&◌, ◌||◌, Option, Some, None, List, [], ◌∷◌, refl, ap, sym, ◌∙◌, eqb-true}
use Rattle.std.specs.Prelude.{option_map, is_some}
use Rattle.std.specs.List.{find}
use Rattle.page_display_list.specs.declared.item.Item.{Item}
use Rattle.region.specs.declared.change.LayerChange.{LayerChange}
use Rattle.region.specs.Lists.{Changed, is_listed, is_listed_whole, without_layer}
use Rattle.page_layers.specs.declared.command.Command.{Command}
use Rattle.page_layers.specs.declared.command.Command.TheVariants as command
use Rattle.page_layers.specs.Layers.{PageLayer, has_id, with_size, with_colour, with_items}
use Rattle.page_layers.specs.Lists as layers
use Rattle.page_layers.specs.Pages.{Page}
use Rattle.page_layers.specs.Refusals.{has_layer}
use Rattle.page_layers.specs.Sound.{AreDistinctLayers, IsPage}
use Rattle.page_layers.specs.Effects.{Change, page_after_command, layer_change_of, retiles, commanded}
use Rattle.page_layers.specs.Contents.{size_of, is_changed_whole, KeepsTheRest}
use Rattle.page_layers.proofs.LayerKeeps.{absent-taken, absent-without}
use Rattle.page_layers.proofs.FoundLayers.{found-insert, found-without, found-other, found-here, found-moved}
use Rattle.page_layers.proofs.Unlisted.{unlisted_stays}
use Rattle.model_history.specs.Accepted.{TakesAll}
use Rattle.model_history.specs.Stamps.{with_later, alone, with_change, with_some, with_command, changed_by}
use Rattle.model_history.proofs.BarePages.{with_next}
use Rattle.model_history.proofs.BoolFacts.{not_both, is_false, or_left_false, or_right_false, not_false}
use Rattle.model_history.proofs.ScriptPages.{page_after}
use Rattle.model_steps.specs.Pages.{items_of}

-- ---- lists with one change more

or_nothing : (b : Bool) → b || false ≡ b
or_nothing true = refl
or_nothing false = refl

both_whole : (x a c w : Bool) → (x && (a || c)) || w ≡ ((x && a) || w) || (x && c)
both_whole false a c true = refl
both_whole false a c false = refl
both_whole true true c w = refl
both_whole true false true true = refl
both_whole true false true false = refl
both_whole true false false w = sym (or_nothing w)

same_twice : (x w : Bool) → x || w ≡ (x || w) || x
same_twice true w = refl
same_twice false w = sym (or_nothing w)

or_last : (p w y : Bool) → p || (w || y) ≡ (p || w) || y
or_last true w y = refl
or_last false w y = refl

or_first : (y p w : Bool) → y || (p || w) ≡ (p || w) || y
or_first true true w = refl
or_first true false true = refl
or_first true false false = refl
or_first false p w = sym (or_nothing (p || w))

same_test : (a b n : ℕ) → (a == b) ≡ true → nat_eq a n ≡ nat_eq b n
same_test a b n e = ap (λ (m : ℕ). nat_eq m n) (eqb-true a b e)

whole_change : (c : Change) (ds : List LayerChange) (id : ℕ) → is_listed_whole (with_change c ds) id ≡ is_listed_whole ds id || ((c.layer == id) && c.whole)
whole_change c [] id = or_nothing ((c.layer == id) && c.whole)
whole_change c (d ∷ ds) id = go (d.layer == c.layer) refl (nat_lt d.layer c.layer) (whole_change c ds id)
  where
    go : (a : Bool) → (d.layer == c.layer) ≡ a → (b : Bool) → is_listed_whole (with_change c ds) id ≡ is_listed_whole ds id || ((c.layer == id) && c.whole)
        → is_listed_whole (cond a (with_later d c ∷ ds) (cond b (d ∷ with_change c ds) (alone c ∷ d ∷ ds))) id ≡ ((nat_eq d.layer id && d.whole) || is_listed_whole ds id) || ((c.layer == id) && c.whole)
    go true e b rest =
        both_whole (nat_eq d.layer id) d.whole c.whole (is_listed_whole ds id)
        ∙ ap (λ (x : Bool). ((nat_eq d.layer id && d.whole) || is_listed_whole ds id) || (x && c.whole)) (same_test d.layer c.layer id e)
    go false e true rest = ap (λ (w : Bool). (nat_eq d.layer id && d.whole) || w) rest ∙ or_last (nat_eq d.layer id && d.whole) (is_listed_whole ds id) ((c.layer == id) && c.whole)
    go false e false rest = or_first ((c.layer == id) && c.whole) (nat_eq d.layer id && d.whole) (is_listed_whole ds id)

listed_change : (c : Change) (ds : List LayerChange) (id : ℕ) → is_listed (with_change c ds) id ≡ is_listed ds id || (c.layer == id)
listed_change c [] id = or_nothing (c.layer == id)
listed_change c (d ∷ ds) id = go (d.layer == c.layer) refl (nat_lt d.layer c.layer) (listed_change c ds id)
  where
    go : (a : Bool) → (d.layer == c.layer) ≡ a → (b : Bool) → is_listed (with_change c ds) id ≡ is_listed ds id || (c.layer == id)
        → is_listed (cond a (with_later d c ∷ ds) (cond b (d ∷ with_change c ds) (alone c ∷ d ∷ ds))) id ≡ (nat_eq d.layer id || is_listed ds id) || (c.layer == id)
    go true e b rest = same_twice (nat_eq d.layer id) (is_listed ds id) ∙ ap (λ (x : Bool). (nat_eq d.layer id || is_listed ds id) || x) (same_test d.layer c.layer id e)
    go false e true rest = ap (λ (w : Bool). nat_eq d.layer id || w) rest ∙ or_last (nat_eq d.layer id) (is_listed ds id) (c.layer == id)
    go false e false rest = or_first (c.layer == id) (nat_eq d.layer id) (is_listed ds id)

-- a list without another layer
out_of : (i id : ℕ) (d : LayerChange) → (i == id) ≡ false → nat_eq d.layer i ≡ true → nat_eq d.layer id ≡ false
out_of i id d out e = ap (λ (n : ℕ). nat_eq n id) (eqb-true d.layer i e) ∙ out

whole_without : (i id : ℕ) (ds : List LayerChange) → (i == id) ≡ false → is_listed_whole (without_layer i ds) id ≡ is_listed_whole ds id
whole_without i id [] out = refl
whole_without i id (d ∷ ds) out = go (nat_eq d.layer i) refl (whole_without i id ds out)
  where
    go : (b : Bool) → nat_eq d.layer i ≡ b → is_listed_whole (without_layer i ds) id ≡ is_listed_whole ds id → is_listed_whole (cond (not b) (d ∷ without_layer i ds) (without_layer i ds)) id ≡ (nat_eq d.layer id && d.whole) || is_listed_whole ds id
    go true e rest = rest ∙ sym (ap (λ (x : Bool). (x && d.whole) || is_listed_whole ds id) (out_of i id d out e))
    go false e rest = ap (λ (w : Bool). (nat_eq d.layer id && d.whole) || w) rest

listed_without : (i id : ℕ) (ds : List LayerChange) → (i == id) ≡ false → is_listed (without_layer i ds) id ≡ is_listed ds id
listed_without i id [] out = refl
listed_without i id (d ∷ ds) out = go (nat_eq d.layer i) refl (listed_without i id ds out)
  where
    go : (b : Bool) → nat_eq d.layer i ≡ b → is_listed (without_layer i ds) id ≡ is_listed ds id → is_listed (cond (not b) (d ∷ without_layer i ds) (without_layer i ds)) id ≡ nat_eq d.layer id || is_listed ds id
    go true e rest = rest ∙ sym (ap (λ (x : Bool). x || is_listed ds id) (out_of i id d out e))
    go false e rest = ap (λ (w : Bool). nat_eq d.layer id || w) rest

some_whole : (o : Option Change) (ds : List LayerChange) (id : ℕ) → is_listed_whole (with_some o ds) id ≡ false → (is_listed_whole ds id ≡ false) × (is_changed_whole o id ≡ false)
some_whole None ds id h = (h, refl)
some_whole (Some c) ds id h =
    let both = sym (whole_change c ds id) ∙ h in
    (or_left_false (is_listed_whole ds id) ((c.layer == id) && c.whole) both, or_right_false (is_listed_whole ds id) ((c.layer == id) && c.whole) both)

-- the layer is named by a change
abbrev names : Option Change → ℕ → Bool
names None id = false
names (Some c) id = c.layer == id

some_listed : (o : Option Change) (ds : List LayerChange) (id : ℕ) → is_listed (with_some o ds) id ≡ false → (is_listed ds id ≡ false) × (names o id ≡ false)
some_listed None ds id h = (h, refl)
some_listed (Some c) ds id h =
    let both = sym (listed_change c ds id) ∙ h in
    (or_left_false (is_listed ds id) (c.layer == id) both, or_right_false (is_listed ds id) (c.layer == id) both)

-- ---- one command

-- a layer that is still there is not the one that was removed
still_there : (i id : ℕ) (ls : List PageLayer) → AreDistinctLayers ls → has_layer id (layers.without_first (has_id i) ls) ≡ true → (i == id) ≡ false
still_there i id ls d there = is_false (i == id) (λ e. not_both (has_layer id (layers.without_first (has_id i) ls)) there (ap (λ (n : ℕ). has_layer n (layers.without_first (has_id i) ls)) (sym (eqb-true i id e)) ∙ absent-taken i ls d))

command_whole : (p : Page) (c : Command) (id : ℕ) (ds : List LayerChange) → IsPage p → has_layer id (page_after_command p c).layers ≡ true → is_listed_whole (with_command p c ds) id ≡ false
    → (is_listed_whole ds id ≡ false) × (is_changed_whole (layer_change_of p c) id ≡ false)
command_whole p (command.RemoveLayer c) id ds is there h = (sym (whole_without c.id id ds (still_there c.id id p.layers is.distinct there)) ∙ h, refl)
command_whole p (command.AddTransform c) id ds is there h = (h, refl)
command_whole p c id ds is there h = some_whole (layer_change_of p c) ds id h

command_listed : (p : Page) (c : Command) (id : ℕ) (ds : List LayerChange) → IsPage p → has_layer id (page_after_command p c).layers ≡ true → is_listed (with_command p c ds) id ≡ false
    → (is_listed ds id ≡ false) × (names (layer_change_of p c) id ≡ false)
command_listed p (command.RemoveLayer c) id ds is there h = (sym (listed_without c.id id ds (still_there c.id id p.layers is.distinct there)) ∙ h, refl)
command_listed p (command.AddTransform c) id ds is there h = (h, refl)
command_listed p c id ds is there h = some_listed (layer_change_of p c) ds id h

-- what is read of a layer that a command changes elsewhere
view_changed : {V : Type 0} (v : PageLayer → V) (i id : ℕ) (f : PageLayer → PageLayer) → ((l : PageLayer) → (f l).id ≡ l.id) → ((l : PageLayer) → v (f l) ≡ v l) → (ls : List PageLayer)
    → option_map v (find (has_id id) (layers.with_first_changed (has_id i) f ls)) ≡ option_map v (find (has_id id) ls)
view_changed {V} v i id f keeps same ls = go (i == id) refl
  where
    twice : (o : Option PageLayer) → option_map v (option_map f o) ≡ option_map v o
    twice None = refl
    twice (Some l) = ap Some (same l)

    go : (b : Bool) → (i == id) ≡ b → option_map v (find (has_id id) (layers.with_first_changed (has_id i) f ls)) ≡ option_map v (find (has_id id) ls)
    go true e =
        let is : i ≡ id = eqb-true i id e in
        ap (λ (n : ℕ). option_map v (find (has_id n) (layers.with_first_changed (has_id i) f ls))) (sym is)
        ∙ ap (option_map v) (found-here i f keeps ls)
        ∙ twice (find (has_id i) ls)
        ∙ ap (λ (n : ℕ). option_map v (find (has_id n) ls)) is
    go false e = ap (option_map v) (found-other i id f keeps ls e)

there_is : (o : Option PageLayer) → is_some (option_map (λ l. l.id) o) ≡ is_some o
there_is None = refl
there_is (Some l) = refl

there_changed : (i id : ℕ) (f : PageLayer → PageLayer) → ((l : PageLayer) → (f l).id ≡ l.id) → (ls : List PageLayer) → has_layer id (layers.with_first_changed (has_id i) f ls) ≡ has_layer id ls
there_changed i id f keeps ls =
    sym (there_is (find (has_id id) (layers.with_first_changed (has_id i) f ls))) ∙ ap is_some (view_changed (λ l. l.id) i id f keeps keeps ls) ∙ there_is (find (has_id id) ls)

not_absent : (b : Bool) → (b ≡ false → ⊥) → b ≡ true
not_absent true f = refl
not_absent false f = absurd (f refl)

and_true_false : (a : Bool) → a && true ≡ false → a ≡ false
and_true_false true h = h
and_true_false false h = refl

-- a layer that is there after a command that does not list it whole was there before
there_before : (p : Page) (c : Command) (id : ℕ) → IsPage p → has_layer id (page_after_command p c).layers ≡ true → is_changed_whole (layer_change_of p c) id ≡ false → has_layer id p.layers ≡ true
there_before p (command.AddLayer c) id is there out = sym (ap is_some (found-insert id _ p.layers c.at (and_true_false (c.id == id) out))) ∙ there
there_before p (command.RemoveLayer c) id is there out = not_absent (has_layer id p.layers) (λ none. not_both (has_layer id (layers.without_first (has_id c.id) p.layers)) there (absent-without id (has_id c.id) p.layers none))
there_before p (command.ResizeLayer c) id is there out = sym (there_changed c.id id (with_size c.w c.h) (λ l. refl) p.layers) ∙ there
there_before p (command.SetColour c) id is there out = sym (there_changed c.id id (with_colour c.colour) (λ l. refl) p.layers) ∙ there
there_before p (command.InsertItem c) id is there out = sym (there_changed c.layer id (with_items _) (λ l. refl) p.layers) ∙ there
there_before p (command.RemoveItem c) id is there out = sym (there_changed c.layer id (with_items _) (λ l. refl) p.layers) ∙ there
there_before p (command.ReplaceItem c) id is there out = sym (there_changed c.layer id (with_items _) (λ l. refl) p.layers) ∙ there
there_before p (command.MoveLayer c) id is there out = sym (ap is_some (found-moved c.id c.at id p.layers is.distinct)) ∙ there
there_before p _ id is there out = there

abbrev shown : Option PageLayer → Option (List Item)
shown o = option_map (λ l. l.items) o

-- the items of a layer that a command does not list
command_items : (p : Page) (c : Command) (id : ℕ) → IsPage p → has_layer id (page_after_command p c).layers ≡ true → names (layer_change_of p c) id ≡ false → items_of (page_after_command p c) id ≡ items_of p id
command_items p (command.AddLayer c) id is there out = ap shown (found-insert id _ p.layers c.at out)
command_items p (command.RemoveLayer c) id is there out = ap shown (found-without c.id id p.layers (still_there c.id id p.layers is.distinct there))
command_items p (command.ResizeLayer c) id is there out = ap shown (found-other c.id id (with_size c.w c.h) (λ l. refl) p.layers out)
command_items p (command.SetColour c) id is there out = view_changed (λ l. l.items) c.id id (with_colour c.colour) (λ l. refl) (λ l. refl) p.layers
command_items p (command.InsertItem c) id is there out = ap shown (found-other c.layer id (with_items _) (λ l. refl) p.layers out)
command_items p (command.RemoveItem c) id is there out = ap shown (found-other c.layer id (with_items _) (λ l. refl) p.layers out)
command_items p (command.ReplaceItem c) id is there out = ap shown (found-other c.layer id (with_items _) (λ l. refl) p.layers out)
command_items p (command.MoveLayer c) id is there out = ap shown (found-moved c.id c.at id p.layers is.distinct)
command_items p _ id is there out = refl

command_tile : (p : Page) (c : Command) → retiles p c ≡ false → (page_after_command p c).view.tile ≡ p.view.tile
command_tile p (command.SetView c) out = eqb-true c.tile p.view.tile (not_false (c.tile == p.view.tile) out)
command_tile p _ out = refl

-- ---- the commands of a frame

-- a layer that they do not list whole was there before, with its size
pub frame_sizes : (cs : List Command) (p : Page) (id : ℕ) (done : Changed) → IsPage p → TakesAll p cs → has_layer id (commanded cs p).layers ≡ true → is_listed_whole (changed_by p cs done).list id ≡ false
    → (is_listed_whole done.list id ≡ false) × (has_layer id p.layers ≡ true) × (size_of (commanded cs p) id ≡ size_of p id)
frame_sizes [] p id done is t there h = (h, there, refl)
frame_sizes (c ∷ cs) p id done is t there h =
    let (listed, between, size) = frame_sizes cs (page_after_command p c) id (with_next p c done) (page_after p c is t.0) t.1 there h in
    let (before, out) = command_whole p c id done.list is between listed in
    let was : has_layer id p.layers ≡ true = there_before p c id is between out in
    let keeps : KeepsTheRest p c = unlisted_stays p c is t.0 in
    (before, was, size ∙ keeps.size id was between out)

-- a layer that they do not list has its items
pub frame_items : (cs : List Command) (p : Page) (id : ℕ) (done : Changed) → IsPage p → TakesAll p cs → has_layer id (commanded cs p).layers ≡ true → is_listed_whole (changed_by p cs done).list id ≡ false
    → is_listed (changed_by p cs done).list id ≡ false → (is_listed done.list id ≡ false) × (items_of (commanded cs p) id ≡ items_of p id)
frame_items [] p id done is t there w h = (h, refl)
frame_items (c ∷ cs) p id done is t there w h =
    let (listed, between, size) = frame_sizes cs (page_after_command p c) id (with_next p c done) (page_after p c is t.0) t.1 there w in
    let (left, items) = frame_items cs (page_after_command p c) id (with_next p c done) (page_after p c is t.0) t.1 there w h in
    let (before, out) = command_listed p c id done.list is between left in
    (before, items ∙ command_items p c id is between out)

-- where they do not retile, the tile size stays
pub frame_tile : (cs : List Command) (p : Page) (done : Changed) → (changed_by p cs done).retiled ≡ false → (done.retiled ≡ false) × ((commanded cs p).view.tile ≡ p.view.tile)
frame_tile [] p done h = (h, refl)
frame_tile (c ∷ cs) p done h =
    let (flat, tile) = frame_tile cs (page_after_command p c) (with_next p c done) h in
    (or_left_false done.retiled (retiles p c) flat, tile ∙ command_tile p c (or_right_false done.retiled (retiles p c) flat))

-- what is not listed is not listed whole
pub unlisted_whole : (ds : List LayerChange) (id : ℕ) → is_listed ds id ≡ false → is_listed_whole ds id ≡ false
unlisted_whole [] id h = refl
unlisted_whole (d ∷ ds) id h = go (nat_eq d.layer id) (unlisted_whole ds id) h
  where
    go : (b : Bool) → (is_listed ds id ≡ false → is_listed_whole ds id ≡ false) → b || is_listed ds id ≡ false → (b && d.whole) || is_listed_whole ds id ≡ false
    go true rest h = absurd (cc)
    go false rest h = rest h
