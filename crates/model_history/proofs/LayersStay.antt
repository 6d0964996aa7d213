-- A layer that was removed is never there again; so a layer of two pages is there between them.
use Rattle.std.proofs.Common.{ℕ, zero, suc, ◌≡◌, ◌==◌, ◌&&◌, ◌||◌, Bool, true, false, not, Option, Some, None, Ok, List, [], ◌∷◌, ◌++◌, refl, ap, sym, ◌∙◌, eqb-true}
use Rattle.std.specs.Prelude.{option_map, is_some}
use Rattle.std.specs.List.{find, list_any}
use Rattle.std.proofs.lemmas.List.Folds.{list_any-append}
use Rattle.page_properties.specs.Entries.{is_known}
use Rattle.page_layers.specs.declared.command.AddLayer.{AddLayer}
use Rattle.page_layers.specs.declared.command.Command.{Command}
use Rattle.page_layers.specs.declared.command.Command.TheVariants as command
use Rattle.page_layers.specs.declared.fault.EditFault.TheVariants as fault
use Rattle.page_layers.specs.Tests.{require}
use Rattle.page_layers.specs.Layers.{PageLayer, has_id, with_size, with_colour, with_items}
use Rattle.page_layers.specs.Lists.{with_first_changed}
use Rattle.page_layers.specs.Pages.{Page}
use Rattle.page_layers.specs.Refusals.{has_layer, test_of}
use Rattle.page_layers.specs.Sound.{IsLayer, IsPage, is_used}
use Rattle.page_layers.specs.Effects.{page_after_command, commanded}
use Rattle.page_layers.specs.Outcomes.{Accepts}
use Rattle.page_layers.proofs.LayerKeeps.{each-found, absent-without, found_id}
use Rattle.page_layers.proofs.FoundLayers.{found-insert, found-other, found-here, found-moved}
use Rattle.page_layers.proofs.TestFacts.{passed, held}
use Rattle.model_history.specs.Scripts.{ScriptModel}
use Rattle.model_history.specs.Frames.{commands_of}
use Rattle.model_history.specs.Accepted.{TakesAll, IsPlayable}
use Rattle.model_history.proofs.BoolFacts.{not_true, not_both, none_or_some}
use Rattle.model_history.proofs.ScriptPages.{page_after, ahead, plain, plain_takes, plain_page}

-- ---- used ids

used_more : (id i : ℕ) (used : List ℕ) → is_used id used ≡ true → is_used id (used ++ i ∷ []) ≡ true
used_more id i used h = list_any-append (λ u. u == id) used (i ∷ []) ∙ ap (λ (b : Bool). b || is_used id (i ∷ [])) h

used_after : (p : Page) (c : Command) (id : ℕ) → is_used id p.used ≡ true → is_used id (page_after_command p c).used ≡ true
used_after p (command.AddLayer c) id u = used_more id c.id p.used u
used_after p _ id u = u

used_commanded : (cs : List Command) (p : Page) (id : ℕ) → is_used id p.used ≡ true → is_used id (commanded cs p).used ≡ true
used_commanded [] p id u = u
used_commanded (c ∷ cs) p id u = used_commanded cs (page_after_command p c) id (used_after p c id u)

-- the id of a layer is used
there_used : (p : Page) (id : ℕ) → IsPage p → has_layer id p.layers ≡ true → is_used id p.used ≡ true
there_used p id is there =
    let found = none_or_some (find (has_id id) p.layers) there in
    let l : PageLayer = found.0 in
    ap (λ (n : ℕ). is_used n p.used) (sym (found_id id p.layers l found.1)) ∙ (each-found (IsLayer p.props p.used) (has_id id) p.layers l found.1 is.layers).id_used

-- ---- layers that are gone

-- a layer was there, and is not there any more
pub record IsGone (id : ℕ) (p : Page) : Type 0 where
  pub used : is_used id p.used ≡ true
  pub none : has_layer id p.layers ≡ false

-- a new layer has an id that was never used
added_other : (p : Page) (c : AddLayer) (id : ℕ) → test_of p (command.AddLayer c) ≡ Ok tt → is_used id p.used ≡ true → (c.id == id) ≡ false
unfolding test_of
added_other p c id ok used =
    let known = passed (require (is_known c.transform p.props.transforms && is_known c.clip p.props.clips && is_known c.effect p.props.effects) fault.UnknownId) _ tt ok in
    let unused = passed (require (not (list_any (λ u. u == c.id) p.used)) fault.IdUsed) _ tt known.2 in
    let new : is_used c.id p.used ≡ false = not_true (is_used c.id p.used) (held (not (is_used c.id p.used)) fault.IdUsed unused.1) in
    go (c.id == id) refl new
  where
    go : (b : Bool) → (c.id == id) ≡ b → is_used c.id p.used ≡ false → b ≡ false
    go false e new = refl
    go true e new = absurd (not_both (is_used id p.used) used (ap (λ (n : ℕ). is_used n p.used) (sym (eqb-true c.id id e)) ∙ new))

-- a layer that is changed is there as before
is_some_map : {A B : Type 0} (f : A → B) (o : Option A) → is_some (option_map f o) ≡ is_some o
is_some_map f None = refl
is_some_map f (Some x) = refl

there_changed : (i id : ℕ) (f : PageLayer → PageLayer) → ((l : PageLayer) → (f l).id ≡ l.id) → (ls : List PageLayer) → has_layer id (with_first_changed (has_id i) f ls) ≡ has_layer id ls
there_changed i id f keeps ls = go (i == id) refl
  where
    go : (b : Bool) → (i == id) ≡ b → has_layer id (with_first_changed (has_id i) f ls) ≡ has_layer id ls
    go true e =
        let is : i ≡ id = eqb-true i id e in
        ap (λ (n : ℕ). has_layer n (with_first_changed (has_id i) f ls)) (sym is)
        ∙ ap (λ (o : Option PageLayer). is_some o) (found-here i f keeps ls)
        ∙ is_some_map f (find (has_id i) ls)
        ∙ ap (λ (n : ℕ). has_layer n ls) is
    go false e = ap (λ (o : Option PageLayer). is_some o) (found-other i id f keeps ls e)

-- a layer that is gone stays gone
none_after : (p : Page) (c : Command) (id : ℕ) → IsPage p → test_of p c ≡ Ok tt → IsGone id p → has_layer id (page_after_command p c).layers ≡ false
none_after p (command.AddLayer c) id is ok g = ap (λ (o : Option PageLayer). is_some o) (found-insert id _ p.layers c.at (added_other p c id ok g.used)) ∙ g.none
none_after p (command.RemoveLayer c) id is ok g = absent-without id (has_id c.id) p.layers g.none
none_after p (command.ResizeLayer c) id is ok g = there_changed c.id id (with_size c.w c.h) (λ l. refl) p.layers ∙ g.none
none_after p (command.SetColour c) id is ok g = there_changed c.id id (with_colour c.colour) (λ l. refl) p.layers ∙ g.none
none_after p (command.InsertItem c) id is ok g = there_changed c.layer id (with_items _) (λ l. refl) p.layers ∙ g.none
none_after p (command.RemoveItem c) id is ok g = there_changed c.layer id (with_items _) (λ l. refl) p.layers ∙ g.none
none_after p (command.ReplaceItem c) id is ok g = there_changed c.layer id (with_items _) (λ l. refl) p.layers ∙ g.none
none_after p (command.MoveLayer c) id is ok g = ap (λ (o : Option PageLayer). is_some o) (found-moved c.id c.at id p.layers is.distinct) ∙ g.none
none_after p _ id is ok g = g.none

gone_after : (p : Page) (c : Command) (id : ℕ) → IsPage p → Accepts p c → IsGone id p → IsGone id (page_after_command p c)
gone_after p c id is ok g = record { used = used_after p c id g.used; none = none_after p c id is ok.passes g }

gone_commanded : (cs : List Command) (p : Page) (id : ℕ) → IsPage p → TakesAll p cs → IsGone id p → IsGone id (commanded cs p)
gone_commanded [] p id is t g = g
gone_commanded (c ∷ cs) p id is t g = gone_commanded cs (page_after_command p c) id (page_after p c is t.0) t.1 (gone_after p c id is t.0 g)

gone_plain : (s : ScriptModel) → IsPlayable s → (id d m : ℕ) → IsGone id (plain s m) → IsGone id (plain s (ahead d m))
gone_plain s a id zero m g = g
gone_plain s a id (suc d) m g = gone_commanded (commands_of s (ahead d m)) (plain s (ahead d m)) id (plain_page s a (ahead d m)) (plain_takes s a (ahead d m)) (gone_plain s a id d m g)

used_plain : (s : ScriptModel) (id d m : ℕ) → is_used id (plain s m).used ≡ true → is_used id (plain s (ahead d m)).used ≡ true
used_plain s id zero m u = u
used_plain s id (suc d) m u = used_commanded (commands_of s (ahead d m)) (plain s (ahead d m)) id (used_plain s id d m u)

-- ---- layers between

-- a used layer is there where it is there later
not_gone : (b : Bool) → (b ≡ false → ⊥) → b ≡ true
not_gone true h = refl
not_gone false h = absurd (h refl)

-- a layer that is there before and after some commands is there after the first
pub there_between : (c : Command) (cs : List Command) (p : Page) (id : ℕ) → IsPage p → TakesAll p (c ∷ cs) → has_layer id p.layers ≡ true → has_layer id (commanded (c ∷ cs) p).layers ≡ true → has_layer id (page_after_command p c).layers ≡ true
there_between c cs p id is t before last =
    not_gone (has_layer id (page_after_command p c).layers)
    (λ out. not_both (has_layer id (commanded (c ∷ cs) p).layers) last
    (gone_commanded cs (page_after_command p c) id (page_after p c is t.0) t.1 (record { used = used_after p c id (there_used p id is before); none = out })).none)

-- a layer of two pages is one of each page between
pub layer_between : (s : ScriptModel) → IsPlayable s → (id e d m : ℕ) → has_layer id (plain s m).layers ≡ true → has_layer id (plain s (ahead e (ahead d m))).layers ≡ true → has_layer id (plain s (ahead d m)).layers ≡ true
layer_between s a id e d m before last =
    not_gone (has_layer id (plain s (ahead d m)).layers)
    (λ out. not_both (has_layer id (plain s (ahead e (ahead d m))).layers) last
    (gone_plain s a id e (ahead d m) (record { used = used_plain s id d m (there_used (plain s m) id (plain_page s a m) before); none = out })).none)
