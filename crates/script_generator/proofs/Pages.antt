-- The page that a made script works on, and that it takes all commands.
use Rattle.std.proofs.Common.{◌≡◌, ℕ, zero, suc, ◌+◌, ◌==◌, ◌%◌, ◌<◌, ◌≤◌, pos, negsuc, Bool, true, false, cond, nat_le, nat_lt, ◌+ℤ◌, List, [], ◌∷◌, ◌++◌, length, map, Result, Ok, Err, refl, sym, ◌∙◌, ap, subst, arith}
use Rattle.std.specs.Prelude.{⊤, slice_index, slice_set}
use Rattle.std.specs.List.{insert}
use Rattle.std.proofs.lemmas.Bool.Decides.{nat_tests}
use Rattle.std.proofs.lemmas.List.{length-set}
use Rattle.std.proofs.lemmas.List.Edits.{length-insert}
use Rattle.geom.specs.declared.rect.Point.{Point}
use Rattle.page_properties.specs.declared.nodes.EffectNode.{EffectNode}
use Rattle.page_properties.specs.Nesting.{AreNested, lies_in}
use Rattle.page_display_list.specs.declared.item.Item.{Item}
use Rattle.page_display_list.specs.declared.item.Item.TheVariants as item
use Rattle.page_display_list.specs.Content.{rect_of_item}
use Rattle.page_layers.specs.declared.command.Command.{Command}
use Rattle.page_layers.specs.declared.command.Command.TheVariants as command
use Rattle.page_layers.specs.declared.fault.EditFault.{EditFault}
use Rattle.page_layers.specs.declared.fault.EditFault.TheVariants as fault
use Rattle.page_layers.specs.Tests.{◌>>=◌, require, check_range, is_id, is_size}
use Rattle.page_layers.specs.Scrolls.{clamped}
use Rattle.page_properties.specs.OffsetMap.{origin}
use Rattle.page_layers.specs.Pages.{Page}
use Rattle.page_layers.specs.Refusals.{takes, is_offset, is_clip_rect, is_item_rect, is_scroll_range, check_scroll, test_of}
use Rattle.page_layers.specs.Effects.{page_after_command, commanded}
use Rattle.page_layers.specs.Outcomes.{Accepts}
use Rattle.model_history.specs.Accepted.{TakesAll, TakesFrames}
use Rattle.script_generator.specs.Draws.{after_draws, drawn}
use Rattle.script_generator.specs.Generated.{rect, opaque, drawn_item, page_commands, inserts, later_frame, later_frames, is_empty_frame, frame_draws, frames}
use Rattle.script_generator.proofs.Ranges.{below}

-- two layers stand together whatever their effects are
short_nested : (nodes : List (ℕ × EffectNode)) (es : List ℕ) → length es ≤ 2 → AreNested nodes es
short_nested nodes es short e i zero k ij jk kl first last = subst (λ (m : ℕ). lies_in nodes e (slice_index es m) ≡ true) (omega (arith, ij)) first
short_nested nodes es short e i (suc j) k ij jk kl first last = subst (λ (m : ℕ). lies_in nodes e (slice_index es m) ≡ true) (omega (arith, short, jk, kl)) last

-- ---- the page

-- the page before all frames
abbrev first_page : Page
first_page = record { view = record { w = 256; h = 192; tile = 32 }; props = record { transforms = []; clips = []; effects = []; scrollers = [] }; layers = []; used = []; values = [] }

-- the page with these items in layer 1, and this main value of its scroller
abbrev page_with : List Item → Point → Page
page_with items value = record {
  view = record { w = 256; h = 192; tile = 32 };
  props = record {
    transforms = (1, record { parent = 0; x = pos 0; y = pos 0; scroller = 1 }) ∷ [];
    clips = (1, record { parent = 0; transform = 0; rect = rect 0 0 256 192 }) ∷ [];
    effects = (1, record { parent = 0; opacity = 200 }) ∷ [];
    scrollers = (1, record { parent = 0; max_x = 0; max_y = 2000 }) ∷ [];
  };
  layers =
      record { id = 1; transform = 1; clip = 1; effect = 0; w = 256; h = 2192; colour = opaque 221 221 221; items = items }
      ∷ record { id = 2; transform = 0; clip = 0; effect = 1; w = 256; h = 24; colour = opaque 0 0 0; items = item.Rect (rect 0 0 256 24) (opaque 32 32 64) ∷ [] }
      ∷ [];
  used = 1 ∷ 2 ∷ [];
  values = (1, value) ∷ [];
}

-- ---- the tests

not_above : (a b : ℕ) → a ≤ b → nat_lt b a ≡ false
not_above a b l = grind (arith, nat_tests)

is_below : (a b : ℕ) → a < b → nat_lt a b ≡ true
is_below a b l = grind (arith, nat_tests)

is_le : (a b : ℕ) → a ≤ b → nat_le a b ≡ true
is_le a b l = grind (arith, nat_tests)

-- a number within its ends passes
within : (n low high : ℕ) → low ≤ n → n ≤ high → check_range (pos n) (pos low) (pos high) ≡ Ok tt
unfolding check_range
within n low high l h = let p = not_above low n l in let q = not_above n high h in λ i. cond (p i) (Err (fault.OutOfRange (pos n) (pos low))) (cond (q i) (Err (fault.OutOfRange (pos n) (pos high))) (Ok tt))

-- a natural number passes a lower end below 0
above_zero : (n below high : ℕ) → n ≤ high → check_range (pos n) (negsuc below) (pos high) ≡ Ok tt
unfolding check_range
above_zero n below high h = let q = not_above n high h in λ i. cond (q i) (Err (fault.OutOfRange (pos n) (pos high))) (Ok tt)

then : (r q : Result ⊤ EditFault) → r ≡ Ok tt → q ≡ Ok tt → (r >>= (λ _. q)) ≡ Ok tt
then r q p t = λ i. p i >>= (λ _. t i)

item_rect : (x : ℕ) → is_item_rect (rect_of_item (drawn_item x)) ≡ Ok tt
unfolding is_item_rect drawn_item
item_rect x =
    let a = below x 0 240 (omega arith) in
    let b = below x 1 2160 (omega arith) in
    let c = below x 2 60 (omega arith) in
    let d = below x 3 60 (omega arith) in
    then _ _ (above_zero (drawn x 0 240) 16383 16384 (omega (arith, a)))
    (then _ _ (above_zero (drawn x 1 2160) 16383 16384 (omega (arith, b)))
    (then _ _ (within (8 + drawn x 2 60) 1 16384 (omega (arith, c)) (omega (arith, c)))
    (within (8 + drawn x 3 60) 1 16384 (omega (arith, d)) (omega (arith, d)))))

needs : (b : Bool) (f : EditFault) → b ≡ true → require b f ≡ Ok tt
needs b f p = ap (λ c. require c f) p

insert_passes : (xs : List Item) (v : Point) (x at : ℕ) → length xs ≡ at → at < 256 → test_of (page_with xs v) (command.InsertItem (record { layer = 1; at = at; item = (drawn_item x) })) ≡ Ok tt
unfolding test_of
insert_passes xs v x at e l =
    then _ _ (needs (nat_le at (length xs)) _ (is_le at (length xs) (omega (arith, e))))
    (then _ _ (needs (nat_lt (length xs) 256) _ (is_below (length xs) 256 (omega (arith, e, l)))) (item_rect x))

replace_passes : (xs : List Item) (v : Point) (x at : ℕ) → length xs ≡ 200 → at < 200 → test_of (page_with xs v) (command.ReplaceItem (record { layer = 1; at = at; item = (drawn_item x) })) ≡ Ok tt
unfolding test_of
replace_passes xs v x at e l = then _ _ (needs (nat_lt at (length xs)) _ (is_below at (length xs) (omega (arith, e, l)))) (item_rect x)

scroll_passes : (xs : List Item) (v : Point) (d : ℕ) → d < 40 → test_of (page_with xs v) (command.ScrollBy (record { id = 1; dx = (pos 0); dy = (pos d) })) ≡ Ok tt
unfolding test_of check_scroll check_range
scroll_passes xs v d l = let q = not_above d 1048576 (omega (arith, l)) in λ i. cond (q i) (Err (fault.OutOfRange (pos d) (pos 1048576))) (Ok tt)

-- ---- main frame 0

accepted : (p : Page) (c : Command) → test_of p c ≡ Ok tt → length (map (λ l. l.effect) (page_after_command p c).layers) ≤ 2 → Accepts p c
accepted p c t l = record { passes = t; together = short_nested (page_after_command p c).props.effects (map (λ l. l.effect) (page_after_command p c).layers) l }

takes_page : (cs : List Command) → TakesAll (page_with [] origin) cs → TakesAll first_page (page_commands ++ cs)
unfolding test_of takes is_offset is_clip_rect is_item_rect is_scroll_range is_id is_size check_range
takes_page cs t = (
  accepted _ _ refl (omega arith),
  (
    accepted _ _ refl (omega arith),
    (
      accepted _ _ refl (omega arith),
      (
        accepted _ _ refl (omega arith),
        (
          accepted _ _ refl (omega arith),
          (
            accepted _ _ refl (omega arith),
            (accepted _ _ refl (omega arith), t),
          ),
        ),
      ),
    ),
  ),
)

put_in : (xs : List Item) (v : Point) (x at : ℕ) → length xs ≡ at → length (insert xs at (drawn_item x)) ≡ suc at
put_in xs v x at e = let m = length-insert xs at (drawn_item x) (omega (arith, e)) in omega (arith, m, e)

takes_inserts : (x at n : ℕ) (xs : List Item) (v : Point) → length xs ≡ at → at + n ≤ 200 → TakesAll (page_with xs v) (inserts x at n)
unfolding inserts
takes_inserts x at zero xs v e l = tt
takes_inserts x at (suc n) xs v e l = (
  accepted (page_with xs v) (command.InsertItem (record { layer = 1; at = at; item = (drawn_item x) })) (insert_passes xs v x at e (omega (arith, l))) (omega arith),
  takes_inserts (after_draws x 7) (suc at) n (insert xs at (drawn_item x)) v (put_in xs v x at e) (omega (arith, l)),
)

after_inserts : (x at n : ℕ) (xs : List Item) (v : Point) → length xs ≡ at → (ys : List Item) × (commanded (inserts x at n) (page_with xs v) ≡ page_with ys v) × (length ys ≡ at + n)
unfolding inserts
after_inserts x at zero xs v e = (xs, refl, omega (arith, e))
after_inserts x at (suc n) xs v e =
    let (ys, is, many) = after_inserts (after_draws x 7) (suc at) n (insert xs at (drawn_item x)) v (put_in xs v x at e) in
    (ys, is, omega (arith, many))

-- ---- later main frames

kept_page : (k x : ℕ) (xs : List Item) (v : Point) → length xs ≡ 200
    → TakesAll (page_with xs v) (later_frame k x) × ((ys : List Item) × (w : Point) × (commanded (later_frame k x) (page_with xs v) ≡ page_with ys w) × (length ys ≡ 200))
unfolding later_frame
kept_page k x xs v e = by_kind (is_empty_frame k) (k % 2 == 1)
  where
    by_kind : (b c : Bool) → TakesAll (page_with xs v) (cond b [] (cond c (command.ReplaceItem (record { layer = 1; at = (drawn x 0 200); item = (drawn_item (after_draws x 1)) }) ∷ []) (command.ScrollBy (record { id = 1; dx = (pos 0); dy = (pos (drawn x 0 40)) }) ∷ [])))
        × ((ys : List Item) × (w : Point) × (commanded (cond b [] (cond c (command.ReplaceItem (record { layer = 1; at = (drawn x 0 200); item = (drawn_item (after_draws x 1)) }) ∷ []) (command.ScrollBy (record { id = 1; dx = (pos 0); dy = (pos (drawn x 0 40)) }) ∷ []))) (page_with xs v) ≡ page_with ys w) × (length ys ≡ 200))
    by_kind true c = (tt, (xs, v, refl, e))
    by_kind false true = (
      (accepted (page_with xs v) (command.ReplaceItem (record { layer = 1; at = (drawn x 0 200); item = (drawn_item (after_draws x 1)) })) (replace_passes xs v (after_draws x 1) (drawn x 0 200) e (below x 0 200 (omega arith))) (omega arith), tt),
      (slice_set xs (drawn x 0 200) (drawn_item (after_draws x 1)), v, refl, length-set xs (drawn x 0 200) (drawn_item (after_draws x 1)) ∙ e),
    )
    by_kind false false = (
      (accepted (page_with xs v) (command.ScrollBy (record { id = 1; dx = (pos 0); dy = (pos (drawn x 0 40)) })) (scroll_passes xs v (drawn x 0 40) (below x 0 40 (omega arith))) (omega arith), tt),
      (xs, clamped (record { parent = 0; max_x = 0; max_y = 2000 }) (v.x +ℤ pos 0) (v.y +ℤ pos (drawn x 0 40)), refl, e),
    )

takes_later : (x k n : ℕ) (xs : List Item) (v : Point) → length xs ≡ 200 → TakesFrames (page_with xs v) (later_frames x k n)
unfolding later_frames
takes_later x k zero xs v e = tt
takes_later x k (suc n) xs v e =
    let (t, (ys, w, is, many)) = kept_page k x xs v e in
    (t, subst (λ (p : Page). TakesFrames p (later_frames (after_draws x (frame_draws k)) (suc k) n)) (sym is) (takes_later (after_draws x (frame_draws k)) (suc k) n ys w many))

pub takes_frames : (x : ℕ) → TakesFrames first_page (frames x)
takes_frames x =
    let (ys, is, many) = after_inserts x 0 200 [] origin refl in (
      takes_page (inserts x 0 200) (takes_inserts x 0 200 [] origin refl (omega arith)),
      subst (λ (p : Page). TakesFrames p (later_frames (after_draws x 1400) 1 20)) (sym is) (takes_later (after_draws x 1400) 1 20 ys origin many),
    )
