-- Items of display lists: what is printed reads back, and what is read is in the ranges.
use Rattle.std.proofs.Common.{◌≡◌, ℕ, List, [], ◌∷◌, Bool, true, false, ◌&&◌, Option, Some, None, Ok, IfOk, IfSome, codes, if◌then◌else◌, refl}
use Rattle.serde_json.specs.Data.{Data}
use Rattle.serde_json.specs.Find.{get}
use Rattle.geom.specs.declared.rect.Rect.{Rect}
use Rattle.pixel.specs.Colours.{Parts, is_colour}
use Rattle.page_display_list.specs.Bitmaps.{BitmapModel}
use Rattle.page_display_list.specs.declared.item.Item.{Item}
use Rattle.page_display_list.specs.declared.item.Item.TheVariants as item
use Rattle.page_layers.specs.declared.command.Command.{Command}
use Rattle.page_layers.specs.declared.command.Command.TheVariants.{InsertItem, ReplaceItem}
use Rattle.model_history.specs.Ranges.{item_in_range, is_u32, is_rect, is_picture, are_pixels}
use Rattle.script_fields.specs.Hex.{bytes_of, bytes_digits}
use Rattle.script_fields.specs.Forms.{colour_form, bytes_form}
use Rattle.script_fields.specs.Fields.{no_more_members, number_at, whole_at, rect_at}
use Rattle.script_fields.specs.Values.{bytes_data}
use Rattle.script_fields.proofs.Again.{left, right, both, byte_again, colour_bytes, number_again, rect_again, colour_again}
use Rattle.script_fields.proofs.Fits.{then_some, map_some, or_fault_ok, colour_form_fits}
use Rattle.script_json.specs.CommandReading.{fields_at}
use Rattle.page_layers.specs.CommandFields.{op_of}
use Rattle.script_json.specs.CommandValues.{command_data}
use Rattle.script_json.specs.ItemReading.{if_picture, pixels_form, paint_of, paint_at}

bytes_again : (bs : List ℕ) → are_pixels bs ≡ true → bytes_of (bytes_digits bs) ≡ Some bs
bytes_again [] h = refl
bytes_again (r ∷ []) h = cc
bytes_again (r ∷ g ∷ []) h = cc
bytes_again (r ∷ g ∷ b ∷ []) h = cc
bytes_again (r ∷ g ∷ b ∷ a ∷ rest) h =
    let first = left _ _ h in
    let others = right _ _ h in
    let k = colour_bytes (record { r = r; g = g; b = b; a = a }) first in
    rw (byte_again r k.r) (rw (byte_again g k.g) (rw (byte_again b k.b) (rw (byte_again a k.a) (rw (bytes_again rest others) refl))))

pub picture_pixels : (rect : Rect) (bytes : List ℕ) → is_picture rect bytes ≡ true → are_pixels bytes ≡ true
unfolding is_picture
picture_pixels rect bytes h = right _ _ h

pixels_again : (rect : Rect) (bytes : List ℕ) → is_picture rect bytes ≡ true
    → pixels_form rect (bytes_data bytes) ≡ Some (item.Bitmap (record { rect = rect; pixels = bytes }))
unfolding pixels_form bytes_form bytes_data
pixels_again rect bytes h = rw (bytes_again bytes (picture_pixels rect bytes h)) (rw h refl)

-- an item in a command that puts one into a list
abbrev pub put_command : Bool → ℕ → ℕ → Item → Command
put_command true layer place i = InsertItem (record { layer = layer; at = place; item = i })
put_command false layer place i = ReplaceItem (record { layer = layer; at = place; item = i })

rect_again_in : (inserts : Bool) (layer place : ℕ) (rect : Rect) (colour : Parts) → (is_u32 layer && is_u32 place && (is_rect rect && is_colour colour)) ≡ true
    → fields_at (op_of (put_command inserts layer place (item.Rect rect colour))) (command_data (put_command inserts layer place (item.Rect rect colour))) ≡ Ok (put_command inserts layer place (item.Rect rect colour))
unfolding fields_at command_data no_more_members number_at whole_at rect_at paint_at
rect_again_in true layer place rect colour all =
    let layer_fits = left _ _ (left _ _ all) in
    let place_fits = right _ _ (left _ _ all) in
    let item_fits = right _ _ all in
    let rect_fits = left _ _ item_fits in
    let paint_is = right _ _ item_fits in
    rw (number_again 0 4294967295 layer layer_fits) (rw (number_again 0 4294967295 place place_fits) (rw (rect_again rect rect_fits) (rw (colour_again colour paint_is) refl)))
rect_again_in false layer place rect colour all =
    let layer_fits = left _ _ (left _ _ all) in
    let place_fits = right _ _ (left _ _ all) in
    let item_fits = right _ _ all in
    let rect_fits = left _ _ item_fits in
    let paint_is = right _ _ item_fits in
    rw (number_again 0 4294967295 layer layer_fits) (rw (number_again 0 4294967295 place place_fits) (rw (rect_again rect rect_fits) (rw (colour_again colour paint_is) refl)))

bitmap_again_in : (inserts : Bool) (layer place : ℕ) (picture : BitmapModel) → (is_u32 layer && is_u32 place && (is_rect picture.rect && is_picture picture.rect picture.pixels)) ≡ true
    → fields_at (op_of (put_command inserts layer place (item.Bitmap picture))) (command_data (put_command inserts layer place (item.Bitmap picture))) ≡ Ok (put_command inserts layer place (item.Bitmap picture))
unfolding fields_at command_data no_more_members number_at whole_at rect_at paint_at
bitmap_again_in true layer place picture all =
    let layer_fits = left _ _ (left _ _ all) in
    let place_fits = right _ _ (left _ _ all) in
    let item_fits = right _ _ all in
    let rect_fits = left _ _ item_fits in
    let paint_is = right _ _ item_fits in
    rw (number_again 0 4294967295 layer layer_fits) (rw (number_again 0 4294967295 place place_fits) (rw (rect_again picture.rect rect_fits) (rw (pixels_again picture.rect picture.pixels paint_is) refl)))
bitmap_again_in false layer place picture all =
    let layer_fits = left _ _ (left _ _ all) in
    let place_fits = right _ _ (left _ _ all) in
    let item_fits = right _ _ all in
    let rect_fits = left _ _ item_fits in
    let paint_is = right _ _ item_fits in
    rw (number_again 0 4294967295 layer layer_fits) (rw (number_again 0 4294967295 place place_fits) (rw (rect_again picture.rect rect_fits) (rw (pixels_again picture.rect picture.pixels paint_is) refl)))

pub item_again : (inserts : Bool) (layer place : ℕ) (i : Item) → (is_u32 layer && is_u32 place && item_in_range i) ≡ true
    → fields_at (op_of (put_command inserts layer place i)) (command_data (put_command inserts layer place i)) ≡ Ok (put_command inserts layer place i)
item_again inserts layer place (item.Rect rect colour) all = rect_again_in inserts layer place rect colour all
item_again inserts layer place (item.Bitmap picture) all = bitmap_again_in inserts layer place picture all

if_picture_fits : (rect : Rect) (bytes : List ℕ) → is_rect rect ≡ true → IfSome (if_picture rect bytes) (λ i. item_in_range i ≡ true)
if_picture_fits rect bytes hr =
    elim (is_picture rect bytes) as (λ b. is_picture rect bytes ≡ b
    → IfSome (if b then Some (item.Bitmap (record { rect = rect; pixels = bytes })) else None) (λ i. item_in_range i ≡ true))
    [ true ↦ λ e. both _ _ hr e | false ↦ λ e. tt ] refl

pixels_fits : (rect : Rect) (d : Data) → is_rect rect ≡ true → IfSome (pixels_form rect d) (λ i. item_in_range i ≡ true)
unfolding pixels_form
pixels_fits rect d hr = then_some (bytes_form d) (if_picture rect) _ (λ bytes. if_picture_fits rect bytes hr)

paint_of_fits : (rect : Rect) (colour pixels : Option Data) → is_rect rect ≡ true → IfSome (paint_of rect colour pixels) (λ i. item_in_range i ≡ true)
paint_of_fits rect (Some colour) None hr =
    map_some (colour_form colour) (item.Rect rect) (λ c. is_colour c ≡ true) _ (colour_form_fits colour) (λ c hc. both _ _ hr hc)
paint_of_fits rect None (Some pixels) hr = pixels_fits rect pixels hr
paint_of_fits rect None None hr = tt
paint_of_fits rect (Some colour) (Some pixels) hr = tt

pub paint_fits : (rect : Rect) (field : ℕ) (d : Data) → is_rect rect ≡ true → IfOk (paint_at rect field d) (λ i. item_in_range i ≡ true)
unfolding paint_at
paint_fits rect field d hr = or_fault_ok field (paint_of rect (get (codes "colour") d) (get (codes "pixels") d)) (λ i. item_in_range i ≡ true)
    (paint_of_fits rect (get (codes "colour") d) (get (codes "pixels") d) hr)
