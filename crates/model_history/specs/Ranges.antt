-- Which scripts the format can say: the ranges of all their numbers, and how long their lists may be.
use Rattle.std.specs.Prelude.{ℕ, ◌+◌, ℤ, pos, negsuc, neg_ℤ, List, [], ◌∷◌, length, Bool, true, false, ◌&&◌, ◌==◌, nat_le, nat_lt, int_le, if◌then◌else◌}
use Rattle.std.specs.List.{list_all}
use Rattle.geom.specs.declared.rect.Rect.{Rect}
use Rattle.geom.specs.Limits.{max_id, max_viewport, max_first_viewport, min_tile, max_tile, max_scroll, max_frames, max_inputs, max_draws, max_budget, max_distance}
use Rattle.pixel.specs.Colours.{is_colour}
use Rattle.page_display_list.specs.Bitmaps.{has_sides, byte_count}
use Rattle.page_display_list.specs.declared.item.Item.{Item}
use Rattle.page_display_list.specs.declared.item.Item.TheVariants as item
use Rattle.page_layers.specs.declared.command.Command.{Command}
use Rattle.page_layers.specs.declared.command.Op.{Op}
use Rattle.page_layers.specs.declared.command.Op.TheVariants as op
use Rattle.page_layers.specs.FieldForms as form
use Rattle.page_layers.specs.FieldForms.{Form, Field, Held, Row}
use Rattle.page_layers.specs.CommandFields.{fields, op_of, values_of}
use Rattle.model_history.specs.declared.input.Input.{Input}
use Rattle.model_history.specs.declared.input.Input.TheVariants.{Scroll, Wheel, Draw, Await, Settle}
use Rattle.model_history.specs.Scripts.{ScriptModel}

-- a number from `low` to `high`
abbrev pub in_range : ℕ → ℕ → ℕ → Bool
in_range low high n = nat_le low n && nat_le n high

-- a number of 32 bits
abbrev pub is_u32 : ℕ → Bool
is_u32 n = in_range 0 4294967295 n

-- a signed number from `low` to `high`
abbrev pub int_in_range : ℤ → ℤ → ℤ → Bool
int_in_range low high z = int_le low z && int_le z high

-- a signed number of 32 bits
abbrev pub is_signed : ℤ → Bool
is_signed z = int_in_range (negsuc 2147483647) (pos 2147483647) z

-- a rect of signed numbers of 32 bits
abbrev pub is_rect : Rect → Bool
is_rect r = is_signed r.x && is_signed r.y && is_signed r.w && is_signed r.h

-- whether bytes are whole pixels, four bytes each, all premultiplied
abbrev pub are_pixels : List ℕ → Bool
are_pixels [] = true
are_pixels (r ∷ g ∷ b ∷ a ∷ rest) = is_colour (record { r = r; g = g; b = b; a = a }) && are_pixels rest
are_pixels _ = false

-- whether bytes are the pixels of a rect whose sides are 1 to 256
unfoldable pub is_picture : Rect → List ℕ → Bool
is_picture rect bytes = has_sides rect.w rect.h && (length bytes == byte_count rect.w rect.h) && are_pixels bytes

-- an item whose numbers fit; its pixels are right for its rect
abbrev pub item_in_range : Item → Bool
item_in_range (item.Rect rect colour) = is_rect rect && is_colour colour
item_in_range (item.Bitmap picture) = is_rect picture.rect && is_picture picture.rect picture.pixels

-- whether a version has this command: `set_view` is of version 2 alone
abbrev pub is_of_version : ℕ → Op → Bool
is_of_version version op.SetView = version == 2
is_of_version version _ = true

-- a value in the range of its form
abbrev pub fits : (f : Form) → Held f → Bool
fits form.whole n = is_u32 n
fits form.signed z = is_signed z
fits form.rect r = is_rect r
fits form.colour c = is_colour c
fits form.item i = item_in_range i

-- whether this holds, and each value is in the range of its form
abbrev pub all_fit : Bool → (fs : List Field) → Row fs → Bool
all_fit so_far [] row = so_far
all_fit so_far (f ∷ fs) row = all_fit (so_far && fits f.form row.0) fs row.1

-- a command whose numbers fit 32 bits, of a script of this version
abbrev pub command_in_range : ℕ → Command → Bool
command_in_range version c = all_fit (is_of_version version (op_of c)) (fields (op_of c)) (values_of c)

-- one axis of a scroll or a wheel: at most 2^20 either way
abbrev pub is_amount : ℤ → Bool
is_amount z = int_in_range (neg_ℤ (pos max_scroll)) (pos max_scroll) z

-- an input of a script of the given number of main frames
abbrev pub input_in_range : ℕ → Input → Bool
input_in_range frames (Scroll scroller dx dy) = in_range 1 max_id scroller && is_amount dx && is_amount dy
input_in_range frames (Wheel x y dx dy) = in_range 0 2047 x && in_range 0 2047 y && is_amount dx && is_amount dy
input_in_range frames Draw = true
input_in_range frames (Await frame) = is_u32 frame && nat_lt frame frames
input_in_range frames Settle = true

-- how many draws stand in a list of inputs
abbrev pub draw_count : List Input → ℕ
draw_count [] = 0
draw_count (Draw ∷ rest) = 1 + draw_count rest
draw_count (Scroll scroller dx dy ∷ rest) = draw_count rest
draw_count (Wheel x y dx dy ∷ rest) = draw_count rest
draw_count (Await frame ∷ rest) = draw_count rest
draw_count (Settle ∷ rest) = draw_count rest

-- the longest side of a viewport in a version
abbrev pub longest_side : ℕ → ℕ
longest_side version = if version == 1 then max_first_viewport else max_viewport

-- the version, the viewport, the tile side, the background and the bounds of a run
abbrev pub head_in_range : ScriptModel → Bool
head_in_range s =
    in_range 1 2 s.version
    && in_range 1 (longest_side s.version) s.viewport_w
    && in_range 1 (longest_side s.version) s.viewport_h
    && in_range min_tile max_tile s.tile
    && (is_colour s.background && (s.background.a == 255))
    && in_range 0 max_budget s.budget
    && in_range 0 max_budget s.raster_per_frame
    && in_range 0 max_distance s.soon
    && in_range s.soon max_distance s.eventually

-- the main frames: at most 4096
abbrev pub main_in_range : ℕ → List (List Command) → Bool
main_in_range version main = nat_le (length main) max_frames && list_all (list_all (command_in_range version)) main

-- the inputs: at most 65536, of them at most 4096 draws
abbrev pub inputs_in_range : ℕ → List Input → Bool
inputs_in_range frames inputs = nat_le (length inputs) max_inputs && list_all (input_in_range frames) inputs && nat_le (draw_count inputs) max_draws

-- a script that the format can say: each number in its range, the lengths of the lists, `set_view` in version 2 alone, each await of a main frame that is there, at most 4096 draws
unfoldable pub is_in_ranges : ScriptModel → Bool
is_in_ranges s = head_in_range s && main_in_range s.version s.main && inputs_in_range (length s.main) s.inputs

-- each main frame has fewer than 2^32 commands, so that the place of each is a number of 32 bits
abbrev pub are_short : List (List Command) → Bool
are_short main = list_all (λ frame. nat_lt (length frame) 4294967296) main
