-- What is printed for a script that the format can say reads back from its text.
use Rattle.std.proofs.Common.{◌≡◌, ℕ, ℤ, ◌^◌, ◌<◌, pos, negsuc, ◌+◌, ◌/◌, ◌%◌, List, [], ◌∷◌, length, map, Bool, true, false, if◌then◌else◌, ◌&&◌, ◌==◌, nat_le, nat_lt, int_le, IsUtf8, codes, lit<, refl, sym, ◌∙◌, arith}
use Rattle.std.proofs.lemmas.Bool.Decides.{nat_tests}
use Rattle.std.proofs.lemmas.Str.{IsUtf8-append}
use Rattle.std.specs.List.{list_all}
use Rattle.json.proofs.Printed.Utf8.{are_ascii, IsUtf8-are_ascii}
use Rattle.serde_json.specs.Data.{Data, string, Members, member, no_members}
use Rattle.serde_json.specs.View.{items_of}
use Rattle.geom.specs.declared.rect.Rect.{Rect}
use Rattle.pixel.specs.Colours.{Parts, is_colour}
use Rattle.page_display_list.specs.declared.item.Item.{Item}
use Rattle.page_display_list.specs.declared.item.Item.TheVariants as kind
use Rattle.page_display_list.specs.Content.{rect_of_item}
use Rattle.page_layers.specs.declared.command.Command.{Command}
use Rattle.tile_priority.specs.declared.tree_priority.TreePriority.{TreePriority}
use Rattle.tile_priority.specs.declared.tree_priority.TreePriority.TheVariants.{Same, Smooth, New}
use Rattle.model_history.specs.declared.input.Input.{Input}
use Rattle.model_history.specs.declared.input.Input.TheVariants.{Scroll, Wheel, Draw, Await, Settle}
use Rattle.model_history.specs.Ranges.{command_in_range, input_in_range, is_in_ranges, longest_side, item_in_range, is_rect, is_signed, is_u32, is_picture, are_pixels, is_of_version, fits, all_fit}
use Rattle.model_history.specs.Scripts.{ScriptModel}
use Rattle.script_fields.specs.Hex.{bytes_digits, six_digits, eight_digits, digit_of}
use Rattle.script_fields.specs.Values.{number_data, int_data, opaque_data, colour_data, bytes_data, rect_data, sides_data}
use Rattle.script_fields.proofs.Again.{left, right, colour_bytes}
use Rattle.script_json.specs.InputValues.{scroll_data, wheel_data, draw_data, await_data, settle_data, input_data}
use Rattle.script_json.specs.Causes.{IsTextOf, IsScriptText}
use Rattle.page_layers.specs.declared.command.Op.{Op}
use Rattle.page_layers.specs.declared.command.Op.TheVariants as op
use Rattle.page_layers.specs.FieldForms as form
use Rattle.script_json.specs.FieldLists.{data_of, put_painted, put_paint, with_members}
use Rattle.page_layers.specs.CommandFields.{op_name, fields, op_of, values_of}
use Rattle.script_json.specs.CommandValues.{op_members, command_data, frame_data}
use Rattle.script_json.specs.Recordings.{script_text}
use Rattle.script_json.specs.ScriptValue.{priority_name, main_data, inputs_data, parts_data}
use Rattle.script_json.proofs.ItemLaws.{picture_pixels}
use Rattle.script_json.proofs.Nesting.{nests_parts}
use Rattle.script_json.proofs.ValuesReadBack.{Prints, PrintsItems, PrintsValues, members_print, plain_reads, plain_utf8}
use Rattle.script_json.proofs.Rows.{fit_first}
use Rattle.script_json.proofs.Members.{shape, prints_put}
use Rattle.script_json.proofs.CommandLaws.{fit_values}
use Rattle.script_json.proofs.ScriptLaws.{parts_again}
use Rattle.page_layers.specs.FieldForms.{Form, Field, Held, Row}

bounded_prints : (low high n : ℕ) → high < 2 ^ 64 → (nat_le low n && nat_le n high) ≡ true → n < 2 ^ 64
bounded_prints low high n few h =
    let t : nat_le n high ≡ true = right (nat_le low n) (nat_le n high) h in
    grind (arith, nat_tests)

u32_prints : (n : ℕ) → (nat_le 0 n && nat_le n 4294967295) ≡ true → n < 2 ^ 64
u32_prints n h = bounded_prints 0 4294967295 n (lit< tt) h

int_prints : (most : ℕ) (z : ℤ) → most < 2 ^ 62 → (int_le (negsuc most) z && int_le z (pos (most + 1))) ≡ true → Prints (int_data z)
unfolding int_data
int_prints most (pos n) few h =
    let t : nat_le n (most + 1) ≡ true = right (int_le (negsuc most) (pos n)) (nat_le n (most + 1)) h in
    grind (arith, nat_tests)
int_prints most (negsuc n) few h =
    let t : nat_le n most ≡ true = left (nat_le n most) (int_le (negsuc n) (pos (most + 1))) h in
    grind (arith, nat_tests)

signed_prints : (z : ℤ) → is_signed z ≡ true → Prints (int_data z)
unfolding int_data
signed_prints (pos n) h =
    let t : nat_le n 2147483647 ≡ true = right (int_le (negsuc 2147483647) (pos n)) (nat_le n 2147483647) h in
    grind (arith, nat_tests)
signed_prints (negsuc n) h =
    let t : nat_le n 2147483647 ≡ true = left (nat_le n 2147483647) (int_le (negsuc n) (pos 2147483647)) h in
    grind (arith, nat_tests)

rect_prints : (r : Rect) → is_rect r ≡ true → Prints (rect_data r)
unfolding rect_data
rect_prints r all =
    let h = right _ _ all in
    let w = right _ _ (left _ _ all) in
    let y = right _ _ (left _ _ (left _ _ all)) in
    let x = left _ _ (left _ _ (left _ _ all)) in
    (signed_prints r.x x, (signed_prints r.y y, (signed_prints r.w w, (signed_prints r.h h, tt))))

digit_low : (n : ℕ) → n < 16 → nat_lt (digit_of n) 128 ≡ true
unfolding digit_of
digit_low n h = grind (arith, nat_tests)

-- the digits of bytes
bytes_print : (n : ℕ) (rest : List ℕ) → n < 256 → IsUtf8 (bytes_digits rest) → IsUtf8 (bytes_digits (n ∷ rest))
bytes_print n rest small h =
    let high = digit_low (n / 16) (omega (arith, small)) in
    let low = digit_low (n % 16) (omega arith) in
    IsUtf8-append (digit_of (n / 16) ∷ digit_of (n % 16) ∷ []) (bytes_digits rest) (IsUtf8-are_ascii (digit_of (n / 16) ∷ digit_of (n % 16) ∷ []) (rw high (rw low refl))) h

none_prints : IsUtf8 (bytes_digits [])
none_prints = IsUtf8-are_ascii [] refl

colour_prints : (c : Parts) → is_colour c ≡ true → IsUtf8 (eight_digits c)
colour_prints c h =
    let k = colour_bytes c h in
    bytes_print c.r (c.g ∷ c.b ∷ c.a ∷ []) k.r (bytes_print c.g (c.b ∷ c.a ∷ []) k.g (bytes_print c.b (c.a ∷ []) k.b (bytes_print c.a [] k.a none_prints)))

opaque_prints : (c : Parts) → is_colour c ≡ true → IsUtf8 (six_digits c)
opaque_prints c h =
    let k = colour_bytes c h in
    bytes_print c.r (c.g ∷ c.b ∷ []) k.r (bytes_print c.g (c.b ∷ []) k.g (bytes_print c.b [] k.b none_prints))

pixels_print : (bs : List ℕ) → are_pixels bs ≡ true → IsUtf8 (bytes_digits bs)
pixels_print [] h = none_prints
pixels_print (r ∷ []) h = absurd (cc)
pixels_print (r ∷ g ∷ []) h = absurd (cc)
pixels_print (r ∷ g ∷ b ∷ []) h = absurd (cc)
pixels_print (r ∷ g ∷ b ∷ a ∷ rest) h =
    let k = colour_bytes (record { r = r; g = g; b = b; a = a }) (left _ _ h) in
    bytes_print r (g ∷ b ∷ a ∷ rest) k.r (bytes_print g (b ∷ a ∷ rest) k.g (bytes_print b (a ∷ rest) k.b (bytes_print a rest k.a (pixels_print rest (right _ _ h)))))

pixels_prints : (rect : Rect) (bytes : List ℕ) → is_picture rect bytes ≡ true → IsUtf8 (bytes_digits bytes)
pixels_prints rect bytes h = pixels_print bytes (picture_pixels rect bytes h)

-- ---- commands

item_rect_prints : (i : Item) → item_in_range i ≡ true → Prints (rect_data (rect_of_item i))
item_rect_prints (kind.Rect r c) h = rect_prints r (left _ _ h)
item_rect_prints (kind.Bitmap p) h = rect_prints p.rect (left _ _ h)

value_prints : (f : Form) (v : Held f) → fits f v ≡ true → Prints (data_of f v)
unfolding number_data colour_data
value_prints form.whole v h = u32_prints v h
value_prints form.signed v h = signed_prints v h
value_prints form.rect v h = rect_prints v h
value_prints form.colour v h = colour_prints v h
value_prints form.item v h = item_rect_prints v h

painted_prints : (i : Item) (ms : Members) → item_in_range i ≡ true → PrintsValues ms → PrintsValues (put_painted i ms)
unfolding colour_data bytes_data
painted_prints (kind.Rect r c) ms h all = prints_put (codes "colour") (colour_data c) ms (colour_prints c (right _ _ h)) all
painted_prints (kind.Bitmap p) ms h all = prints_put (codes "pixels") (bytes_data p.pixels) ms (pixels_prints p.rect p.pixels (right _ _ h)) all

paint_prints : (f : Form) (v : Held f) (ms : Members) → fits f v ≡ true → PrintsValues ms → PrintsValues (put_paint f v ms)
paint_prints form.item v ms h all = painted_prints v ms h all
paint_prints form.whole v ms h all = all
paint_prints form.signed v ms h all = all
paint_prints form.rect v ms h all = all
paint_prints form.colour v ms h all = all

row_prints : (so_far : Bool) (fs : List Field) (row : Row fs) (ms : Members) → all_fit so_far fs row ≡ true → PrintsValues ms → PrintsValues (with_members fs row ms)
row_prints so_far [] row ms h all = all
row_prints so_far (f ∷ fs) row ms h all =
    let fit : fits f.form row.0 ≡ true = right so_far (fits f.form row.0) (fit_first (so_far && fits f.form row.0) fs row.1 h) in
    prints_put f.name (data_of f.form row.0) (put_paint f.form row.0 (with_members fs row.1 ms)) (value_prints f.form row.0 fit)
    (paint_prints f.form row.0 (with_members fs row.1 ms) fit (row_prints (so_far && fits f.form row.0) fs row.1 ms h all))

op_is_ascii : (o : Op) → are_ascii (op_name o) ≡ true
op_is_ascii op.AddTransform = refl
op_is_ascii _ = refl

command_prints : (version : ℕ) (c : Command) → command_in_range version c ≡ true → Prints (command_data c)
unfolding command_data
command_prints version c all =
    let s = shape (op_of c) (values_of c) in
    members_print (op_members (op_of c) (values_of c)) s.rising s.names
    (row_prints (is_of_version version (op_of c)) (fields (op_of c)) (values_of c) (member (codes "op") (string (op_name (op_of c))) no_members)
    (sym (fit_values version c) ∙ all) (IsUtf8-are_ascii (op_name (op_of c)) (op_is_ascii (op_of c)), tt))

scroll_prints : (frames scroller : ℕ) (dx dy : ℤ) → input_in_range frames (Scroll scroller dx dy) ≡ true → Prints (scroll_data scroller dx dy)
unfolding scroll_data number_data
scroll_prints frames scroller dx dy all =
    let h0 = left _ _ (left _ _ all) in
    let h1 = right _ _ (left _ _ all) in
    let h2 = right _ _ all in
    members_print (member (codes "dx") (int_data dx) (member (codes "dy") (int_data dy) (member (codes "op") (string (codes "scroll")) (member (codes "scroller") (number_data scroller) no_members)))) refl refl
    (int_prints 1048575 dx (lit< tt) h1, (int_prints 1048575 dy (lit< tt) h2, (IsUtf8-are_ascii (codes "scroll") refl, (bounded_prints 1 65535 scroller (lit< tt) h0, tt))))

wheel_prints : (frames x y : ℕ) (dx dy : ℤ) → input_in_range frames (Wheel x y dx dy) ≡ true → Prints (wheel_data x y dx dy)
unfolding wheel_data number_data
wheel_prints frames x y dx dy all =
    let h0 = left _ _ (left _ _ (left _ _ all)) in
    let h1 = right _ _ (left _ _ (left _ _ all)) in
    let h2 = right _ _ (left _ _ all) in
    let h3 = right _ _ all in
    members_print (member (codes "dx") (int_data dx) (member (codes "dy") (int_data dy) (member (codes "op") (string (codes "wheel")) (member (codes "x") (number_data x) (member (codes "y") (number_data y) no_members))))) refl refl
    (int_prints 1048575 dx (lit< tt) h2, (int_prints 1048575 dy (lit< tt) h3, (IsUtf8-are_ascii (codes "wheel") refl, (bounded_prints 0 2047 x (lit< tt) h0, (bounded_prints 0 2047 y (lit< tt) h1, tt)))))

input_prints : (frames : ℕ) (x : Input) → input_in_range frames x ≡ true → Prints (input_data x)
unfolding draw_data await_data settle_data number_data
input_prints frames (Scroll scroller dx dy) all = scroll_prints frames scroller dx dy all
input_prints frames (Wheel x y dx dy) all = wheel_prints frames x y dx dy all
input_prints frames Draw all = members_print (member (codes "op") (string (codes "draw")) no_members) refl refl (IsUtf8-are_ascii (codes "draw") refl, tt)
input_prints frames (Await frame) all =
    members_print (member (codes "frame") (number_data frame) (member (codes "op") (string (codes "await")) no_members)) refl refl (u32_prints frame (left (is_u32 frame) (nat_lt frame frames) all), (IsUtf8-are_ascii (codes "await") refl, tt))
input_prints frames Settle all = members_print (member (codes "op") (string (codes "settle")) no_members) refl refl (IsUtf8-are_ascii (codes "settle") refl, tt)

list_prints : {X : Type 0} (f : X → Data) (test : X → Bool) → ((x : X) → test x ≡ true → Prints (f x)) → (xs : List X) → list_all test xs ≡ true → PrintsItems (items_of (map f xs))
list_prints f test k [] all = tt
list_prints f test k (x ∷ xs) all = (k x (left _ _ all), list_prints f test k xs (right _ _ all))

frame_prints : (version : ℕ) (cs : List Command) → list_all (command_in_range version) cs ≡ true → Prints (frame_data cs)
unfolding frame_data
frame_prints version cs all = list_prints command_data (command_in_range version) (command_prints version) cs all

main_prints : (version : ℕ) (main : List (List Command)) → list_all (list_all (command_in_range version)) main ≡ true → Prints (main_data main)
unfolding main_data
main_prints version main all = list_prints frame_data (list_all (command_in_range version)) (frame_prints version) main all

inputs_prints : (frames : ℕ) (inputs : List Input) → list_all (input_in_range frames) inputs ≡ true → Prints (inputs_data inputs)
unfolding inputs_data
inputs_prints frames inputs all = list_prints input_data (input_in_range frames) (input_prints frames) inputs all

priority_prints : (p : TreePriority) → IsUtf8 (priority_name p)
priority_prints Same = IsUtf8-are_ascii (codes "same") refl
priority_prints Smooth = IsUtf8-are_ascii (codes "smooth") refl
priority_prints New = IsUtf8-are_ascii (codes "new") refl

side_few : (b : Bool) → (if b then 1024 else 2048) < 2 ^ 64
side_few true = lit< tt
side_few false = lit< tt

side_prints : (version n : ℕ) → (nat_le 1 n && nat_le n (longest_side version)) ≡ true → n < 2 ^ 64
side_prints version n h = bounded_prints 1 (longest_side version) n (side_few (version == 1)) h

parts_print : (s : ScriptModel) → is_in_ranges s ≡ true → Prints (parts_data s)
unfolding is_in_ranges parts_data number_data opaque_data sides_data
parts_print s all =
    let h8 = left _ _ (left _ _ all) in
    let main = right _ _ (right _ _ (left _ _ all)) in
    let inputs = right _ _ (left _ _ (right _ _ all)) in
    let h7 = left _ _ h8 in
    let h6 = left _ _ h7 in
    let h5 = left _ _ h6 in
    let h4 = left _ _ h5 in
    let h3 = left _ _ h4 in
    let h2 = left _ _ h3 in
    let h1 = left _ _ h2 in
    let version = left _ _ h1 in
    let viewport_w = right _ _ h1 in
    let viewport_h = right _ _ h2 in
    let tile = right _ _ h3 in
    let background = left _ _ (right _ _ h4) in
    let budget = right _ _ h5 in
    let raster_per_frame = right _ _ h6 in
    let soon = right _ _ h7 in
    let eventually = right _ _ h8 in
    members_print (member (codes "background") (opaque_data s.background)
    (member (codes "budget") (number_data s.budget)
    (member (codes "eventually") (number_data s.eventually)
    (member (codes "inputs") (inputs_data s.inputs)
    (member (codes "main") (main_data s.main)
    (member (codes "priority") (string (priority_name s.priority))
    (member (codes "raster_per_frame") (number_data s.raster_per_frame)
    (member (codes "soon") (number_data s.soon)
    (member (codes "tile") (number_data s.tile)
    (member (codes "version") (number_data s.version)
    (member (codes "viewport") (sides_data s.viewport_w s.viewport_h)
    no_members)))))))))))
    refl refl (
      opaque_prints s.background background,
      (
        bounded_prints 0 4096 s.budget (lit< tt) budget,
        (
          bounded_prints s.soon 512 s.eventually (lit< tt) eventually,
          (
            inputs_prints (length s.main) s.inputs inputs,
            (
              main_prints s.version s.main main,
              (
                priority_prints s.priority,
                (
                  bounded_prints 0 4096 s.raster_per_frame (lit< tt) raster_per_frame,
                  (
                    bounded_prints 0 512 s.soon (lit< tt) soon,
                    (
                      bounded_prints 16 256 s.tile (lit< tt) tile,
                      (
                        bounded_prints 1 2 s.version (lit< tt) version,
                        ((side_prints s.version s.viewport_w viewport_w, (side_prints s.version s.viewport_h viewport_h, tt)), tt),
                      ),
                    ),
                  ),
                ),
              ),
            ),
          ),
        ),
      ),
    )

-- the canonical text of a script that the format can say is a text of the value that is printed
pub text_is : (s : ScriptModel) → is_in_ranges s ≡ true → IsTextOf (script_text s) (parts_data s)
text_is s ranges =
    let p = parts_print s ranges in
    (plain_utf8 (parts_data s) p, plain_reads (parts_data s) p (nests_parts s))

-- so it is a text of the script
pub text_reads_back : (s : ScriptModel) → is_in_ranges s ≡ true → IsScriptText (script_text s) s
text_reads_back s ranges = (parts_data s, text_is s ranges, parts_again s ranges)
