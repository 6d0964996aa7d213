-- Scripts: what is printed reads back, and what is read is in the ranges.
use Rattle.std.proofs.Common.{◌≡◌, ℕ, ◌+◌, ◌≤◌, List, length, map, Bool, true, ◌&&◌, ◌==◌, nat_le, Some, Result, Ok, IfOk, codes, refl, sym, ap, ◌∙◌, subst, arith}
use Rattle.std.proofs.lemmas.List.{length-map}
use Rattle.std.proofs.lemmas.Bool.Decides.{nat_tests}
use Rattle.std.specs.List.{list_all}
use Rattle.serde_json.specs.Data.{Data}
use Rattle.serde_json.specs.Events.{items_len}
use Rattle.serde_json.specs.View.{items_of}
use Rattle.pixel.specs.Colours.{is_colour}
use Rattle.tile_priority.specs.declared.tree_priority.TreePriority.{TreePriority}
use Rattle.tile_priority.specs.declared.tree_priority.TreePriority.TheVariants.{Same, Smooth, New}
use Rattle.page_layers.specs.declared.command.Command.{Command}
use Rattle.model_history.specs.declared.input.Input.{Input}
use Rattle.model_history.specs.Scripts.{ScriptModel}
use Rattle.model_history.specs.Ranges.{in_range, longest_side, command_in_range, input_in_range, draw_count, head_in_range, main_in_range, inputs_in_range, is_in_ranges}
use Rattle.script_fields.specs.Fields.{object_at, no_more_members, number_at, sides_at, opaque_at, list_at}
use Rattle.script_fields.proofs.Again.{left, right, both, number_again, opaque_again, sides_again, list_again, items_len-items_of}
use Rattle.script_fields.proofs.Fits.{then_ok, then_any, SidesFit, number_fits, opaque_fits, sides_fits, list_fits}
use Rattle.script_json.specs.declared.fault.ShapeFault.{ShapeFault}
use Rattle.script_json.specs.declared.head.Head.{Head}
use Rattle.script_json.specs.Faults.{placed}
use Rattle.script_json.specs.Causes.{IsScriptText}
use Rattle.script_json.specs.CommandReading.{frames_at}
use Rattle.script_json.specs.CommandValues.{frame_data}
use Rattle.script_json.specs.InputReading.{inputs_at}
use Rattle.script_json.specs.InputValues.{input_data}
use Rattle.script_json.specs.Reading.{priority_named, priority_at, head_at, ScriptLists, lists_at, parts_at}
use Rattle.script_json.specs.ScriptValue.{priority_name, main_data, inputs_data, parts_data}
use Rattle.script_json.proofs.CommandLaws.{placed_ok, frames_again, frames_fits}
use Rattle.script_json.proofs.InputLaws.{inputs_again, AllFit, inputs_fits}

-- ---- what is printed reads back

-- the head of a script
head_of : ScriptModel → Head
head_of s = record {
  version = s.version;
  viewport = record { w = s.viewport_w; h = s.viewport_h };
  tile = s.tile;
  background = s.background;
  budget = s.budget;
  raster_per_frame = s.raster_per_frame;
  soon = s.soon;
  eventually = s.eventually;
  priority = s.priority;
}

priority_again : (p : TreePriority) → priority_named (priority_name p) ≡ Some p
unfolding priority_named
priority_again Same = refl
priority_again Smooth = refl
priority_again New = refl

head_again : (s : ScriptModel) → head_in_range s ≡ true → head_at (parts_data s) ≡ Ok (head_of s)
unfolding head_of head_at parts_data object_at number_at sides_at opaque_at priority_at
head_again s h8 =
    let h7 = left _ _ h8 in
    let h6 = left _ _ h7 in
    let h5 = left _ _ h6 in
    let h4 = left _ _ h5 in
    let h3 = left _ _ h4 in
    let h2 = left _ _ h3 in
    let h1 = left _ _ h2 in
    let version = left _ _ h1 in
    let viewport_w = right _ _ h1 in
    let viewport_h = right _ _ h2 in
    let tile = right _ _ h3 in
    let background = right _ _ h4 in
    let budget = right _ _ h5 in
    let raster_per_frame = right _ _ h6 in
    let soon = right _ _ h7 in
    let eventually = right _ _ h8 in
    rw (number_again 1 2 s.version version)
    (rw (sides_again (longest_side s.version) s.viewport_w s.viewport_h viewport_w viewport_h)
    (rw (number_again 16 256 s.tile tile)
    (rw (opaque_again s.background background)
    (rw (number_again 0 4096 s.budget budget)
    (rw (number_again 0 4096 s.raster_per_frame raster_per_frame)
    (rw (number_again 0 512 s.soon soon)
    (rw (number_again s.soon 512 s.eventually eventually)
    (rw (priority_again s.priority) refl))))))))

-- the lists of a script as values
lists_of : ScriptModel → ScriptLists
lists_of s = record { main = items_of (map frame_data s.main); inputs = items_of (map input_data s.inputs) }

short : {X : Type 0} (f : X → Data) (xs : List X) (most : ℕ) → nat_le (length xs) most ≡ true → nat_le (items_len (items_of (map f xs))) most ≡ true
short f xs most h = ap (λ (n : ℕ). nat_le n most) (items_len-items_of (map f xs) ∙ length-map xs f) ∙ h

lists_again : (s : ScriptModel) → nat_le (length s.main) 4096 ≡ true → nat_le (length s.inputs) 65536 ≡ true
    → lists_at (parts_data s) ≡ Ok (lists_of s)
unfolding lists_of lists_at parts_data list_at no_more_members main_data inputs_data
lists_again s few short_inputs =
    rw (list_again 4096 (items_of (map frame_data s.main)) (short frame_data s.main 4096 few))
    (rw (list_again 65536 (items_of (map input_data s.inputs)) (short input_data s.inputs 65536 short_inputs)) refl)

at_most : (n : ℕ) → nat_le n 4096 ≡ true → 0 + n ≤ 4096
at_most n h = grind (arith, nat_tests)

pub parts_again : (s : ScriptModel) → is_in_ranges s ≡ true → parts_at (parts_data s) ≡ Ok s
unfolding is_in_ranges parts_at head_of lists_of
parts_again s all =
    let head = left _ _ (left _ _ all) in
    let main = right _ _ (left _ _ all) in
    let inputs = right _ _ all in
    let few_frames = left _ _ main in
    let commands = right _ _ main in
    let few_inputs = left _ _ (left _ _ inputs) in
    let each_input = right _ _ (left _ _ inputs) in
    let few_draws : nat_le (draw_count s.inputs) 4096 ≡ true =
    right (nat_le (length s.inputs) 65536 && list_all (input_in_range (length s.main)) s.inputs) (nat_le (draw_count s.inputs) 4096) inputs in
    let draws = at_most (draw_count s.inputs) few_draws in
    rw (head_again s head)
    (rw (lists_again s few_frames few_inputs)
    (rw (frames_again s.version 2 s.main commands)
    (rw (inputs_again (length s.main) 0 0 s.inputs each_input draws) refl)))

-- ---- what is read is in the ranges

-- the numbers of a head are in their ranges
abbrev head_fits_in : Head → Bool
head_fits_in h =
    in_range 1 2 h.version
    && in_range 1 (longest_side h.version) h.viewport.w
    && in_range 1 (longest_side h.version) h.viewport.h
    && in_range 16 256 h.tile
    && (is_colour h.background && (h.background.a == 255))
    && in_range 0 4096 h.budget
    && in_range 0 4096 h.raster_per_frame
    && in_range 0 512 h.soon
    && in_range h.soon 512 h.eventually

head_fits : (d : Data) → IfOk (head_at d) (λ h. head_fits_in h ≡ true)
unfolding head_at
head_fits d =
    then_any (object_at d) _ _ (λ u.
    then_ok (number_at (codes "version") 1 2 1 d) _ (λ n. in_range 1 2 n ≡ true) _ (number_fits (codes "version") 1 2 1 d) (λ version h0.
    then_ok (sides_at (codes "viewport") (longest_side version) 2 d) _ (SidesFit (longest_side version)) _ (sides_fits (codes "viewport") (longest_side version) 2 d) (λ viewport h1.
    then_ok (number_at (codes "tile") 16 256 3 d) _ (λ n. in_range 16 256 n ≡ true) _ (number_fits (codes "tile") 16 256 3 d) (λ tile h2.
    then_ok (opaque_at (codes "background") 4 d) _ (λ p. (is_colour p && (p.a == 255)) ≡ true) _ (opaque_fits (codes "background") 4 d) (λ background h3.
    then_ok (number_at (codes "budget") 0 4096 5 d) _ (λ n. in_range 0 4096 n ≡ true) _ (number_fits (codes "budget") 0 4096 5 d) (λ budget h4.
    then_ok (number_at (codes "raster_per_frame") 0 4096 6 d) _ (λ n. in_range 0 4096 n ≡ true) _ (number_fits (codes "raster_per_frame") 0 4096 6 d) (λ raster_per_frame h5.
    then_ok (number_at (codes "soon") 0 512 7 d) _ (λ n. in_range 0 512 n ≡ true) _ (number_fits (codes "soon") 0 512 7 d) (λ soon h6.
    then_ok (number_at (codes "eventually") soon 512 8 d) _ (λ n. in_range soon 512 n ≡ true) _ (number_fits (codes "eventually") soon 512 8 d) (λ eventually h7.
    then_any (priority_at 9 d) _ _ (λ priority.
    both _ _ (both _ _ (both _ _ (both _ _ (both _ _ (both _ _ (both _ _ (both _ _ h0 h1.w) h1.h) h2) h3) h4) h5) h6) h7))))))))))

-- at most the given number of values
record Short (l : ScriptLists) : Type 0 where
  main : nat_le (items_len l.main) 4096 ≡ true
  inputs : nat_le (items_len l.inputs) 65536 ≡ true

lists_fit : (d : Data) → IfOk (lists_at d) Short
unfolding lists_at
lists_fit d =
    then_ok (list_at (codes "main") 4096 10 d) _ (λ ds. nat_le (items_len ds) 4096 ≡ true) _ (list_fits (codes "main") 4096 10 d) (λ main h0.
    then_ok (list_at (codes "inputs") 65536 11 d) _ (λ ds. nat_le (items_len ds) 65536 ≡ true) _ (list_fits (codes "inputs") 65536 11 d) (λ inputs h1.
    then_any (no_more_members 11 d) _ _ (λ u. record { main = h0; inputs = h1 })))

main_is : (version n : ℕ) (main : List (List Command)) → nat_le n 4096 ≡ true → length main ≡ n → list_all (list_all (command_in_range version)) main ≡ true
    → main_in_range version main ≡ true
main_is version n main few e h = both _ _ (ap (λ (k : ℕ). nat_le k 4096) e ∙ few) h

inputs_are : (frames n : ℕ) (xs : List Input) → nat_le n 65536 ≡ true → AllFit frames 0 n xs → inputs_in_range frames xs ≡ true
inputs_are frames n xs few k =
    let e : nat_le (draw_count xs) 4096 ≡ true = grind (arith, nat_tests, k.few) in
    both _ _ (both _ _ (ap (λ (m : ℕ). nat_le m 65536) k.count ∙ few) k.in_range) e

parts_fit : (d : Data) → IfOk (parts_at d) (λ s. is_in_ranges s ≡ true)
unfolding parts_at is_in_ranges
parts_fit d =
    then_ok (placed 0 0 (head_at d)) _ (λ h. head_fits_in h ≡ true) _ (placed_ok 0 0 (head_at d) _ (head_fits d)) (λ head h0.
    then_ok (placed 0 0 (lists_at d)) _ Short _ (placed_ok 0 0 (lists_at d) _ (lists_fit d)) (λ lists h1.
    then_ok (frames_at head.version 2 lists.main) _ (λ main. (list_all (list_all (command_in_range head.version)) main ≡ true) × (length main ≡ items_len lists.main)) _
    (frames_fits head.version 2 lists.main) (λ main h2.
    then_ok (inputs_at (length main) 0 0 lists.inputs) _ (AllFit (length main) 0 (items_len lists.inputs)) _
    (inputs_fits (length main) 0 0 lists.inputs (omega arith)) (λ inputs h3.
    both _ _ (both _ _ h0 (main_is head.version (items_len lists.main) main h1.main h2.1 h2.0))
    (inputs_are (length main) (items_len lists.inputs) inputs h1.inputs h3)))))

pub parts_are_in_ranges : (d : Data) (s : ScriptModel) → parts_at d ≡ Ok s → is_in_ranges s ≡ true
parts_are_in_ranges d s e =
    let P : Result ScriptModel ShapeFault → Type 0 = λ r. IfOk r (λ t. is_in_ranges t ≡ true) in
    subst P e (parts_fit d)

-- ---- texts

pub one_script : (bytes : List ℕ) (s t : ScriptModel) → IsScriptText bytes s → IsScriptText bytes t → s ≡ t
one_script bytes s t h k =
    let d : Some h.0 ≡ Some k.0 = sym h.1.1 ∙ k.1.1 in
    let same : h.0 ≡ k.0 = cc in
    let e : ◌≡◌ {A = Result ScriptModel ShapeFault} (Ok s) (Ok t) = sym h.2 ∙ ap parts_at same ∙ k.2 in
    cc
