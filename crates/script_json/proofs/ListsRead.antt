-- Lists that are read one value after another.
use Rattle.std.proofs.Common.{◌≡◌, ℕ, ◌+◌, ◌<◌, List, [], ◌∷◌, ◌++◌, length, nat_lt, Bool, drop, get_or, map, Vec, Global, Result, Ok, sym, ap, ◌∙◌, arith}
use Rattle.std.proofs.lemmas.List.{drop_more, map-append}
use Rattle.serde_json.specs.declared.value.Value.{Value}
use Rattle.serde_json.specs.View.{view, items_view}
use Rattle.page_layers.specs.declared.command.Command.{Command}
use Rattle.model_history.specs.declared.input.Input.{Input}
use Rattle.script_fields.specs.Faults.{◌>>=◌}
use Rattle.script_json.specs.declared.fault.ShapeFault.{ShapeFault}
use Rattle.script_json.specs.Faults.{placed, before_rest}
use Rattle.script_json.specs.CommandReading.{command_at, commands_at, frame_at, frames_at}
use Rattle.script_json.specs.InputReading.{input_at, draws_after, inputs_at}
use Rattle.script_json.proofs.Behind.{behind}
use Rattle.script_json.proofs.Streams.{behind_more}

abbrev pub commands_of : List (Vec Command Global) → List (List Command)
commands_of frames = map (λ (frame : Vec Command Global). frame.items) frames

abbrev pub short_frame : List Command → Bool
short_frame cs = nat_lt (length cs) 4294967296

-- the value that is read next, of the values that are left
module _ (v : Value) (vs : List Value) (index : ℕ) (is : v ≡ get_or vs index v) (inside : index < length vs) where
  next_value : drop index vs ≡ v ∷ drop (index + 1) vs
  next_value = drop_more vs index v inside ∙ ap (λ (w : Value). w ∷ drop (index + 1) vs) (sym is)

  -- an input more
  pub input_read : (frames draws k : ℕ) (xs ys : List Input) (x : Input) → placed 1 k (input_at frames draws (view v)) ≡ Ok x → k ≡ index → ys ≡ xs ++ x ∷ []
      → behind ys (inputs_at frames (draws_after draws x) (index + 1) (items_view (drop (index + 1) vs)))
      ≡ behind xs (inputs_at frames draws index (items_view (drop index vs)))
  input_read frames draws k xs ys x one at pushed =
      let others : Result (List Input) ShapeFault = inputs_at frames (draws_after draws x) (index + 1) (items_view (drop (index + 1) vs)) in
      let here : placed 1 index (input_at frames draws (view v)) ≡ Ok x = ap (λ (n : ℕ). placed 1 n (input_at frames draws (view v))) (sym at) ∙ one in
      ap (λ (zs : List Input). behind zs others) pushed
      ∙ sym (behind_more xs x others)
      ∙ ap (λ (r : Result Input ShapeFault). behind xs (r >>= λ y. before_rest (Ok y) (inputs_at frames (draws_after draws y) (index + 1) (items_view (drop (index + 1) vs))))) (sym here)
      ∙ ap (λ (ws : List Value). behind xs (inputs_at frames draws index (items_view ws))) (sym next_value)

  -- a command more
  pub command_read : (version list k : ℕ) (xs ys : List Command) (c : Command) → placed list k (command_at version (view v)) ≡ Ok c → k ≡ index → ys ≡ xs ++ c ∷ []
      → behind ys (commands_at version list (index + 1) (items_view (drop (index + 1) vs)))
      ≡ behind xs (commands_at version list index (items_view (drop index vs)))
  command_read version list k xs ys c one at pushed =
      let others : Result (List Command) ShapeFault = commands_at version list (index + 1) (items_view (drop (index + 1) vs)) in
      let here : placed list index (command_at version (view v)) ≡ Ok c = ap (λ (n : ℕ). placed list n (command_at version (view v))) (sym at) ∙ one in
      ap (λ (zs : List Command). behind zs others) pushed
      ∙ sym (behind_more xs c others)
      ∙ ap (λ (r : Result Command ShapeFault). behind xs (before_rest r others)) (sym here)
      ∙ ap (λ (ws : List Value). behind xs (commands_at version list index (items_view ws))) (sym next_value)

  -- a main frame more
  pub frame_read : (version list : ℕ) (fs gs : List (Vec Command Global)) (f : Vec Command Global) → frame_at version list (view v) ≡ Ok f.items → list ≡ index + 2
      → gs ≡ fs ++ f ∷ []
      → behind (commands_of gs) (frames_at version (index + 1 + 2) (items_view (drop (index + 1) vs)))
      ≡ behind (commands_of fs) (frames_at version (index + 2) (items_view (drop index vs)))
  frame_read version list fs gs f one at pushed =
      let others : ℕ → Result (List (List Command)) ShapeFault = λ n. frames_at version n (items_view (drop (index + 1) vs)) in
      let next : index + 1 + 2 ≡ index + 2 + 1 = omega arith in
      let here : frame_at version (index + 2) (view v) ≡ Ok f.items = ap (λ (n : ℕ). frame_at version n (view v)) (sym at) ∙ one in
      let all : commands_of gs ≡ commands_of fs ++ f.items ∷ [] = ap commands_of pushed ∙ map-append (λ (frame : Vec Command Global). frame.items) fs (f ∷ []) in
      ap (λ (zs : List (List Command)). behind zs (others (index + 1 + 2))) all
      ∙ ap (λ (n : ℕ). behind (commands_of fs ++ f.items ∷ []) (others n)) next
      ∙ sym (behind_more (commands_of fs) f.items (others (index + 2 + 1)))
      ∙ ap (λ (r : Result (List Command) ShapeFault). behind (commands_of fs) (before_rest r (others (index + 2 + 1)))) (sym here)
      ∙ ap (λ (ws : List Value). behind (commands_of fs) (frames_at version (index + 2) (items_view ws))) (sym next_value)
