-- What is read in one version, or for one number of main frames, is read in each other one that has it.
use Rattle.std.proofs.Common.{◌≡◌, ℕ, ◌+◌, List, ◌∷◌, Bool, true, false, ◌==◌, not, nat_lt, Option, Some, None, Result, Ok, Err, option_and_then, if◌then◌else◌, codes, true≢false, refl, sym, ap, ◌∙◌}
use Rattle.std.specs.Prelude.{⊤}
use Rattle.std.specs.List.{list_all}
use Rattle.serde_json.specs.Data.{Data, Items, no_items, item}
use Rattle.serde_json.specs.Find.{as_array, as_str, get}
use Rattle.page_layers.specs.declared.command.Command.{Command}
use Rattle.page_layers.specs.declared.command.Command.TheVariants.{SetView}
use Rattle.model_history.specs.declared.input.Input.{Input}
use Rattle.model_history.specs.declared.input.Input.TheVariants.{Await}
use Rattle.script_fields.specs.declared.fault.FieldFault.{FieldFault}
use Rattle.script_fields.specs.Faults.{◌>>=◌, fault, or_fault}
use Rattle.script_fields.specs.Fields.{object_at, whole_at, number_at, no_more_members}
use Rattle.script_fields.proofs.Again.{left, right}
use Rattle.script_json.specs.declared.fault.ShapeFault.{ShapeFault}
use Rattle.page_layers.specs.declared.command.Op.{Op}
use Rattle.page_layers.specs.declared.command.Op.TheVariants as op
use Rattle.script_json.specs.declared.op.InputOp.{InputOp}
use Rattle.script_json.specs.declared.op.InputOp.TheVariants as kind
use Rattle.script_json.specs.Faults.{placed, before_rest}
use Rattle.script_json.specs.Ops.{op_at}
use Rattle.script_json.specs.CommandReading.{fields_at, command_at, commands_at, frame_at, frames_at}
use Rattle.script_json.specs.InputReading.{input_op_at, below, input_fields_at, input_at, draws_after, inputs_at}
use Rattle.script_json.specs.inner.Streamed.{is_view, awaits_within}
use Rattle.page_layers.specs.CommandFields.{op_named}
use Rattle.model_history.specs.Ranges.{is_of_version}

-- ---- one after another

-- what follows is read alike
then_alike : {A B E : Type 0} (r : Result A E) (f g : A → Result B E) (y : B) → ((x : A) → f x ≡ Ok y → g x ≡ Ok y) → (r >>= f) ≡ Ok y → (r >>= g) ≡ Ok y
then_alike (Ok x) f g y k h = k x h
then_alike (Err e) f g y k h = h

-- a list that was read: its first element and the others
pub record Split {A : Type 0} (r : Result A ShapeFault) (rest : Result (List A) ShapeFault) (ys : List A) : Type 0 where
  pub first : A
  pub others : List A
  pub is_first : r ≡ Ok first
  pub are_others : rest ≡ Ok others
  pub all : first ∷ others ≡ ys

split : {A : Type 0} (r : Result A ShapeFault) (rest : Result (List A) ShapeFault) (ys : List A) → before_rest r rest ≡ Ok ys → Split r rest ys
split (Err e) rest ys h = absurd (cc)
split (Ok x) (Err e) ys h = absurd (cc)
split (Ok x) (Ok xs) ys h = record { first = x; others = xs; is_first = refl; are_others = refl; all = cc }

joined : {A : Type 0} (r : Result A ShapeFault) (rest : Result (List A) ShapeFault) (x : A) (xs ys : List A) → r ≡ Ok x → rest ≡ Ok xs → x ∷ xs ≡ ys → before_rest r rest ≡ Ok ys
joined r rest x xs ys e k all = rw e (rw k (ap Ok all))

-- an element that was read, wherever it stands
placed_alike : {A : Type 0} (list index : ℕ) (r s : Result A FieldFault) (y : A) → (r ≡ Ok y → s ≡ Ok y) → placed list index r ≡ Ok y → placed list index s ≡ Ok y
placed_alike list index (Err e) s y k h = absurd (cc)
placed_alike list index (Ok x) s y k h =
    let same : x ≡ y = cc in
    ap (placed list index) (k (ap Ok same))

-- ---- commands

abbrev views : Result Command FieldFault → Bool
views (Ok c) = is_view c
views (Err e) = true

all_views : (w h tile : Result ℕ FieldFault) (more : Result ⊤ FieldFault) → views (w >>= λ a. h >>= λ b. tile >>= λ t. more >>= λ u. Ok (SetView (record { w = a; h = b; tile = t }))) ≡ true
all_views (Err e) h tile more = refl
all_views (Ok a) (Err e) tile more = refl
all_views (Ok a) (Ok b) (Err e) more = refl
all_views (Ok a) (Ok b) (Ok t) (Err e) = refl
all_views (Ok a) (Ok b) (Ok t) (Ok u) = refl

a_view : (d : Data) (c : Command) → fields_at op.SetView d ≡ Ok c → is_view c ≡ true
unfolding fields_at
a_view d c e = sym (ap views e) ∙ all_views (whole_at (codes "w") 1 d) (whole_at (codes "h") 2 d) (whole_at (codes "tile") 3 d) (no_more_members 4 d)

set_view : (b : Bool) (d : Data) (c : Command) → is_view c ≡ false → (or_fault 0 (if b then Some op.SetView else None) >>= λ name. fields_at name d) ≡ Ok c → ⊥
set_view true d c plain h = true≢false (sym (a_view d c h) ∙ plain)
set_view false d c plain h = absurd (cc)

of_version : (v w : ℕ) (o : Op) (d : Data) (c : Command) → is_view c ≡ false
    → (or_fault 0 (if is_of_version v o then Some o else None) >>= λ name. fields_at name d) ≡ Ok c
    → (or_fault 0 (if is_of_version w o then Some o else None) >>= λ name. fields_at name d) ≡ Ok c
of_version v w op.SetView d c plain h = absurd (set_view (v == 2) d c plain h)
of_version v w _ d c plain h = h

named : (v w : ℕ) (o : Option Op) (d : Data) (c : Command) → is_view c ≡ false
    → (or_fault 0 (option_and_then (λ p. if is_of_version v p then Some p else None) o) >>= λ name. fields_at name d) ≡ Ok c
    → (or_fault 0 (option_and_then (λ p. if is_of_version w p then Some p else None) o) >>= λ name. fields_at name d) ≡ Ok c
named v w None d c plain h = h
named v w (Some o) d c plain h = of_version v w o d c plain h

command_alike : (v w : ℕ) (d : Data) (c : Command) → is_view c ≡ false → command_at v d ≡ Ok c → command_at w d ≡ Ok c
unfolding command_at op_at
command_alike v w d c plain h =
    then_alike (object_at d) _ _ c (λ u k. named v w (option_and_then op_named (option_and_then as_str (get (codes "op") d))) d c plain k) h

is_false : (b : Bool) → not b ≡ true → b ≡ false
is_false true h = absurd (cc)
is_false false h = refl

commands_alike : (v w list index : ℕ) (ds : Items) (cs : List Command) → list_all (λ c. not (is_view c)) cs ≡ true → commands_at v list index ds ≡ Ok cs → commands_at w list index ds ≡ Ok cs
commands_alike v w list index no_items cs all h = h
commands_alike v w list index (item d ds) cs all h =
    let s = split (placed list index (command_at v d)) (commands_at v list (index + 1) ds) cs h in
    let each : list_all (λ c. not (is_view c)) (s.first ∷ s.others) ≡ true = ap (list_all (λ c. not (is_view c))) s.all ∙ all in
    let plain = is_false (is_view s.first) (left _ _ each) in
    joined (placed list index (command_at w d)) (commands_at w list (index + 1) ds) s.first s.others cs
    (placed_alike list index (command_at v d) (command_at w d) s.first (command_alike v w d s.first plain) s.is_first)
    (commands_alike v w list (index + 1) ds s.others (right _ _ each) s.are_others) s.all

frame_alike : (v w list : ℕ) (d : Data) (cs : List Command) → list_all (λ c. not (is_view c)) cs ≡ true → frame_at v list d ≡ Ok cs → frame_at w list d ≡ Ok cs
unfolding frame_at
frame_alike v w list d cs all h =
    then_alike (placed list 0 (or_fault 98 (as_array d))) (commands_at v list 0) (commands_at w list 0) cs (λ ds k. commands_alike v w list 0 ds cs all k) h

-- main frames without a command of version 2 alone are the same in each version
pub frames_alike : (v w list : ℕ) (ds : Items) (main : List (List Command)) → list_all (list_all (λ c. not (is_view c))) main ≡ true → frames_at v list ds ≡ Ok main → frames_at w list ds ≡ Ok main
frames_alike v w list no_items main all h = h
frames_alike v w list (item d ds) main all h =
    let s = split (frame_at v list d) (frames_at v (list + 1) ds) main h in
    let each : list_all (list_all (λ c. not (is_view c))) (s.first ∷ s.others) ≡ true = ap (list_all (list_all (λ c. not (is_view c)))) s.all ∙ all in
    joined (frame_at w list d) (frames_at w (list + 1) ds) s.first s.others main
    (frame_alike v w list d s.first (left _ _ each) s.is_first)
    (frames_alike v w (list + 1) ds s.others (right _ _ each) s.are_others) s.all

-- ---- inputs

abbrev if_below : Bool → Result ⊤ FieldFault
if_below b = if b then Ok tt else Err (fault 1)

await_at : (b : Bool) (frame : ℕ) (more : Result ⊤ FieldFault) (frames : ℕ) (x : Input) → awaits_within frames x ≡ true
    → (if_below b >>= λ u. more >>= λ v. Ok (Await frame)) ≡ Ok x → (below frames 1 frame >>= λ u. more >>= λ v. Ok (Await frame)) ≡ Ok x
await_at false frame more frames x within h = absurd (cc)
await_at true frame (Err e) frames x within h = absurd (cc)
await_at true frame (Ok v) frames x within h =
    let same : Await frame ≡ x = cc in
    let lt : nat_lt frame frames ≡ true = ap (awaits_within frames) same ∙ within in
    rw lt h

await_alike : (frame : Result ℕ FieldFault) (more : Result ⊤ FieldFault) (m n : ℕ) (x : Input) → awaits_within n x ≡ true
    → (frame >>= λ f. below m 1 f >>= λ u. more >>= λ v. Ok (Await f)) ≡ Ok x → (frame >>= λ f. below n 1 f >>= λ u. more >>= λ v. Ok (Await f)) ≡ Ok x
await_alike (Err e) more m n x within h = h
await_alike (Ok f) more m n x within h = await_at (nat_lt f m) f more n x within h

fields_alike : (m n draws : ℕ) (o : InputOp) (d : Data) (x : Input) → awaits_within n x ≡ true → input_fields_at m draws o d ≡ Ok x → input_fields_at n draws o d ≡ Ok x
unfolding input_fields_at
fields_alike m n draws kind.Scroll d x within h = h
fields_alike m n draws kind.Wheel d x within h = h
fields_alike m n draws kind.Draw d x within h = h
fields_alike m n draws kind.Await d x within h = await_alike (number_at (codes "frame") 0 4294967295 1 d) (no_more_members 2 d) m n x within h
fields_alike m n draws kind.Settle d x within h = h

input_alike : (m n draws : ℕ) (d : Data) (x : Input) → awaits_within n x ≡ true → input_at m draws d ≡ Ok x → input_at n draws d ≡ Ok x
unfolding input_at
input_alike m n draws d x within h =
    then_alike (object_at d) _ _ x (λ u k. then_alike (input_op_at d) _ _ x (λ o l. fields_alike m n draws o d x within l) k) h

next_alike : (n : ℕ) (r s : Result Input ShapeFault) (rest more : Input → Result (List Input) ShapeFault) (xs : List Input)
    → ((x : Input) → awaits_within n x ≡ true → r ≡ Ok x → s ≡ Ok x)
    → ((x : Input) (ys : List Input) → list_all (awaits_within n) ys ≡ true → rest x ≡ Ok ys → more x ≡ Ok ys)
    → list_all (awaits_within n) xs ≡ true
    → (r >>= λ x. before_rest (Ok x) (rest x)) ≡ Ok xs → (s >>= λ x. before_rest (Ok x) (more x)) ≡ Ok xs
next_alike n (Err e) s rest more xs one others all h = absurd (cc)
next_alike n (Ok x) s rest more xs one others all h =
    let p = split (Ok x) (rest x) xs h in
    let each : list_all (awaits_within n) (p.first ∷ p.others) ≡ true = ap (list_all (awaits_within n)) p.all ∙ all in
    let first = p.is_first in
    let same : p.first ≡ x = cc in
    let here : awaits_within n x ≡ true = ap (awaits_within n) (sym same) ∙ left _ _ each in
    let whole : x ∷ p.others ≡ xs = ap (λ (y : Input). y ∷ p.others) (sym same) ∙ p.all in
    rw (one x here refl) (joined (Ok x) (more x) x p.others xs refl (others x p.others (right _ _ each) p.are_others) whole)

-- inputs that await frames below a number are the same in a script of that number of main frames
pub inputs_alike : (m n draws index : ℕ) (ds : Items) (xs : List Input) → list_all (awaits_within n) xs ≡ true → inputs_at m draws index ds ≡ Ok xs → inputs_at n draws index ds ≡ Ok xs
inputs_alike m n draws index no_items xs all h = h
inputs_alike m n draws index (item d ds) xs all h =
    next_alike n (placed 1 index (input_at m draws d)) (placed 1 index (input_at n draws d))
    (λ x. inputs_at m (draws_after draws x) (index + 1) ds) (λ x. inputs_at n (draws_after draws x) (index + 1) ds) xs
    (λ x within e. placed_alike 1 index (input_at m draws d) (input_at n draws d) x (input_alike m n draws d x within) e)
    (λ x ys each e. inputs_alike m n (draws_after draws x) (index + 1) ds ys each e) all h
