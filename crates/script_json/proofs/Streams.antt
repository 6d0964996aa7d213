-- A script that was read one value of its lists at a time is the script of the whole value.
use Rattle.std.proofs.Common.{◌≡◌, ℕ, ◌≤◌, List, [], ◌∷◌, ◌++◌, length, map, Bool, true, false, ◌||◌, ◌==◌, not, Option, Some, None, Result, Ok, Err, codes, if◌then◌else◌, bytes_eq, Vec, Global, IfOk, IfSome, rules, ◌+◌, true≢false, le-leb, append-nil, append_assoc, length-append, refl, sym, ap, ◌∙◌, subst, arith}
use Rattle.std.specs.List.{list_all}
use Rattle.std.proofs.lemmas.List.{length-map}
use Rattle.std.proofs.lemmas.List.Folds.{list_all-map}
use Rattle.std.proofs.lemmas.Slice.Eq.{bytes_eq-Decides}
use Rattle.std.proofs.lemmas.Bool.Decides.{nat_tests}
use Rattle.serde_json.specs.Data.{Data, null, array, object, Items, item, Members, put}
use Rattle.serde_json.specs.Events.{items_len}
use Rattle.serde_json.specs.Find.{get_member}
use Rattle.serde_json.specs.View.{view, members_view}
use Rattle.serde_json.specs.declared.value.Value.{Null, the_lemmas}
use Rattle.serde_json.proofs.Views.{get_member-put, get_member-put_other}
use Rattle.page_layers.specs.declared.command.Command.{Command}
use Rattle.model_history.specs.declared.input.Input.{Input}
use Rattle.model_history.specs.Ranges.{are_short}
use Rattle.model_history.specs.Scripts.{ScriptModel}
use Rattle.script_fields.specs.Faults.{◌>>=◌}
use Rattle.script_fields.specs.Forms.{list_form}
use Rattle.script_fields.specs.Fields.{list_at, no_more_members}
use Rattle.script_fields.proofs.Again.{left, right}
use Rattle.script_json.specs.declared.fault.ShapeFault.{ShapeFault}
use Rattle.script_json.specs.declared.head.Head.{Head}
use Rattle.script_json.specs.Faults.{placed, before_rest}
use Rattle.script_json.specs.CommandReading.{command_at, commands_at, frame_at, frames_at}
use Rattle.script_json.specs.InputReading.{input_at, draws_after, inputs_at}
use Rattle.script_json.specs.Reading.{head_at, lists_at, parts_at}
use Rattle.script_json.specs.inner.Streamed.{is_view, is_list, kept, HasMain, HasInputs, Holds, AreParts}
use Rattle.script_json.proofs.Behind.{behind}
use Rattle.script_json.proofs.CommandLaws.{frames_fits}
use Rattle.script_json.proofs.InputLaws.{AllFit, inputs_fits}
use Rattle.script_json.proofs.AnyVersion.{frames_alike, inputs_alike}
use Rattle.script_json.proofs.Kept.{kept_put, kept_no_more, kept_head}
use Rattle.script_json.specs.declared.read.stream.top.Found.{Found}

-- ---- answers

-- what holds of an answer also holds in other words
pub some_also : {A : Type 0} (o : Option A) (P Q : A → Type 0) → IfSome o P → ((x : A) → P x → Q x) → IfSome o Q
some_also (Some x) P Q h k = k x h
some_also None P Q h k = tt

pub ok_also : {A E : Type 0} (r : Result A E) (P Q : A → Type 0) → IfOk r P → ((x : A) → P x → Q x) → IfOk r Q
ok_also (Ok x) P Q h k = k x h
ok_also (Err e) P Q h k = tt

-- ---- one more element

behind_none : {X : Type 0} (r : Result (List X) ShapeFault) → behind [] r ≡ r
behind_none (Ok xs) = refl
behind_none (Err e) = refl

pub behind_more : {X : Type 0} (front : List X) (x : X) (r : Result (List X) ShapeFault) → behind front (before_rest (Ok x) r) ≡ behind (front ++ x ∷ []) r
behind_more front x (Ok xs) = ap Ok (sym (append_assoc front (x ∷ []) xs))
behind_more front x (Err e) = refl

-- a list that was read whole
pub behind_all : {X : Type 0} (xs ys : List X) (r : Result (List X) ShapeFault) → ys ≡ xs → behind xs (Ok []) ≡ r → r ≡ Ok ys
behind_all xs ys r same e = sym e ∙ ap Ok (append-nil xs) ∙ ap Ok (sym same)

pub longer : {X : Type 0} (xs ys : List X) (x : X) → ys ≡ xs ++ x ∷ [] → length ys ≡ length xs + 1
longer xs ys x e = ap length e ∙ length-append xs (x ∷ [])

-- commands so far, of the main frame `list`
abbrev pub CommandsTo : ℕ → List Command → (Items → Items) → Type 0
CommandsTo list xs join = (rest : Items) → behind xs (commands_at 2 list (length xs) rest) ≡ commands_at 2 list 0 (join rest)

pub commands_begin : (list : ℕ) (xs : List Command) → xs ≡ [] → CommandsTo list xs (λ rest. rest)
commands_begin list xs none rest = ap (λ (ys : List Command). behind ys (commands_at 2 list (length ys) rest)) none ∙ behind_none (commands_at 2 list 0 rest)

pub commands_more : (list index : ℕ) (join : Items → Items) (xs ys : List Command) (c : Command) (d : Data) → CommandsTo list xs join
    → placed list index (command_at 2 d) ≡ Ok c → length xs ≡ index → ys ≡ xs ++ c ∷ [] → CommandsTo list ys (λ rest. join (item d rest))
commands_more list index join xs ys c d so one counted pushed rest =
    let here : placed list (length xs) (command_at 2 d) ≡ Ok c = rw counted one in
    ap (λ (zs : List Command). behind zs (commands_at 2 list (length ys) rest)) pushed
    ∙ ap (λ (n : ℕ). behind (xs ++ c ∷ []) (commands_at 2 list n rest)) (longer xs ys c pushed)
    ∙ sym (behind_more xs c (commands_at 2 list (length xs + 1) rest))
    ∙ ap (λ (r : Result Command ShapeFault). behind xs (before_rest r (commands_at 2 list (length xs + 1) rest))) (sym here)
    ∙ so (item d rest)

-- main frames so far
abbrev pub FramesTo : List (List Command) → (Items → Items) → Type 0
FramesTo xs join = (rest : Items) → behind xs (frames_at 2 (length xs + 2) rest) ≡ frames_at 2 2 (join rest)

pub frames_begin : (xs : List (List Command)) → xs ≡ [] → FramesTo xs (λ rest. rest)
frames_begin xs none rest = ap (λ (ys : List (List Command)). behind ys (frames_at 2 (length ys + 2) rest)) none ∙ behind_none (frames_at 2 2 rest)

pub frames_more : (list : ℕ) (join : Items → Items) (xs ys : List (List Command)) (cs : List Command) (d : Data) → FramesTo xs join
    → frame_at 2 list d ≡ Ok cs → length xs + 2 ≡ list → ys ≡ xs ++ cs ∷ [] → FramesTo ys (λ rest. join (item d rest))
frames_more list join xs ys cs d so one counted pushed rest =
    let here : frame_at 2 (length xs + 2) d ≡ Ok cs = rw counted one in
    let next : length ys + 2 ≡ length xs + 2 + 1 = omega (arith, longer xs ys cs pushed) in
    ap (λ (zs : List (List Command)). behind zs (frames_at 2 (length ys + 2) rest)) pushed
    ∙ ap (λ (n : ℕ). behind (xs ++ cs ∷ []) (frames_at 2 n rest)) next
    ∙ sym (behind_more xs cs (frames_at 2 (length xs + 2 + 1) rest))
    ∙ ap (λ (r : Result (List Command) ShapeFault). behind xs (before_rest r (frames_at 2 (length xs + 2 + 1) rest))) (sym here)
    ∙ so (item d rest)

-- inputs so far, and the draws among them
abbrev pub InputsTo : ℕ → List Input → (Items → Items) → Type 0
InputsTo draws xs join = (rest : Items) → behind xs (inputs_at 4294967295 draws (length xs) rest) ≡ inputs_at 4294967295 0 0 (join rest)

pub inputs_begin : (xs : List Input) → xs ≡ [] → InputsTo 0 xs (λ rest. rest)
inputs_begin xs none rest = ap (λ (ys : List Input). behind ys (inputs_at 4294967295 0 (length ys) rest)) none ∙ behind_none (inputs_at 4294967295 0 0 rest)

pub inputs_more : (draws index : ℕ) (join : Items → Items) (xs ys : List Input) (x : Input) (d : Data) → InputsTo draws xs join
    → placed 1 index (input_at 4294967295 draws d) ≡ Ok x → length xs ≡ index → ys ≡ xs ++ x ∷ [] → InputsTo (draws_after draws x) ys (λ rest. join (item d rest))
inputs_more draws index join xs ys x d so one counted pushed rest =
    let here : placed 1 (length xs) (input_at 4294967295 draws d) ≡ Ok x = rw counted one in
    ap (λ (zs : List Input). behind zs (inputs_at 4294967295 (draws_after draws x) (length ys) rest)) pushed
    ∙ ap (λ (n : ℕ). behind (xs ++ x ∷ []) (inputs_at 4294967295 (draws_after draws x) n rest)) (longer xs ys x pushed)
    ∙ sym (behind_more xs x (inputs_at 4294967295 (draws_after draws x) (length xs + 1) rest))
    ∙ ap (λ (r : Result Input ShapeFault). behind xs (r >>= λ y. before_rest (Ok y) (inputs_at 4294967295 (draws_after draws y) (length xs + 1) rest))) (sym here)
    ∙ so (item d rest)

-- ---- the lists of a script

list_known : (key : List ℕ) (most field : ℕ) (ms : Members) (ds : Items) → get_member key ms ≡ Some (array ds) → items_len ds ≤ most → list_at key most field (object ms) ≡ Ok ds
unfolding list_at list_form
list_known key most field ms ds found few = rw found (rw (le-leb (items_len ds) most few) refl)

lists_known : (ms : Members) (main inputs : Items) → get_member (codes "main") ms ≡ Some (array main) → items_len main ≤ 4096
    → get_member (codes "inputs") ms ≡ Some (array inputs) → items_len inputs ≤ 65536 → no_more_members 11 (object ms) ≡ Ok tt
    → lists_at (object ms) ≡ Ok (record { main = main; inputs = inputs })
unfolding lists_at
lists_known ms main inputs main_is few_frames inputs_are few_inputs no_more =
    rw (list_known (codes "main") 4096 10 ms main main_is few_frames)
    (rw (list_known (codes "inputs") 65536 11 ms inputs inputs_are few_inputs)
    (rw no_more refl))

-- what holds of the answer of a reading holds of what was read
ok_is : {A E : Type 0} (r : Result A E) (x : A) (P : A → Type 0) → r ≡ Ok x → IfOk r P → P x
ok_is {A} {E} r x P e h = subst (λ (s : Result A E). IfOk s P) e h

frames_count : (list : ℕ) (ds : Items) (main : List (List Command)) → frames_at 2 list ds ≡ Ok main → length main ≡ items_len ds
frames_count list ds main e = (ok_is (frames_at 2 list ds) main _ e (frames_fits 2 list ds)).1

inputs_count : (m : ℕ) (ds : Items) (xs : List Input) → inputs_at m 0 0 ds ≡ Ok xs → length xs ≡ items_len ds
inputs_count m ds xs e = (ok_is (inputs_at m 0 0 ds) xs (AllFit m 0 (items_len ds)) e (inputs_fits m 0 0 ds (omega arith))).count

-- ---- the members that were taken

pub null_view : view Null ≡ null
null_view = search (rules, the_lemmas)

differ : (k l : List ℕ) → bytes_eq l k ≡ false → (k ≡ l → ⊥)
differ k l other same = true≢false (sym ((bytes_eq-Decides l k).1 (sym same)) ∙ other)

-- the other list keeps its place
elsewhere : (k l : List ℕ) (d : Data) (ms : Members) → bytes_eq l k ≡ false → get_member k ms ≡ get_member k (put l d ms)
elsewhere k l d ms other = sym (get_member-put_other k l d ms (differ k l other))

keeps_main : (old new : Option (Vec (Vec Command Global) Global)) (f g : Option Data) → new ≡ old → f ≡ g → HasMain old f → HasMain new g
keeps_main old new f g same at h = subst (HasMain new) at (subst (λ (o : Option (Vec (Vec Command Global) Global)). HasMain o f) (sym same) h)

keeps_inputs : (old new : Option (Vec Input Global)) (f g : Option Data) → new ≡ old → f ≡ g → HasInputs old f → HasInputs new g
keeps_inputs old new f g same at h = subst (HasInputs new) at (subst (λ (o : Option (Vec Input Global)). HasInputs o f) (sym same) h)

pub holds_main : (old new : Found) (v : Vec (Vec Command Global) Global) (ds : Items)
    → members_view new.members.entries ≡ put (codes "main") null (members_view old.members.entries) → new.main ≡ Some v → new.inputs ≡ old.inputs
    → frames_at 2 2 ds ≡ Ok (map (λ frame. frame.items) v.items) → length v.items ≤ 4096 → are_short (map (λ frame. frame.items) v.items) ≡ true
    → (ms : Members) → Holds old ms → Holds new (put (codes "main") (array ds) ms)
holds_main old new v ds members main inputs read few short ms so = record {
  members = members ∙ ap (put (codes "main") null) so.members ∙ sym (kept_put (codes "main") (array ds) ms);
  main = keeps_main (Some v) new.main (Some (array ds)) (get_member (codes "main") (put (codes "main") (array ds) ms)) main
      (sym (get_member-put (codes "main") (array ds) ms)) (ds, refl, read, few, short);
  inputs = keeps_inputs old.inputs new.inputs _ _ inputs (elsewhere (codes "inputs") (codes "main") (array ds) ms refl) so.inputs;
}

pub holds_inputs : (old new : Found) (v : Vec Input Global) (ds : Items)
    → members_view new.members.entries ≡ put (codes "inputs") null (members_view old.members.entries) → new.inputs ≡ Some v → new.main ≡ old.main
    → inputs_at 4294967295 0 0 ds ≡ Ok v.items → length v.items ≤ 65536
    → (ms : Members) → Holds old ms → Holds new (put (codes "inputs") (array ds) ms)
holds_inputs old new v ds members inputs main read few ms so = record {
  members = members ∙ ap (put (codes "inputs") null) so.members ∙ sym (kept_put (codes "inputs") (array ds) ms);
  main = keeps_main old.main new.main _ _ main (elsewhere (codes "main") (codes "inputs") (array ds) ms refl) so.main;
  inputs = keeps_inputs (Some v) new.inputs (Some (array ds)) (get_member (codes "inputs") (put (codes "inputs") (array ds) ms)) inputs
      (sym (get_member-put (codes "inputs") (array ds) ms)) (ds, refl, read, few);
}

pub holds_other : (old new : Found) (name : List ℕ) (d : Data)
    → bytes_eq name (codes "main") ≡ false → bytes_eq name (codes "inputs") ≡ false
    → members_view new.members.entries ≡ put name d (members_view old.members.entries) → new.main ≡ old.main → new.inputs ≡ old.inputs
    → (ms : Members) → Holds old ms → Holds new (put name d ms)
holds_other old new name d not_main not_inputs members main inputs ms so =
    let other : is_list name ≡ false = rw (not_main, not_inputs) refl in
    let same : put name (if is_list name then null else d) (kept ms) ≡ put name d (kept ms) = rw other refl in
    record {
      members = members ∙ ap (put name d) so.members ∙ sym same ∙ sym (kept_put name d ms);
      main = keeps_main old.main new.main _ _ main (elsewhere (codes "main") name d ms not_main) so.main;
      inputs = keeps_inputs old.inputs new.inputs _ _ inputs (elsewhere (codes "inputs") name d ms not_inputs) so.inputs;
    }

-- ---- the whole script

either : {P : Type 0} (a b : Bool) → (a || b) ≡ true → (a ≡ true → P) → (b ≡ true → P) → P
either true b h k l = k refl
either false b h k l = l h

frames_of_version : (version : ℕ) (ds : Items) (main : List (List Command)) → (version == 2 || list_all (list_all (λ c. not (is_view c))) main) ≡ true
    → frames_at 2 2 ds ≡ Ok main → frames_at version 2 ds ≡ Ok main
frames_of_version version ds main fits e =
    either (version == 2) (list_all (list_all (λ c. not (is_view c))) main) fits
    (λ is. let same : version ≡ 2 = grind (arith, nat_tests) in ap (λ (v : ℕ). frames_at v 2 ds) same ∙ e)
    (λ plain. frames_alike 2 version 2 ds main plain e)

few_of : (a b c most : ℕ) → b ≡ a → b ≡ c → c ≤ most → a ≤ most
few_of a b c most e k h = omega arith

-- what was found of an object is the script that the object says
pub script_known : (head : Head) (main : Vec (Vec Command Global) Global) (inputs : Vec Input Global) (s : ScriptModel) (ms : Members)
    → HasMain (Some main) (get_member (codes "main") ms) → HasInputs (Some inputs) (get_member (codes "inputs") ms)
    → head_at (object ms) ≡ Ok head → no_more_members 11 (object ms) ≡ Ok tt → AreParts head main.items inputs.items s
    → (parts_at (object ms) ≡ Ok s) × (are_short s.main ≡ true)
unfolding parts_at
script_known head main inputs s ms of_main of_inputs head_is no_more are =
    let frames = map (λ (frame : Vec Command Global). frame.items) main.items in
    let count : length frames ≡ length main.items = length-map main.items (λ (frame : Vec Command Global). frame.items) in
    let of_version : (head.version == 2 || list_all (list_all (λ c. not (is_view c))) frames) ≡ true =
    ap (λ (b : Bool). head.version == 2 || b) (list_all-map (list_all (λ c. not (is_view c))) (λ (frame : Vec Command Global). frame.items) main.items)
    ∙ left _ _ are.fits in
    let main_read = frames_of_version head.version of_main.0 frames of_version of_main.2 in
    let inputs_read : inputs_at (length frames) 0 0 of_inputs.0 ≡ Ok inputs.items =
    ap (λ (n : ℕ). inputs_at n 0 0 of_inputs.0) count ∙ inputs_alike 4294967295 (length main.items) 0 0 of_inputs.0 inputs.items (right _ _ are.fits) of_inputs.2 in
    let few_frames : items_len of_main.0 ≤ 4096 = few_of (items_len of_main.0) (length frames) (length main.items) 4096 (frames_count 2 of_main.0 frames of_main.2) count of_main.3 in
    let few_inputs : items_len of_inputs.0 ≤ 65536 = few_of (items_len of_inputs.0) (length inputs.items) (length inputs.items) 65536 (inputs_count 4294967295 of_inputs.0 inputs.items of_inputs.2) refl of_inputs.3 in
    let lists = lists_known ms of_main.0 of_inputs.0 of_main.1 few_frames of_inputs.1 few_inputs no_more in (
      rw head_is (rw lists (rw main_read (rw inputs_read (ap Ok (sym are.says))))),
      ap (λ (t : ScriptModel). are_short t.main) are.says ∙ of_main.4,
    )

-- the head that was read of what is kept
pub head_known : (ms kept_ms : Members) (head : Head) → kept_ms ≡ kept ms → head_at (object kept_ms) ≡ Ok head → head_at (object ms) ≡ Ok head
head_known ms kept_ms head same e = sym (kept_head ms) ∙ ap (λ (ns : Members). head_at (object ns)) (sym same) ∙ e

pub no_more_known : (ms kept_ms : Members) → kept_ms ≡ kept ms → no_more_members 11 (object kept_ms) ≡ Ok tt → no_more_members 11 (object ms) ≡ Ok tt
no_more_known ms kept_ms same e = sym (kept_no_more 11 ms) ∙ ap (λ (ns : Members). no_more_members 11 (object ns)) (sym same) ∙ e
