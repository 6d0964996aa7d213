-- A script that is read one value of its lists at a time: what is kept of its top object.
use Rattle.std.specs.Prelude.{◌≡◌, ℕ, ◌≤◌, List, length, map, codes, Bool, true, false, ◌&&◌, ◌||◌, ◌==◌, not, nat_lt, Option, Some, None, Ok, ⊤, if◌then◌else◌, Vec}
use Rattle.std.specs.declared.alloc.Global.{Global}
use Rattle.std.specs.List.{list_all}
use Rattle.std.specs.Str.{bytes_eq}
use Rattle.json.specs.Token.{Token}
use Rattle.serde_json.specs.Data.{Data, null, array, Items, Members, no_members, member, put}
use Rattle.serde_json.specs.Find.{get_member}
use Rattle.serde_json.specs.View.{members_view}
use Rattle.page_layers.specs.declared.command.Command.{Command}
use Rattle.page_layers.specs.declared.command.Command.TheVariants.{SetView}
use Rattle.model_history.specs.declared.input.Input.{Input}
use Rattle.model_history.specs.declared.input.Input.TheVariants.{Await}
use Rattle.model_history.specs.Ranges.{are_short}
use Rattle.model_history.specs.Scripts.{ScriptModel}
use Rattle.script_fields.specs.Tokens.{first_value}
use Rattle.script_json.specs.declared.head.Head.{Head}
use Rattle.script_json.specs.declared.read.stream.top.Found.{Found}
use Rattle.script_json.specs.CommandReading.{frames_at}
use Rattle.script_json.specs.InputReading.{inputs_at}
use Rattle.script_json.specs.Reading.{with_lists}

-- a command of version 2 alone
abbrev pub is_view : Command → Bool
is_view (SetView c) = true
is_view _ = false

-- an input that awaits no frame, or one of the given number
abbrev pub awaits_within : ℕ → Input → Bool
awaits_within frames (Await frame) = nat_lt frame frames
awaits_within frames _ = true

-- the name of one of the two lists
abbrev pub is_list : List ℕ → Bool
is_list name = bytes_eq name (codes "main") || bytes_eq name (codes "inputs")

-- the members with `null` in place of the lists
abbrev pub kept : Members → Members
kept no_members = no_members
kept (member name d ms) = member name (if is_list name then null else d) (kept ms)

-- the main frames, if they were found: they are those of the member, as frames of version 2
abbrev pub HasMain : Option (Vec (Vec Command Global) Global) → Option Data → Type 0
HasMain None found = ⊤
HasMain (Some v) found =
    (ds : Items) × (found ≡ Some (array ds)) × (frames_at 2 2 ds ≡ Ok (map (λ frame. frame.items) v.items))
    × (length v.items ≤ 4096) × (are_short (map (λ frame. frame.items) v.items) ≡ true)

-- the inputs, if they were found: they are those of the member, in a script of as many main frames as can be said
abbrev pub HasInputs : Option (Vec Input Global) → Option Data → Type 0
HasInputs None found = ⊤
HasInputs (Some v) found =
    (ds : Items) × (found ≡ Some (array ds)) × (inputs_at 4294967295 0 0 ds ≡ Ok v.items) × (length v.items ≤ 65536)

-- what was found of an object with these members
pub record Holds (f : Found) (ms : Members) : Type 0 where
  pub members : members_view f.members.entries ≡ kept ms
  pub main : HasMain f.main (get_member (codes "main") ms)
  pub inputs : HasInputs f.inputs (get_member (codes "inputs") ms)

-- the value of the member of this name was taken from the tokens
abbrev pub Takes : List ℕ → Found → List Token → Found → List Token → Type 0
Takes name old before new after =
    (d : Data) × (first_value 126 before ≡ Some (d, after)) × ((ms : Members) → Holds old ms → Holds new (put name d ms))

-- whether a version has the commands of these main frames, and the inputs await no other frames
abbrev pub fit : ℕ → List (Vec Command Global) → List Input → Bool
fit version main inputs =
    (version == 2 || list_all (λ frame. list_all (λ c. not (is_view c)) frame.items) main) && list_all (awaits_within (length main)) inputs

-- a script of this head and these lists, which fit each other
pub record AreParts (head : Head) (main : List (Vec Command Global)) (inputs : List Input) (s : ScriptModel) : Type 0 where
  pub fits : fit head.version main inputs ≡ true
  pub says : s ≡ with_lists head (map (λ frame. frame.items) main) inputs
