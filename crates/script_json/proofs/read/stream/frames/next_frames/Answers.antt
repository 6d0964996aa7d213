use Rattle.std.proofs.Common.{◌≡◌, ℕ, Bool, nat_lt, ◌∷◌, [], ◌+◌, List, length, map, None, Vec, Global, refl, ap, ◌∙◌, arith}
use Rattle.std.proofs.lemmas.List.{map-append, length-map}
use Rattle.std.proofs.lemmas.List.Folds.{list_all-append}
use Rattle.model_history.specs.Ranges.{are_short}
use Rattle.json.specs.Json.{after_end_array}
use Rattle.json.specs.Token.{begin_array}
use Rattle.page_layers.specs.declared.command.Command.{Command}
use Rattle.serde_json.specs.Data.{Items, no_items, item}
use Rattle.script_fields.specs.Tokens.{first_value}
use Rattle.script_fields.proofs.Progress.{items_begin, items_more, array_over, array_broken}
use Rattle.script_json.proofs.Streams.{longer, frames_begin, frames_more, behind_all}
use Rattle.script_json.proofs.read.stream.frames.next_frames.Goals as goal

abbrev short_frame : List Command → Bool
short_frame cs = nat_lt (length cs) 4294967296

abbrev commands_of : List (Vec Command Global) → List (List Command)
commands_of frames = map (λ (frame : Vec Command Global). frame.items) frames

pub frames-init : goal.frames-init
frames-init c =
    (λ (rest : Items). rest, items_begin 125 c.open_array.new.reader, frames_begin _ (ap commands_of c.new-frames.ensures.items), omega (arith, ap length c.new-frames.ensures.items), omega arith, ap (λ (v : List (Vec Command Global)). are_short (commands_of v)) c.new-frames.ensures.items)

pub frames-preserved : goal.frames-preserved
frames-preserved c =
    let l = c.frames in
    let start = c.open_array.new.reader in
    let going : (after_end_array l.reader ≡ None) × (c.take_end_array.new.self ≡ l.reader) = grind arith in
    let one = c.in_ok-frame.ensures.read in
    let join = l.invariant.0 in
    let pushed = c.in_ok-push.ensures.items in
    let more = longer l.frames.items c.push.new.self.items c.in_ok-frame.frame pushed in
    let counted : length (commands_of l.frames.items) + 2 ≡ l.list = ap (λ (n : ℕ). n + 2) (length-map l.frames.items (λ (frame : Vec Command Global). frame.items)) ∙ l.invariant.3 in
    let all = ap commands_of pushed ∙ map-append (λ (frame : Vec Command Global). frame.items) l.frames.items (c.in_ok-frame.frame ∷ []) in (
      λ (rest : Items). join (item one.0 rest),
      items_more 125 start join l.reader c.next_frame.new.reader one.0 l.invariant.1 going.0 (rw (← going.1) one.1) (rw (← going.1) c.in_ok-frame.ensures.shorter),
      frames_more l.list join (commands_of l.frames.items) (commands_of c.push.new.self.items) c.in_ok-frame.frame.items one.0 l.invariant.2 one.2 counted all,
      omega arith,
      omega arith,
      ap are_short all ∙ list_all-append short_frame (commands_of l.frames.items) (c.in_ok-frame.frame.items ∷ []) ∙ rw l.invariant.5 (rw c.in_ok-frame.ensures.short refl),
    )

pub returns-clause-read : goal.returns-clause-read
returns-clause-read c =
    let l = c.frames in
    let start = c.open_array.new.reader in
    let join = l.invariant.0 in
    let opened : c.args.reader.now ≡ begin_array ∷ start = grind arith in (
      join no_items,
      array_over 126 c.args.reader.now start join l.reader c.take_end_array.new.self (omega arith) opened l.invariant.1 (grind arith),
      behind_all (commands_of l.frames.items) _ _ refl (l.invariant.2 no_items),
    )

pub returns-in_err-frame-clause-refused : goal.returns-in_err-frame-clause-refused
returns-in_err-frame-clause-refused c json =
    let l = c.frames in
    let start = c.open_array.new.reader in
    let going : (after_end_array l.reader ≡ None) × (c.take_end_array.new.self ≡ l.reader) = grind arith in
    let opened : c.args.reader.now ≡ begin_array ∷ start = grind arith in
    let none : first_value 125 c.take_end_array.new.self ≡ None = c.next_frame.ensures.refused (grind arith) in
    array_broken 126 c.args.reader.now start l.invariant.0 l.reader (omega arith) opened l.invariant.1 going.0 (rw (← going.1) none)
