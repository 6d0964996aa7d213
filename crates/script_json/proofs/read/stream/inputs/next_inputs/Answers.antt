use Rattle.std.proofs.Common.{◌≡◌, ◌∷◌, length, None, ap, arith}
use Rattle.json.specs.Json.{after_end_array}
use Rattle.json.specs.Token.{begin_array}
use Rattle.serde_json.specs.Data.{Items, no_items, item}
use Rattle.script_fields.specs.Tokens.{first_value}
use Rattle.script_fields.proofs.Progress.{items_begin, items_more, array_over, array_broken}
use Rattle.script_json.proofs.Streams.{longer, inputs_begin, inputs_more, behind_all}
use Rattle.script_json.proofs.read.stream.inputs.next_inputs.Goals as goal

pub inputs-init : goal.inputs-init
inputs-init c =
    (λ (rest : Items). rest, items_begin 125 c.open_array.new.reader, inputs_begin _ c.new-inputs.ensures.items, ap length c.new-inputs.ensures.items, omega arith, omega arith)

pub inputs-preserved : goal.inputs-preserved
inputs-preserved c =
    let l = c.inputs in
    let start = c.open_array.new.reader in
    let going : (after_end_array l.reader ≡ None) × (c.take_end_array.new.self ≡ l.reader) = grind arith in
    let one = c.in_ok-input.ensures.read in
    let join = l.invariant.0 in
    let more = longer l.inputs.items c.push.new.self.items c.in_ok-input.input c.in_ok-push.ensures.items in (
      λ (rest : Items). join (item one.0 rest),
      items_more 125 start join l.reader c.next_input.new.reader one.0 l.invariant.1 going.0 (rw (← going.1) one.1) (rw (← going.1) c.in_ok-input.ensures.shorter),
      rw c.draws_after-draws.ensures.value (inputs_more l.draws l.index join l.inputs.items _ _ one.0 l.invariant.2 one.2 l.invariant.3 c.in_ok-push.ensures.items),
      omega arith,
      omega arith,
      omega (arith, c.draws_after-draws.ensures.bound, l.invariant.5),
    )

pub returns-clause-read : goal.returns-clause-read
returns-clause-read c =
    let l = c.inputs in
    let start = c.open_array.new.reader in
    let join = l.invariant.0 in
    let opened : c.args.reader.now ≡ begin_array ∷ start = grind arith in (
      join no_items,
      array_over 126 c.args.reader.now start join l.reader c.take_end_array.new.self (omega arith) opened l.invariant.1 (grind arith),
      behind_all l.inputs.items _ _ c.shrink_to_fit.ensures.items (l.invariant.2 no_items),
    )

pub returns-in_err-input-clause-refused : goal.returns-in_err-input-clause-refused
returns-in_err-input-clause-refused c json =
    let l = c.inputs in
    let start = c.open_array.new.reader in
    let going : (after_end_array l.reader ≡ None) × (c.take_end_array.new.self ≡ l.reader) = grind arith in
    let opened : c.args.reader.now ≡ begin_array ∷ start = grind arith in
    let none : first_value 125 c.take_end_array.new.self ≡ None = c.next_input.ensures.refused (grind arith) in
    array_broken 126 c.args.reader.now start l.invariant.0 l.reader (omega arith) opened l.invariant.1 going.0 (rw (← going.1) none)
