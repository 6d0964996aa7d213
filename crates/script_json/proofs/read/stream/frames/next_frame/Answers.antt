use Rattle.std.proofs.Common.{◌≡◌, ◌∷◌, length, None, ap, arith}
use Rattle.json.specs.Json.{after_end_array}
use Rattle.json.specs.Token.{begin_array}
use Rattle.serde_json.specs.Data.{array, Items, no_items, item}
use Rattle.script_fields.specs.Tokens.{first_value}
use Rattle.script_fields.proofs.Progress.{items_begin, items_more, array_over, array_broken}
use Rattle.script_json.specs.CommandReading.{frame_at}
use Rattle.script_json.proofs.Streams.{longer, commands_begin, commands_more, behind_all}
use Rattle.script_json.proofs.read.stream.frames.next_frame.Goals as goal

pub commands-init : goal.commands-init
commands-init c = (λ (rest : Items). rest, items_begin 124 c.open_array.new.reader, commands_begin c.args.list _ c.new-commands.ensures.items, ap length c.new-commands.ensures.items, omega arith)

pub commands-preserved : goal.commands-preserved
commands-preserved c =
    let l = c.commands in
    let start = c.open_array.new.reader in
    let going : (after_end_array l.reader ≡ None) × (c.take_end_array.new.self ≡ l.reader) = grind arith in
    let one = c.in_ok-command.ensures.read in
    let join = l.invariant.0 in
    let more = longer l.commands.items c.push.new.self.items c.in_ok-command.command c.in_ok-push.ensures.items in (
      λ (rest : Items). join (item one.0 rest),
      items_more 124 start join l.reader c.next_command.new.reader one.0 l.invariant.1 going.0 (rw (← going.1) one.1) (rw (← going.1) c.in_ok-command.ensures.shorter),
      commands_more c.args.list l.index join l.commands.items _ _ one.0 l.invariant.2 one.2 l.invariant.3 c.in_ok-push.ensures.items,
      omega arith,
      omega arith,
    )

pub returns-clause-read : goal.returns-clause-read
unfolding frame_at
returns-clause-read c =
    let l = c.commands in
    let start = c.open_array.new.reader in
    let join = l.invariant.0 in
    let opened : c.args.reader.now ≡ begin_array ∷ start = grind arith in (
      array (join no_items),
      array_over 125 c.args.reader.now start join l.reader c.take_end_array.new.self (omega arith) opened l.invariant.1 (grind arith),
      behind_all l.commands.items _ _ c.shrink_to_fit.ensures.items (l.invariant.2 no_items),
    )

pub returns-in_err-command-clause-refused : goal.returns-in_err-command-clause-refused
returns-in_err-command-clause-refused c json =
    let l = c.commands in
    let start = c.open_array.new.reader in
    let going : (after_end_array l.reader ≡ None) × (c.take_end_array.new.self ≡ l.reader) = grind arith in
    let opened : c.args.reader.now ≡ begin_array ∷ start = grind arith in
    let none : first_value 124 c.take_end_array.new.self ≡ None = c.next_command.ensures.refused (grind arith) in
    array_broken 125 c.args.reader.now start l.invariant.0 l.reader (omega arith) opened l.invariant.1 going.0 (rw (← going.1) none)
