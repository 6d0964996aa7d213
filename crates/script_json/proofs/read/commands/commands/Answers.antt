-- A command more.
use Rattle.std.proofs.Common.{◌≡◌, ◌++◌, ◌∷◌, [], ◌∙◌, rules, arith}
use Rattle.script_json.proofs.ListsRead.{command_read}
use Rattle.script_json.proofs.Streams.{longer}
use Rattle.script_json.proofs.read.commands.commands.Goals as goal

pub loop-index-preserved : goal.loop-index-preserved
loop-index-preserved c =
    let l = c.loop-index in
    let value = c.index-values-index in
    let command = c.in-Ok.command in
    let pushed : c.push.new.self.items ≡ l.commands.items ++ command ∷ [] = search rules in
    let more = longer l.commands.items c.push.new.self.items command pushed in (
      command_read value.result c.args.values.now l.index value.is c.loop-index-test.true c.args.version c.args.list _ l.commands.items c.push.new.self.items command
          c.in-Ok.ensures (omega arith) pushed
          ∙ l.invariant.0,
      omega (arith, more, l.invariant.1),
    )
