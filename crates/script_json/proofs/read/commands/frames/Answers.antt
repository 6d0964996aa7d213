-- A main frame more.
use Rattle.std.proofs.Common.{◌≡◌, ◌++◌, ◌∷◌, [], Vec, Global, refl, ap, ◌∙◌, rules, arith}
use Rattle.std.proofs.lemmas.List.{map-append}
use Rattle.std.proofs.lemmas.List.Folds.{list_all-append}
use Rattle.model_history.specs.Ranges.{are_short}
use Rattle.page_layers.specs.declared.command.Command.{Command}
use Rattle.script_json.proofs.ListsRead.{commands_of, short_frame, frame_read}
use Rattle.script_json.proofs.Streams.{longer}
use Rattle.script_json.proofs.read.commands.frames.Goals as goal

pub loop-index-preserved : goal.loop-index-preserved
loop-index-preserved c =
    let l = c.loop-index in
    let value = c.index-values-index in
    let frame = c.in-Ok.frame in
    let pushed : c.push.new.self.items ≡ l.frames.items ++ frame ∷ [] = search rules in
    let more = longer l.frames.items c.push.new.self.items frame pushed in
    let all = ap commands_of pushed ∙ map-append (λ (f : Vec Command Global). f.items) l.frames.items (frame ∷ []) in (
      frame_read value.result c.args.values.now l.index value.is c.loop-index-test.true c.args.version _ l.frames.items c.push.new.self.items frame c.in-Ok.ensures.value
          (omega arith) pushed
          ∙ l.invariant.0,
      omega (arith, more, l.invariant.1),
      ap are_short all ∙ list_all-append short_frame (commands_of l.frames.items) (frame.items ∷ []) ∙ rw l.invariant.2 (rw c.in-Ok.ensures.short refl),
    )
