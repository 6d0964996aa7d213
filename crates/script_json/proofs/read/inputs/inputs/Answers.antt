-- An input more.
use Rattle.std.proofs.Common.{◌≡◌, ◌++◌, ◌∷◌, [], ◌∙◌, sym, ap, ℕ, drop, ◌+◌, rules, arith}
use Rattle.serde_json.specs.View.{items_view}
use Rattle.script_json.specs.InputReading.{inputs_at}
use Rattle.script_json.proofs.Behind.{behind}
use Rattle.script_json.proofs.ListsRead.{input_read}
use Rattle.script_json.proofs.read.inputs.inputs.Goals as goal

pub loop-index-preserved : goal.loop-index-preserved
loop-index-preserved c =
    let l = c.loop-index in
    let value = c.index-values-index in
    let x = c.in_ok-input.input in
    let vs = c.args.values.now in
    let pushed : c.push.new.self.items ≡ l.inputs.items ++ x ∷ [] = search rules in (
      ap (λ (n : ℕ). behind c.push.new.self.items (inputs_at c.args.frames n (l.index + 1) (items_view (drop (l.index + 1) vs)))) c.draws_after-draws.ensures.value
          ∙ input_read value.result vs l.index value.is c.loop-index-test.true c.args.frames l.draws _ l.inputs.items c.push.new.self.items x (sym c.in_ok-input.ensures) (omega arith) pushed
          ∙ l.invariant.0,
      omega (arith, c.draws_after-draws.ensures.bound, l.invariant.1),
    )
