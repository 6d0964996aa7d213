-- What the comparison tells.
use Rattle.std.proofs.Common.{◌≡◌, ℕ, ◌≤◌, true, List, ◌++◌, length, sym, ap, ◌∙◌, rules}
use Rattle.std.specs.Prelude.{nat_eq}
use Rattle.std.specs.List.{starts_with}
use Rattle.model_history.specs.Texts.{event_line}
use Rattle.recording_text.proofs.TakenLines.{taken_line}
use Rattle.recording_text.proofs.read.checked.Goals as goal

pub returns : goal.returns
returns c =
    let text : c.push_event.new.text.items ≡ event_line c.args.event = c.in_ok-push_event.ensures.text ∙ ap (λ (xs : List ℕ). xs ++ event_line c.args.event) c.clear.ensures.items in
    let size : c.len.result ≡ length c.push_event.new.text.items = search rules in
    let begins : starts_with nat_eq c.args.bytes.now c.push_event.new.text.items ≡ true =
    ap (λ (xs : List ℕ). starts_with nat_eq c.args.bytes.now xs) (sym c.as_slice.ensures.value) ∙ sym c.starts_with.ensures.value ∙ c.if-not-starts_with.false in
    let short : length c.push_event.new.text.items ≤ length c.args.bytes.now = search rules in
    taken_line c.args.bytes.now c.push_event.new.text.items (record { event = c.args.event; size = c.len.result }) text size begins short
