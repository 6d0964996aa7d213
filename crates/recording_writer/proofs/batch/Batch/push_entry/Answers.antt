-- The line, and then what stands after it.
use Rattle.std.proofs.Common.{◌≡◌, ℕ, List, ◌++◌, ap, sym, ◌∙◌, append_assoc}
use Rattle.std.proofs.lemmas.Result.{on_ok_weaker}
use Rattle.model_history.specs.Texts.{event_line}
use Rattle.thread_pieces.specs.Scenes.{image_if}
use Rattle.thread_pieces.specs.Shots.{all_shown}
use Rattle.recording_writer.specs.Batches.{held_of}
use Rattle.recording_writer.proofs.NextEntries.{piece_parts}
use Rattle.recording_writer.proofs.batch.Batch.push_entry.Goals as goal

pub returns-clause-bytes : goal.returns-clause-bytes
returns-clause-bytes c =
    let shots : List ℕ = all_shown c.args.self.now.shots.items in
    let lines : List ℕ = c.args.self.now.lines.items in
    let held : List ℕ = shots ++ c.push_event.new.text.items in
    let with_line : held ≡ held_of c.args.self.now ++ event_line c.args.entry.now.event =
    ap (λ (w : List ℕ). shots ++ w) c.in_ok-push_event.ensures.text ∙ sym (append_assoc shots lines (event_line c.args.entry.now.event)) in
    on_ok_weaker {P = held_of c.push_scene.new.self ≡ held ++ image_if c.next_scene-scene.result} c.push_scene.result
    (λ text. λ s h comes.
    text
    ∙ ap (λ (w : List ℕ). held ++ w) (ap image_if c.next_scene-scene.ensures.scene ∙ comes.image)
    ∙ piece_parts s h (held_of c.args.self.now) held c.args.entry.now.event with_line)
    c.push_scene.ensures
