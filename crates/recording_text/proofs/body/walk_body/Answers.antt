-- The step is read after what was read before.
use Rattle.std.proofs.Common.{◌≡◌, ℕ, List, ◌++◌, ◌∷◌, [], map, ap, sym, ◌∙◌, subst, Ok}
use mathlib.Core.List.{map-append}
use Rattle.std.specs.Prelude.{Result, option_to_list}
use Rattle.model_history.specs.declared.history.Entry.{Entry}
use Rattle.recording_text.specs.declared.cursor.EventSpan.{EventSpan}
use Rattle.recording_text.specs.Pieces.{entry_of}
use Rattle.recording_text.specs.Places.{image_place_of}
use Rattle.recording_text.specs.Taking.{Advances, start_at}
use Rattle.recording_text.specs.inner.Parts.{behind, read_from}
use Rattle.recording_text.specs.inner.Steps.{Steps}
use Rattle.recording_text.proofs.BodyRuns.{goes_on}
use Rattle.recording_text.proofs.body.walk_body.Goals as goal

pub parts-preserved : goal.parts-preserved
parts-preserved c =
    let i = c.parts.invariant in
    let step : Steps c.args.bytes.now c.args.views.now c.parts.cursor c.take_part.new.cursor (Ok c.in-Ok.step) =
    subst (λ (r : Result EventSpan ℕ). Steps c.args.bytes.now c.args.views.now c.parts.cursor c.take_part.new.cursor r) c.in-Ok.is c.in_ok-taken.ensures.step in
    let further : Advances c.args.bytes.now c.parts.cursor c.take_part.new.cursor (Ok c.in-Ok.step) =
    subst (λ (r : Result EventSpan ℕ). Advances c.args.bytes.now c.parts.cursor c.take_part.new.cursor r) c.in-Ok.is c.in_ok-taken.ensures.advances in
    let read : behind (c.parts.events.entries ++ (entry_of c.in-Ok.step.event ∷ [])) (i.0 ++ option_to_list c.in-Ok.step.image) (read_from c.args.bytes.now c.args.views.now c.take_part.new.cursor) ≡ read_from c.args.bytes.now c.args.views.now (start_at c.args.start) =
    goes_on c.args.bytes.now c.args.views.now c.parts.cursor c.take_part.new.cursor c.in-Ok.step c.parts.events.entries i.0 (read_from c.args.bytes.now c.args.views.now (start_at c.args.start)) i.2 step (sym c.if-last.ensures) in (
      i.0 ++ option_to_list c.in-Ok.step.image,
      map-append image_place_of i.0 (option_to_list c.in-Ok.step.image) ∙ ap (λ (x : List _). x ++ map image_place_of (option_to_list c.in-Ok.step.image)) i.1 ∙ sym c.in_ok-push_place.ensures,
      ap (λ (es : List Entry). behind es (i.0 ++ option_to_list c.in-Ok.step.image) (read_from c.args.bytes.now c.args.views.now c.take_part.new.cursor)) c.in_ok-push_entry.ensures ∙ read,
      further.1,
    )
