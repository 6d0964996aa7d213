-- The step is read after what was read before.
use Rattle.std.proofs.Common.{◌≡◌, ℕ, false, List, ◌++◌, ◌∷◌, [], ap, sym, ◌∙◌, subst, Ok}
use Rattle.std.specs.Prelude.{Result, option_to_list}
use Rattle.recording_text.specs.declared.cursor.ImageSpan.{ImageSpan}
use Rattle.recording_text.specs.declared.cursor.EventSpan.{EventSpan}
use Rattle.recording_text.specs.Pieces.{entry_of, is_end}
use Rattle.recording_text.specs.Taking.{Advances, start_at}
use Rattle.recording_text.specs.inner.Parts.{behind, read_from}
use Rattle.recording_text.specs.inner.Steps.{Steps}
use Rattle.recording_text.proofs.BodyRuns.{goes_on}
use Rattle.recording_text.proofs.body.walk_spans.Goals as goal

pub parts-preserved : goal.parts-preserved
parts-preserved c =
    let i = c.parts.invariant in
    let step : Steps c.args.bytes.now c.args.views.now c.parts.cursor c.take_part.new.cursor (Ok c.in-Ok.step) =
    subst (λ (r : Result EventSpan ℕ). Steps c.args.bytes.now c.args.views.now c.parts.cursor c.take_part.new.cursor r) c.in-Ok.is c.in_ok-taken.ensures.step in
    let further : Advances c.args.bytes.now c.parts.cursor c.take_part.new.cursor (Ok c.in-Ok.step) =
    subst (λ (r : Result EventSpan ℕ). Advances c.args.bytes.now c.parts.cursor c.take_part.new.cursor r) c.in-Ok.is c.in_ok-taken.ensures.advances in
    let more : is_end c.in-Ok.step.event ≡ false = sym c.in_ok-keep_image.ensures.last ∙ c.if-branch.false in
    let read : behind (i.0 ++ (entry_of c.in-Ok.step.event ∷ [])) (c.parts.images.items ++ option_to_list c.in-Ok.step.image) (read_from c.args.bytes.now c.args.views.now c.take_part.new.cursor) ≡ read_from c.args.bytes.now c.args.views.now (start_at c.args.start) =
    goes_on c.args.bytes.now c.args.views.now c.parts.cursor c.take_part.new.cursor c.in-Ok.step i.0 c.parts.images.items (read_from c.args.bytes.now c.args.views.now (start_at c.args.start)) i.1 step more in (
      i.0 ++ (entry_of c.in-Ok.step.event ∷ []),
      ap (λ (ms : List ImageSpan). behind (i.0 ++ (entry_of c.in-Ok.step.event ∷ [])) ms (read_from c.args.bytes.now c.args.views.now c.take_part.new.cursor)) c.in_ok-keep_image.ensures.image ∙ read,
      further.1,
    )
