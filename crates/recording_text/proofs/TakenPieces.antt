-- The piece that a part was taken of.
use Rattle.std.proofs.Common.{◌≡◌, ℕ, ◌+◌, ◌≤◌, List, ◌++◌, length, take, drop, refl, ap, sym, ◌∙◌, append-nil, None, Some, subst}
use Rattle.std.specs.Prelude.{Option, Ok, Err, option_to_list}
use Rattle.std.specs.List.{flat_map}
use Rattle.std.proofs.lemmas.List.{take-append-drop, length-take-le, drop-drop}
use Rattle.model_history.specs.Texts.{event_line}
use Rattle.recording_text.specs.declared.cursor.Cursor.{Cursor}
use Rattle.recording_text.specs.declared.cursor.ImageSpan.{ImageSpan}
use Rattle.recording_text.specs.declared.cursor.EventSpan.{EventSpan}
use Rattle.recording_text.specs.declared.part.RecordingPart.{RecordingPart}
use Rattle.recording_text.specs.Pieces.{IsPiece, image_span_of, is_end, shown_after}
use Rattle.recording_text.specs.Spans.{span_bytes, AreWithin}
use Rattle.recording_text.specs.Taking.{IsImageAt, TakesNext}
use Rattle.recording_text.specs.Views.{ViewTable, view_at}
use Rattle.recording_text.specs.inner.Parts.{part_at}
use Rattle.recording_text.specs.inner.Steps.{Moves}
use Rattle.recording_text.proofs.BadRuns.{part_bad}
use Rattle.recording_text.proofs.PieceParts.{PartTells, part_exact}
use Rattle.recording_text.proofs.PieceRuns.{whole_images}
use Rattle.recording_text.proofs.SpanRuns.{image_stands}

stands_at : (bytes : List ℕ) (o : Option ImageSpan) (image : List ℕ) → flat_map (span_bytes bytes) (option_to_list o) ≡ image → AreWithin (length bytes) (option_to_list o) → IsImageAt bytes o image
stands_at bytes None image is within = sym is
stands_at bytes (Some m) image is within = (within.0, sym (append-nil (span_bytes bytes m)) ∙ is)

pub taken : (bytes : List ℕ) (t : ViewTable) (old new : Cursor) (p : RecordingPart) (step : EventSpan) → old.at ≤ length bytes → part_at (view_at t old.shown) (drop old.at bytes) ≡ Ok p → Moves p old new step → TakesNext bytes t old new (Ok step)
taken bytes t old new p step within read moved =
    let a = part_exact (view_at t old.shown) (drop old.at bytes) p read in
    let image : List ℕ = a.0 in
    let tells : PartTells (view_at t old.shown) (drop old.at bytes) p image = a.1 in
    let same : p.event ≡ step.event = sym moved.event in
    let rest : drop p.size (drop old.at bytes) ≡ drop new.at bytes = drop-drop p.size old.at bytes ∙ ap (λ (n : ℕ). drop n bytes) (sym moved.at) in
    let spans : option_to_list step.image ≡ image_span_of old.index old.at p.event image = moved.image ∙ whole_images (view_at t old.shown) (drop old.at bytes) p image old.index old.at tells in
    let front : length (take old.at bytes) ≡ old.at = length-take-le old.at bytes within in
    let whole : bytes ≡ take old.at bytes ++ ((event_line p.event ++ image) ++ drop p.size (drop old.at bytes)) =
    sym (take-append-drop old.at bytes) ∙ ap (λ (x : List ℕ). take old.at bytes ++ x) tells.text in
    let there = image_stands (view_at t old.shown) p.event bytes (take old.at bytes) image (drop p.size (drop old.at bytes)) old.index tells.piece.image whole in
    let at : image_span_of old.index (length (take old.at bytes)) p.event image ≡ option_to_list step.image = ap (λ (n : ℕ). image_span_of old.index n p.event image) front ∙ sym spans in
    record {
      image = image;
      piece = subst (λ (e : _). IsPiece (view_at t old.shown) (record { event = e; image = image })) same tells.piece;
      stands = stands_at bytes step.image image (ap (flat_map (span_bytes bytes)) (sym at) ∙ there.0) (subst (AreWithin (length bytes)) at there.1);
      text = tells.text ∙ ap (λ (x : List ℕ). (event_line p.event ++ image) ++ x) rest ∙ ap (λ (e : _). (event_line e ++ image) ++ drop new.at bytes) same;
      last = λ is. sym rest ∙ tells.last (ap is_end same ∙ is);
      index = moved.index;
      shown = moved.shown ∙ ap (shown_after old.shown) same;
    }

pub refused : (bytes : List ℕ) (t : ViewTable) (old new : Cursor) (place : ℕ) → part_at (view_at t old.shown) (drop old.at bytes) ≡ Err place → TakesNext bytes t old new (Err (old.at + place))
refused bytes t old new place is = (place, part_bad (view_at t old.shown) (drop old.at bytes) place is, refl)
