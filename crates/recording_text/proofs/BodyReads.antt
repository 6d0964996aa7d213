-- What a walk through the parts gives, in words of texts.
use Rattle.std.proofs.Common.{◌≡◌, ℕ, ◌≤◌, List, ◌++◌, length, take, drop, map, ap, sym, ◌∙◌, None, subst, Ok, Err}
use Rattle.std.specs.Prelude.{Result, IfOk}
use Rattle.std.specs.List.{flat_map}
use Rattle.std.proofs.lemmas.List.{take-append-drop, length-take-le}
use Rattle.recording_text.specs.declared.body.Body.{Body as BodyRead}
use Rattle.recording_text.specs.declared.cursor.ImageSpan.{ImageSpan}
use Rattle.recording_text.specs.BadParts.{StopsAt}
use Rattle.recording_text.specs.Bodies.{ReadsBody, FindsImages}
use Rattle.recording_text.specs.Pieces.{piece_text, image_spans}
use Rattle.recording_text.specs.Places.{image_place_of}
use Rattle.recording_text.specs.Spans.{span_bytes, AreWithin}
use Rattle.recording_text.specs.Views.{ViewTable}
use Rattle.recording_text.specs.Taking.{start_at}
use Rattle.recording_text.specs.inner.Parts.{read_from}
use Rattle.recording_text.specs.inner.Walks.{WalksBody, WalksSpans}
use Rattle.recording_text.proofs.BadRuns.{body_breaks}
use Rattle.recording_text.proofs.PieceRuns.{body_exact}
use Rattle.recording_text.proofs.SpanRuns.{images_stand}

pub body_reads : (bytes : List ℕ) (t : ViewTable) (start : ℕ) (b : BodyRead) → WalksBody (read_from bytes t (start_at start)) (Ok b) → ReadsBody bytes t start (Ok b)
body_reads bytes t start b walked =
    let a = body_exact (drop start bytes) t None 0 start 0 (record { entries = b.events.entries; images = walked.0 }) walked.2 in
    (a.0, (a.1.pieces, a.1.text), a.1.entries, sym walked.1 ∙ ap (map image_place_of) a.1.images)

pub spans_read : {V : Type 0} (spans : V → List ImageSpan) (bytes : List ℕ) (t : ViewTable) (start : ℕ) (v : V) → start ≤ length bytes → WalksSpans spans (read_from bytes t (start_at start)) (Ok v) → FindsImages spans bytes t start (Ok v)
spans_read spans bytes t start v within walked =
    let a = body_exact (drop start bytes) t None 0 start 0 (record { entries = walked.0; images = spans v }) walked.1 in
    let whole : bytes ≡ take start bytes ++ flat_map piece_text a.0 = sym (take-append-drop start bytes) ∙ ap (λ (x : List ℕ). take start bytes ++ x) a.1.text in
    let there = images_stand bytes (take start bytes) t a.0 a.1.pieces whole in
    let at : spans v ≡ image_spans 0 (length (take start bytes)) a.0 = a.1.images ∙ ap (λ (n : ℕ). image_spans 0 n a.0) (sym (length-take-le start bytes within)) in
    (a.0, (a.1.pieces, a.1.text), ap (flat_map (span_bytes bytes)) at ∙ there.0, subst (AreWithin (length bytes)) (sym at) there.1)

pub body_stops : (bytes : List ℕ) (t : ViewTable) (start place : ℕ) → read_from bytes t (start_at start) ≡ Err place → StopsAt bytes t start place
body_stops bytes t start place walked = body_breaks (drop start bytes) t None 0 start 0 place walked

pub images_found : {V E : Type 0} (spans : V → List ImageSpan) (bytes : List ℕ) (t : ViewTable) (start : ℕ) (r : Result (Result V ℕ) E) → start ≤ length bytes → IfOk r (λ walked. WalksSpans spans (read_from bytes t (start_at start)) walked) → IfOk r (λ found. FindsImages spans bytes t start found)
images_found spans bytes t start (Ok (Ok v)) within walked = spans_read spans bytes t start v within walked
images_found spans bytes t start (Ok (Err place)) within walked = body_stops bytes t start place walked
images_found spans bytes t start (Err e) within walked = walked
