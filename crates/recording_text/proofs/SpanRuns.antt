-- The images of a recording stand where its pieces have them.
use Rattle.std.proofs.Common.{◌≡◌, ℕ, ◌+◌, true, false, List, [], ◌∷◌, ◌++◌, length, take, drop, refl, ap, sym, ◌∙◌, append_assoc, append-nil, arith, None, subst, length-append}
use Rattle.std.specs.Prelude.{Bool, Option, MatchBool}
use Rattle.std.specs.List.{flat_map}
use Rattle.std.proofs.Math.Seq.{drop-append_seam, take-append_seam}
use Rattle.std.proofs.lemmas.Grind.{flat_map-append}
use Rattle.page_layers.specs.declared.view.View.{View}
use Rattle.model_history.specs.declared.event.Event.{Event}
use Rattle.model_history.specs.declared.event.Event.TheVariants as event
use Rattle.model_history.specs.Texts.{event_line}
use Rattle.recording_text.specs.declared.cursor.ImageSpan.{ImageSpan}
use Rattle.recording_text.specs.Views.{ViewTable, view_at}
use Rattle.recording_text.specs.Pieces.{Piece, piece_text, HasImage, ArePieces, image_span_of, image_spans, images_text, is_end, shown_after}
use Rattle.recording_text.specs.Spans.{span_bytes, AreWithin}

-- each piece has the image that its event wants, in some size
abbrev AllHave : List Piece → Type 0
AllHave [] = Unit {0}
AllHave (p ∷ ps) = ((v : View) × HasImage v p.event p.image) × AllHave ps

all_have_in : (b : Bool) (t : ViewTable) (shown : Option ℕ) (ps : List Piece) → MatchBool b (ps ≡ []) (ArePieces t shown ps) → (ArePieces t shown ps → AllHave ps) → AllHave ps
all_have_in true t shown ps none more = subst AllHave (sym none) tt
all_have_in false t shown ps are more = more are

all_have : (t : ViewTable) (shown : Option ℕ) (ps : List Piece) → ArePieces t shown ps → AllHave ps
all_have t shown [] are = absurd are
all_have t shown (p ∷ ps) are = ((view_at t shown, are.0.image), all_have_in (is_end p.event) t (shown_after shown p.event) ps are.1 (all_have t (shown_after shown p.event) ps))

-- the image of one piece
abbrev Stands : List ℕ → List ImageSpan → List ℕ → Type 0
Stands bytes ms image = (flat_map (span_bytes bytes) ms ≡ image) × AreWithin (length bytes) ms

drawn_stands : (bytes front line image rest : List ℕ) (index : ℕ) → bytes ≡ front ++ ((line ++ image) ++ rest) → Stands bytes (record { event = index; at = length front + length line; size = length image } ∷ []) image
drawn_stands bytes front line image rest index text =
    let whole : bytes ≡ (front ++ line) ++ (image ++ rest) = text ∙ ap (λ (x : List ℕ). front ++ x) (append_assoc line image rest) ∙ sym (append_assoc front line (image ++ rest)) in
    let at : length front + length line ≡ length (front ++ line) = sym (length-append front line) in
    let behind : drop (length front + length line) bytes ≡ image ++ rest = ap (λ (n : ℕ). drop n bytes) at ∙ ap (drop (length (front ++ line))) whole ∙ drop-append_seam (front ++ line) (image ++ rest) in
    let one : take (length image) (drop (length front + length line) bytes) ≡ image = ap (take (length image)) behind ∙ take-append_seam image rest in
    let long : length bytes ≡ length (front ++ line) + length (image ++ rest) = ap length whole ∙ length-append (front ++ line) (image ++ rest) in
    let some : length (image ++ rest) ≡ length image + length rest = length-append image rest in
    (append-nil _ ∙ one, (omega (arith, at, long, some), tt))

pub image_stands : (v : View) (e : Event) (bytes front image rest : List ℕ) (index : ℕ) → HasImage v e image → bytes ≡ front ++ ((event_line e ++ image) ++ rest) → Stands bytes (image_span_of index (length front) e image) image
image_stands v (event.Draw i ms) bytes front image rest index has text = drawn_stands bytes front (event_line (event.Draw i ms)) image rest index text
image_stands v (event.Stop a) bytes front image rest index has text = absurd has
image_stands v e bytes front image rest index has text = (sym has, tt)

within_both : (n : ℕ) (ms ns : List ImageSpan) → AreWithin n ms → AreWithin n ns → AreWithin n (ms ++ ns)
within_both n [] ns first second = second
within_both n (m ∷ ms) ns first second = (first.0, within_both n ms ns first.1 second)

-- the images of pieces that stand after a prefix
stand : (bytes front : List ℕ) (index : ℕ) (ps : List Piece) → AllHave ps → bytes ≡ front ++ flat_map piece_text ps → Stands bytes (image_spans index (length front) ps) (images_text ps)
stand bytes front index [] have text = (refl, tt)
stand bytes front index (p ∷ ps) have text =
    let first = image_stands have.0.0 p.event bytes front p.image (flat_map piece_text ps) index have.0.1 text in
    let at : length front + length (piece_text p) ≡ length (front ++ piece_text p) = sym (length-append front (piece_text p)) in
    let later = stand bytes (front ++ piece_text p) (index + 1) ps have.1 (text ∙ sym (append_assoc front (piece_text p) (flat_map piece_text ps))) in
    let rest : Stands bytes (image_spans (index + 1) (length front + length (piece_text p)) ps) (images_text ps) = subst (λ (n : ℕ). Stands bytes (image_spans (index + 1) n ps) (images_text ps)) (sym at) later in (
      flat_map-append (span_bytes bytes) (image_span_of index (length front) p.event p.image) (image_spans (index + 1) (length front + length (piece_text p)) ps)
          ∙ ap (λ (x : List ℕ). x ++ flat_map (span_bytes bytes) (image_spans (index + 1) (length front + length (piece_text p)) ps)) first.0 ∙ ap (λ (x : List ℕ). p.image ++ x) rest.0,
      within_both (length bytes) (image_span_of index (length front) p.event p.image) (image_spans (index + 1) (length front + length (piece_text p)) ps) first.1 rest.1,
    )

pub images_stand : (bytes front : List ℕ) (t : ViewTable) (ps : List Piece) → ArePieces t None ps → bytes ≡ front ++ flat_map piece_text ps
    → (flat_map (span_bytes bytes) (image_spans 0 (length front) ps) ≡ images_text ps) × AreWithin (length bytes) (image_spans 0 (length front) ps)
images_stand bytes front t ps are text = stand bytes front 0 ps (all_have t None ps are) text
