-- The recording of a history, and recordings whose images are the painting, are one.
use Rattle.std.proofs.Common.{◌≡◌, ℕ, ◌+◌, ◌*◌, true, false, List, [], ◌∷◌, ◌++◌, length, refl, ap, sym, ◌∙◌, arith, subst, zero, suc, length-append}
use Rattle.std.specs.Prelude.{Bool, Option, MatchBool}
use Rattle.std.specs.List.{flat_map}
use Rattle.std.specs.Option.{option_or}
use Rattle.page_layers.specs.declared.view.View.{View}
use Rattle.pixel.specs.Colours.{Parts}
use Rattle.model_history.specs.declared.event.Event.{Event}
use Rattle.model_history.specs.declared.event.Event.TheVariants as event
use Rattle.model_history.specs.declared.history.Entry.{Entry}
use Rattle.model_history.specs.Accepted.{IsAccepted}
use Rattle.model_history.specs.EventFields.{activates}
use Rattle.model_history.specs.Frames.{active, active_page}
use Rattle.model_history.specs.Recordings.{joined_to, image_row, image, rgb, screen_colour, shown_image, image_behind, piece, pieces, header, recorded}
use Rattle.model_history.specs.Scripts.{ScriptModel}
use Rattle.model_history.specs.Texts.{event_line}
use Rattle.script_json.specs.Recordings.{script_text, recording}
use Rattle.recording_check.specs.Openings.{IsScriptLine}
use Rattle.recording_check.specs.Painted.{ArePainted, IsNamed, IsOver}
use Rattle.recording_check.specs.Recordings.{IsRecording}
use Rattle.recording_text.specs.Pieces.{Piece, piece_text, IsImage, HasImage, ArePieces, entries, entry_of, shown_after, is_end}
use Rattle.recording_text.specs.Views.{views_of, view_at}
use Rattle.recording_check.proofs.OneReading.{one_reading}
use Rattle.recording_check.proofs.ScriptLines.{accepted_line}
use Rattle.recording_text.proofs.PageViews.{IsFrame, active_view}

-- painted pieces add what the events of their entries add
painted_text : (s : ScriptModel) (h : List Entry) (ps : List Piece) → ArePainted s h ps → flat_map piece_text ps ≡ pieces s h (entries ps)
unfolding piece entry_of
painted_text s h [] painted = refl
painted_text s h (p ∷ ps) painted =
    ap (λ (x : List ℕ). (event_line p.event ++ x) ++ flat_map piece_text ps) painted.0
    ∙ ap (λ (x : List ℕ). (event_line p.event ++ image_behind s h p.event) ++ x) (painted_text s (entry_of p.event ∷ h) ps painted.1)

-- what is read as a recording whose images are the painting is the recording of its script and its entries
pub painted_is_recording : (bytes : List ℕ) (s : ScriptModel) (ps : List Piece) → IsRecording bytes s ps → ArePainted s [] ps → bytes ≡ recording s (entries ps)
unfolding recording recorded
painted_is_recording bytes s ps is painted = is.opening.text ∙ ap (λ (x : List ℕ). header (script_text s) ++ x) (painted_text s [] ps painted)

-- the pieces of a history
abbrev pieces_of : ScriptModel → List Entry → List Entry → List Piece
pieces_of s h [] = []
pieces_of s h (e ∷ es) = record { event = e.event; image = image_behind s h e.event } ∷ pieces_of s (e ∷ h) es

text_of : (s : ScriptModel) (h es : List Entry) → flat_map piece_text (pieces_of s h es) ≡ pieces s h es
unfolding piece
text_of s h [] = refl
text_of s h (e ∷ es) = ap (λ (x : List ℕ). (event_line e.event ++ image_behind s h e.event) ++ x) (text_of s (e ∷ h) es)

-- the bytes of a picture
row_length : (pixel : ℕ → ℕ → Parts) (y w : ℕ) → length (joined_to w (λ x. rgb (pixel x y))) ≡ 3 * w
unfolding joined_to
row_length pixel y zero = refl
row_length pixel y (suc w) =
    let all = length-append (joined_to w (λ x. rgb (pixel x y))) (rgb (pixel w y)) in
    let front = row_length pixel y w in
    omega (arith, all, front)

rows_length : (pixel : ℕ → ℕ → Parts) (w h : ℕ) → length (joined_to h (image_row pixel w)) ≡ 3 * (w * h)
unfolding joined_to image_row
rows_length pixel w zero = omega arith
rows_length pixel w (suc h) =
    let all = length-append (joined_to h (image_row pixel w)) (joined_to w (λ x. rgb (pixel x h))) in
    let front = rows_length pixel w h in
    let row = row_length pixel h w in
    let more : w * suc h ≡ w * h + w = grind arith in
    omega (arith, all, front, row, more)

image_is : (pixel : ℕ → ℕ → Parts) (v : View) → IsImage v (image pixel v.w v.h)
unfolding image
image_is pixel v = (joined_to v.h (image_row pixel v.w), rows_length pixel v.w v.h, refl)

shown_is_image : (s : ScriptModel) (h : List Entry) (missing : _) → IsImage (active_page s h).view (shown_image s h missing)
unfolding shown_image
shown_is_image s h missing = image_is (screen_colour s h missing) (active_page s h).view

has_image : (s : ScriptModel) (h : List Entry) (e : Event) → IsNamed s e → IsFrame s (active h) → HasImage (view_at (views_of s) (active h)) e (image_behind s h e)
has_image s h (event.Draw i ms) named frame = subst (λ (v : View). IsImage v (shown_image s h ms)) (active_view s h frame) (shown_is_image s h ms)
has_image s h (event.Stop a) named frame = absurd named
has_image s h e named frame = refl

frame_after : (s : ScriptModel) (e : Event) (o : Option ℕ) → IsNamed s e → IsFrame s o → IsFrame s (option_or (activates e) o)
frame_after s (event.Activate k ms) o named frame = named
frame_after s e o named frame = frame

shown_is_active : (e : Event) (o : Option ℕ) → option_or (activates e) o ≡ shown_after o e
shown_is_active (event.Activate k ms) o = refl
shown_is_active e o = refl

pieces_in : (b : Bool) (s : ScriptModel) (h : List Entry) (e : Entry) (es : List Entry) → MatchBool b (es ≡ []) (IsOver s es) → (IsOver s es → ArePieces (views_of s) (active (e ∷ h)) (pieces_of s (e ∷ h) es))
    → MatchBool b (pieces_of s (e ∷ h) es ≡ []) (ArePieces (views_of s) (shown_after (active h) e.event) (pieces_of s (e ∷ h) es))
pieces_in true s h e es none more = ap (pieces_of s (e ∷ h)) none
pieces_in false s h e es over more = subst (λ (o : Option ℕ). ArePieces (views_of s) o (pieces_of s (e ∷ h) es)) (shown_is_active e.event (active h)) (more over)

are_pieces : (s : ScriptModel) (h es : List Entry) → IsOver s es → IsFrame s (active h) → ArePieces (views_of s) (active h) (pieces_of s h es)
are_pieces s h [] over frame = absurd over
are_pieces s h (e ∷ es) over frame = (
  record { fits = over.0.fits; image = has_image s h e.event over.0.named frame },
  pieces_in (is_end e.event) s h e es over.1 (λ more. are_pieces s (e ∷ h) es more (frame_after s e.event (active h) over.0.named frame)),
)

entries_of_in : (b : Bool) (s : ScriptModel) (h : List Entry) (e : Entry) (es : List Entry) → MatchBool b (es ≡ []) (IsOver s es) → (IsOver s es → entries (pieces_of s (e ∷ h) es) ≡ es) → entries (pieces_of s (e ∷ h) es) ≡ es
entries_of_in true s h e es none more = subst (λ (xs : List Entry). entries (pieces_of s (e ∷ h) xs) ≡ xs) (sym none) refl
entries_of_in false s h e es over more = more over

pub entries_of : (s : ScriptModel) (h es : List Entry) → IsOver s es → entries (pieces_of s h es) ≡ es
entries_of s h [] over = absurd over
entries_of s h (e ∷ es) over =
    ap (λ (x : Entry). x ∷ entries (pieces_of s (e ∷ h) es)) (sym over.0.actor)
    ∙ ap (λ (xs : List Entry). e ∷ xs) (entries_of_in (is_end e.event) s h e es over.1 (entries_of s (e ∷ h) es))

-- they are painted
painted_in : (b : Bool) (s : ScriptModel) (h : List Entry) (e : Entry) (es : List Entry) → MatchBool b (es ≡ []) (IsOver s es) → (IsOver s es → ArePainted s (e ∷ h) (pieces_of s (e ∷ h) es)) → ArePainted s (e ∷ h) (pieces_of s (e ∷ h) es)
painted_in true s h e es none more = subst (λ (xs : List Entry). ArePainted s (e ∷ h) (pieces_of s (e ∷ h) xs)) (sym none) tt
painted_in false s h e es over more = more over

painted_of : (s : ScriptModel) (h es : List Entry) → IsOver s es → ArePainted s h (pieces_of s h es)
painted_of s h [] over = absurd over
painted_of s h (e ∷ es) over = (
  refl,
  subst (λ (x : Entry). ArePainted s (x ∷ h) (pieces_of s (e ∷ h) es)) over.0.actor (painted_in (is_end e.event) s h e es over.1 (painted_of s (e ∷ h) es)),
)

-- the recording of a script and a history that is over is a recording with these entries, and its images are painted
pub history_is_painted : (s : ScriptModel) (history : List Entry) → IsScriptLine (script_text s) s → IsOver s history → (ps : List Piece) × IsRecording (recording s history) s ps × (entries ps ≡ history) × ArePainted s [] ps
unfolding recording recorded
history_is_painted s history line over = (
  pieces_of s [] history,
  record { opening = record { script = line; text = ap (λ (x : List ℕ). header (script_text s) ++ x) (sym (text_of s [] history)) }; pieces = are_pieces s [] history over tt },
  entries_of s [] history over,
  painted_of s [] history over,
)

-- two of them with the same bytes are of one script and one history
pub one_recording : (s t : ScriptModel) (g h : List Entry) → IsAccepted s → IsAccepted t → IsOver s g → IsOver t h → recording s g ≡ recording t h → (s ≡ t) × (g ≡ h)
one_recording s t g h first second over done same =
    let a = history_is_painted s g (accepted_line s first) over in
    let b = history_is_painted t h (accepted_line t second) done in
    let there : IsRecording (recording s g) t b.0 = subst (λ (bytes : List ℕ). IsRecording bytes t b.0) (sym same) b.1 in
    let one = one_reading (recording s g) s t a.0 b.0 a.1 there in
    (one.0, sym a.2 ∙ ap entries one.1 ∙ b.2)
