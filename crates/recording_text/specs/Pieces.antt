-- The text of a recording after its first two lines: which events and images stand in it, and in which order.
use Rattle.std.specs.Prelude.{◌≡◌, ℕ, ◌+◌, nat_lt, Bool, true, false, cond, List, [], ◌∷◌, ◌++◌, length, map, flat_map, Option, Some, MatchBool}
use Rattle.page_layers.specs.declared.view.View.{View}
use Rattle.model_history.specs.declared.event.Event.{Event}
use Rattle.model_history.specs.declared.event.Event.TheVariants as event
use Rattle.model_history.specs.declared.history.Entry.{Entry}
use Rattle.model_history.specs.EventFields.{actor_of}
use Rattle.model_history.specs.Recordings.{image_head}
use Rattle.model_history.specs.Texts.{event_line}
use Rattle.recording_text.specs.Fits.{FitsEvent}
use Rattle.recording_text.specs.Images.{picture_size}
use Rattle.recording_text.specs.declared.cursor.ImageSpan.{ImageSpan}
use Rattle.recording_text.specs.Views.{ViewTable, view_at}

-- the frame that was activated last
abbrev pub shown_after : Option ℕ → Event → Option ℕ
shown_after shown (event.Activate frame clamps) = Some frame
shown_after shown _ = shown

-- whether it is the end
abbrev pub is_end : Event → Bool
is_end event.End = true
is_end _ = false

-- a number that fits 32 bits, or the greatest one
abbrev pub at_most_u32 : ℕ → ℕ
at_most_u32 n = cond (nat_lt n 4294967296) n 4294967295

-- the entry of an event that was read: its actor is the one whose event it is
unfoldable pub entry_of : Event → Entry
entry_of e = record { actor = at_most_u32 (actor_of e); event = e }

-- an event, and the bytes after its line: an image after a draw's, else none
pub record Piece : Type 0 where
  pub event : Event
  pub image : List ℕ

abbrev pub piece_text : Piece → List ℕ
piece_text p = event_line p.event ++ p.image

-- the bytes are an image of the size of this view
abbrev pub IsImage : View → List ℕ → Type 0
IsImage v image = (picture : List ℕ) × (length picture ≡ picture_size v.w v.h) × (image ≡ image_head v.w v.h ++ picture)

-- after a draw stands an image, after another event nothing; a stop stands in no recording
abbrev pub HasImage : View → Event → List ℕ → Type 0
HasImage v (event.Draw input missing) image = IsImage v image
HasImage v (event.Stop actor) image = ⊥
HasImage v _ image = image ≡ []

pub record IsPiece (v : View) (p : Piece) : Type 0 where
  pub fits : FitsEvent p.event
  pub image : HasImage v p.event p.image

-- pieces of a recording with these views, if this frame was activated last: each event's numbers fit their fields; after a draw stands an image of the size of the view at its place, after another event nothing; no event is a stop; the end stands last and nowhere else
abbrev pub ArePieces : ViewTable → Option ℕ → List Piece → Type 0
ArePieces t shown [] = ⊥
ArePieces t shown (p ∷ ps) = IsPiece (view_at t shown) p × MatchBool (is_end p.event) (ps ≡ []) (ArePieces t (shown_after shown p.event) ps)

-- the entries of these pieces
abbrev pub entries : List Piece → List Entry
entries ps = map (λ p. entry_of p.event) ps

-- the images of these pieces, one after another
abbrev pub images_text : List Piece → List ℕ
images_text ps = flat_map (λ p. p.image) ps

-- where the image of a piece stands that begins here
abbrev pub image_span_of : ℕ → ℕ → Event → List ℕ → List ImageSpan
image_span_of index at (event.Draw input missing) image = record { event = index; at = at + length (event_line (event.Draw input missing)); size = length image } ∷ []
image_span_of index at _ image = []

-- where the images of these pieces stand, the first of which begins here
abbrev pub image_spans : ℕ → ℕ → List Piece → List ImageSpan
image_spans index at [] = []
image_spans index at (p ∷ ps) = image_span_of index at p.event p.image ++ image_spans (index + 1) (at + length (piece_text p)) ps
