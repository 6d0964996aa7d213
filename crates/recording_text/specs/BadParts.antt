-- Where the first part of a recording begins that is not of its form.
use Rattle.std.specs.Prelude.{◌≡◌, ℕ, ◌+◌, ◌⊎◌, ⊤, false, List, [], ◌∷◌, ◌++◌, length, drop, flat_map, Option, None}
use Rattle.geom.specs.declared.tile.TileKey.{TileKey}
use Rattle.page_layers.specs.declared.view.View.{View}
use Rattle.model_history.specs.declared.event.Event.{Event}
use Rattle.model_history.specs.declared.event.Event.TheVariants as event
use Rattle.model_history.specs.Texts.{event_line}
use Rattle.recording_text.specs.Fits.{FitsEvent}
use Rattle.recording_text.specs.Pieces.{Piece, piece_text, IsImage, IsPiece, is_end, shown_after}
use Rattle.recording_text.specs.Views.{ViewTable, view_at}

-- a stop stands in no recording
abbrev pub MayBeRecorded : Event → Type 0
MayBeRecorded (event.Stop actor) = ⊥
MayBeRecorded _ = ⊤

-- the bytes begin with no line of an event that may stand in a recording
abbrev pub LacksEvent : List ℕ → Type 0
LacksEvent xs = (e : Event) (rest : List ℕ) → FitsEvent e → MayBeRecorded e → xs ≡ event_line e ++ rest → ⊥

-- they begin with no image of the size of this view
abbrev pub LacksImage : View → List ℕ → Type 0
LacksImage v xs = (image rest : List ℕ) → IsImage v image → xs ≡ image ++ rest → ⊥

-- they begin with the line of a draw, and after it no image stands
abbrev pub IsBadDraw : View → List ℕ → ℕ → Type 0
IsBadDraw v xs place =
    (input : ℕ) × (missing : List TileKey) × (rest : List ℕ) × FitsEvent (event.Draw input missing) × (xs ≡ event_line (event.Draw input missing) ++ rest) × LacksImage v rest × (place ≡ length (event_line (event.Draw input missing)))

-- they begin with the line of the end, and after it more stands
abbrev pub IsBadEnd : List ℕ → ℕ → Type 0
IsBadEnd xs place = (c : ℕ) × (rest : List ℕ) × (xs ≡ event_line event.End ++ (c ∷ rest)) × (place ≡ length (event_line event.End))

-- what is not of its form begins after the given number of these bytes, if images have the size of this view: an event's line; the image after that of a draw; or what stands after that of the end
abbrev pub IsBadPart : View → List ℕ → ℕ → Type 0
IsBadPart v xs place = ((place ≡ 0) × LacksEvent xs) ⊎ (IsBadDraw v xs place ⊎ IsBadEnd xs place)

-- pieces after which a recording may go on: as those of a recording, without the end
abbrev pub AreFront : ViewTable → Option ℕ → List Piece → Type 0
AreFront t shown [] = Unit {0}
AreFront t shown (p ∷ ps) = IsPiece (view_at t shown) p × (is_end p.event ≡ false) × AreFront t (shown_after shown p.event) ps

-- the frame that was activated last after these pieces
abbrev pub shown_behind : Option ℕ → List Piece → Option ℕ
shown_behind shown [] = shown
shown_behind shown (p ∷ ps) = shown_behind (shown_after shown p.event) ps

-- the bytes are pieces of their form, and after them a part that is not of its form, which begins after the given number of the bytes
abbrev pub BreaksAt : ViewTable → Option ℕ → List ℕ → ℕ → Type 0
BreaksAt t shown xs place =
    (ps : List Piece) × (rest : List ℕ) × (at : ℕ) × AreFront t shown ps × (xs ≡ flat_map piece_text ps ++ rest) × IsBadPart (view_at t (shown_behind shown ps)) rest at × (place ≡ length (flat_map piece_text ps) + at)

-- after the given number of bytes come pieces of their form, and then a part that is not of its form and begins here
abbrev pub StopsAt : List ℕ → ViewTable → ℕ → ℕ → Type 0
StopsAt bytes t start place = (n : ℕ) × BreaksAt t None (drop start bytes) n × (place ≡ start + n)
