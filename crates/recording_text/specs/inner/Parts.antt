-- Reading the parts of a recording after its first two lines, in order.
use Rattle.std.specs.Prelude.{ℕ, zero, suc, ◌+◌, ◌-◌, Bool, true, false, if◌then◌else◌, List, [], ◌∷◌, ◌++◌, length, drop, Option, Some, None, IfSome, ◌≤◌, Result, Ok, Err}
use Rattle.page_layers.specs.declared.view.View.{View}
use Rattle.model_history.specs.declared.event.Event.{Event}
use Rattle.model_history.specs.declared.event.Event.TheVariants as event
use Rattle.model_history.specs.declared.history.Entry.{Entry}
use Rattle.model_history.specs.Texts.{event_line}
use Rattle.recording_text.specs.Lines.{event_at}
use Rattle.recording_text.specs.Images.{image_length}
use Rattle.recording_text.specs.declared.part.RecordingPart.{RecordingPart}
use Rattle.recording_text.specs.declared.cursor.Cursor.{Cursor}
use Rattle.recording_text.specs.declared.cursor.ImageSpan.{ImageSpan}
use Rattle.recording_text.specs.Pieces.{entry_of, is_end, shown_after}
use Rattle.recording_text.specs.Views.{ViewTable, view_at}

-- the next step, if nothing is bad so far
infixl 10 ◌>>=◌
abbrev pub ◌>>=◌ : {A B : Type 0} → Result A ℕ → (A → Result B ℕ) → Result B ℕ
(Ok x) >>= f = f x
(Err place) >>= f = Err place

-- the value, or a bad place if there is none
abbrev pub or_bad : {A : Type 0} → ℕ → Option A → Result A ℕ
or_bad place (Some x) = Ok x
or_bad place None = Err place

-- the length of an event's line
abbrev pub line_length : Event → ℕ
line_length e = length (event_line e)

-- a draw with the image after its line, of the size of this view
unfoldable pub with_image : View → List ℕ → Event → Result RecordingPart ℕ
with_image v xs e = do
  n ← or_bad (line_length e) (image_length v.w v.h (drop (line_length e) xs))
  Ok (record { event = e; size = line_length e + n; image = Some (line_length e) })

-- an event whose part is its line
unfoldable pub bare : Event → RecordingPart
bare e = record { event = e; size = line_length e; image = None }

abbrev pub is_nil : List ℕ → Bool
is_nil [] = true
is_nil (x ∷ xs) = false

-- the end, with nothing after its line
unfoldable pub at_end : List ℕ → Event → Result RecordingPart ℕ
at_end xs e = if is_nil (drop (line_length e) xs) then Ok (bare e) else Err (line_length e)

-- the part that an event's line begins; no part begins with a stop
unfoldable pub part_of : View → List ℕ → Event → Result RecordingPart ℕ
part_of v xs (event.Draw input missing) = with_image v xs (event.Draw input missing)
part_of v xs (event.Stop actor) = Err 0
part_of v xs event.End = at_end xs event.End
part_of v xs e = Ok (bare e)

-- the part at the start of these bytes, if images are of the size of this view; or the place in it of what is bad
unfoldable pub part_at : View → List ℕ → Result RecordingPart ℕ
part_at v xs = do
  e ← or_bad 0 (event_at xs)
  part_of v xs e

-- the images of a part
abbrev pub images_in : ℕ → ℕ → ℕ → Option ℕ → List ImageSpan
images_in index at size None = []
images_in index at size (Some front) = record { event = index; at = at + front; size = size - front } ∷ []

-- an image begins in its part
abbrev pub Begins : Option ℕ → ℕ → Type 0
Begins front size = IfSome front (λ n. n ≤ size)

-- what is read after the first two lines
pub record Body : Type 0 where
  pub entries : List Entry
  pub images : List ImageSpan

abbrev pub no_more : Result Body ℕ
no_more = Ok (record { entries = []; images = [] })

-- these before what is read
abbrev pub behind : List Entry → List ImageSpan → Result Body ℕ → Result Body ℕ
behind es ms (Ok r) = Ok (record { entries = es ++ r.entries; images = ms ++ r.images })
behind es ms (Err place) = Err place

-- a part and what is read after it
abbrev pub led : Option ℕ → ℕ → ℕ → Result RecordingPart ℕ → (Option ℕ → ℕ → Result Body ℕ) → Result Body ℕ
led shown index at (Err place) next = Err (at + place)
led shown index at (Ok p) next =
    behind (entry_of p.event ∷ []) (images_in index at p.size p.image) (if is_end p.event then no_more else next (shown_after shown p.event) p.size)

-- the parts of these bytes of a recording with these views, if this frame was activated last, the given number of events came before, and the bytes stand at `at`; the first bytes, the given number of them, belong to a part before
unfoldable pub body : List ℕ → ViewTable → Option ℕ → ℕ → ℕ → ℕ → Result Body ℕ
body [] t shown index at skip = Err at
body (c ∷ xs) t shown index at (suc skip) = body xs t shown index at skip
body (c ∷ xs) t shown index at zero =
    led shown index at (part_at (view_at t shown) (c ∷ xs)) (λ now size. body xs t now (index + 1) (at + size) (size - 1))

-- what is read from a place on
abbrev pub read_from : List ℕ → ViewTable → Cursor → Result Body ℕ
read_from bytes t c = body (drop c.at bytes) t c.shown c.index c.at 0
