-- The part that a piece is read as, and the piece that a part is read from.
use Rattle.std.proofs.Common.{◌≡◌, ℕ, ◌+◌, ◌-◌, true, false, List, [], ◌∷◌, ◌++◌, length, drop, refl, ap, sym, ◌∙◌, append_assoc, append-nil, arith, None, Some, subst, length-append}
use Rattle.std.specs.Prelude.{Bool, Option, Result, Ok, Err, if◌then◌else◌}
use Rattle.std.proofs.Math.Seq.{drop-append_seam}
use Rattle.page_layers.specs.declared.view.View.{View}
use Rattle.model_history.specs.declared.event.Event.{Event}
use Rattle.model_history.specs.declared.event.Event.TheVariants as event
use Rattle.model_history.specs.Texts.{event_line}
use Rattle.model_history.specs.Recordings.{image_head}
use Rattle.geom.specs.declared.tile.TileKey.{TileKey}
use Rattle.recording_text.specs.Fits.{FitsEvent}
use Rattle.recording_text.specs.Lines.{event_at}
use Rattle.recording_text.specs.Images.{image_length}
use Rattle.recording_text.proofs.ReadLines.{event_again, event_exact}
use Rattle.recording_text.proofs.EventFits.{event_fits}
use Rattle.recording_text.proofs.ImageLaws.{length_again, length_exact}
use Rattle.recording_text.specs.declared.part.RecordingPart.{RecordingPart}
use Rattle.recording_text.specs.inner.Parts.{◌>>=◌, or_bad, line_length, with_image, bare, is_nil, at_end, part_of, part_at, images_in}
use Rattle.recording_text.specs.Pieces.{Piece, piece_text, IsImage, HasImage, IsPiece, image_span_of, is_end}

-- the part of an event with these bytes after its line
abbrev pub whole_part : Event → List ℕ → RecordingPart
whole_part (event.Draw input missing) image = record { event = event.Draw input missing; size = line_length (event.Draw input missing) + length image; image = Some (line_length (event.Draw input missing)) }
whole_part e image = bare e

drawn : (v : View) (e : Event) (image rest : List ℕ) → IsImage v image → with_image v (event_line e ++ (image ++ rest)) e ≡ Ok (record { event = e; size = line_length e + length image; image = Some (line_length e) })
unfolding with_image
drawn v e image rest is =
    let there : drop (line_length e) (event_line e ++ (image ++ rest)) ≡ (image_head v.w v.h ++ is.0) ++ rest = drop-append_seam (event_line e) (image ++ rest) ∙ ap (λ (x : List ℕ). x ++ rest) is.2 in
    let size : image_length v.w v.h (drop (line_length e) (event_line e ++ (image ++ rest))) ≡ Some (length image) =
    ap (image_length v.w v.h) there ∙ length_again v.w v.h is.0 rest is.1 ∙ ap (λ (x : List ℕ). Some (length x)) (sym is.2) in
    rw size refl

ended : (e : Event) (rest : List ℕ) → rest ≡ [] → at_end (event_line e ++ rest) e ≡ Ok (bare e)
unfolding at_end
ended e rest none =
    let there : drop (line_length e) (event_line e ++ rest) ≡ [] = drop-append_seam (event_line e) rest ∙ none in
    rw there refl

parted : (v : View) (e : Event) (image rest : List ℕ) → HasImage v e image → (is_end e ≡ true → rest ≡ []) → part_of v (event_line e ++ (image ++ rest)) e ≡ Ok (whole_part e image)
unfolding part_of
parted v (event.Draw i ms) image rest has last = drawn v (event.Draw i ms) image rest has
parted v (event.Stop a) image rest has last = absurd has
parted v event.End image rest has last = ended event.End (image ++ rest) (ap (λ (x : List ℕ). x ++ rest) has ∙ last refl)
parted v e image rest has last = refl

-- a piece is read as its part
pub piece_part : (v : View) (p : Piece) (rest : List ℕ) → IsPiece v p → (is_end p.event ≡ true → rest ≡ []) → part_at v (piece_text p ++ rest) ≡ Ok (whole_part p.event p.image)
unfolding part_at
piece_part v p rest is last =
    let text : piece_text p ++ rest ≡ event_line p.event ++ (p.image ++ rest) = append_assoc (event_line p.event) p.image rest in
    let there : event_at (piece_text p ++ rest) ≡ Some p.event = ap event_at text ∙ event_again p.event (p.image ++ rest) is.fits in
    rw there (ap (λ (xs : List ℕ). part_of v xs p.event) text ∙ parted v p.event p.image rest is.image last)

-- its part has its event, its length and its image
pub part_event : (e : Event) (image : List ℕ) → (whole_part e image).event ≡ e
unfolding bare
part_event (event.Draw i ms) image = refl
part_event e image = refl

pub part_size : (v : View) (e : Event) (image : List ℕ) → HasImage v e image → (whole_part e image).size ≡ length (event_line e ++ image)
unfolding bare
part_size v (event.Draw i ms) image has = sym (length-append (event_line (event.Draw i ms)) image)
part_size v (event.Stop a) image has = absurd has
part_size v e image has = ap length (sym (append-nil (event_line e)) ∙ ap (λ (x : List ℕ). event_line e ++ x) (sym has))

pub part_images : (index at : ℕ) (e : Event) (image : List ℕ) → images_in index at (whole_part e image).size (whole_part e image).image ≡ image_span_of index at e image
unfolding bare
part_images index at (event.Draw i ms) image =
    let long : (line_length (event.Draw i ms) + length image) - line_length (event.Draw i ms) ≡ length image = omega arith in
    ap (λ (n : ℕ). record { event = index; at = at + line_length (event.Draw i ms); size = n } ∷ []) long
part_images index at e image = refl

-- what a part that was read says of the bytes
pub record PartTells (v : View) (xs : List ℕ) (p : RecordingPart) (image : List ℕ) : Type 0 where
  pub piece : IsPiece v (record { event = p.event; image = image })
  pub text : xs ≡ (event_line p.event ++ image) ++ drop p.size xs
  pub is : p ≡ whole_part p.event image
  pub last : is_end p.event ≡ true → drop p.size xs ≡ []

pub bind_ok : {A B : Type 0} (r : Result A ℕ) (f : A → Result B ℕ) (y : B) → (r >>= f) ≡ Ok y → (x : A) × (r ≡ Ok x) × (f x ≡ Ok y)
bind_ok (Ok x) f y is = (x, refl, is)
bind_ok (Err place) f y is = absurd (cc (is))

or_bad_ok : {A : Type 0} (place : ℕ) (o : Option A) (x : A) → or_bad place o ≡ Ok x → o ≡ Some x
or_bad_ok place None x is = absurd (cc (is))
or_bad_ok place (Some y) x is = let one : y ≡ x = cc (is) in ap (λ (z : _). Some z) one

-- two prefixes and what stands after them
split_text : (a b xs more r : List ℕ) (n : ℕ) → xs ≡ a ++ more → more ≡ b ++ r → n ≡ length a + length b → xs ≡ (a ++ b) ++ drop n xs
split_text a b xs more r n first second long =
    let whole : xs ≡ (a ++ b) ++ r = first ∙ ap (λ (y : List ℕ). a ++ y) second ∙ sym (append_assoc a b r) in
    let size : n ≡ length (a ++ b) = long ∙ sym (length-append a b) in
    let rest : drop n xs ≡ r = ap (λ (k : ℕ). drop k xs) size ∙ ap (drop (length (a ++ b))) whole ∙ drop-append_seam (a ++ b) r in
    whole ∙ ap (λ (y : List ℕ). (a ++ b) ++ y) (sym rest)

abbrev Told : View → List ℕ → RecordingPart → Type 0
Told v xs p = (image : List ℕ) × PartTells v xs p image

-- a draw and its image
from_drawn : (v : View) (xs : List ℕ) (i : ℕ) (ms : List TileKey) (p : RecordingPart) → xs ≡ event_line (event.Draw i ms) ++ drop (line_length (event.Draw i ms)) xs → FitsEvent (event.Draw i ms) → with_image v xs (event.Draw i ms) ≡ Ok p → Told v xs p
unfolding with_image
from_drawn v xs i ms p line fits is =
    let e : Event = event.Draw i ms in
    let a = bind_ok (or_bad (line_length (event.Draw i ms)) (image_length v.w v.h (drop (line_length (event.Draw i ms)) xs))) _ p is in
    let there = or_bad_ok (line_length (event.Draw i ms)) (image_length v.w v.h (drop (line_length (event.Draw i ms)) xs)) a.0 a.1 in
    let image = length_exact v.w v.h (drop (line_length (event.Draw i ms)) xs) a.0 there in
    let one : record { event = event.Draw i ms; size = line_length (event.Draw i ms) + a.0; image = Some (line_length (event.Draw i ms)) } ≡ p = cc (a.2) in
    subst (λ (q : RecordingPart). Told v xs q) one (
      image_head v.w v.h ++ image.0,
      record {
        piece = record { fits = fits; image = (image.0, image.1.0, refl) };
        text = split_text (event_line (event.Draw i ms)) (image_head v.w v.h ++ image.0) xs (drop (line_length (event.Draw i ms)) xs) image.1.1.0 (line_length (event.Draw i ms) + a.0) line image.1.1.1 (ap (λ (n : ℕ). line_length (event.Draw i ms) + n) image.2);
        is = ap (λ (n : ℕ). record { event = event.Draw i ms; size = line_length (event.Draw i ms) + n; image = Some (line_length (event.Draw i ms)) }) image.2;
        last = λ is. absurd (cc (is));
      },
    )

-- what a part is read as
abbrev IsRead : Result RecordingPart ℕ → RecordingPart → Type 0
IsRead r p = r ≡ Ok p

-- an event that is its line alone
from_bare : (v : View) (xs : List ℕ) (e : Event) (p : RecordingPart) → xs ≡ event_line e ++ drop (line_length e) xs → FitsEvent e → HasImage v e [] → bare e ≡ whole_part e [] → (is_end e ≡ true → drop (line_length e) xs ≡ []) → IsRead (Ok (bare e)) p → Told v xs p
unfolding bare
from_bare v xs e p line fits has whole last is =
    let one : bare e ≡ p = cc (is) in
    subst (λ (q : RecordingPart). Told v xs q) one (
      [],
      record {
        piece = record { fits = fits; image = has };
        text = line ∙ ap (λ (y : List ℕ). y ++ drop (line_length e) xs) (sym (append-nil (event_line e)));
        is = whole;
        last = last;
      },
    )

nothing_left : (xs : List ℕ) → is_nil xs ≡ true → xs ≡ []
nothing_left [] is = refl
nothing_left (x ∷ xs) is = absurd (cc (is))

ended_in : (b : Bool) (v : View) (xs : List ℕ) (p : RecordingPart) → is_nil (drop (line_length event.End) xs) ≡ b → xs ≡ event_line event.End ++ drop (line_length event.End) xs → IsRead (if b then Ok (bare event.End) else Err (line_length event.End)) p → Told v xs p
ended_in true v xs p none line is = from_bare v xs event.End p line tt refl refl (λ _. nothing_left (drop (line_length event.End) xs) none) is
ended_in false v xs p none line is = absurd (cc (is))

from_end : (v : View) (xs : List ℕ) (p : RecordingPart) → xs ≡ event_line event.End ++ drop (line_length event.End) xs → at_end xs event.End ≡ Ok p → Told v xs p
unfolding at_end
from_end v xs p line is = ended_in (is_nil (drop (line_length event.End) xs)) v xs p refl line is

from_part : (v : View) (xs : List ℕ) (e : Event) (p : RecordingPart) → xs ≡ event_line e ++ drop (line_length e) xs → FitsEvent e → part_of v xs e ≡ Ok p → Told v xs p
unfolding part_of
from_part v xs (event.Draw i ms) p line fits is = from_drawn v xs i ms p line fits is
from_part v xs (event.Stop a) p line fits is = absurd (cc (is))
from_part v xs event.End p line fits is = from_end v xs p line is
from_part v xs e p line fits is = from_bare v xs e p line fits refl refl (λ last. absurd (cc (last))) is

-- a part that was read is the part of a piece at the start
pub part_exact : (v : View) (xs : List ℕ) (p : RecordingPart) → part_at v xs ≡ Ok p → (image : List ℕ) × PartTells v xs p image
unfolding part_at
part_exact v xs p is =
    let a = bind_ok (or_bad 0 (event_at xs)) (part_of v xs) p is in
    let there = or_bad_ok 0 (event_at xs) a.0 a.1 in
    from_part v xs a.0 p (event_exact xs a.0 there) (event_fits xs a.0 there) a.2
