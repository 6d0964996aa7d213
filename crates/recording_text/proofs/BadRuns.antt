-- The part at which reading stops is the first that is not of its form, and reading stops there.
use Rattle.std.proofs.Common.{◌≡◌, ℕ, zero, suc, ◌+◌, ◌-◌, true, false, List, [], ◌∷◌, ◌++◌, length, drop, refl, ap, sym, ◌∙◌, append_assoc, arith, None, Some, subst, inl, inr, length-append}
use Rattle.std.specs.Prelude.{Bool, Option, Result, Ok, Err, if◌then◌else◌}
use Rattle.std.specs.List.{flat_map}
use Rattle.std.proofs.Math.Seq.{drop-append_seam}
use Rattle.geom.specs.declared.tile.TileKey.{TileKey}
use Rattle.page_layers.specs.declared.view.View.{View}
use Rattle.model_history.specs.declared.event.Event.{Event}
use Rattle.model_history.specs.declared.event.Event.TheVariants as event
use Rattle.model_history.specs.declared.history.Entry.{Entry}
use Rattle.model_history.specs.Texts.{event_line}
use Rattle.model_history.specs.Recordings.{image_head}
use Rattle.recording_text.specs.Fits.{FitsEvent}
use Rattle.recording_text.specs.Lines.{event_at}
use Rattle.recording_text.specs.Images.{image_length}
use Rattle.recording_text.proofs.ReadLines.{event_again, event_exact}
use Rattle.recording_text.proofs.EventFits.{event_fits}
use Rattle.recording_text.proofs.ImageLaws.{length_again, length_exact}
use Rattle.recording_text.specs.declared.cursor.ImageSpan.{ImageSpan}
use Rattle.recording_text.specs.declared.part.RecordingPart.{RecordingPart}
use Rattle.recording_text.specs.BadParts.{MayBeRecorded, LacksEvent, LacksImage, IsBadPart, AreFront, shown_behind, BreaksAt}
use Rattle.recording_text.specs.Pieces.{Piece, piece_text, ArePieces, entry_of, is_end, shown_after, image_span_of}
use Rattle.recording_text.specs.Views.{ViewTable, view_at}
use Rattle.recording_text.specs.inner.Parts.{◌>>=◌, or_bad, line_length, with_image, bare, is_nil, at_end, part_of, part_at, images_in, Body, no_more, behind, led, body}
use Rattle.recording_text.proofs.BodySteps.{part_none, body_bad, drop_past}
use Rattle.recording_text.proofs.PieceParts.{PartTells, part_exact}
use Rattle.recording_text.proofs.PieceRuns.{piece_has_some, piece_step, pieces_again, piece_of, whole_size}

-- no event was read
no_event : (xs : List ℕ) → event_at xs ≡ None → LacksEvent xs
no_event xs none = λ e rest fits may text.
    let there : event_at xs ≡ Some e = ap event_at text ∙ event_again e rest fits in
    absurd (cc (none, there))

-- a stop was read
only_stop : (xs : List ℕ) (a : ℕ) → event_at xs ≡ Some (event.Stop a) → LacksEvent xs
only_stop xs a is = λ e rest fits may text.
    let there : event_at xs ≡ Some e = ap event_at text ∙ event_again e rest fits in
    let one : event.Stop a ≡ e = cc (is, there) in
    subst MayBeRecorded (sym one) may

no_image : (v : View) (xs : List ℕ) → image_length v.w v.h xs ≡ None → LacksImage v xs
no_image v xs none = λ image rest is text.
    let there : image_length v.w v.h xs ≡ Some (length (image_head v.w v.h ++ is.0)) =
    ap (image_length v.w v.h) (text ∙ ap (λ (x : List ℕ). x ++ rest) is.2) ∙ length_again v.w v.h is.0 rest is.1 in
    absurd (cc (none, there))

-- the part of a draw, by the length of its image
abbrev imaged : Event → Option ℕ → Result RecordingPart ℕ
imaged e o = do
  n ← or_bad (line_length e) o
  Ok (record { event = e; size = line_length e + n; image = Some (line_length e) })

drawn_bad_in : (o : Option ℕ) (v : View) (xs : List ℕ) (i : ℕ) (ms : List TileKey) (place : ℕ) → image_length v.w v.h (drop (line_length (event.Draw i ms)) xs) ≡ o → xs ≡ event_line (event.Draw i ms) ++ drop (line_length (event.Draw i ms)) xs → FitsEvent (event.Draw i ms)
    → imaged (event.Draw i ms) o ≡ Err place → IsBadPart v xs place
drawn_bad_in None v xs i ms place there line fits is =
    let at : line_length (event.Draw i ms) ≡ place = cc (is) in
    inr (inl (i, ms, drop (line_length (event.Draw i ms)) xs, fits, line, no_image v (drop (line_length (event.Draw i ms)) xs) there, sym at))
drawn_bad_in (Some n) v xs i ms place there line fits is = absurd (cc (is))

drawn_bad : (v : View) (xs : List ℕ) (i : ℕ) (ms : List TileKey) (place : ℕ) → xs ≡ event_line (event.Draw i ms) ++ drop (line_length (event.Draw i ms)) xs → FitsEvent (event.Draw i ms) → with_image v xs (event.Draw i ms) ≡ Err place → IsBadPart v xs place
unfolding with_image
drawn_bad v xs i ms place line fits is = drawn_bad_in (image_length v.w v.h (drop (line_length (event.Draw i ms)) xs)) v xs i ms place refl line fits is

-- the part of the end, by what stands after its line
abbrev ended : List ℕ → Result RecordingPart ℕ
ended ys = if is_nil ys then Ok (bare event.End) else Err (line_length event.End)

ended_bad_in : (ys : List ℕ) (v : View) (xs : List ℕ) (place : ℕ) → drop (line_length event.End) xs ≡ ys → xs ≡ event_line event.End ++ drop (line_length event.End) xs → ended ys ≡ Err place → IsBadPart v xs place
ended_bad_in [] v xs place there line is = absurd (cc (is))
ended_bad_in (c ∷ ys) v xs place there line is =
    let at : line_length event.End ≡ place = cc (is) in
    inr (inr (c, ys, line ∙ ap (λ (x : List ℕ). event_line event.End ++ x) there, sym at))

ended_bad : (v : View) (xs : List ℕ) (place : ℕ) → xs ≡ event_line event.End ++ drop (line_length event.End) xs → at_end xs event.End ≡ Err place → IsBadPart v xs place
unfolding at_end
ended_bad v xs place line is = ended_bad_in (drop (line_length event.End) xs) v xs place refl line is

read_bad : (v : View) (xs : List ℕ) (e : Event) (place : ℕ) → event_at xs ≡ Some e → part_of v xs e ≡ Err place → IsBadPart v xs place
unfolding part_of
read_bad v xs (event.Draw i ms) place there is = drawn_bad v xs i ms place (event_exact xs (event.Draw i ms) there) (event_fits xs (event.Draw i ms) there) is
read_bad v xs (event.Stop a) place there is = let at : 0 ≡ place = cc (is) in inl (sym at, only_stop xs a there)
read_bad v xs event.End place there is = ended_bad v xs place (event_exact xs event.End there) is
read_bad v xs e place there is = absurd (cc (is))

-- the part that an event's line begins, where there is one
abbrev begun : View → List ℕ → Option Event → Result RecordingPart ℕ
begun v xs o = do
  e ← or_bad 0 o
  part_of v xs e

part_bad_in : (o : Option Event) (v : View) (xs : List ℕ) (place : ℕ) → event_at xs ≡ o → begun v xs o ≡ Err place → IsBadPart v xs place
part_bad_in None v xs place there is = let at : 0 ≡ place = cc (is) in inl (sym at, no_event xs there)
part_bad_in (Some e) v xs place there is = read_bad v xs e place there is

-- a part that was refused is not of its form
pub part_bad : (v : View) (xs : List ℕ) (place : ℕ) → part_at v xs ≡ Err place → IsBadPart v xs place
unfolding part_at
part_bad v xs place is = part_bad_in (event_at xs) v xs place refl is

lacking_of : (v : View) (xs : List ℕ) (e : Event) → event_at xs ≡ Some e → LacksEvent xs → part_of v xs e ≡ Err 0
unfolding part_of
lacking_of v xs (event.Stop a) there lacks = refl
lacking_of v xs e there lacks = absurd (lacks e (drop (line_length e) xs) (event_fits xs e there) tt (event_exact xs e there))

lacking : (o : Option Event) (v : View) (xs : List ℕ) → event_at xs ≡ o → LacksEvent xs → begun v xs o ≡ Err 0
lacking None v xs there lacks = refl
lacking (Some e) v xs there lacks = lacking_of v xs e there lacks

none_there : (o : Option ℕ) (v : View) (xs : List ℕ) → image_length v.w v.h xs ≡ o → LacksImage v xs → o ≡ None
none_there None v xs there lacks = refl
none_there (Some n) v xs there lacks = let a = length_exact v.w v.h xs n there in absurd (lacks (image_head v.w v.h ++ a.0) a.1.1.0 (a.0, a.1.0, refl) a.1.1.1)

drawn_again : (v : View) (xs rest : List ℕ) (i : ℕ) (ms : List TileKey) → drop (line_length (event.Draw i ms)) xs ≡ rest → LacksImage v rest → with_image v xs (event.Draw i ms) ≡ Err (line_length (event.Draw i ms))
unfolding with_image
drawn_again v xs rest i ms left lacks =
    let none : image_length v.w v.h (drop (line_length (event.Draw i ms)) xs) ≡ None = ap (image_length v.w v.h) left ∙ none_there (image_length v.w v.h rest) v rest refl lacks in
    rw none refl

ended_again : (xs rest : List ℕ) (c : ℕ) → drop (line_length event.End) xs ≡ c ∷ rest → at_end xs event.End ≡ Err (line_length event.End)
unfolding at_end
ended_again xs rest c left = rw left refl

line_left : (xs rest : List ℕ) (e : Event) → xs ≡ event_line e ++ rest → drop (line_length e) xs ≡ rest
line_left xs rest e text = ap (drop (line_length e)) text ∙ drop-append_seam (event_line e) rest

read_again : (v : View) (xs rest : List ℕ) (e : Event) (r : Result RecordingPart ℕ) → FitsEvent e → xs ≡ event_line e ++ rest → part_of v xs e ≡ r → part_at v xs ≡ r
unfolding part_at
read_again v xs rest e r fits text is =
    let there : event_at xs ≡ Some e = ap event_at text ∙ event_again e rest fits in
    rw there is

draw_part : (v : View) (xs : List ℕ) (i : ℕ) (ms : List TileKey) → part_of v xs (event.Draw i ms) ≡ with_image v xs (event.Draw i ms)
unfolding part_of
draw_part v xs i ms = refl

end_part : (v : View) (xs : List ℕ) → part_of v xs event.End ≡ at_end xs event.End
unfolding part_of
end_part v xs = refl

part_lacking : (v : View) (xs : List ℕ) → LacksEvent xs → part_at v xs ≡ Err 0
unfolding part_at
part_lacking v xs lacks = lacking (event_at xs) v xs refl lacks

-- a part that is not of its form is refused
pub bad_again : (v : View) (xs : List ℕ) (place : ℕ) → IsBadPart v xs place → part_at v xs ≡ Err place
bad_again v xs place (inl (at, lacks)) = part_lacking v xs lacks ∙ ap (λ (n : ℕ). Err n) (sym at)
bad_again v xs place (inr (inl (i, ms, rest, fits, text, lacks, at))) =
    read_again v xs rest (event.Draw i ms) (Err (line_length (event.Draw i ms))) fits text (draw_part v xs i ms ∙ drawn_again v xs rest i ms (line_left xs rest (event.Draw i ms) text) lacks) ∙ ap (λ (n : ℕ). Err n) (sym at)
bad_again v xs place (inr (inr (c, rest, text, at))) =
    read_again v xs (c ∷ rest) event.End (Err (line_length event.End)) tt text (end_part v xs ∙ ended_again xs rest c (line_left xs (c ∷ rest) event.End text)) ∙ ap (λ (n : ℕ). Err n) (sym at)

-- the bytes, which stand at `at`, break at this place
abbrev Breaks : ViewTable → Option ℕ → ℕ → List ℕ → ℕ → Type 0
Breaks t shown at xs place = (n : ℕ) × BreaksAt t shown xs n × (place ≡ at + n)

breaks_here : (t : ViewTable) (shown : Option ℕ) (at : ℕ) (xs : List ℕ) (n place : ℕ) → part_at (view_at t shown) xs ≡ Err n → at + n ≡ place → Breaks t shown at xs place
breaks_here t shown at xs n place is there =
    let from : n ≡ 0 + n = omega arith in
    (n, ([], xs, n, tt, refl, part_bad (view_at t shown) xs n is, from), sym there)

behind_err : (es : List Entry) (ms : List ImageSpan) (r : Result Body ℕ) (place : ℕ) → behind es ms r ≡ Err place → r ≡ Err place
behind_err es ms (Ok q) place is = absurd (cc (is))
behind_err es ms (Err at) place is = is

led_on : (b : Bool) (t : ViewTable) (shown : Option ℕ) (index at : ℕ) (xs : List ℕ) (p : RecordingPart) (image : List ℕ) (next : Result Body ℕ) (place : ℕ) → is_end p.event ≡ b → PartTells (view_at t shown) xs p image
    → behind (entry_of p.event ∷ []) (images_in index at p.size p.image) (if b then no_more else next) ≡ Err place
    → (next ≡ Err place → Breaks t (shown_after shown p.event) (at + p.size) (drop p.size xs) place)
    → Breaks t shown at xs place
led_on true t shown index at xs p image next place last tells is rest =
    let none : no_more ≡ Err place = behind_err (entry_of p.event ∷ []) (images_in index at p.size p.image) no_more place is in
    absurd (cc (none))
led_on false t shown index at xs p image next place more tells is rest =
    let b = rest (behind_err (entry_of p.event ∷ []) (images_in index at p.size p.image) next place is) in
    let ps : List Piece = b.1.0 in
    let left : List ℕ = b.1.1 in
    let size : p.size ≡ length (piece_text (piece_of p image)) = whole_size (view_at t shown) xs p image tells in
    let long : length (piece_text (piece_of p image) ++ flat_map piece_text b.1.0) ≡ length (piece_text (piece_of p image)) + length (flat_map piece_text b.1.0) = length-append (piece_text (piece_of p image)) (flat_map piece_text b.1.0) in
    let text : xs ≡ flat_map piece_text (piece_of p image ∷ b.1.0) ++ b.1.1 =
    tells.text ∙ ap (λ (y : List ℕ). piece_text (piece_of p image) ++ y) b.1.4 ∙ sym (append_assoc (piece_text (piece_of p image)) (flat_map piece_text b.1.0) b.1.1) in
    let there : p.size + b.0 ≡ length (flat_map piece_text (piece_of p image ∷ b.1.0)) + b.1.2 = omega (arith, size, long, b.1.6) in
    let from : place ≡ at + (p.size + b.0) = omega (arith, b.2) in
    (p.size + b.0, (piece_of p image ∷ b.1.0, b.1.1, b.1.2, (tells.piece, more, b.1.3), text, b.1.5, there), from)

led_in : (pr : Result RecordingPart ℕ) (t : ViewTable) (shown : Option ℕ) (index at c : ℕ) (xs : List ℕ) (place : ℕ) → part_at (view_at t shown) (c ∷ xs) ≡ pr
    → led shown index at pr (λ now size. body xs t now (index + 1) (at + size) (size - 1)) ≡ Err place
    → ((now : Option ℕ) (i a k q : ℕ) → body xs t now i a k ≡ Err q → Breaks t now a (drop k xs) q)
    → Breaks t shown at (c ∷ xs) place
led_in (Err n) t shown index at c xs place there is rest = let one : at + n ≡ place = cc (is) in breaks_here t shown at (c ∷ xs) n place there one
led_in (Ok p) t shown index at c xs place there is rest =
    let a = part_exact (view_at t shown) (c ∷ xs) p there in
    let size = whole_size (view_at t shown) (c ∷ xs) p a.0 a.1 in
    let some = piece_has_some (piece_of p a.0) in
    let past : drop (p.size - 1) xs ≡ drop p.size (c ∷ xs) = sym (drop_past p.size c xs (omega (arith, size, some))) in
    led_on (is_end p.event) t shown index at (c ∷ xs) p a.0 (body xs t (shown_after shown p.event) (index + 1) (at + p.size) (p.size - 1)) place refl a.1 is
    (λ known. subst (λ (ys : List ℕ). Breaks t (shown_after shown p.event) (at + p.size) ys place) past (rest (shown_after shown p.event) (index + 1) (at + p.size) (p.size - 1) place known))

-- what is read of a whole
abbrev IsStopped : Result Body ℕ → ℕ → Type 0
IsStopped r place = r ≡ Err place

breaks_at_end : (t : ViewTable) (shown : Option ℕ) (at place : ℕ) → IsStopped (Err at) place → Breaks t shown at [] place
breaks_at_end t shown at place is =
    let one : at ≡ place = cc (is) in
    breaks_here t shown at [] 0 place (part_none (view_at t shown)) (omega (arith, one))

-- the place at which reading stops is where the bytes break
pub body_breaks : (xs : List ℕ) (t : ViewTable) (shown : Option ℕ) (index at skip place : ℕ) → body xs t shown index at skip ≡ Err place → Breaks t shown at (drop skip xs) place
unfolding body
body_breaks [] t shown index at zero place is = breaks_at_end t shown at place is
body_breaks [] t shown index at (suc skip) place is = breaks_at_end t shown at place is
body_breaks (c ∷ xs) t shown index at (suc skip) place is = body_breaks xs t shown index at skip place is
body_breaks (c ∷ xs) t shown index at zero place is = led_in (part_at (view_at t shown) (c ∷ xs)) t shown index at c xs place refl is (body_breaks xs t)

-- reading stops where pieces end and a part is not of its form
pub breaks_again : (t : ViewTable) (shown : Option ℕ) (index at : ℕ) (ps : List Piece) (rest : List ℕ) (n : ℕ) → AreFront t shown ps → IsBadPart (view_at t (shown_behind shown ps)) rest n
    → body (flat_map piece_text ps ++ rest) t shown index at 0 ≡ Err (at + (length (flat_map piece_text ps) + n))
breaks_again t shown index at [] rest n are bad =
    let one : at + n ≡ at + (0 + n) = omega arith in
    body_bad rest t shown index at n (bad_again (view_at t shown) rest n bad) ∙ ap (λ (k : ℕ). Err k) one
breaks_again t shown index at (p ∷ ps) rest n are bad =
    let long : length (piece_text p ++ flat_map piece_text ps) ≡ length (piece_text p) + length (flat_map piece_text ps) = length-append (piece_text p) (flat_map piece_text ps) in
    let there : (at + length (piece_text p)) + (length (flat_map piece_text ps) + n) ≡ at + (length (piece_text p ++ flat_map piece_text ps) + n) = omega (arith, long) in
    ap (λ (xs : List ℕ). body xs t shown index at 0) (append_assoc (piece_text p) (flat_map piece_text ps) rest)
    ∙ piece_step t shown index at p (flat_map piece_text ps ++ rest) are.0 (λ last. absurd (cc (last, are.1)))
    ∙ ap (λ (b : Bool). behind (entry_of p.event ∷ []) (image_span_of index at p.event p.image) (if b then no_more else body (flat_map piece_text ps ++ rest) t (shown_after shown p.event) (index + 1) (at + length (piece_text p)) 0)) are.1
    ∙ ap (behind (entry_of p.event ∷ []) (image_span_of index at p.event p.image)) (breaks_again t (shown_after shown p.event) (index + 1) (at + length (piece_text p)) ps rest n are.2 bad)
    ∙ ap (λ (k : ℕ). Err k) there

-- pieces to the end break nowhere
pub not_broken : (t : ViewTable) (ps : List Piece) (xs : List ℕ) (n : ℕ) → ArePieces t None ps → xs ≡ flat_map piece_text ps → BreaksAt t None xs n → ⊥
not_broken t ps xs n are text breaks =
    let good = pieces_again t None 0 0 ps are in
    let stops = breaks_again t None 0 0 breaks.0 breaks.1 breaks.2 breaks.3 breaks.5 in
    let same : flat_map piece_text ps ≡ flat_map piece_text breaks.0 ++ breaks.1 = sym text ∙ breaks.4 in
    let read : body (flat_map piece_text ps) t None 0 0 0 ≡ body (flat_map piece_text breaks.0 ++ breaks.1) t None 0 0 0 = ap (λ (zs : List ℕ). body zs t None 0 0 0) same in
    absurd (cc (good, stops, read))
