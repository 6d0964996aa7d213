-- Pieces read back as their entries and images, and what is read are pieces.
use Rattle.std.proofs.Common.{◌≡◌, ℕ, zero, suc, ◌+◌, ◌-◌, ◌<◌, true, false, List, [], ◌∷◌, ◌++◌, length, drop, refl, ap, sym, ◌∙◌, arith, subst, length-append}
use Rattle.std.specs.Prelude.{Bool, Option, Result, Ok, Err, MatchBool, if◌then◌else◌}
use Rattle.std.specs.List.{flat_map}
use Rattle.std.proofs.Math.Seq.{drop-append_seam}
use Rattle.model_history.specs.declared.history.Entry.{Entry}
use Rattle.model_history.specs.Texts.{event_line}
use Rattle.recording_text.proofs.TakenLines.{line_has_some}
use Rattle.recording_text.specs.declared.cursor.ImageSpan.{ImageSpan}
use Rattle.recording_text.specs.declared.part.RecordingPart.{RecordingPart}
use Rattle.recording_text.specs.Views.{ViewTable, view_at}
use Rattle.recording_text.specs.inner.Parts.{part_at, images_in, Body, no_more, behind, led, body}
use Rattle.recording_text.specs.Pieces.{Piece, piece_text, IsPiece, ArePieces, entries, image_span_of, image_spans, entry_of, shown_after, is_end}
use Rattle.recording_text.proofs.BodySteps.{body_good, drop_past}
use Rattle.recording_text.proofs.PieceParts.{whole_part, piece_part, part_event, part_size, part_images, PartTells, part_exact}

-- a piece has a byte at least
pub piece_has_some : (p : Piece) → 0 < length (piece_text p)
piece_has_some p = omega (arith, line_has_some p.event, length-append (event_line p.event) p.image)

-- one piece, and what is read after it
pub piece_step : (t : ViewTable) (shown : Option ℕ) (index at : ℕ) (p : Piece) (rest : List ℕ) → IsPiece (view_at t shown) p → (is_end p.event ≡ true → rest ≡ [])
    → body (piece_text p ++ rest) t shown index at 0 ≡ behind (entry_of p.event ∷ []) (image_span_of index at p.event p.image) (if is_end p.event then no_more else body rest t (shown_after shown p.event) (index + 1) (at + length (piece_text p)) 0)
piece_step t shown index at p rest is last =
    let q : RecordingPart = whole_part p.event p.image in
    let size : (whole_part p.event p.image).size ≡ length (piece_text p) = part_size (view_at t shown) p.event p.image is.image in
    let some = piece_has_some p in
    let read = body_good (piece_text p ++ rest) t shown index at (whole_part p.event p.image) (piece_part (view_at t shown) p rest is last) (omega (arith, size)) in
    let left : drop (whole_part p.event p.image).size (piece_text p ++ rest) ≡ rest = ap (λ (n : ℕ). drop n (piece_text p ++ rest)) size ∙ drop-append_seam (piece_text p) rest in
    cc (read, left, size, part_event p.event p.image, part_images index at p.event p.image)

last_piece : (t : ViewTable) (shown : Option ℕ) (index at : ℕ) (p : Piece) → IsPiece (view_at t shown) p → is_end p.event ≡ true
    → body (piece_text p ++ []) t shown index at 0 ≡ Ok (record { entries = entries (p ∷ []); images = image_spans index at (p ∷ []) })
last_piece t shown index at p is last =
    piece_step t shown index at p [] is (λ _. refl)
    ∙ ap (λ (b : Bool). behind (entry_of p.event ∷ []) (image_span_of index at p.event p.image) (if b then no_more else body [] t (shown_after shown p.event) (index + 1) (at + length (piece_text p)) 0)) last

more_pieces : (t : ViewTable) (shown : Option ℕ) (index at : ℕ) (p : Piece) (ps : List Piece) → IsPiece (view_at t shown) p → is_end p.event ≡ false
    → body (flat_map piece_text ps) t (shown_after shown p.event) (index + 1) (at + length (piece_text p)) 0 ≡ Ok (record { entries = entries ps; images = image_spans (index + 1) (at + length (piece_text p)) ps })
    → body (flat_map piece_text (p ∷ ps)) t shown index at 0 ≡ Ok (record { entries = entries (p ∷ ps); images = image_spans index at (p ∷ ps) })
more_pieces t shown index at p ps is more rest =
    piece_step t shown index at p (flat_map piece_text ps) is (λ last. absurd (cc (last, more)))
    ∙ ap (λ (b : Bool). behind (entry_of p.event ∷ []) (image_span_of index at p.event p.image) (if b then no_more else body (flat_map piece_text ps) t (shown_after shown p.event) (index + 1) (at + length (piece_text p)) 0)) more
    ∙ ap (behind (entry_of p.event ∷ []) (image_span_of index at p.event p.image)) rest

pieces_in : (b : Bool) (t : ViewTable) (shown : Option ℕ) (index at : ℕ) (p : Piece) (ps : List Piece) → is_end p.event ≡ b → IsPiece (view_at t shown) p → MatchBool b (ps ≡ []) (ArePieces t (shown_after shown p.event) ps)
    → (ArePieces t (shown_after shown p.event) ps → body (flat_map piece_text ps) t (shown_after shown p.event) (index + 1) (at + length (piece_text p)) 0 ≡ Ok (record { entries = entries ps; images = image_spans (index + 1) (at + length (piece_text p)) ps }))
    → body (flat_map piece_text (p ∷ ps)) t shown index at 0 ≡ Ok (record { entries = entries (p ∷ ps); images = image_spans index at (p ∷ ps) })
pieces_in true t shown index at p ps last is none rest =
    subst (λ (qs : List Piece). body (flat_map piece_text (p ∷ qs)) t shown index at 0 ≡ Ok (record { entries = entries (p ∷ qs); images = image_spans index at (p ∷ qs) })) (sym none) (last_piece t shown index at p is last)
pieces_in false t shown index at p ps more is are rest = more_pieces t shown index at p ps is more (rest are)

-- the texts of pieces are read as their entries and images
pub pieces_again : (t : ViewTable) (shown : Option ℕ) (index at : ℕ) (ps : List Piece) → ArePieces t shown ps → body (flat_map piece_text ps) t shown index at 0 ≡ Ok (record { entries = entries ps; images = image_spans index at ps })
pieces_again t shown index at [] are = absurd are
pieces_again t shown index at (p ∷ ps) are =
    pieces_in (is_end p.event) t shown index at p ps refl are.0 are.1 (λ more. pieces_again t (shown_after shown p.event) (index + 1) (at + length (piece_text p)) ps more)

-- the bytes are the texts of pieces, with these entries and images
pub record AreRead (t : ViewTable) (shown : Option ℕ) (index at : ℕ) (xs : List ℕ) (r : Body) (ps : List Piece) : Type 0 where
  pub pieces : ArePieces t shown ps
  pub text : xs ≡ flat_map piece_text ps
  pub entries : r.entries ≡ entries ps
  pub images : r.images ≡ image_spans index at ps

abbrev Read : ViewTable → Option ℕ → ℕ → ℕ → List ℕ → Body → Type 0
Read t shown index at xs r = (ps : List Piece) × AreRead t shown index at xs r ps

-- the piece of a part that was read
abbrev pub piece_of : RecordingPart → List ℕ → Piece
piece_of p image = record { event = p.event; image = image }

pub whole_size : (v : _) (xs : List ℕ) (p : RecordingPart) (image : List ℕ) → PartTells v xs p image → p.size ≡ length (piece_text (piece_of p image))
whole_size v xs p image tells = ap (λ (q : RecordingPart). q.size) tells.is ∙ part_size v p.event image tells.piece.image

pub whole_images : (v : _) (xs : List ℕ) (p : RecordingPart) (image : List ℕ) (index at : ℕ) → PartTells v xs p image → images_in index at p.size p.image ≡ image_span_of index at p.event image
whole_images v xs p image index at tells = ap (λ (q : RecordingPart). images_in index at q.size q.image) tells.is ∙ part_images index at p.event image

behind_ok : (es : List Entry) (ms : List ImageSpan) (b : Result Body ℕ) (r : Body) → behind es ms b ≡ Ok r → (q : Body) × (b ≡ Ok q) × (r.entries ≡ es ++ q.entries) × (r.images ≡ ms ++ q.images)
behind_ok es ms (Ok q) r is = let one : record { entries = es ++ q.entries; images = ms ++ q.images } ≡ r = cc (is) in
    (q, refl, ap (λ (x : Body). x.entries) (sym one), ap (λ (x : Body). x.images) (sym one))
behind_ok es ms (Err place) r is = absurd (cc (is))

led_on : (b : Bool) (t : ViewTable) (shown : Option ℕ) (index at : ℕ) (xs : List ℕ) (p : RecordingPart) (image : List ℕ) (next : Result Body ℕ) (r : Body) → is_end p.event ≡ b → PartTells (view_at t shown) xs p image
    → behind (entry_of p.event ∷ []) (images_in index at p.size p.image) (if b then no_more else next) ≡ Ok r
    → ((q : Body) → next ≡ Ok q → Read t (shown_after shown p.event) (index + 1) (at + p.size) (drop p.size xs) q)
    → Read t shown index at xs r
led_on true t shown index at xs p image next r last tells is rest =
    let a = behind_ok (entry_of p.event ∷ []) (images_in index at p.size p.image) no_more r is in
    let none : record { entries = []; images = [] } ≡ a.0 = cc (a.1) in
    let nothing : List Piece = [] in
    let left : drop p.size xs ≡ [] = tells.last last in (
      piece_of p image ∷ [],
      record {
        pieces = (tells.piece, subst (λ (c : Bool). MatchBool c (nothing ≡ nothing) (ArePieces t (shown_after shown p.event) nothing)) (sym last) refl);
        text = tells.text ∙ ap (λ (y : List ℕ). piece_text (piece_of p image) ++ y) left;
        entries = a.2 ∙ ap (λ (x : Body). (entry_of p.event ∷ []) ++ x.entries) (sym none);
        images = a.3 ∙ ap (λ (x : Body). images_in index at p.size p.image ++ x.images) (sym none) ∙ ap (λ (ms : List ImageSpan). ms ++ []) (whole_images (view_at t shown) xs p image index at tells);
      },
    )
led_on false t shown index at xs p image next r more tells is rest =
    let a = behind_ok (entry_of p.event ∷ []) (images_in index at p.size p.image) next r is in
    let b = rest a.0 a.1 in
    let size = whole_size (view_at t shown) xs p image tells in (
      piece_of p image ∷ b.0,
      record {
        pieces = (tells.piece, subst (λ (c : Bool). MatchBool c (b.0 ≡ []) (ArePieces t (shown_after shown p.event) b.0)) (sym more) b.1.pieces);
        text = tells.text ∙ ap (λ (y : List ℕ). piece_text (piece_of p image) ++ y) b.1.text;
        entries = a.2 ∙ ap (λ (x : List Entry). (entry_of p.event ∷ []) ++ x) b.1.entries;
        images = a.3 ∙ ap (λ (ms : List ImageSpan). ms ++ a.0.images) (whole_images (view_at t shown) xs p image index at tells)
            ∙ ap (λ (ms : List ImageSpan). image_span_of index at p.event image ++ ms) (b.1.images ∙ ap (λ (n : ℕ). image_spans (index + 1) (at + n) b.0) size);
      },
    )

led_in : (pr : Result RecordingPart ℕ) (t : ViewTable) (shown : Option ℕ) (index at c : ℕ) (xs : List ℕ) (r : Body) → part_at (view_at t shown) (c ∷ xs) ≡ pr
    → led shown index at pr (λ now size. body xs t now (index + 1) (at + size) (size - 1)) ≡ Ok r
    → ((now : Option ℕ) (i a k : ℕ) (q : Body) → body xs t now i a k ≡ Ok q → Read t now i a (drop k xs) q)
    → Read t shown index at (c ∷ xs) r
led_in (Err place) t shown index at c xs r there is rest = absurd (cc (is))
led_in (Ok p) t shown index at c xs r there is rest =
    let a = part_exact (view_at t shown) (c ∷ xs) p there in
    let size = whole_size (view_at t shown) (c ∷ xs) p a.0 a.1 in
    let some = piece_has_some (piece_of p a.0) in
    let past : drop (p.size - 1) xs ≡ drop p.size (c ∷ xs) = sym (drop_past p.size c xs (omega (arith, size))) in
    led_on (is_end p.event) t shown index at (c ∷ xs) p a.0 (body xs t (shown_after shown p.event) (index + 1) (at + p.size) (p.size - 1)) r refl a.1 is
    (λ q known. subst (λ (ys : List ℕ). Read t (shown_after shown p.event) (index + 1) (at + p.size) ys q) past (rest (shown_after shown p.event) (index + 1) (at + p.size) (p.size - 1) q known))

-- what is read are pieces
pub body_exact : (xs : List ℕ) (t : ViewTable) (shown : Option ℕ) (index at skip : ℕ) (r : Body) → body xs t shown index at skip ≡ Ok r → (ps : List Piece) × AreRead t shown index at (drop skip xs) r ps
unfolding body
body_exact [] t shown index at skip r is = absurd (cc (is))
body_exact (c ∷ xs) t shown index at (suc skip) r is = body_exact xs t shown index at skip r is
body_exact (c ∷ xs) t shown index at zero r is = led_in (part_at (view_at t shown) (c ∷ xs)) t shown index at c xs r refl is (body_exact xs t)
