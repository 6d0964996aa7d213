-- Bytes are the texts of one list of pieces at most.
use Rattle.std.proofs.Common.{◌≡◌, ℕ, ◌+◌, true, false, List, [], ◌∷◌, ◌++◌, length, take, drop, ap, sym, ◌∙◌, append_assoc, Some, subst, length-append}
use Rattle.std.specs.Prelude.{Bool, Option, MatchBool}
use Rattle.std.specs.List.{flat_map}
use Rattle.std.proofs.Math.Seq.{drop-append_seam, take-append_seam}
use Rattle.page_layers.specs.declared.view.View.{View}
use Rattle.model_history.specs.declared.event.Event.{Event}
use Rattle.model_history.specs.declared.event.Event.TheVariants as event
use Rattle.model_history.specs.Recordings.{image_head}
use Rattle.model_history.specs.Texts.{event_line}
use Rattle.recording_text.specs.Fits.{FitsEvent}
use Rattle.recording_text.specs.Lines.{event_at}
use Rattle.recording_text.proofs.ReadLines.{event_again}
use Rattle.recording_text.specs.Pieces.{Piece, piece_text, HasImage, IsPiece, ArePieces, is_end, shown_after}
use Rattle.recording_text.specs.Views.{ViewTable, view_at}

one_event : (p q : Piece) (xs ys : List ℕ) → FitsEvent p.event → FitsEvent q.event → piece_text p ++ xs ≡ piece_text q ++ ys → p.event ≡ q.event
one_event p q xs ys one two same =
    let a : event_at (piece_text p ++ xs) ≡ Some p.event = ap event_at (append_assoc (event_line p.event) p.image xs) ∙ event_again p.event (p.image ++ xs) one in
    let b : event_at (piece_text q ++ ys) ≡ Some q.event = ap event_at (append_assoc (event_line q.event) q.image ys) ∙ event_again q.event (q.image ++ ys) two in
    cc (a, b, same)

image_size : (v : View) (e : Event) (a b : List ℕ) → HasImage v e a → HasImage v e b → length a ≡ length b
image_size v (event.Draw i ms) a b one two =
    let first : length a ≡ length (image_head v.w v.h) + length one.0 = ap length one.2 ∙ length-append (image_head v.w v.h) one.0 in
    let second : length b ≡ length (image_head v.w v.h) + length two.0 = ap length two.2 ∙ length-append (image_head v.w v.h) two.0 in
    first ∙ ap (λ (n : ℕ). length (image_head v.w v.h) + n) (one.1 ∙ sym two.1) ∙ sym second
image_size v (event.Stop actor) a b one two = absurd one
image_size v e a b one two = ap length (one ∙ sym two)

same_front : (a b xs ys : List ℕ) → length a ≡ length b → a ++ xs ≡ b ++ ys → (a ≡ b) × (xs ≡ ys)
same_front a b xs ys long same = (
  sym (take-append_seam a xs) ∙ ap (take (length a)) same ∙ ap (λ (n : ℕ). take n (b ++ ys)) long ∙ take-append_seam b ys,
  sym (drop-append_seam a xs) ∙ ap (drop (length a)) same ∙ ap (λ (n : ℕ). drop n (b ++ ys)) long ∙ drop-append_seam b ys,
)

piece_is : (p q : Piece) → p.event ≡ q.event → p.image ≡ q.image → p ≡ q
piece_is p q e m = λ i. record { event = e i; image = m i }

one_piece : (v : View) (p q : Piece) (xs ys : List ℕ) → IsPiece v p → IsPiece v q → piece_text p ++ xs ≡ piece_text q ++ ys → (p ≡ q) × (xs ≡ ys)
one_piece v p q xs ys one two same =
    let e : p.event ≡ q.event = one_event p q xs ys one.fits two.fits same in
    let text : event_line p.event ++ (p.image ++ xs) ≡ event_line q.event ++ (q.image ++ ys) = sym (append_assoc (event_line p.event) p.image xs) ∙ same ∙ append_assoc (event_line q.event) q.image ys in
    let lines = same_front (event_line p.event) (event_line q.event) (p.image ++ xs) (q.image ++ ys) (ap (λ (x : Event). length (event_line x)) e) text in
    let has : HasImage v q.event p.image = subst (λ (x : Event). HasImage v x p.image) e one.image in
    let both = same_front p.image q.image xs ys (image_size v q.event p.image q.image has two.image) lines.1 in
    (piece_is p q e both.0, both.1)

pieces_in : (b : Bool) (t : ViewTable) (shown : Option ℕ) (ps qs : List Piece) → MatchBool b (ps ≡ []) (ArePieces t shown ps) → MatchBool b (qs ≡ []) (ArePieces t shown qs) → (ArePieces t shown ps → ArePieces t shown qs → ps ≡ qs) → ps ≡ qs
pieces_in true t shown ps qs one two more = one ∙ sym two
pieces_in false t shown ps qs one two more = more one two

pub one_pieces : (t : ViewTable) (shown : Option ℕ) (ps qs : List Piece) → ArePieces t shown ps → ArePieces t shown qs → flat_map piece_text ps ≡ flat_map piece_text qs → ps ≡ qs
one_pieces t shown [] qs one two same = absurd one
one_pieces t shown (p ∷ ps) [] one two same = absurd two
one_pieces t shown (p ∷ ps) (q ∷ qs) one two same =
    let first = one_piece (view_at t shown) p q (flat_map piece_text ps) (flat_map piece_text qs) one.0 two.0 same in
    let rest : MatchBool (is_end p.event) (qs ≡ []) (ArePieces t (shown_after shown p.event) qs) = subst (λ (x : Piece). MatchBool (is_end x.event) (qs ≡ []) (ArePieces t (shown_after shown x.event) qs)) (sym first.0) two.1 in
    let more : ps ≡ qs = pieces_in (is_end p.event) t (shown_after shown p.event) ps qs one.1 rest (λ a b. one_pieces t (shown_after shown p.event) ps qs a b first.1) in
    ap (λ (x : Piece). x ∷ ps) first.0 ∙ ap (λ (xs : List Piece). q ∷ xs) more
