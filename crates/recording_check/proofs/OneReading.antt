-- Bytes are one recording at most, and no recording breaks off.
use Rattle.std.proofs.Common.{◌≡◌, ℕ, List, [], ◌∷◌, ◌++◌, refl, ap, sym, ◌∙◌, None, subst, inl, inr}
use Rattle.std.specs.List.{flat_map}
use Rattle.model_history.specs.Scripts.{ScriptModel}
use Rattle.script_json.specs.Causes.{IsScriptText}
use Rattle.script_json.specs.Recordings.{script_text}
use Rattle.script_json.proofs.ScriptLaws.{one_script}
use Rattle.recording_text.specs.BadParts.{BreaksAt}
use Rattle.recording_check.specs.Openings.{IsOneLine, OpensWith, is_newline}
use Rattle.recording_check.specs.Recordings.{IsRecording, IsBadAt}
use Rattle.recording_text.specs.Pieces.{Piece, piece_text, ArePieces}
use Rattle.recording_text.specs.Views.{views_of}
use Rattle.recording_check.proofs.OneLines.{script_is_one_line}
use Rattle.recording_check.proofs.OpeningFacts.{lines_behind, header_parts}
use Rattle.recording_text.proofs.BadRuns.{not_broken}
use Rattle.recording_text.proofs.OnePieces.{one_pieces}

-- one line ends at the first newline
one_line : (a b xs ys : List ℕ) → IsOneLine a → IsOneLine b → a ++ (10 ∷ xs) ≡ b ++ (10 ∷ ys) → (a ≡ b) × (xs ≡ ys)
one_line [] [] xs ys one two same = (refl, cc (same))
one_line [] (d ∷ b) xs ys one two same = let head : 10 ≡ d = cc (same) in absurd (cc (ap is_newline head, two.0))
one_line (c ∷ a) [] xs ys one two same = let head : c ≡ 10 = cc (same) in absurd (cc (ap is_newline head, one.0))
one_line (c ∷ a) (d ∷ b) xs ys one two same =
    let head : c ≡ d = cc (same) in
    let tail : a ++ (10 ∷ xs) ≡ b ++ (10 ∷ ys) = cc (same) in
    let more = one_line a b xs ys one.1 two.1 tail in
    (ap (λ (x : ℕ). x ∷ a) head ∙ ap (λ (x : List ℕ). d ∷ x) more.0, more.1)

-- bytes open with one script at most
pub one_opening : (bytes : List ℕ) (s t : ScriptModel) (xs ys : List ℕ) → OpensWith bytes s xs → OpensWith bytes t ys → (s ≡ t) × (xs ≡ ys)
one_opening bytes s t xs ys first second =
    let same : script_text s ++ (10 ∷ xs) ≡ script_text t ++ (10 ∷ ys) = sym (lines_behind bytes s xs first.text) ∙ lines_behind bytes t ys second.text in
    let parts = one_line (script_text s) (script_text t) xs ys (script_is_one_line s) (script_is_one_line t) same in
    (one_script (script_text s) s t first.script.reads (subst (λ (l : List ℕ). IsScriptText l t) (sym parts.0) second.script.reads), parts.1)

-- bytes are one recording at most
pub one_reading : (bytes : List ℕ) (s t : ScriptModel) (ps qs : List Piece) → IsRecording bytes s ps → IsRecording bytes t qs → (s ≡ t) × (ps ≡ qs)
one_reading bytes s t ps qs first second =
    let opening = one_opening bytes s t (flat_map piece_text ps) (flat_map piece_text qs) first.opening second.opening in
    let are : ArePieces (views_of s) None qs = subst (λ (r : ScriptModel). ArePieces (views_of r) None qs) (sym opening.0) second.pieces in
    (opening.0, one_pieces (views_of s) None ps qs first.pieces are opening.1)

-- a recording has no bad part
pub not_bad : (bytes : List ℕ) (s : ScriptModel) (ps : List Piece) (place : ℕ) → IsRecording bytes s ps → IsBadAt bytes place → ⊥
not_bad bytes s ps place is (inl (inl name)) = name.1 (script_text s ++ (10 ∷ flat_map piece_text ps)) (is.opening.text ∙ header_parts (script_text s) (flat_map piece_text ps))
not_bad bytes s ps place is (inl (inr script)) = script.1.1 s (flat_map piece_text ps) is.opening
not_bad bytes s ps place is (inr (t, rest, opens, n, breaks, from)) =
    let opening = one_opening bytes s t (flat_map piece_text ps) rest is.opening opens in
    let there : BreaksAt (views_of s) None rest n = subst (λ (r : ScriptModel). BreaksAt (views_of r) None rest n) (sym opening.0) breaks in
    not_broken (views_of s) ps rest n is.pieces (sym opening.1) there
