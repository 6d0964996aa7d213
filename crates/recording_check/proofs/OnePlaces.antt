-- Bytes that are no recording break off at one place, and of one that is read but not legal one event is the first that is wrong.
use Rattle.std.proofs.Common.{◌≡◌, ℕ, suc, ◌+◌, List, [], ◌∷◌, ◌++◌, length, reverse, refl, ap, sym, ◌∙◌, subst, append-nil, arith, None, inl, inr}
use Rattle.std.specs.Prelude.{Err}
use Rattle.std.specs.List.{flat_map}
use Rattle.model_history.specs.declared.history.Entry.{Entry}
use Rattle.model_history.specs.Scripts.{ScriptModel}
use Rattle.script_json.specs.Recordings.{script_text}
use Rattle.recording_text.specs.BadParts.{BreaksAt}
use Rattle.recording_text.specs.Pieces.{Piece, piece_text, entry_of, entries}
use Rattle.recording_text.specs.Views.{ViewTable, views_of}
use Rattle.recording_text.specs.inner.Parts.{body}
use Rattle.recording_text.proofs.BadRuns.{breaks_again}
use Rattle.recording_check.specs.Openings.{OpensWith, IsBadOpening, opening_length}
use Rattle.recording_check.specs.Recordings.{IsBadAt}
use Rattle.recording_check.specs.Verdicts.{IsRight, AreRightPieces, IsWrongAt, IsFirstWrongEvent}
use Rattle.recording_check.proofs.JudgedPieces.{past_on}
use Rattle.recording_check.proofs.OneReading.{one_opening, one_reading}
use Rattle.recording_check.proofs.OpeningFacts.{header_parts}

-- ---- the first part that is not of its form

one_break : (t : ViewTable) (xs : List ℕ) (m n : ℕ) → BreaksAt t None xs m → BreaksAt t None xs n → m ≡ n
one_break t xs m n (ps, rest, i, are, text, bad, place) (qs, last, j, also, again, broken, there) =
    let first : body xs t None 0 0 0 ≡ Err (0 + (length (flat_map piece_text ps) + i)) = ap (λ (zs : List ℕ). body zs t None 0 0 0) text ∙ breaks_again t None 0 0 ps rest i are bad in
    let second : body xs t None 0 0 0 ≡ Err (0 + (length (flat_map piece_text qs) + j)) = ap (λ (zs : List ℕ). body zs t None 0 0 0) again ∙ breaks_again t None 0 0 qs last j also broken in
    let same : 0 + (length (flat_map piece_text ps) + i) ≡ 0 + (length (flat_map piece_text qs) + j) = cc (first, second) in
    omega (arith, place, there, same)

one_bad_opening : (bytes : List ℕ) (m n : ℕ) → IsBadOpening bytes m → IsBadOpening bytes n → m ≡ n
one_bad_opening bytes m n (inl a) (inl b) = a.0 ∙ sym b.0
one_bad_opening bytes m n (inl a) (inr b) = absurd (a.1 b.1.0.0 b.1.0.1)
one_bad_opening bytes m n (inr a) (inl b) = absurd (b.1 a.1.0.0 a.1.0.1)
one_bad_opening bytes m n (inr a) (inr b) = a.0 ∙ sym b.0

-- bytes that open with a script have no bad opening
opens_well : (bytes : List ℕ) (s : ScriptModel) (rest : List ℕ) (n : ℕ) → OpensWith bytes s rest → IsBadOpening bytes n → ⊥
opens_well bytes s rest n opens (inl name) = name.1 (script_text s ++ (10 ∷ rest)) (opens.text ∙ header_parts (script_text s) rest)
opens_well bytes s rest n opens (inr script) = script.1.1 s rest opens

pub one_bad_place : (bytes : List ℕ) (m n : ℕ) → IsBadAt bytes m → IsBadAt bytes n → m ≡ n
one_bad_place bytes m n (inl a) (inl b) = one_bad_opening bytes m n a b
one_bad_place bytes m n (inl a) (inr (s, rest, opens, i, breaks, from)) = absurd (opens_well bytes s rest m opens a)
one_bad_place bytes m n (inr (s, rest, opens, i, breaks, from)) (inl b) = absurd (opens_well bytes s rest n opens b)
one_bad_place bytes m n (inr (s, xs, opens, i, breaks, from)) (inr (t, ys, also, j, broken, there)) =
    let one = one_opening bytes s t xs ys opens also in
    let moved : BreaksAt (views_of s) None xs j = subst (λ (r : ScriptModel). BreaksAt (views_of r) None xs j) (sym one.0) (subst (λ (zs : List ℕ). BreaksAt (views_of t) None zs j) (sym one.1) broken) in
    let same : i ≡ j = one_break (views_of s) xs i j breaks moved in
    let start : opening_length s ≡ opening_length t = ap opening_length one.0 in
    omega (arith, from, there, same, start)

-- ---- the first event that is wrong

one_wrong : (s : ScriptModel) (workers : ℕ) (h : List Entry) (b c l m : List Piece) (p q : Piece) → b ++ p ∷ l ≡ c ++ q ∷ m → AreRightPieces s workers h b → AreRightPieces s workers h c
    → (IsRight s workers (reverse (entries b) ++ h) p → ⊥) → (IsRight s workers (reverse (entries c) ++ h) q → ⊥) → length b ≡ length c
one_wrong s workers h [] [] l m p q same right also wrong false = refl
one_wrong s workers h [] (y ∷ c) l m p q same right also wrong false =
    let head : p ≡ y = cc (same) in
    absurd (wrong (subst (λ (z : Piece). IsRight s workers h z) (sym head) also.0))
one_wrong s workers h (x ∷ b) [] l m p q same right also wrong false =
    let head : x ≡ q = cc (same) in
    absurd (false (subst (λ (z : Piece). IsRight s workers h z) head right.0))
one_wrong s workers h (x ∷ b) (y ∷ c) l m p q same right also wrong false =
    let head : x ≡ y = cc (same) in
    let tail : b ++ p ∷ l ≡ c ++ q ∷ m = cc (same) in
    let next : AreRightPieces s workers (entry_of x.event ∷ h) c = subst (λ (z : Piece). AreRightPieces s workers (entry_of z.event ∷ h) c) (sym head) also.1 in
    let past : reverse (entries (y ∷ c)) ++ h ≡ reverse (entries c) ++ (entry_of x.event ∷ h) = past_on (entry_of y.event) (entries c) h ∙ ap (λ (z : Piece). reverse (entries c) ++ (entry_of z.event ∷ h)) (sym head) in
    ap suc (one_wrong s workers (entry_of x.event ∷ h) b c l m p q tail right.1 next
    (λ r. wrong (subst (λ (g : List Entry). IsRight s workers g p) (sym (past_on (entry_of x.event) (entries b) h)) r))
    (λ r. false (subst (λ (g : List Entry). IsRight s workers g q) (sym past) r)))

one_place : (s : ScriptModel) (workers : ℕ) (ps : List Piece) (m n : ℕ) → IsWrongAt s workers ps m → IsWrongAt s workers ps n → m ≡ n
one_place s workers ps m n a b =
    sym a.at
    ∙ one_wrong s workers [] a.before b.before a.later b.later a.piece b.piece (sym a.is ∙ b.is) a.right b.right
    (λ r. a.wrong (subst (λ (g : List Entry). IsRight s workers g a.piece) (append-nil (reverse (entries a.before))) r))
    (λ r. b.wrong (subst (λ (g : List Entry). IsRight s workers g b.piece) (append-nil (reverse (entries b.before))) r))
    ∙ b.at

pub one_first_wrong : (workers : ℕ) (bytes : List ℕ) (m n : ℕ) → IsFirstWrongEvent workers bytes m → IsFirstWrongEvent workers bytes n → m ≡ n
one_first_wrong workers bytes m n (s, ps, is, at) (t, qs, also, there) =
    let one = one_reading bytes s t ps qs is also in
    one_place s workers ps m n at
    (subst (λ (r : ScriptModel). IsWrongAt r workers ps n) (sym one.0) (subst (λ (rs : List Piece). IsWrongAt t workers rs n) (sym one.1) there))
