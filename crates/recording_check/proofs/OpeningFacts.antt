-- What the first two lines tell.
use Rattle.std.proofs.Common.{◌≡◌, ℕ, ◌+◌, true, false, List, ◌∷◌, ◌++◌, length, drop, refl, ap, sym, ◌∙◌, append_assoc, arith, inl, inr, None, Some, subst, Bor, length-append}
use Rattle.std.specs.Prelude.{nat_eq, codes, Ok}
use Rattle.std.specs.List.{starts_with}
use Rattle.std.proofs.Math.Seq.{drop-append_seam}
use Rattle.model_history.specs.Recordings.{header}
use Rattle.model_history.specs.Scripts.{ScriptModel}
use Rattle.script_json.specs.Recordings.{script_text}
use Rattle.recording_text.proofs.ReadLines.{starts_again, starts_exact}
use Rattle.recording_check.specs.declared.opening.Opening.{Opening}
use Rattle.recording_check.specs.Openings.{IsScriptLine, FirstLine, ScriptOf, OpensWith, IsBadOpening, Opens}
use Rattle.recording_check.proofs.OneLines.{script_is_one_line}

-- the two lines, and what stands after the name of the format
pub header_parts : (line rest : List ℕ) → header line ++ rest ≡ codes "cc1\n" ++ (line ++ (10 ∷ rest))
unfolding header
header_parts line rest = append_assoc (codes "cc1\n" ++ line) (codes "\n") rest ∙ append_assoc (codes "cc1\n") line (codes "\n" ++ rest)

header_length : (line : List ℕ) → length (header line) ≡ 5 + length line
unfolding header
header_length line =
    let all : length ((codes "cc1\n" ++ line) ++ codes "\n") ≡ length (codes "cc1\n" ++ line) + 1 = length-append (codes "cc1\n" ++ line) (codes "\n") in
    let front : length (codes "cc1\n" ++ line) ≡ 4 + length line = length-append (codes "cc1\n") line in
    omega (arith, all, front)

behind_name : (bytes : List ℕ) → starts_with nat_eq bytes (codes "cc1\n") ≡ true → bytes ≡ codes "cc1\n" ++ drop 4 bytes
behind_name bytes begins = starts_exact bytes (codes "cc1\n") begins

-- what stands after the name where the bytes begin with a script's two lines
pub lines_behind : (bytes : List ℕ) (s : ScriptModel) (rest : List ℕ) → bytes ≡ header (script_text s) ++ rest → drop 4 bytes ≡ script_text s ++ (10 ∷ rest)
lines_behind bytes s rest text = ap (drop 4) (text ∙ header_parts (script_text s) rest) ∙ drop-append_seam (codes "cc1\n") (script_text s ++ (10 ∷ rest))

good_in : (bytes : List ℕ) (s : ScriptModel) (end : ℕ) (line rest : List ℕ) → bytes ≡ header line ++ rest → IsScriptLine line s → end ≡ 5 + length line → OpensWith bytes s (drop end bytes) × (end ≡ length (header (script_text s)))
good_in bytes s end line rest text is at =
    let one : line ≡ script_text s = is.canonical in
    let long : end ≡ length (header line) = at ∙ sym (header_length line) in
    let left : drop end bytes ≡ rest = ap (λ (n : ℕ). drop n bytes) long ∙ ap (drop (length (header line))) text ∙ drop-append_seam (header line) rest in (
      record {
        script = subst (λ (l : List ℕ). IsScriptLine l s) one is;
        text = text ∙ ap (λ (l : List ℕ). header l ++ rest) one ∙ ap (λ (x : List ℕ). header (script_text s) ++ x) (sym left);
      },
      long ∙ ap (λ (l : List ℕ). length (header l)) one,
    )

-- both are of their form
pub opening_good : (bytes : List ℕ) (l : Bor (List ℕ)) (o : Opening) → starts_with nat_eq bytes (codes "cc1\n") ≡ true → FirstLine (drop 4 bytes) (Some l) → ScriptOf l.now (Some o.script) → o.end ≡ 5 + length l.now → Opens bytes (Ok o)
opening_good bytes l o begins line is at =
    good_in bytes o.script o.end l.now line.0.0 (behind_name bytes begins ∙ ap (λ (x : List ℕ). codes "cc1\n" ++ x) line.0.1 ∙ sym (header_parts l.now line.0.0)) is at

-- the name is not there
pub opening_lacks_name : (bytes : List ℕ) → starts_with nat_eq bytes (codes "cc1\n") ≡ false → IsBadOpening bytes 0
opening_lacks_name bytes begins = inl (
  refl,
  λ rest text.
      let there : starts_with nat_eq bytes (codes "cc1\n") ≡ true = ap (λ (x : List ℕ). starts_with nat_eq x (codes "cc1\n")) text ∙ starts_again (codes "cc1\n") rest in
      absurd (cc (begins, there)),
)

-- no line stands after it
pub opening_lacks_line : (bytes : List ℕ) → starts_with nat_eq bytes (codes "cc1\n") ≡ true → FirstLine (drop 4 bytes) None → IsBadOpening bytes 4
opening_lacks_line bytes begins none = inr (refl, ((drop 4 bytes, behind_name bytes begins), λ s rest opens. none (script_text s) rest (lines_behind bytes s rest opens.text)))

-- the line is no script's
pub opening_lacks_script : (bytes : List ℕ) (l : Bor (List ℕ)) → starts_with nat_eq bytes (codes "cc1\n") ≡ true → FirstLine (drop 4 bytes) (Some l) → ScriptOf l.now None → IsBadOpening bytes 4
opening_lacks_script bytes l begins line none = inr (
  refl,
  (
    (drop 4 bytes, behind_name bytes begins),
    λ s rest opens.
        let one : script_text s ≡ l.now = line.1 (script_text s) rest (script_is_one_line s) (lines_behind bytes s rest opens.text) in
        none s (subst (λ (x : List ℕ). IsScriptLine x s) one opens.script),
  ),
)
