-- Bytes have one answer: the causes exclude each other.
use Rattle.std.proofs.Common.{◌≡◌, ℕ, List, Some, None, Result, Ok, Err, refl, sym, ap, ◌∙◌, subst}
use Rattle.std.specs.Str.{IsUtf8}
use Rattle.serde_json.specs.Data.{Data}
use Rattle.serde_json.specs.Read.{read}
use Rattle.page_layers.specs.declared.fault.EditFault.{EditFault}
use Rattle.model_history.specs.Accepted.{IsAccepted}
use Rattle.model_history.specs.Frames.{blank}
use Rattle.model_history.specs.Judging.{RefusedAt}
use Rattle.model_history.specs.Scripts.{ScriptModel}
use Rattle.model_history.proofs.Exclusion.{frames_taken, one_at}
use Rattle.script_json.specs.declared.fault.ShapeFault.{ShapeFault}
use Rattle.script_json.specs.declared.text_fault.TextFault.{TextFault}
use Rattle.script_json.specs.declared.text_fault.TextFault.TheVariants.{Json, Shape, Script, Memory}
use Rattle.script_json.specs.Reading.{parts_at}
use Rattle.script_json.specs.Causes.{IsTextOf, IsScriptText, ScriptCause, IsTold}
use Rattle.script_json.proofs.ScriptLaws.{one_script}

-- a text has one value
one_value : (bytes : List ℕ) (d e : Data) → IsTextOf bytes d → IsTextOf bytes e → d ≡ e
one_value bytes d e h k = let same : Some d ≡ Some e = sym h.1 ∙ k.1 in cc

-- a text of a value is JSON
is_json : (bytes : List ℕ) (d : Data) → IsTextOf bytes d → (IsUtf8 bytes → read bytes ≡ None) → ⊥
is_json bytes d h none = let no : None ≡ Some d = sym (none h.0) ∙ h.1 in absurd (cc)

-- a value at fault is no script
at_fault : (bytes : List ℕ) (d : Data) (fault : ShapeFault) (s : ScriptModel) → IsTextOf bytes d → parts_at d ≡ Err fault → IsScriptText bytes s → ⊥
at_fault bytes d fault s h e t =
    let same = one_value bytes d t.0 h t.1 in
    let no : ◌≡◌ {A = Result ScriptModel ShapeFault} (Err fault) (Ok s) = sym e ∙ ap parts_at same ∙ t.2 in
    absurd (cc)

-- a value has one first fault
one_shape : (bytes : List ℕ) (d e : Data) (f g : ShapeFault) → IsTextOf bytes d → parts_at d ≡ Err f → IsTextOf bytes e → parts_at e ≡ Err g → f ≡ g
one_shape bytes d e f g h p k q =
    let same = one_value bytes d e h k in
    let both : ◌≡◌ {A = Result ScriptModel ShapeFault} (Err f) (Err g) = sym p ∙ ap parts_at same ∙ q in
    cc

-- an accepted script has no refused command
accepted : (bytes : List ℕ) (s t : ScriptModel) (k n : ℕ) (fault : EditFault) → IsScriptText bytes s → IsAccepted s → IsScriptText bytes t → RefusedAt (blank t) t.main k n fault → ⊥
accepted bytes s t k n fault h a i r =
    let P : ScriptModel → Type 0 = λ u. RefusedAt (blank u) u.main k n fault in
    frames_taken (blank s) s.main k n fault a.commands (subst P (one_script bytes t s i h) r)

pub one_answer : (bytes : List ℕ) (r q : Result ScriptModel TextFault) → IsTold r → IsTold q → ScriptCause bytes r → ScriptCause bytes q → r ≡ q
one_answer bytes (Err (Memory e)) q told tells a b = absurd told
one_answer bytes (Ok s) (Err (Memory e)) told tells a b = absurd tells
one_answer bytes (Err Json) (Err (Memory e)) told tells a b = absurd tells
one_answer bytes (Err (Shape f)) (Err (Memory e)) told tells a b = absurd tells
one_answer bytes (Err (Script k n fault)) (Err (Memory e)) told tells a b = absurd tells
one_answer bytes (Ok s) (Ok t) told tells a b = ap Ok (one_script bytes s t a.0 b.0)
one_answer bytes (Ok s) (Err Json) told tells a b = absurd (is_json bytes a.0.0 a.0.1 b)
one_answer bytes (Ok s) (Err (Shape f)) told tells a b = absurd (at_fault bytes b.0 _ s b.1 b.2 a.0)
one_answer bytes (Ok s) (Err (Script k n fault)) told tells a b = absurd (accepted bytes s b.0 k n fault a.0 a.1 b.1 b.2)
one_answer bytes (Err Json) (Ok s) told tells a b = absurd (is_json bytes b.0.0 b.0.1 a)
one_answer bytes (Err Json) (Err Json) told tells a b = refl
one_answer bytes (Err Json) (Err (Shape f)) told tells a b = absurd (is_json bytes b.0 b.1 a)
one_answer bytes (Err Json) (Err (Script k n fault)) told tells a b = absurd (is_json bytes b.1.0 b.1.1 a)
one_answer bytes (Err (Shape f)) (Ok s) told tells a b = absurd (at_fault bytes a.0 _ s a.1 a.2 b.0)
one_answer bytes (Err (Shape f)) (Err Json) told tells a b = absurd (is_json bytes a.0 a.1 b)
one_answer bytes (Err (Shape f)) (Err (Shape g)) told tells a b =
    ap (λ (h : ShapeFault). Err (Shape h)) (one_shape bytes a.0 b.0 f g a.1 a.2 b.1 b.2)
one_answer bytes (Err (Shape f)) (Err (Script k n fault)) told tells a b = absurd (at_fault bytes a.0 _ b.0 a.1 a.2 b.1)
one_answer bytes (Err (Script k n fault)) (Ok s) told tells a b = absurd (accepted bytes s a.0 k n fault b.0 b.1 a.1 a.2)
one_answer bytes (Err (Script k n fault)) (Err Json) told tells a b = absurd (is_json bytes a.1.0 a.1.1 b)
one_answer bytes (Err (Script k n fault)) (Err (Shape f)) told tells a b = absurd (at_fault bytes b.0 _ a.0 b.1 b.2 a.1)
one_answer bytes (Err (Script k n fault)) (Err (Script j m other)) told tells a b =
    let P : ScriptModel → Type 0 = λ u. RefusedAt (blank u) u.main k n fault in
    let same = one_at (blank b.0) b.0.main k j n m fault other (subst P (one_script bytes a.0 b.0 a.1 b.1) a.2) b.2 in
    rw same.0 (rw same.1 (rw same.2 refl))
