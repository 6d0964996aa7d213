-- The text of an object: its members and the bracket that closes it, and those of a script in three parts.
use Rattle.std.proofs.Common.{◌≡◌, ℕ, List, [], ◌∷◌, ◌++◌, codes, refl, ap, ◌∙◌, append_assoc}
use Rattle.std.specs.Borrow.{Bor}
use Rattle.json.specs.Print.{escape_byte}
use Rattle.serde_json.specs.Written.{compact_text}
use Rattle.model_history.specs.Scripts.{ScriptModel}
use Rattle.script_fields.specs.Values.{number_data, opaque_data}
use Rattle.script_json.specs.ScriptValue.{main_data, inputs_data, parts_data}
use Rattle.script_json.specs.declared.print.field.Field.{Field}
use Rattle.script_json.specs.inner.Objects.{member_text, members_text, object_text, data_member, head_text, lists_text, tail_text}

pub closed : (before : ℕ) (ms : List (Bor (List ℕ) × Field)) → members_text before ms ++ 125 ∷ [] ≡ object_text before ms
closed before [] = refl
closed before (m ∷ ms) =
    append_assoc (member_text before m.0.now m.1) (members_text 44 ms) (125 ∷ []) ∙ ap (λ (rest : List ℕ). member_text before m.0.now m.1 ++ rest) (closed 44 ms)

-- three pieces, two and the rest, one after another
regroup : (a b c d e rest : List ℕ) → ((a ++ (b ++ (c ++ []))) ++ (d ++ e)) ++ rest ≡ a ++ (b ++ (c ++ (d ++ (e ++ rest))))
regroup a b c d e rest = simp append_assoc

-- the members before the lists, the lists and the members after them are the text of all
pub whole : (s : ScriptModel) → (head_text s ++ lists_text s) ++ tail_text s ≡ compact_text (parts_data s)
unfolding parts_data escape_byte
whole s =
    regroup (data_member 123 (codes "background") (opaque_data s.background)) (data_member 44 (codes "budget") (number_data s.budget)) (data_member 44 (codes "eventually") (number_data s.eventually))
    (data_member 44 (codes "inputs") (inputs_data s.inputs)) (data_member 44 (codes "main") (main_data s.main)) (tail_text s)
