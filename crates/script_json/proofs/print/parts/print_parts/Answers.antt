-- The members before the lists, the lists, and the members after them are the text of all, which reads back.
use Rattle.std.proofs.Common.{List, ℕ, sym, ap, ◌∙◌, ◌++◌, subst}
use Rattle.model_history.specs.Scripts.{ScriptModel, script_of}
use Rattle.script_json.specs.Causes.{IsScriptText}
use Rattle.script_json.specs.inner.Objects.{head_text, lists_text, tail_text}
use Rattle.script_json.proofs.Objects.{whole}
use Rattle.script_json.proofs.TextsReadBack.{text_reads_back}
use Rattle.script_json.proofs.print.parts.print_parts.Goals as goal

pub returns-clause-text : goal.returns-clause-text
returns-clause-text c =
    let s : ScriptModel = script_of c.args.parts.now in
    c.in_ok-push_tail.ensures
    ∙ (ap (λ (t : List ℕ). t ++ tail_text s)
    (c.in_ok-push_lists.ensures
    ∙ ap (λ (t : List ℕ). t ++ lists_text s) (c.in_ok-push_head.ensures ∙ ap (λ (t : List ℕ). t ++ head_text s) c.new-text.ensures.items))
    ∙ whole s)

pub returns-clause-again : goal.returns-clause-again
returns-clause-again c = λ ranges.
    let s : ScriptModel = script_of c.args.parts.now in
    subst (λ (bytes : List ℕ). IsScriptText bytes s) (sym (returns-clause-text c)) (text_reads_back s ranges)
