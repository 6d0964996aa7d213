-- The members and the bracket are the object's text.
use Rattle.std.proofs.Common.{ℕ, List, [], ◌∷◌, ◌++◌, ap, ◌∙◌, append_assoc}
use Rattle.script_json.specs.inner.Objects.{members_text}
use Rattle.script_json.proofs.Objects.{closed}
use Rattle.script_json.proofs.print.object.push_last_members.Goals as goal

pub returns : goal.returns
returns c =
    let text : List ℕ = c.args.text.now.items in
    c.in_ok-push.ensures.items
    ∙ (ap (λ (t : List ℕ). t ++ 125 ∷ []) c.in_ok-push_members.ensures
    ∙ (append_assoc text (members_text c.args.first c.args.members.now) (125 ∷ []) ∙ ap (λ (t : List ℕ). text ++ t) (closed c.args.first c.args.members.now)))
