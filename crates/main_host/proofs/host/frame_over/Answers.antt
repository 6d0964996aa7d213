-- The frame was made on a copy of the page before it.
use Rattle.std.proofs.Common.{List, ◌++◌, ◌∷◌, [], length, ◌≡◌, ◌<◌, sym, ap, subst, ◌∙◌, arith}
use Rattle.page_layers.specs.Pages.{Page}
use Rattle.page_layers.specs.declared.moves.Move.{Move}
use Rattle.model_history.specs.Scripts.{ScriptModel}
use Rattle.model_history.specs.Ended.{StandsBefore, EndsFrame}
use Rattle.main_host.specs.Hosts.{MainHostModel, IsHost, IsNext}
use Rattle.main_host.proofs.HostFacts.{stands_before, is_next, is_host}
use Rattle.main_host.proofs.host.frame_over.Goals as goal

pub take_frame-requires-clause-before : goal.take_frame-requires-clause-before
take_frame-requires-clause-before c =
    let s : ScriptModel = c.args.script.now.value in
    let stands : StandsBefore s c.args.frame c.args.pulls.now c.in_ok-tree.tree = stands_before s c.args.sends.now.items c.args.pulls.now c.args.frame c.args.before.now c.in_ok-tree.tree c.requires.frame c.requires.before c.in_ok-tree.ensures in
    subst (λ (t : ScriptModel). StandsBefore t c.args.frame c.as_slice.result.now c.in_ok-tree.tree) (sym c.deref.ensures)
    (subst (λ (ms : List Move). StandsBefore s c.args.frame ms c.in_ok-tree.tree) (sym c.as_slice.ensures) stands)

pub end_of-requires-clause-next : goal.end_of-requires-clause-next
end_of-requires-clause-next c =
    let s : ScriptModel = c.args.script.now.value in
    let h : MainHostModel = record { script = s; sends = c.args.sends.now.items } in
    let there : EndsFrame c.deref.result.now c.args.frame c.as_slice.result.now c.in_ok-tree.tree c.take_frame.new.tree c.in_ok-changes.changes = c.in_ok-changes.ensures in
    let ends : EndsFrame s c.args.frame c.args.pulls.now c.in_ok-tree.tree c.take_frame.new.tree c.in_ok-changes.changes =
    subst (λ (ms : List Move). EndsFrame s c.args.frame ms c.in_ok-tree.tree c.take_frame.new.tree c.in_ok-changes.changes) c.as_slice.ensures
    (subst (λ (t : ScriptModel). EndsFrame t c.args.frame c.as_slice.result.now c.in_ok-tree.tree c.take_frame.new.tree c.in_ok-changes.changes) c.deref.ensures there) in
    subst (λ (p : Page). IsNext h c.args.pulls.now c.args.frame c.args.before.now p c.in_ok-changes.changes) (sym c.in_ok-after.ensures.ok)
    (is_next s c.args.sends.now.items c.args.pulls.now c.args.frame c.args.before.now c.in_ok-tree.tree c.take_frame.new.tree c.in_ok-changes.changes c.requires.frame c.requires.left c.requires.before c.in_ok-tree.ensures ends)

pub returns-clause-after : goal.returns-clause-after
returns-clause-after c =
    let s : ScriptModel = c.args.script.now.value in
    let h : MainHostModel = record { script = s; sends = c.args.sends.now.items } in
    let there : EndsFrame c.deref.result.now c.args.frame c.as_slice.result.now c.in_ok-tree.tree c.take_frame.new.tree c.in_ok-changes.changes = c.in_ok-changes.ensures in
    let ends : EndsFrame s c.args.frame c.args.pulls.now c.in_ok-tree.tree c.take_frame.new.tree c.in_ok-changes.changes =
    subst (λ (ms : List Move). EndsFrame s c.args.frame ms c.in_ok-tree.tree c.take_frame.new.tree c.in_ok-changes.changes) c.as_slice.ensures
    (subst (λ (t : ScriptModel). EndsFrame t c.args.frame c.as_slice.result.now c.in_ok-tree.tree c.take_frame.new.tree c.in_ok-changes.changes) c.deref.ensures there) in
    let next : IsNext h c.args.pulls.now c.args.frame c.args.before.now c.take_frame.new.tree c.in_ok-changes.changes =
    is_next s c.args.sends.now.items c.args.pulls.now c.args.frame c.args.before.now c.in_ok-tree.tree c.take_frame.new.tree c.in_ok-changes.changes c.requires.frame c.requires.left c.requires.before c.in_ok-tree.ensures ends in
    subst (λ (p : Page). IsHost s (c.args.sends.now.items ++ c.args.pulls.now ∷ []) p) (sym c.in_ok-after.ensures.ok)
    (is_host s c.args.sends.now.items c.args.pulls.now c.args.frame c.args.before.now c.take_frame.new.tree c.in_ok-changes.changes next)
