use Rattle.std.proofs.Common.{◌≡◌, suc, List, Some, sym, ap, ◌∙◌, subst}
use Rattle.page_layers.specs.declared.moves.Move.{Move}
use Rattle.page_layers.specs.Pages.{Page}
use Rattle.model_history.specs.Ended.{AreBounded, Tells}
use Rattle.model_history.specs.Frames.{commands_of, page, changes, pulls_of}
use Rattle.impl_core.specs.Replies.{told_frame}
use Rattle.impl_log.specs.Runs.{Run, past}
use Rattle.cc_live.specs.Lives.{LiveModel, open_of}
use Rattle.cc_live.proofs.MainEnds.{flying_bounded, told_same, tells_changes}
use Rattle.cc_live.proofs.live.Live.changes.Goals as goal

pub changes_something-requires : goal.changes_something-requires
changes_something-requires c =
    subst AreBounded (sym c.as_slice.ensures) (flying_bounded c.self.inside.core c.in-Some.field-0-0 c.in-Some.pulls.now c.is_legal.ensures.legal c.is_legal.ensures.playable (sym c.in-Some.ensures))

pub returns : goal.returns
returns c =
    let r : Run = c.self.inside.core in
    let same : r ≡ c.args.self.now.run = ap (λ (l : LiveModel). l.run) c.self.view_is in
    let e : told_frame r ≡ Some (c.args.frame, c.requires.made.pulls) = ap told_frame same ∙ c.requires.made.in_flight in
    let pulls : c.as_slice.result.now ≡ c.requires.made.pulls = c.as_slice.ensures ∙ told_same r c.args.frame c.in-Some.field-0-0 c.requires.made.pulls c.in-Some.pulls.now e c.in-Some.ensures in
    let own : commands_of r.script c.args.frame ≡ c.args.commands.now = ap (λ (z : Run). commands_of z.script c.args.frame) same ∙ c.requires.commands in
    let is : c.args.handed.now.tree.value ≡ page r.script (pulls_of (past r)) (suc c.args.frame) =
    subst (λ (z : Run). c.args.handed.now.tree.value ≡ page z.script (pulls_of (past z)) (suc c.args.frame)) (sym same) c.requires.made.prepared.page in
    let tells : Tells r.script c.args.frame c.requires.made.pulls c.self.inside.main.value c.args.handed.now.tree.value c.changes_something.result =
    subst (λ (ms : List Move). Tells r.script c.args.frame ms c.self.inside.main.value c.args.handed.now.tree.value c.changes_something.result) pulls
    (subst (λ (p : Page). Tells r.script c.args.frame c.as_slice.result.now p c.args.handed.now.tree.value c.changes_something.result) c.deref.ensures
    (subst (λ (q : Page). Tells r.script c.args.frame c.as_slice.result.now c.deref.result.now q c.changes_something.result) c.deref-in-Some.ensures (c.changes_something.ensures r.script c.args.frame own))) in
    tells_changes r c.args.frame c.requires.made.pulls c.self.inside.main.value (open_of c.self.inside.open_frame) c.args.handed.now.tree.value c.changes_something.result c.is_legal.ensures.legal e c.self.invariant.1 is tells
    ∙ ap (λ (z : Run). changes z.script (pulls_of (past z)) c.args.frame) same
