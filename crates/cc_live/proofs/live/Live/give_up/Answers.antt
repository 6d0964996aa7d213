use Rattle.std.proofs.Common.{◌≡◌, suc, Some, None, sym, ap, ◌∙◌, subst}
use Rattle.model_history.specs.Frames.{page, pulls_of}
use Rattle.impl_core.specs.Replies.{told_frame}
use Rattle.impl_log.specs.Runs.{Run, past}
use Rattle.cc_live.specs.Lives.{LiveModel, open_of}
use Rattle.cc_live.proofs.MainEnds.{both_abort}
use Rattle.cc_live.proofs.live.Live.give_up.Goals as goal

pub invariant_of-self-2 : goal.invariant_of-self-2
invariant_of-self-2 c =
    let r : Run = c.self.inside.core in
    let same : r ≡ c.args.self.now.run = ap (λ (l : LiveModel). l.run) c.self.view_is in
    let e : told_frame r ≡ Some (c.args.frame, c.requires.made.pulls) = ap told_frame same ∙ c.requires.made.in_flight in
    let closed : open_of c.self.inside.open_frame ≡ None = ap (λ (l : LiveModel). l.open_frame) c.self.view_is ∙ c.requires.made.closed in
    let is : c.args.handed.tree.value ≡ page r.script (pulls_of (past r)) (suc c.args.frame) =
    subst (λ (z : Run). c.args.handed.tree.value ≡ page z.script (pulls_of (past z)) (suc c.args.frame)) (sym same) c.requires.made.prepared.page in
    both_abort r c.abort.new.self c.self.inside.waits c.self.inside.jobs.items c.self.inside.main.value (open_of c.self.inside.open_frame) c.args.frame c.requires.made.pulls c.args.handed.tree.value c.is_legal.ensures.legal e closed is c.in_ok-abort.ensures.ok c.self.invariant
