-- The frame in flight is the next one of the main side.
use Rattle.std.proofs.Common.{◌≡◌, None, sym, ◌∙◌}
use Rattle.model_history.proofs.BoolFacts.{not_both, none_where}
use Rattle.impl_log.specs.Runs.{past}
use Rattle.proxy_single_thread.proofs.MainPulls.{none_told}
use Rattle.proxy_single_thread.proofs.MainEnds.{frame_left, told_bounded, runs_frame}
use Rattle.proxy_single_thread.proofs.main_side.MainSide.run.Goals as goal

pub begin-requires-clause-left : goal.begin-requires-clause-left
begin-requires-clause-left c =
    let none : c.args.self.now.end ≡ None = none_where c.args.self.now.end (sym c.is_some.ensures ∙ c.if-is_some.false) in
    frame_left c.args.core.now c.args.self.now c.is_legal.ensures.legal c.requires none c.in-Some.field-0-0 c.in-Some.pulls.now c.in-Some.ensures

pub begin-requires-clause-bounded : goal.begin-requires-clause-bounded
begin-requires-clause-bounded c =
    let none : c.args.self.now.end ≡ None = none_where c.args.self.now.end (sym c.is_some.ensures ∙ c.if-is_some.false) in
    told_bounded c.args.core.now c.args.self.now c.is_legal.ensures.legal c.requires none c.in-Some.field-0-0 c.in-Some.pulls.now c.in-Some.ensures c.is_legal.ensures.playable

pub returns-in-None-clause-run : goal.returns-in-None-clause-run
returns-in-None-clause-run c = λ t. absurd (not_both _ t (none_told c.args.core.now.script c.args.core.now.workers (past c.args.core.now) c.is_legal.ensures.legal c.in-None.ensures))

pub returns-in_ok-end-in-Some-clause-stands : goal.returns-in_ok-end-in-Some-clause-stands
returns-in_ok-end-in-Some-clause-stands c =
    let none : c.args.self.now.end ≡ None = none_where c.args.self.now.end (sym c.is_some.ensures ∙ c.if-is_some.false) in
    runs_frame c.args.core.now c.args.self.now c.is_legal.ensures.legal c.requires none c.in-Some.field-0-0 c.in-Some.pulls.now c.in-Some.ensures
    c.begin.new.self c.in_ok-end-in-Some.end c.is_commit-self.result c.in_ok-end-in-Some.ensures.0 c.in_ok-end-in-Some.ensures.1 c.is_commit-self.ensures
