-- The input of a scroll that may come is the next one.
use Rattle.std.proofs.Common.{ℕ, slice_get, sym, ◌∙◌, ap, rules, FitsSigned}
use Rattle.std.proofs.lemmas.Int.{to_z-of_z}
use Rattle.model_history.proofs.DueFacts.{at_scroll}
use Rattle.impl_log.specs.Runs.{past}
use mir.Syntax.{w32}
use Rattle.recording_judge.proofs.state.State.scroll_move.Goals as goal

pub returns : goal.returns
returns c =
    let r = c.args.self.now.log in
    let at = at_scroll r.script r.workers (past r) c.args.actor c.args.input c.args.dx c.args.dy c.requires.legal.1 in
    let x : FitsSigned w32 c.args.dx = search rules in
    let y : FitsSigned w32 c.args.dy = search rules in
    simp to_z-of_z at (c.scrolled.ensures r.script c.args.input (c.input_now.ensures ∙ sym (ap (λ (i : ℕ). slice_get r.script.inputs i) at.place)))
