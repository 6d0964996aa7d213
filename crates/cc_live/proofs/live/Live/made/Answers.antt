use Rattle.std.proofs.Common.{List, Option, Some, sym, ap, ◌∙◌, subst}
use Rattle.page_layers.specs.declared.command.Command.{Command}
use Rattle.page_layers.specs.declared.moves.Move.{Move}
use Rattle.page_layers.specs.Pages.{Page}
use Rattle.page_layers.specs.Effects.{page_after_pulls}
use Rattle.model_history.specs.Accepted.{TakesAll}
use Rattle.model_history.specs.Ended.{AreBounded}
use Rattle.impl_core.specs.Replies.{told_frame}
use Rattle.impl_log.specs.Runs.{Run}
use Rattle.cc_live.specs.declared.open_frame.OpenFrame.{OpenFrame}
use Rattle.cc_live.specs.Lives.{LiveModel, OpenModel, open_of}
use Rattle.cc_live.specs.MainSide.{MadeOf}
use Rattle.cc_live.specs.inner.Kept.{IsMainSide}
use Rattle.impl_core.proofs.ToldFrames.{told_frame_is}
use Rattle.cc_live.proofs.MainEnds.{flying_bounded, takes_told}
use Rattle.cc_live.proofs.live.Live.made.Goals as goal

pub made_of-requires-clause-bounded : goal.made_of-requires-clause-bounded
made_of-requires-clause-bounded c =
    subst AreBounded (sym c.as_slice.ensures) (flying_bounded c.self.inside.core c.in-Some.frame c.in-Some.pulls.now c.is_legal.ensures.legal c.is_legal.ensures.playable (sym c.in-Some.ensures))

pub made_of-requires-clause-takes : goal.made_of-requires-clause-takes
made_of-requires-clause-takes c =
    let r : Run = c.self.inside.core in
    let frame : OpenModel = record { page = c.in-Some-open_frame.edited.page; commands = c.in-Some-open_frame.edited.commands.items } in
    let side : IsMainSide r c.self.inside.main.value (Some frame) = subst (λ (o : Option OpenFrame). IsMainSide r c.self.inside.main.value (open_of o)) c.in-Some-open_frame.is c.self.invariant.1 in
    subst (λ (cs : List Command). TakesAll (page_after_pulls c.as_slice.result.now c.deref.result.now) cs) (sym c.as_slice-in-Some-open_frame.ensures.value)
    (subst (λ (ms : List Move). TakesAll (page_after_pulls ms c.deref.result.now) frame.commands) (sym c.as_slice.ensures)
    (subst (λ (q : Page). TakesAll (page_after_pulls c.in-Some.pulls.now q) frame.commands) (sym c.deref.ensures)
    (takes_told r c.is_legal.ensures.legal c.in-Some.frame c.in-Some.pulls.now (told_frame_is r c.in-Some.frame c.in-Some.pulls.now c.in-Some.ensures) c.self.inside.main.value frame side c.self.inside.waits c.self.invariant.0.told)))

pub returns-in-Ok : goal.returns-in-Ok
returns-in-Ok c =
    let r : Run = c.self.inside.core in
    let frame : OpenModel = record { page = c.in-Some-open_frame.edited.page; commands = c.in-Some-open_frame.edited.commands.items } in
    let made : MadeOf c.args.self.now.main c.in-Some.pulls.now frame.commands c.in-Ok.handed =
    subst (λ (cs : List Command). MadeOf c.args.self.now.main c.in-Some.pulls.now cs c.in-Ok.handed) c.as_slice-in-Some-open_frame.ensures.value
    (subst (λ (ms : List Move). MadeOf c.args.self.now.main ms c.as_slice-in-Some-open_frame.result.now c.in-Ok.handed) c.as_slice.ensures
    (subst (λ (q : Page). MadeOf q c.as_slice.result.now c.as_slice-in-Some-open_frame.result.now c.in-Ok.handed) (c.deref.ensures ∙ ap (λ (l : LiveModel). l.main) c.self.view_is) c.in-Ok.ensures)) in
    record {
      pulls = c.in-Some.pulls.now;
      in_flight = sym (ap (λ (l : LiveModel). told_frame l.run) c.self.view_is) ∙ sym c.in-Some.ensures;
      open_frame = frame;
      was_open = sym (ap (λ (l : LiveModel). l.open_frame) c.self.view_is) ∙ ap open_of c.in-Some-open_frame.is;
      page = made.page;
      changes = made.changes;
      outright = made.outright;
    }
