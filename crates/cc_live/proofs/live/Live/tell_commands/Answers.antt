use Rattle.std.proofs.Common.{◌≡◌, ℕ, Option, Some, sym, ap, ◌∙◌, subst, slice_index_or}
use Rattle.page_layers.specs.Pages.{Page}
use Rattle.model_states.specs.Kinds.{is_sent}
use Rattle.model_history.specs.Frames.{commands_of}
use Rattle.model_history.specs.Legal.{sched}
use Rattle.impl_core.specs.Replies.{told_frame}
use Rattle.impl_log.specs.Runs.{Run, past}
use Rattle.cc_live.specs.declared.open_frame.OpenFrame.{OpenFrame}
use Rattle.cc_live.specs.Lives.{LiveModel, OpenModel, open_of}
use Rattle.cc_live.specs.MainSide.{MadeOf}
use Rattle.cc_live.specs.inner.Kept.{IsLive, IsMainSide}
use Rattle.impl_core.proofs.ToldFrames.{told_frame_is}
use Rattle.cc_live.proofs.MainEnds.{told_playable, told_prepared, own_commands, both_told, made_told, some_same}
use Rattle.cc_live.proofs.live.Live.tell_commands.Goals as goal

pub end_frame-requires-clause-playable : goal.end_frame-requires-clause-playable
end_frame-requires-clause-playable c =
    let r : Run = c.self.inside.core in
    let same : r ≡ c.args.self.now.run = ap (λ (l : LiveModel). l.run) c.self.view_is in
    let e : told_frame r ≡ Some (c.args.frame, c.requires.pulls) = ap told_frame same ∙ c.requires.in_flight in
    let frame : OpenModel = record { page = c.in-Some.edited.page; commands = c.in-Some.edited.commands.items } in
    let side : IsMainSide r c.self.inside.main.value (Some frame) = subst (λ (o : Option OpenFrame). IsMainSide r c.self.inside.main.value (open_of o)) (sym c.in-Some.ensures.value) c.self.invariant.1 in
    told_playable r c.is_legal.ensures.legal c.args.frame c.requires.pulls (told_frame_is r c.args.frame c.requires.pulls (sym e)) c.self.inside.main.value frame side c.self.inside.waits c.self.invariant.0.told c.is_legal.ensures.playable

pub end_frame-requires-clause-looked : goal.end_frame-requires-clause-looked
end_frame-requires-clause-looked c = c.self.invariant.0.told.looked

pub end_frame-requires-clause-sent : goal.end_frame-requires-clause-sent
end_frame-requires-clause-sent c =
    let r : Run = c.self.inside.core in
    let e : told_frame r ≡ Some (c.args.frame, c.requires.pulls) = ap (λ (l : LiveModel). told_frame l.run) c.self.view_is ∙ c.requires.in_flight in
    (told_frame_is r c.args.frame c.requires.pulls (sym e)).sent

pub invariant_of-self : goal.invariant_of-self
invariant_of-self c =
    let r : Run = c.self.inside.core in
    let same : r ≡ c.args.self.now.run = ap (λ (l : LiveModel). l.run) c.self.view_is in
    let e : told_frame r ≡ Some (c.args.frame, c.requires.pulls) = ap told_frame same ∙ c.requires.in_flight in
    let frame : OpenModel = record { page = c.in-Some.edited.page; commands = c.in-Some.edited.commands.items } in
    let side : IsMainSide r c.self.inside.main.value (Some frame) = subst (λ (o : Option OpenFrame). IsMainSide r c.self.inside.main.value (open_of o)) (sym c.in-Some.ensures.value) c.self.invariant.1 in
    subst (λ (o : Option OpenFrame). IsLive c.end_frame.new.self c.self.inside.waits c.self.inside.jobs.items × IsMainSide c.end_frame.new.self c.self.inside.main.value (open_of o)) (sym c.take.ensures.after)
    (both_told r c.end_frame.new.self c.self.inside.waits c.self.inside.jobs.items c.self.inside.main.value frame c.args.frame c.requires.pulls c.is_legal.ensures.legal c.is_legal.ensures.playable e c.end_frame.ensures (c.self.invariant.0, side))

pub returns-clause-made : goal.returns-clause-made
returns-clause-made c =
    let r : Run = c.self.inside.core in
    let same : r ≡ c.args.self.now.run = ap (λ (l : LiveModel). l.run) c.self.view_is in
    let e : told_frame r ≡ Some (c.args.frame, c.requires.pulls) = ap told_frame same ∙ c.requires.in_flight in
    let frame : OpenModel = record { page = c.in-Some.edited.page; commands = c.in-Some.edited.commands.items } in
    let side : IsMainSide r c.self.inside.main.value (Some frame) = subst (λ (o : Option OpenFrame). IsMainSide r c.self.inside.main.value (open_of o)) (sym c.in-Some.ensures.value) c.self.invariant.1 in
    let opened : Some frame ≡ Some c.requires.open_frame = ap open_of c.in-Some.ensures.value ∙ (ap (λ (l : LiveModel). l.open_frame) c.self.view_is ∙ c.requires.was_open) in
    let own : frame ≡ c.requires.open_frame = some_same frame c.requires.open_frame opened in
    let made : MadeOf c.self.inside.main.value c.requires.pulls frame.commands c.args.handed.now =
    subst (λ (o : OpenModel). MadeOf c.self.inside.main.value c.requires.pulls o.commands c.args.handed.now) (sym own)
    (subst (λ (q : Page). MadeOf q c.requires.pulls c.requires.open_frame.commands c.args.handed.now) (sym (ap (λ (l : LiveModel). l.main) c.self.view_is)) (record { page = c.requires.page; changes = c.requires.changes; outright = c.requires.outright })) in
    made_told r (record { run = c.end_frame.new.self; waits = c.self.inside.waits; jobs = c.self.inside.jobs.items; main = c.self.inside.main.value; open_frame = open_of c.take.new.self }) frame c.args.frame c.requires.pulls c.args.handed.now e (ap open_of c.take.ensures.after)
    (told_prepared r c.is_legal.ensures.legal c.args.frame c.requires.pulls (told_frame_is r c.args.frame c.requires.pulls (sym e)) c.self.inside.main.value frame side c.self.inside.waits c.self.invariant.0.told c.args.handed.now made)
    c.end_frame.ensures

pub returns-clause-commands : goal.returns-clause-commands
returns-clause-commands c =
    let r : Run = c.self.inside.core in
    let same : r ≡ c.args.self.now.run = ap (λ (l : LiveModel). l.run) c.self.view_is in
    let e : told_frame r ≡ Some (c.args.frame, c.requires.pulls) = ap told_frame same ∙ c.requires.in_flight in
    let frame : OpenModel = record { page = c.in-Some.edited.page; commands = c.in-Some.edited.commands.items } in
    let side : IsMainSide r c.self.inside.main.value (Some frame) = subst (λ (o : Option OpenFrame). IsMainSide r c.self.inside.main.value (open_of o)) (sym c.in-Some.ensures.value) c.self.invariant.1 in
    ap (λ (z : Run). commands_of z.script c.args.frame) c.end_frame.ensures
    ∙ own_commands r c.is_legal.ensures.legal c.args.frame c.requires.pulls (told_frame_is r c.args.frame c.requires.pulls (sym e)) c.self.inside.main.value frame side c.self.inside.waits c.self.invariant.0.told
