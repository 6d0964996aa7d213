-- The host tells what the send lists, and steps with it.
use Rattle.std.proofs.Common.{ℕ, ◌∷◌, List, refl, sym, ◌∙◌, ap, subst, arith}
use Rattle.model_states.specs.declared.kind.Kind.TheVariants as kind
use Rattle.page_layers.specs.declared.moves.Move.{Move}
use Rattle.model_history.specs.declared.event.Event.TheVariants as event
use Rattle.model_history.specs.Legal.{Legal}
use Rattle.model_steps.specs.Events.{send}
use Rattle.impl_scroll.specs.Standings.{StandingModel, StandsForPast}
use Rattle.impl_log.specs.declared.progress.Progress.{Progress}
use Rattle.impl_log.specs.Runs.{Run, past, Entered}
use Rattle.impl_tiles.proofs.OtherTiles.{send_holds}
use Rattle.impl_core.proofs.CoreSteps.{send_core, one_more, refused}
use Rattle.impl_core.proofs.MayCome.{send_now, comes_next}
use Rattle.impl_core.proofs.core_state.Core.send.Goals as goal

pub unheard-requires : goal.unheard-requires
unheard-requires c =
    let r : Run = c.self.inside.log in
    record {
      script = r.script;
      workers = r.workers;
      past = past r;
      playable = c.is_legal.ensures.playable;
      legal = c.is_legal.ensures.legal;
      stands = subst (λ (st : StandingModel). StandsForPast r.script (past r) st) (sym c.standing.ensures) c.self.invariant.host.standing;
    }

pub enter-requires-clause-is_now : goal.enter-requires-clause-is_now
enter-requires-clause-is_now c =
    let r : Run = c.self.inside.log in
    let is_open = sym c.is_open-open.ensures ∙ c.if-open.true in
    let stands = subst (λ (st : StandingModel). StandsForPast r.script (past r) st) (sym c.standing.ensures) c.self.invariant.host.standing in
    send_now r.script (past r) is_open (sym c.is_left-left.ensures ∙ c.if-left.true) c.progress-frame.result.sends (ap (λ (p : Progress). p.sends) c.progress-frame.ensures) c.in_ok-pulls.pulls
    (c.in_ok-pulls.ensures r.script r.workers (past r) c.is_legal.ensures.legal stands is_open)

pub invariant_of-self : goal.invariant_of-self
invariant_of-self c = refused (record { host = c.self.inside.host; tiles = c.self.inside.tiles; told = c.self.inside.told; prepared = c.self.inside.prepared; required = c.self.inside.required; drawn = c.self.inside.drawn }) c.self.inside.log c.enter.new.self c.in_err-enter.ensures.err c.self.invariant

pub sent-requires : goal.sent-requires
sent-requires c =
    let r : Run = c.self.inside.log in
    let k : ℕ = c.progress-frame.result.sends in
    let ms : List Move = c.in_ok-pulls.pulls in
    let is_open = sym c.is_open-open.ensures ∙ c.if-open.true in
    let stands = subst (λ (st : StandingModel). StandsForPast r.script (past r) st) (sym c.standing.ensures) c.self.invariant.host.standing in
    let may_come = send_now r.script (past r) is_open (sym c.is_left-left.ensures ∙ c.if-left.true) k (ap (λ (p : Progress). p.sends) c.progress-frame.ensures) ms (c.in_ok-pulls.ensures r.script r.workers (past r) c.is_legal.ensures.legal stands is_open) in
    record {
      script = r.script;
      workers = r.workers;
      past = past r;
      actor = 0;
      frame = k;
      pulls = ms;
      playable = c.is_legal.ensures.playable;
      legal = comes_next r.script r.workers (past r) 0 (event.Send k ms) c.is_legal.ensures.legal may_come refl (omega arith);
      hosts = c.self.invariant.host;
    }

pub invariant_of-self-then-left : goal.invariant_of-self-then-left
invariant_of-self-then-left c =
    let r : Run = c.self.inside.log in
    let k : ℕ = c.progress-frame.result.sends in
    let ms : List Move = c.in_ok-pulls.pulls in
    let is_open = sym c.is_open-open.ensures ∙ c.if-open.true in
    let stands = subst (λ (st : StandingModel). StandsForPast r.script (past r) st) (sym c.standing.ensures) c.self.invariant.host.standing in
    let may_come = send_now r.script (past r) is_open (sym c.is_left-left.ensures ∙ c.if-left.true) k (ap (λ (p : Progress). p.sends) c.progress-frame.ensures) ms (c.in_ok-pulls.ensures r.script r.workers (past r) c.is_legal.ensures.legal stands is_open) in
    let legal : Legal r.script r.workers (send 0 k ms ∷ past r) = comes_next r.script r.workers (past r) 0 (event.Send k ms) c.is_legal.ensures.legal may_come refl (omega arith) in
    one_more (record { host = c.sent.new.self; tiles = c.self.inside.tiles; told = c.in_ok-told.told; prepared = c.self.inside.prepared; required = c.self.inside.required; drawn = c.self.inside.drawn }) r c.enter.new.self 0 (event.Send k ms) c.in_ok-enter.ensures.ok
    (send_core r.script r.workers (past r) 0 k ms c.in_ok-told.told (record { host = c.self.inside.host; tiles = c.self.inside.tiles; told = c.self.inside.told; prepared = c.self.inside.prepared; required = c.self.inside.required; drawn = c.self.inside.drawn }) c.sent.new.self legal c.self.invariant (c.sent.ensures r.script r.workers (past r) 0 k ms legal c.self.invariant.host)
    (send_holds r.script r.workers (past r) c.self.inside.tiles 0 k ms legal c.self.invariant.tiles) c.in_ok-told.ensures)

pub returns-in_ok-enter-clause-plays : goal.returns-in_ok-enter-clause-plays
returns-in_ok-enter-clause-plays c =
    let r : Run = c.self.inside.log in
    let k : ℕ = c.progress-frame.result.sends in
    let ms : List Move = c.in_ok-pulls.pulls in
    let is_open = sym c.is_open-open.ensures ∙ c.if-open.true in
    let stands = subst (λ (st : StandingModel). StandsForPast r.script (past r) st) (sym c.standing.ensures) c.self.invariant.host.standing in
    let may_come = send_now r.script (past r) is_open (sym c.is_left-left.ensures ∙ c.if-left.true) k (ap (λ (p : Progress). p.sends) c.progress-frame.ensures) ms (c.in_ok-pulls.ensures r.script r.workers (past r) c.is_legal.ensures.legal stands is_open) in
    let entered : Entered r kind.Send 0 c.enter.new.self = record { event = event.Send k ms; is_now = may_come; is_entered = c.in_ok-enter.ensures.ok } in
    subst (λ (z : Run). Entered z kind.Send 0 c.enter.new.self) c.self.view_is entered
