-- A wheel moves what stands, and it is to be looked anew.
use Rattle.std.proofs.Common.{◌≡◌, ℕ, ℤ, true, List, ◌∷◌, Some, Result, Ok, Err, refl, sym, ◌∙◌, subst}
use Rattle.std.specs.Prelude.{OnOk}
use Rattle.std.proofs.lemmas.Int.{to_z-of_z}
use Rattle.model_states.specs.declared.kind.Kind.TheVariants as kind
use Rattle.page_layers.specs.declared.moves.Move.{Move}
use Rattle.model_history.specs.declared.event.Event.{Event}
use Rattle.model_history.specs.declared.event.Event.TheVariants as event
use Rattle.model_history.specs.declared.input.Input.TheVariants as input
use Rattle.model_history.specs.declared.history.Entry.{Entry}
use Rattle.model_history.specs.Due.{next_input, input_now}
use Rattle.model_history.specs.Legal.{is_open}
use Rattle.model_history.proofs.DueFacts.{entry}
use Rattle.impl_scroll.specs.Standings.{StandingModel, StandsForPast}
use Rattle.impl_log.specs.Runs.{Run, past, now, with_entry, Entered}
use Rattle.impl_core.specs.inner.Moving.{ComesMoving}
use Rattle.impl_core.proofs.InputEvents.{OfWheel, of_wheel}
use Rattle.impl_core.proofs.core_state.Core.enter_wheel.Goals as goal

-- what holds where a value is answered
on_ok : {X E : Type 0} {P Q : Type 0} (r : Result X E) → (P → Q) → OnOk r P → OnOk r Q
on_ok (Ok x) f p = f p
on_ok (Err e) f p = tt

pub wheel-requires : goal.wheel-requires
wheel-requires c =
    let r : Run = c.self.inside.log in
    let h : List Entry = past r in
    let stands = subst (λ (st : StandingModel). StandsForPast r.script h st) (sym c.standing.ensures) c.self.invariant.host.standing in
    let pages = c.pages-pages.ensures r.script h c.self.invariant.host in
    let asked = subst (λ (z : Run). input_now z.script (past z) ≡ Some (input.Wheel c.args.x c.args.y c.args.dx c.args.dy)) (sym c.self.view_is) c.requires.asked in
    record { script = r.script; workers = r.workers; past = h; playable = c.is_legal.ensures.playable; legal = c.is_legal.ensures.legal; stands = stands; page = pages.active; input = simp (to_z-of_z, c.ranges.dx, c.ranges.dy) asked }

pub moved-requires : goal.moved-requires
moved-requires c =
    let r : Run = c.self.inside.log in
    let h : List Entry = past r in
    let legal = c.is_legal.ensures.legal in
    let stands = subst (λ (st : StandingModel). StandsForPast r.script h st) (sym c.standing.ensures) c.self.invariant.host.standing in
    let pages = c.pages-pages.ensures r.script h c.self.invariant.host in
    let is_open = subst (λ (z : Run). is_open (past z) kind.Wheel ≡ true) (sym c.self.view_is) c.requires.is_open in
    let asked = subst (λ (z : Run). input_now z.script (past z) ≡ Some (input.Wheel c.args.x c.args.y c.args.dx c.args.dy)) (sym c.self.view_is) c.requires.asked in
    let is = simp (to_z-of_z, c.ranges.dx, c.ranges.dy) at (c.in_ok-wheel.ensures r.script r.workers h stands pages.active) in
    let layer : ℕ = c.in_ok-wheel.wheel.target in
    let rest_x : ℤ = c.in_ok-wheel.wheel.rest.x in
    let rest_y : ℤ = c.in_ok-wheel.wheel.rest.y in
    let ms : List Move = c.in_ok-moves.moves in
    let i : ℕ = next_input h in
    let of : OfWheel r.script r.workers h i layer rest_x rest_y ms =
    of_wheel r.script r.workers h c.args.x c.args.y c.args.dx c.args.dy i layer rest_x rest_y ms legal is_open asked refl is.hits is.rest_across is.rest_down (c.in_ok-moves.ensures ∙ is.parts) in
    record {
      script = r.script;
      workers = r.workers;
      past = h;
      entry = entry 0 (event.Wheel i layer rest_x rest_y ms);
      playable = c.is_legal.ensures.playable;
      legal = of.legal;
      stands = subst (λ (st : StandingModel). StandsForPast r.script h st) (sym c.standing-2.ensures) c.self.invariant.host.standing;
      pages = pages;
      scroll = refl;
      moves = (sym c.as_slice.ensures);
    }

pub enter_moving-requires : goal.enter_moving-requires
enter_moving-requires c =
    let r : Run = c.self.inside.log in
    let h : List Entry = past r in
    let legal = c.is_legal.ensures.legal in
    let stands = subst (λ (st : StandingModel). StandsForPast r.script h st) (sym c.standing.ensures) c.self.invariant.host.standing in
    let pages = c.pages-pages.ensures r.script h c.self.invariant.host in
    let is_open = subst (λ (z : Run). is_open (past z) kind.Wheel ≡ true) (sym c.self.view_is) c.requires.is_open in
    let asked = subst (λ (z : Run). input_now z.script (past z) ≡ Some (input.Wheel c.args.x c.args.y c.args.dx c.args.dy)) (sym c.self.view_is) c.requires.asked in
    let is = simp (to_z-of_z, c.ranges.dx, c.ranges.dy) at (c.in_ok-wheel.ensures r.script r.workers h stands pages.active) in
    let layer : ℕ = c.in_ok-wheel.wheel.target in
    let rest_x : ℤ = c.in_ok-wheel.wheel.rest.x in
    let rest_y : ℤ = c.in_ok-wheel.wheel.rest.y in
    let ms : List Move = c.in_ok-moves.moves in
    let i : ℕ = c.next_input-input.result in
    let of : OfWheel r.script r.workers h i layer rest_x rest_y ms =
    of_wheel r.script r.workers h c.args.x c.args.y c.args.dx c.args.dy i layer rest_x rest_y ms legal is_open asked c.next_input-input.ensures is.hits is.rest_across is.rest_down (c.in_ok-moves.ensures ∙ is.parts) in
    let e : Event = event.Wheel i layer rest_x rest_y ms in
    let before = subst (λ (st : StandingModel). StandsForPast r.script h st) (sym c.standing-2.ensures) c.self.invariant.host.standing in
    let moved : StandsForPast r.script (entry 0 e ∷ h) c.in_ok-standing.standing = c.in_ok-standing.ensures r.script r.workers h (entry 0 e) of.legal refl (sym c.as_slice.ensures) before pages in
    subst (λ (z : Run). ComesMoving z 0 c.wheel-event.result c.in_ok-standing.standing) c.self.view_is
    (subst (λ (z : Event). ComesMoving r 0 z c.in_ok-standing.standing) (sym c.wheel-event.ensures)
    (record { moving = refl; is_now = of.may_come; actor_is = refl; stands = moved }))

pub returns-clause-ok : goal.returns-clause-ok
returns-clause-ok c =
    let r : Run = c.self.inside.log in
    let h : List Entry = past r in
    let legal = c.is_legal.ensures.legal in
    let stands = subst (λ (st : StandingModel). StandsForPast r.script h st) (sym c.standing.ensures) c.self.invariant.host.standing in
    let pages = c.pages-pages.ensures r.script h c.self.invariant.host in
    let is_open = subst (λ (z : Run). is_open (past z) kind.Wheel ≡ true) (sym c.self.view_is) c.requires.is_open in
    let asked = subst (λ (z : Run). input_now z.script (past z) ≡ Some (input.Wheel c.args.x c.args.y c.args.dx c.args.dy)) (sym c.self.view_is) c.requires.asked in
    let is = simp (to_z-of_z, c.ranges.dx, c.ranges.dy) at (c.in_ok-wheel.ensures r.script r.workers h stands pages.active) in
    let layer : ℕ = c.in_ok-wheel.wheel.target in
    let rest_x : ℤ = c.in_ok-wheel.wheel.rest.x in
    let rest_y : ℤ = c.in_ok-wheel.wheel.rest.y in
    let ms : List Move = c.in_ok-moves.moves in
    let i : ℕ = c.next_input-input.result in
    let of : OfWheel r.script r.workers h i layer rest_x rest_y ms =
    of_wheel r.script r.workers h c.args.x c.args.y c.args.dx c.args.dy i layer rest_x rest_y ms legal is_open asked c.next_input-input.ensures is.hits is.rest_across is.rest_down (c.in_ok-moves.ensures ∙ is.parts) in
    let e : Event = event.Wheel i layer rest_x rest_y ms in
    on_ok c.enter_moving.result
    (λ entered. record {
      event = e;
      is_now = subst (λ (z : Run). now z kind.Wheel 0 ≡ Some e) c.self.view_is of.may_come;
      is_entered = subst (λ (z : Event). c.enter_moving.new.self ≡ with_entry c.args.self.now 0 z) c.wheel-event.ensures entered;
    })
    c.enter_moving.ensures.ok
