use Rattle.model_lockstep.specs.Walks as ways
use Rattle.model_lockstep.proofs.Parts as parts
use Rattle.model_lockstep.proofs.Following.{rest, joined, left_in_first, left_in_rest, in_any_case, then_on_error, then_on_ok}
use Rattle.model_lockstep.proofs.draws.make_and_draw.Goals as goal

pub returns-in_err-make_for_draw-clause-err : goal.returns-in_err-make_for_draw-clause-err
returns-in_err-make_for_draw-clause-err g c = in_any_case _ _ (left_in_first ways.pairs_of_draw ways.draw_activated _ _ parts.most_good (parts.activated_grows) c.requires.can c.in_err-make_for_draw.ensures.err)

pub activate_and_draw-requires : goal.activate_and_draw-requires
activate_and_draw-requires g c = rest ways.pairs_of_draw ways.draw_activated _ _ parts.most_good c.requires.can c.in_ok-make_for_draw.ensures.ok

pub returns-clause-err : goal.returns-clause-err
returns-clause-err g c = then_on_error _ _ _ c.activate_and_draw.ensures.err (λ w. left_in_rest ways.pairs_of_draw ways.draw_activated _ _ _ c.in_ok-make_for_draw.ensures.ok w)

pub returns-clause-ok : goal.returns-clause-ok
returns-clause-ok g c = then_on_ok _ _ _ c.activate_and_draw.ensures.ok (λ f. joined ways.pairs_of_draw ways.draw_activated _ _ _ c.in_ok-make_for_draw.ensures.ok f)
