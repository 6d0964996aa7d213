-- What is shown is what the draw that may come shows.
use Rattle.std.proofs.Common.{◌≡◌, List, Some, sym, subst}
use Rattle.geom.specs.declared.tile.TileKey.{TileKey}
use Rattle.model_states.specs.declared.kind.Kind.TheVariants as kind
use Rattle.model_history.specs.declared.event.Event.TheVariants as event
use Rattle.impl_log.specs.Runs.{Run, past, now}
use Rattle.impl_core.specs.Replies.{IsPicture}
use Rattle.impl_core.proofs.core_state.Core.draw.Goals as goal

pub enter_draw-requires-clause-is_now : goal.enter_draw-requires-clause-is_now
enter_draw-requires-clause-is_now c =
    subst (λ (z : Run). now z kind.Draw 0 ≡ Some (event.Draw c.in-Some.input c.in_ok-drawing-in-Some.drawing.missing)) (sym c.shown.ensures.same)
    (subst (λ (keys : List TileKey). now c.args.self.now kind.Draw 0 ≡ Some (event.Draw c.in-Some.input keys)) (sym c.in_ok-drawing-in-Some.ensures.missing) c.in-Some.ensures.draw)

pub enter_draw-requires-clause-picture : goal.enter_draw-requires-clause-picture
enter_draw-requires-clause-picture c =
    subst (λ (z : Run). IsPicture z.script (past z) c.in_ok-drawing-in-Some.drawing.scene) (sym c.shown.ensures.same) c.in_ok-drawing-in-Some.ensures.picture
