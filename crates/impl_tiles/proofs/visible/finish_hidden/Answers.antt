-- A visible tile changes nothing.
use Rattle.std.proofs.Common.{◌≡◌, true, false, cond, sym, ◌∙◌, subst}
use Rattle.tile_priority.specs.Alike.{Alike, finished}
use Rattle.tile_priority.proofs.StayAlike.{alike_stay}
use Rattle.impl_tiles.specs.Visible.{is_shown}
use Rattle.impl_tiles.proofs.visible.finish_hidden.Goals as goal

pub returns-then-not-shown : goal.returns-then-not-shown
returns-then-not-shown c =
    let hidden : is_shown c.args.tile ≡ false = sym c.is_shown-shown.ensures ∙ c.if-not-shown.true in
    subst (λ b. Alike c.finished.new.self (cond b c.args.queue.now (finished c.args.queue.now c.args.tile))) (sym hidden) c.finished.ensures

pub returns-else-not-shown : goal.returns-else-not-shown
returns-else-not-shown c =
    let shown : is_shown c.args.tile ≡ true = sym c.is_shown-shown.ensures ∙ c.if-not-shown.false in
    subst (λ b. Alike c.args.queue.now (cond b c.args.queue.now (finished c.args.queue.now c.args.tile))) (sym shown) (alike_stay.itself c.args.queue.now)
