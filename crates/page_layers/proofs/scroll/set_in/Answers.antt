use Rattle.std.proofs.Common.{ℕ, arith, ◌∙◌, ap, List, eq-eqb}
use Rattle.std.specs.Prelude.{pos}
use Rattle.geom.specs.declared.rect.Point.{Point}
use Rattle.page_properties.specs.Entries.{with_node_changed}
use Rattle.page_layers.proofs.NodeKeeps.{changed_here}
use Rattle.page_layers.proofs.scroll.set_in.Goals as goal

pub returns-then-value-id : goal.returns-then-value-id
returns-then-value-id c =
    changed_here c.args.id c.args.at c.loop-value.values _ c.loop-value.value-index (0, record { x = pos 0; y = pos 0 }) (omega arith) (eq-eqb _ _ c.if-value-id.true) c.loop-value.invariant.rest
    ∙ ap (λ (vs : List (ℕ × Point)). with_node_changed c.args.id (λ v. c.args.at) vs) c.loop-value.invariant.same
