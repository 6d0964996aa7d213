-- A clip is there exactly where its id is known.
use Rattle.std.proofs.Common.{◌≡◌, ◌∙◌, sym, ap, is_some, Option, arith}
use Rattle.std.proofs.lemmas.Grind.{common_steps}
use Rattle.geom.specs.declared.rect.Rect.{Rect}
use Rattle.page_properties.specs.Entries.{knows}
use Rattle.page_properties.specs.OffsetMap.{offset_at}
use Rattle.page_properties.proofs.Chains.{clip_some}
use Rattle.page_properties.proofs.trees.PropertyTrees.clip_of.Goals as goal

pub returns-clause-value : goal.returns-clause-value
returns-clause-value c = grind (arith, common_steps)

pub returns-clause-some : goal.returns-clause-some
returns-clause-some c =
    let e : is_some c.clip_in.result ≡ knows c.args.clip c.args.self.now.clips =
    ap (λ (o : Option Rect). is_some o) (returns-clause-value c) ∙ clip_some (offset_at c.args.offsets.now) c.args.self.now.transforms c.args.self.now.clips c.args.clip in
    (λ h. sym e ∙ h, λ h. e ∙ h)
