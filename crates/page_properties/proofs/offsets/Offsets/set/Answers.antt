-- What was set is found, all else as before.
use Rattle.std.proofs.Common.{◌∙◌, ap, ◌==◌, cond, ◌&&◌, is_ok, IsTrue, rules}
use Rattle.page_properties.specs.Entries.{knows}
use Rattle.page_properties.specs.OffsetMap.{offset_at}
use Rattle.page_properties.proofs.Families.{offset_changed, offset_if}
use Rattle.page_properties.proofs.offsets.Offsets.set.Goals as goal

pub returns-in-Some-clause-offsets : goal.returns-in-Some-clause-offsets
returns-in-Some-clause-offsets c = λ k.
    let known : IsTrue (knows c.args.id c.self.inside.points) = search rules in
    ap (λ o. offset_at o k) c.set.ensures
    ∙ (offset_changed c.args.id k c.args.p c.self.inside.points known
    ∙ ap (λ o. cond (k == c.args.id) c.args.p (offset_at o k)) c.self.view_is)

pub returns-in-None-clause-offsets : goal.returns-in-None-clause-offsets
returns-in-None-clause-offsets c = λ k.
    offset_if c.args.id k c.args.p c.self.inside.points c.add.new.self (is_ok c.add.result) c.add.ensures
    ∙ ap (λ o. cond (is_ok c.add.result && (k == c.args.id)) c.args.p (offset_at o k)) c.self.view_is
