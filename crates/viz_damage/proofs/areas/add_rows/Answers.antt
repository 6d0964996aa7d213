-- The rect that is put in the place of another holds both.
use Rattle.std.proofs.Common.{rules}
use Rattle.std.proofs.lemmas.List.Elements.{All-set}
use Rattle.viz_scene.specs.Areas.{IsOnScreen}
use Rattle.viz_damage.proofs.AreaSteps.{set_holds}
use Rattle.viz_damage.proofs.areas.add_rows.Goals as goal

pub returns-in-Some-clause-held : goal.returns-in-Some-clause-held
returns-in-Some-clause-held c =
    set_holds c.args.damage.now.items c.in-Some.place c.index.result.now c.args.rows c.hull.result (search rules) c.index.ensures c.hull.ensures.first c.hull.ensures.second

pub returns-in-Some-clause-damage : goal.returns-in-Some-clause-damage
returns-in-Some-clause-damage c = All-set IsOnScreen c.args.damage.now.items c.in-Some.place c.hull.result c.hull.ensures.inside c.requires.damage
