-- What was drawn after an event of the compositor.
use Rattle.std.proofs.Common.{List, [], ◌∷◌, ◌++◌, refl, ◌∙◌, ap}
use Rattle.viz_scene.specs.Views.{SceneView}
use Rattle.proxy_single_thread.proofs.Drawn.{shown_plain, shown_drawn}
use Rattle.proxy_single_thread.proofs.unwritten_scenes.UnwrittenScenes.play.Goals as goal

pub returns-in-Ok-Plain-clause-stands : goal.returns-in-Ok-Plain-clause-stands
returns-in-Ok-Plain-clause-stands c =
    shown_plain c.args.core.now c.play.new.self c.args.kind c.args.self.now (record { scenes = c.reserve.new.self; written = c.args.self.now.written }) refl c.requires.stands c.in-Ok-Plain.field-0 c.in-Ok-Plain.ensures
    c.in-Ok-Plain.field-0-is c.reserve.ensures.items

pub returns-in-Ok-Scene-clause-stands : goal.returns-in-Ok-Scene-clause-stands
returns-in-Ok-Scene-clause-stands c =
    shown_drawn c.args.core.now c.play.new.self c.args.kind c.args.self.now (record { scenes = c.push_reserved.new.self; written = c.args.self.now.written }) refl c.requires.stands c.in-Ok-Scene.field-0 c.in-Ok-Scene.scene
    c.in-Ok-Scene.ensures c.in-Ok-Scene.field-0-is (c.push_reserved.ensures.items ∙ ap (λ (xs : List SceneView). xs ++ c.in-Ok-Scene.scene ∷ []) c.reserve.ensures.items)
