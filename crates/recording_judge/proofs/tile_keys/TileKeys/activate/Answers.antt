-- What the tree lacks is gone.
use Rattle.std.proofs.Common.{not, ◌&&◌, filter, refl, ◌∙◌, ap}
use Rattle.geom.specs.KeyLists.{has_key}
use Rattle.model_history.specs.Tiles.{pending_tree, keys_of}
use Rattle.recording_judge.proofs.TileSteps.{activate_holds}
use Rattle.recording_judge.proofs.tile_keys.TileKeys.activate.Goals as goal

pub returns : goal.returns
returns c = λ s n h a k ms accepted legal holds needed seen.
    activate_holds s n h a k ms c.args.self.now _ c.in_ok-dead.dead accepted legal holds
    (c.in_ok-dead.ensures (pending_tree s h) seen ∙ ap (filter (λ q. not (has_key (keys_of (pending_tree s h)) q))) (c.as_slice.ensures ∙ c.in_ok-keys.ensures))
    (λ q. c.remove_all.ensures q ∙ ap (λ ks. has_key c.args.self.now.ready q && not (has_key ks q)) c.as_slice-3.ensures)
    (λ q. c.in_ok-pins.ensures q ∙ ap (λ ks. has_key ks q) (c.as_slice-2.ensures ∙ needed))
    refl refl
