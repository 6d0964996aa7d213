-- The keys that the tree lacks are picked from those with an image.
use Rattle.std.proofs.Common.{not, ◌&&◌, ◌∙◌, ap}
use Rattle.geom.specs.KeyLists.{has_key}
use Rattle.page_layers.proofs.KeptPages.{weaken}
use Rattle.model_history.specs.Tiles.{keys_of}
use Rattle.model_history.proofs.KeyFacts.{has_filter}
use Rattle.impl_choice.proofs.dead.dead_keys.Goals as goal

pub returns : goal.returns
returns c =
    weaken c.lacked.result
    (λ dead is t seen q.
    ap (λ ks. has_key ks q) (is t seen) ∙ (has_filter (λ k. not (has_key (keys_of t) k)) c.in_ok-ready.ready q ∙ ap (λ b. b && not (has_key (keys_of t) q)) (c.in_ok-ready.ensures.keys q)))
    c.lacked.ensures
