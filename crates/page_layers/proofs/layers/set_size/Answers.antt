use Rattle.std.proofs.Common.{ap}
use Rattle.page_layers.specs.declared.layer.Layer.{Layer}
use Rattle.page_layers.specs.Layers.{with_size, parts_of}
use Rattle.page_layers.proofs.LayerPlaces.{changed_is}
use Rattle.page_layers.proofs.layers.set_size.Goals as goal

pub returns : goal.returns
returns c = λ id at.
    changed_is id c.args.place c.args.layers.now.items c.index_mut-layer.result.now _ (with_size c.args.w c.args.h) at
    (ap (λ (l : Layer). with_size c.args.w c.args.h (parts_of l)) c.index_mut-layer.ensures.value)
