use Rattle.std.proofs.Common.{sym}
use Rattle.std.proofs.lemmas.List.{length-map}
use Rattle.page_layers.specs.Layers.{parts_of}
use Rattle.page_layers.proofs.tree.parting.count_of.Goals as goal

pub returns : goal.returns
returns c = sym (length-map c.args.layers.now parts_of)
