-- Noting a use leaves the image.
use Rattle.std.proofs.Common.{◌<◌, length, sym, ◌∙◌, ap, subst, rules}
use Rattle.std.specs.Prelude.{slice_set}
use Rattle.cc.specs.declared.kept_tile.KeptTile.{KeptTile}
use Rattle.cc.specs.KeptTiles.{AreCached}
use Rattle.cc.proofs.Images.{used_cached}
use Rattle.cc.proofs.making.note_use_at.Goals as goal

pub returns-then-at-len : goal.returns-then-at-len
returns-then-at-len c =
    let p = c.args.pages.active.now in
    let m = c.args.pages.main.now in
    let ks = c.args.kept.now.items in
    let below : c.args.at < length ks = search rules in
    record {
      cached =
          subst (λ (z : KeptTile). AreCached p m (slice_set ks c.args.at z)) (sym (c.note_use.ensures ∙ ap (λ (z : KeptTile). record z { used = c.args.draw }) c.index_mut.ensures.value))
          (used_cached p m ks c.args.at c.args.draw c.index_mut.result.now below c.requires.cached);
    }
