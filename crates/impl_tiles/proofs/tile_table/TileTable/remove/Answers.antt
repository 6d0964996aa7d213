-- The key leaves the chunks, and its place is empty.
use Rattle.std.proofs.Common.{◌≡◌, ◌+◌, None, true, is_some, ap, sym, ◌∙◌, subst}
use Rattle.std.specs.FinMap as fin
use Rattle.slab.specs.Slab.{get, slab_len, Updates}
use Rattle.impl_tiles.specs.inner.Chunked.{flat, index_of, HasKeyAt, HasGapAt}
use Rattle.impl_tiles.specs.inner.TileTables.{IsTileTable}
use Rattle.impl_tiles.proofs.Flats.{spot_is}
use Rattle.impl_tiles.proofs.TableSteps.{held_map, drop_one, not_found, remove_absent, tile_at, tile_there, one_less}
use Rattle.impl_tiles.proofs.tile_table.TileTable.remove.Goals as goal

pub remove-one-requires : goal.remove-one-requires
remove-one-requires c = (subst (λ cs. HasKeyAt cs c.args.key c.in-Ok.spot) c.as_slice.ensures.chunks c.in-Ok.ensures.found).spot

made : (c : goal.After-drop) → IsTileTable c.try_remove.new.self (flat c.remove-one.new.self.chunks)
    × (held_map c.try_remove.new.self (flat c.remove-one.new.self.chunks) ≡ fin.remove (held_map c.self.inside.tiles (flat c.self.inside.held.chunks)) c.args.key)
made c =
    let tiles = c.self.inside.tiles in
    let cs = c.self.inside.held.chunks in
    let held = flat cs in
    let new = c.try_remove.new.self in
    let has = subst (λ cs. HasKeyAt cs c.args.key c.in-Ok.spot) c.as_slice.ensures.chunks c.in-Ok.ensures.found in
    let at = index_of cs c.in-Ok.spot in
    let place : c.remove-one.result.place ≡ has.stands.one.place = ap (λ h. h.place) (spot_is cs c.in-Ok.spot has.spot has.stands.one has.stands.here c.remove-one.result c.remove-one.ensures.value) in
    let up = subst (λ p. Updates tiles new p None) place c.try_remove.ensures.updates in
    let there : is_some (get tiles c.remove-one.result.place) ≡ true = ap (λ p. is_some (get tiles p)) place ∙ tile_there tiles has.stands.one.place c.args.key (tile_at tiles held c.args.key at c.self.invariant has.stands) in
    let less : slab_len new + 1 ≡ slab_len tiles = one_less c.try_remove.result tiles new (ap is_some c.try_remove.ensures.value ∙ there) c.try_remove.ensures.len in
    let step = drop_one tiles new held c.args.key at c.self.invariant has.stands up less in
    (subst (IsTileTable new) (sym c.remove-one.ensures.held) step.0, ap (held_map new) c.remove-one.ensures.held ∙ step.1)

pub invariant_of-self : goal.invariant_of-self
invariant_of-self c = (made c).0

pub returns-in-Ok-clause-held : goal.returns-in-Ok-clause-held
returns-in-Ok-clause-held c = (made c).1 ∙ ap (λ s. fin.remove s.held c.args.key) c.self.view_is

pub returns-in_default-clause-held : goal.returns-in_default-clause-held
returns-in_default-clause-held c =
    let cs = c.self.inside.held.chunks in
    let gap = subst (λ cs. HasGapAt cs c.args.key c.in_default.field-0) c.as_slice.ensures.chunks c.in_default.ensures.absent in
    let none = sym (ap (λ s. fin.get s.held c.args.key) c.self.view_is) ∙ not_found c.self.inside.tiles (flat cs) c.args.key (index_of cs c.in_default.field-0) gap.goes c.self.invariant.rises in
    remove_absent c.args.self.now.held c.args.key none
