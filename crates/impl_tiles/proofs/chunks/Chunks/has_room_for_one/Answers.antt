-- One chunk is kept at most.
use Rattle.std.proofs.Common.{◌≤◌, is_some, vec_len, vec_capacity, subst}
use Rattle.impl_tiles.proofs.Flats.{room_one}
use Rattle.impl_tiles.proofs.chunks.Chunks.has_room_for_one.Goals as goal

pub returns : goal.returns
returns c = subst (λ m. m.spare ≤ 1) c.self.view_is (room_one (is_some c.self.inside.spare) (vec_capacity c.self.inside.chunks) (vec_len c.self.inside.chunks))
