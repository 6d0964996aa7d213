-- What is known of the keys that the pending tree needs.
use Rattle.std.specs.Prelude.{◌≡◌, ◌==◌, true, false, ◌&&◌, None, IfSome, List, length}
use Rattle.std.specs.List.{list_all}
use Rattle.geom.specs.declared.tile.TileKey.{TileKey}
use Rattle.geom.specs.KeyLists.{has_key}
use Rattle.impl_core.specs.declared.needs.Needs.{Needs}

-- if keys are known, they are those needed, and if all are known to be ready, all needed ones are
pub record KnowsNeeds (n : Needs) (needed ready : List TileKey) : Type 0 where
  pub keys : IfSome n.keys (λ ks. ks ≡ needed)
  pub all_ready : n.all_ready ≡ true → list_all (has_key ready) needed ≡ true

-- nothing is known
abbrev pub no_needs : Needs
no_needs = record { keys = None; all_ready = false; waits_at = 0 }

-- after these keys were evicted the keys are still known; that all are ready, only if none was evicted
abbrev pub after_evicting : Needs → List TileKey → Needs
after_evicting n evicted = record { keys = n.keys; all_ready = n.all_ready && (length evicted == 0); waits_at = n.waits_at }
