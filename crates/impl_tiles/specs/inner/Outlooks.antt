-- What a start and its end do to an outlook.
use Rattle.std.specs.Prelude.{◌≡◌, ◌≤◌, Option, List, IfSome}
use Rattle.geom.specs.declared.tile.TileKey.{TileKey}
use Rattle.tile_priority.specs.Tiles.{Tile}
use Rattle.tile_priority.specs.Alike.{Alike, choice_after_start, finished}
use Rattle.tile_queue.specs.Queues.{IsNew, MayStartWith}
use Rattle.impl_tiles.specs.declared.outlook.Outlook.{Outlook}
use Rattle.impl_tiles.specs.declared.outlook.Outlook.TheVariants as outlook
use Rattle.impl_tiles.specs.Visible.{finished_hidden}

-- the key may start, once these keys are evicted for it
abbrev pub MayStartNext : Outlook → TileKey → List TileKey → Type 0
MayStartNext (outlook.Queue c) q ks = MayStartWith c q ks
MayStartNext (outlook.Visible c) q ks = MayStartWith c q ks
MayStartNext (outlook.Ranks r) q ks = Unit {0}
MayStartNext outlook.Unseen q ks = Unit {0}

-- a queue has started the key; anything else stays
abbrev pub HasStarted : Outlook → TileKey → List TileKey → Outlook → Type 0
HasStarted (outlook.Queue c) q ks (outlook.Queue d) = Alike d (choice_after_start c q ks)
HasStarted (outlook.Queue c) q ks _ = ⊥
HasStarted (outlook.Visible c) q ks (outlook.Visible d) = Alike d (choice_after_start c q ks)
HasStarted (outlook.Visible c) q ks _ = ⊥
HasStarted (outlook.Ranks r) q ks new = new ≡ outlook.Ranks r
HasStarted outlook.Unseen q ks new = new ≡ outlook.Unseen

-- a tile in flight may be made: if it is given, its key was neither wanted nor ready
abbrev pub MayFinish : Outlook → Option Tile → Type 0
MayFinish (outlook.Queue c) tile = (1 ≤ c.in_flight) × IfSome tile (λ t. IsNew c t.key)
MayFinish (outlook.Visible c) tile = (1 ≤ c.in_flight) × IfSome tile (λ t. IsNew c t.key)
MayFinish (outlook.Ranks r) tile = Unit {0}
MayFinish outlook.Unseen tile = Unit {0}

-- a queue has finished the tile; anything else stays
abbrev pub HasFinished : Outlook → Option Tile → Outlook → Type 0
HasFinished (outlook.Queue c) tile (outlook.Queue d) = Alike d (finished c tile)
HasFinished (outlook.Queue c) tile _ = ⊥
HasFinished (outlook.Visible c) tile (outlook.Visible d) = Alike d (finished_hidden c tile)
HasFinished (outlook.Visible c) tile _ = ⊥
HasFinished (outlook.Ranks r) tile new = new ≡ outlook.Ranks r
HasFinished outlook.Unseen tile new = new ≡ outlook.Unseen
