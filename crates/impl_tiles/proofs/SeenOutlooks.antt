-- A start and its end leave it as seen or unseen as it was; and what is seen tells the next tile.
use Rattle.std.proofs.Common.{◌≡◌, true, List, Option, refl, ap}
use Rattle.geom.specs.declared.tile.TileKey.{TileKey}
use Rattle.tile_priority.specs.Tiles.{Tile}
use Rattle.impl_tiles.specs.declared.outlook.Outlook.{Outlook}
use Rattle.impl_tiles.specs.declared.outlook.Outlook.TheVariants as outlook
use Rattle.impl_tiles.specs.inner.Outlooks.{HasStarted, HasFinished}
use Rattle.impl_tiles.specs.Managers.{is_seen, TellsNext}

pub started_seen : (old new : Outlook) (q : TileKey) (ks : List TileKey) → HasStarted old q ks new → is_seen new ≡ is_seen old
started_seen (outlook.Queue c) (outlook.Queue d) q ks h = refl
started_seen (outlook.Queue c) (outlook.Visible d) q ks h = absurd h
started_seen (outlook.Queue c) (outlook.Ranks r) q ks h = absurd h
started_seen (outlook.Queue c) outlook.Unseen q ks h = absurd h
started_seen (outlook.Visible c) (outlook.Visible d) q ks h = refl
started_seen (outlook.Visible c) (outlook.Queue d) q ks h = absurd h
started_seen (outlook.Visible c) (outlook.Ranks r) q ks h = absurd h
started_seen (outlook.Visible c) outlook.Unseen q ks h = absurd h
started_seen (outlook.Ranks r) new q ks h = ap is_seen h
started_seen outlook.Unseen new q ks h = ap is_seen h

pub finished_seen : (old new : Outlook) (tile : Option Tile) → HasFinished old tile new → is_seen new ≡ is_seen old
finished_seen (outlook.Queue c) (outlook.Queue d) tile h = refl
finished_seen (outlook.Queue c) (outlook.Visible d) tile h = absurd h
finished_seen (outlook.Queue c) (outlook.Ranks r) tile h = absurd h
finished_seen (outlook.Queue c) outlook.Unseen tile h = absurd h
finished_seen (outlook.Visible c) (outlook.Visible d) tile h = refl
finished_seen (outlook.Visible c) (outlook.Queue d) tile h = absurd h
finished_seen (outlook.Visible c) (outlook.Ranks r) tile h = absurd h
finished_seen (outlook.Visible c) outlook.Unseen tile h = absurd h
finished_seen (outlook.Ranks r) new tile h = ap is_seen h
finished_seen outlook.Unseen new tile h = ap is_seen h

-- where it was looked at all tiles, it is told which starts first
pub seen_tells : (o : Outlook) → is_seen o ≡ true → TellsNext o
seen_tells (outlook.Queue c) e = tt
seen_tells (outlook.Visible c) e = absurd cc
seen_tells (outlook.Ranks r) e = tt
seen_tells outlook.Unseen e = absurd cc
