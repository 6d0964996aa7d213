-- Entries of a history by their kind.
use Rattle.std.specs.Prelude.{ℕ, List}
use Rattle.geom.specs.declared.tile.TileKey.{TileKey}
use Rattle.page_layers.specs.declared.moves.Move.{Move}
use Rattle.model_history.specs.declared.event.Event.TheVariants as event
use Rattle.model_history.specs.declared.history.Entry.{Entry}

-- a worker starts a key, for which these are evicted
abbrev pub start : ℕ → ℕ → TileKey → List TileKey → Entry
start actor w q evicted = record { actor = actor; event = event.Start w q evicted }

-- a worker is done with a key
abbrev pub done : ℕ → ℕ → TileKey → Entry
done actor w q = record { actor = actor; event = event.DoneTile w q }

-- a main frame is sent with these pulls
abbrev pub send : ℕ → ℕ → List Move → Entry
send actor k pulls = record { actor = actor; event = event.Send k pulls }

-- a main frame is aborted
abbrev pub abort : ℕ → ℕ → Entry
abort actor k = record { actor = actor; event = event.Abort k }

-- a main frame is committed
abbrev pub commit : ℕ → ℕ → Entry
commit actor k = record { actor = actor; event = event.Commit k }

-- the commit of a main frame is activated, which moves scrollers so
abbrev pub activate : ℕ → ℕ → List Move → Entry
activate actor k clamps = record { actor = actor; event = event.Activate k clamps }
