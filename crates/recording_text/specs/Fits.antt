-- Which events have numbers that fit the types of their fields, as every event of a program has.
use Rattle.std.specs.Prelude.{◌<◌, ◌^◌, List, [], ◌∷◌, FitsSigned}
use Rattle.std.specs.Int.{w32, w64}
use Rattle.geom.specs.declared.tile.TileKey.{TileKey}
use Rattle.page_layers.specs.declared.moves.Move.{Move}
use Rattle.model_history.specs.declared.event.Event.{Event}
use Rattle.model_history.specs.declared.event.Event.TheVariants as event

-- a tile's key
abbrev pub FitsKey : TileKey → Type 0
FitsKey k = (k.layer < 2 ^ 32) × (k.x < 2 ^ 32) × (k.y < 2 ^ 32) × (k.stamp < 2 ^ 32)

abbrev pub FitKeys : List TileKey → Type 0
FitKeys [] = Unit {0}
FitKeys (k ∷ ks) = FitsKey k × FitKeys ks

-- a move of a scroller
abbrev pub FitsMove : Move → Type 0
FitsMove m = (m.scroller < 2 ^ 32) × FitsSigned w64 m.dx × FitsSigned w64 m.dy

abbrev pub FitMoves : List Move → Type 0
FitMoves [] = Unit {0}
FitMoves (m ∷ ms) = FitsMove m × FitMoves ms

-- the numbers of an event fit their fields' types, as those of a program's events do
abbrev pub FitsEvent : Event → Type 0
FitsEvent (event.Begin input) = input < 2 ^ 32
FitsEvent event.BeginPlain = Unit {0}
FitsEvent (event.Send frame pulls) = (frame < 2 ^ 32) × FitMoves pulls
FitsEvent (event.Ready frame) = frame < 2 ^ 32
FitsEvent (event.Abort frame) = frame < 2 ^ 32
FitsEvent (event.Commit frame) = frame < 2 ^ 32
FitsEvent (event.Activate frame clamps) = (frame < 2 ^ 32) × FitMoves clamps
FitsEvent (event.Scroll input dx dy) = (input < 2 ^ 32) × FitsSigned w32 dx × FitsSigned w32 dy
FitsEvent (event.Wheel input target rest_x rest_y moves) =
    (input < 2 ^ 32) × (target < 2 ^ 32) × FitsSigned w32 rest_x × FitsSigned w32 rest_y × FitMoves moves
FitsEvent (event.Start worker key evicted) = (worker < 2 ^ 32) × FitsKey key × FitKeys evicted
FitsEvent (event.DoneTile worker key) = (worker < 2 ^ 32) × FitsKey key
FitsEvent (event.Draw input missing) = (input < 2 ^ 32) × FitKeys missing
FitsEvent (event.Skip input) = input < 2 ^ 32
FitsEvent event.NoDraw = Unit {0}
FitsEvent event.Finish = Unit {0}
FitsEvent (event.Await input) = input < 2 ^ 32
FitsEvent (event.Settle input) = input < 2 ^ 32
FitsEvent event.End = Unit {0}
FitsEvent (event.Stop actor) = actor < 2 ^ 32
