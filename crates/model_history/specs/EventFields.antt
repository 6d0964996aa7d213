-- What an event says in each field: which frame it sends, which tile it starts, and so on.
use Rattle.std.specs.Prelude.{ℕ, ◌+◌, ◌==◌, ℤ, Bool, true, false, cond, List, [], ◌∷◌, slice_get, Option, Some, None}
use Rattle.std.specs.Option.{option_or}
use Rattle.geom.specs.declared.tile.TileKey.{TileKey}
use Rattle.model_states.specs.declared.kind.Kind.{Kind}
use Rattle.model_states.specs.declared.kind.Kind.TheVariants as kind
use Rattle.model_history.specs.declared.event.Event.{Event}
use Rattle.model_history.specs.declared.event.Event.TheVariants as event
use Rattle.model_history.specs.declared.input.Input.{Input}
use Rattle.model_history.specs.declared.input.Input.TheVariants as input
use Rattle.page_layers.specs.declared.moves.Move.{Move}
use Rattle.model_history.specs.Scripts.{ScriptModel}

-- the kind of an event
abbrev pub kind_of : Event → Kind
kind_of (event.Begin i) = kind.BeginDraw
kind_of event.BeginPlain = kind.BeginPlain
kind_of (event.Send k pulls) = kind.Send
kind_of (event.Ready k) = kind.Ready
kind_of (event.Abort k) = kind.Abort
kind_of (event.Commit k) = kind.Commit
kind_of (event.Activate k clamps) = kind.Activate
kind_of (event.Scroll i dx dy) = kind.Scroll
kind_of (event.Wheel i target rest_x rest_y parts) = kind.Wheel
kind_of (event.Start w q evicted) = kind.Start
kind_of (event.DoneTile w q) = kind.Done
kind_of (event.Draw i missing) = kind.Draw
kind_of (event.Skip i) = kind.Skip
kind_of event.NoDraw = kind.NoDraw
kind_of event.Finish = kind.Finish
kind_of (event.Await i) = kind.Await
kind_of (event.Settle i) = kind.Settle
kind_of event.End = kind.End
kind_of (event.Stop a) = kind.Stop

-- the actor whose event it is: 1 is the main side, 2 + w the worker w, and a stop names its own; all else is the compositor's, 0
abbrev pub actor_of : Event → ℕ
actor_of (event.Ready k) = 1
actor_of (event.Abort k) = 1
actor_of (event.Start w q evicted) = 2 + w
actor_of (event.DoneTile w q) = 2 + w
actor_of (event.Stop a) = a
actor_of _ = 0

-- the frame that an event sends, aborts, commits, or whose commit it activates
abbrev pub sends : Event → Option ℕ
sends (event.Send k pulls) = Some k
sends _ = None

abbrev pub aborts : Event → Option ℕ
aborts (event.Abort k) = Some k
aborts _ = None

abbrev pub commits : Event → Option ℕ
commits (event.Commit k) = Some k
commits _ = None

abbrev pub activates : Event → Option ℕ
activates (event.Activate k clamps) = Some k
activates _ = None

-- the frame that it answers: the main side has taken its commands, and says whether they changed something
abbrev pub answers : Event → Option ℕ
answers (event.Ready k) = Some k
answers (event.Abort k) = Some k
answers _ = None

-- what a send tells the main side; the frame whose moves an event brings into the base; the draw for which it begins an impl frame
abbrev pub pulls : Event → List Move
pulls (event.Send k ms) = ms
pulls _ = []

abbrev pub retires : Event → Option ℕ
retires e = option_or (aborts e) (activates e)

abbrev pub begins : Event → Option ℕ
begins (event.Begin i) = Some i
begins _ = None

-- the input that it uses: at a begin for a draw, a scroll, a wheel, an await or a settle
abbrev pub uses : Event → Option ℕ
uses (event.Begin i) = Some i
uses (event.Scroll i dx dy) = Some i
uses (event.Wheel i target rest_x rest_y parts) = Some i
uses (event.Await i) = Some i
uses (event.Settle i) = Some i
uses _ = None

-- the move of the scroller that a scroll asks for
abbrev pub scroll_move : Option Input → ℤ → ℤ → List Move
scroll_move (Some (input.Scroll sc asked_x asked_y)) dx dy = record { scroller = sc; dx = dx; dy = dy } ∷ []
scroll_move _ dx dy = []

-- the moves that it accepts: a scroll's, of the scroller that its input names; the parts of a wheel; and what an activation lists
abbrev pub moves : ScriptModel → Event → List Move
moves s (event.Activate k clamps) = clamps
moves s (event.Scroll i dx dy) = scroll_move (slice_get s.inputs i) dx dy
moves s (event.Wheel i target rest_x rest_y parts) = parts
moves s _ = []

-- the tile that a start names, the ready tiles that it evicts, and the tile that an event has made
abbrev pub starts : Event → List TileKey
starts (event.Start w q evicted) = q ∷ []
starts _ = []

abbrev pub evicts : Event → List TileKey
evicts (event.Start w q evicted) = evicted
evicts _ = []

abbrev pub finishes : Event → List TileKey
finishes (event.DoneTile w q) = q ∷ []
finishes _ = []

-- the tile that the worker w is making after the event
abbrev pub held_after : Event → ℕ → Option TileKey → Option TileKey
held_after (event.Start v q evicted) w old = cond (v == w) (Some q) old
held_after (event.DoneTile v q) w old = cond (v == w) None old
held_after _ w old = old

-- nothing may come after it
abbrev pub is_last : Event → Bool
is_last event.End = true
is_last (event.Stop a) = true
is_last _ = false
