-- The line of each event in a recording.
--
-- An event's text is a word and its fields; a field is the byte before a number, and the number.
use Rattle.std.specs.Prelude.{ℕ, ℤ, pos, List, [], ◌∷◌, ◌++◌, flat_map, codes}
use Rattle.std.specs.Fmt.{signed_decimal}
use Rattle.geom.specs.declared.tile.TileKey.{TileKey}
use Rattle.page_layers.specs.declared.moves.Move.{Move}
use Rattle.model_history.specs.declared.event.Event.{Event}
use Rattle.model_history.specs.declared.event.Event.TheVariants as event

-- a field: a number and the byte before it; as bytes plain decimal digits, with `-` in front of a number below 0
pub record Field : Type 0 where
  pub before : ℕ
  pub number : ℤ

abbrev pub field : ℕ → ℤ → Field
field before number = record { before = before; number = number }

abbrev pub field_text : Field → List ℕ
field_text f = f.before ∷ signed_decimal f.number

abbrev pub fields_text : List Field → List ℕ
fields_text fs = flat_map field_text fs

-- a space and a number; ` x,y`; ` layer/x/y/stamp`; ` scroller:dx,dy`
abbrev pub spaced : ℕ → List Field
spaced n = field 32 (pos n) ∷ []

abbrev pub pair_fields : ℤ → ℤ → List Field
pair_fields x y = field 32 x ∷ field 44 y ∷ []

abbrev pub key_fields : TileKey → List Field
key_fields k = field 32 (pos k.layer) ∷ field 47 (pos k.x) ∷ field 47 (pos k.y) ∷ field 47 (pos k.stamp) ∷ []

abbrev pub move_fields : Move → List Field
move_fields m = field 32 (pos m.scroller) ∷ field 58 m.dx ∷ field 44 m.dy ∷ []

-- the text of each event, its word and its fields; and its line, which ends with a newline
unfoldable pub event_text : Event → List ℕ
event_text (event.Begin input) = codes "begin" ++ fields_text (spaced input)
event_text event.BeginPlain = codes "begin -"
event_text (event.Send frame pulls) = codes "send" ++ fields_text (spaced frame ++ flat_map move_fields pulls)
event_text (event.Ready frame) = codes "ready" ++ fields_text (spaced frame)
event_text (event.Abort frame) = codes "abort" ++ fields_text (spaced frame)
event_text (event.Commit frame) = codes "commit" ++ fields_text (spaced frame)
event_text (event.Activate frame clamps) = codes "activate" ++ fields_text (spaced frame ++ flat_map move_fields clamps)
event_text (event.Scroll input dx dy) = codes "scroll" ++ fields_text (spaced input ++ pair_fields dx dy)
event_text (event.Wheel input target rest_x rest_y moves) =
    codes "wheel" ++ fields_text ((spaced input ++ spaced target) ++ pair_fields rest_x rest_y ++ flat_map move_fields moves)
event_text (event.Start worker key evicted) =
    codes "start" ++ fields_text ((spaced worker ++ key_fields key) ++ flat_map key_fields evicted)
event_text (event.DoneTile worker key) = codes "done" ++ fields_text (spaced worker ++ key_fields key)
event_text (event.Draw input missing) = codes "draw" ++ fields_text (spaced input ++ flat_map key_fields missing)
event_text (event.Skip input) = codes "skip" ++ fields_text (spaced input)
event_text event.NoDraw = codes "nodraw"
event_text event.Finish = codes "finish"
event_text (event.Await input) = codes "await" ++ fields_text (spaced input)
event_text (event.Settle input) = codes "settle" ++ fields_text (spaced input)
event_text event.End = codes "end"
event_text (event.Stop actor) = codes "stop" ++ fields_text (spaced actor)

unfoldable pub event_line : Event → List ℕ
event_line e = event_text e ++ 10 ∷ []
