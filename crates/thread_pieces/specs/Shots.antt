-- Pieces of a recording, as bytes.
use Rattle.std.specs.Prelude.{ℕ, Bool, true, false, List, [], ◌++◌, flat_map}
use Rattle.thread_pieces.specs.Scenes.{image_if}
use Rattle.thread_pieces.specs.declared.shot.Shot.{Shot}
use Rattle.thread_pieces.specs.declared.hands.Hand.{Hand}

-- the bytes of a piece: its lines, and the image of its scene
abbrev pub shown : Shot → List ℕ
shown s = s.lines.items ++ image_if s.scene

-- the bytes of some pieces, in order
abbrev pub all_shown : List Shot → List ℕ
all_shown shots = flat_map shown shots

-- what a hand with a run of pieces is to paint
abbrev pub due_of : {P : Type 0} → Hand P → List ℕ
due_of h = all_shown h.due.items

-- the same of several hands, in order
abbrev pub all_due : {P : Type 0} → List (Hand P) → List ℕ
all_due hands = flat_map due_of hands

-- these bytes if the test says so, else none
abbrev pub bytes_if : Bool → List ℕ → List ℕ
bytes_if true bytes = bytes
bytes_if false bytes = []

-- what a hand has made: the bytes that it has, and after them, if they are its painter's still, the rows of the last image
abbrev pub made_of : {P : Type 0} → (P → List ℕ) → Hand P → List ℕ
made_of rows h = h.made.items ++ bytes_if h.waits (rows h.painter)

-- the same of several hands, in order
abbrev pub all_made : {P : Type 0} → (P → List ℕ) → List (Hand P) → List ℕ
all_made rows hands = flat_map (made_of rows) hands
