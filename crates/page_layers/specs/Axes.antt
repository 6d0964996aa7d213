-- The two axes, and lists of moves along them.
use Rattle.std.specs.Prelude.{ℕ, ◌==◌, nat_lt, ℤ, pos, Bool, cond, ◌&&◌, List, [], ◌∷◌}
use Rattle.std.specs.Ordering.{int_eq}
use Rattle.geom.specs.declared.rect.Point.{Point}
use Rattle.page_layers.specs.declared.moves.Move.{Move}

-- to the right, and downwards
pub data Axis : Type 0 where
  across down : Axis

-- a point, and a move, along an axis
abbrev pub along : Axis → Point → ℤ
along across p = p.x
along down p = p.y

abbrev pub amount : Axis → Move → ℤ
amount across m = m.dx
amount down m = m.dy

-- what a list of moves has for a scroller, which it names once at most; 0 if it does not
abbrev pub amount_in : ℕ → Axis → List Move → ℤ
amount_in sc ax [] = pos 0
amount_in sc ax (m ∷ ms) = cond (m.scroller == sc) (amount ax m) (amount_in sc ax ms)

-- the move of a scroller by this much along each axis
abbrev pub move_of : (ℕ → Axis → ℤ) → ℕ → Move
move_of f sc = record { scroller = sc; dx = f sc across; dy = f sc down }

-- a move of (0, 0), which lists leave out
abbrev pub is_still : Move → Bool
is_still m = int_eq m.dx (pos 0) && int_eq m.dy (pos 0)

-- a move before others; one of (0, 0) is left out
abbrev pub with_move : Move → List Move → List Move
with_move m ms = cond (is_still m) ms (m ∷ ms)

-- of these scrollers those with a move other than (0, 0), each with its move
abbrev pub listed : (ℕ → Axis → ℤ) → List ℕ → List Move
listed f [] = []
listed f (sc ∷ scs) = with_move (move_of f sc) (listed f scs)

-- the scrollers that a list of moves names
abbrev pub named_in : List Move → List ℕ
named_in [] = []
named_in (m ∷ ms) = m.scroller ∷ named_in ms

-- numbers by rising number, each once: one more, and several more
abbrev pub with_number : ℕ → List ℕ → List ℕ
with_number n [] = n ∷ []
with_number n (m ∷ ms) = cond (nat_lt m n) (m ∷ with_number n ms) (cond (m == n) (m ∷ ms) (n ∷ m ∷ ms))

abbrev pub with_numbers : List ℕ → List ℕ → List ℕ
with_numbers [] ms = ms
with_numbers (n ∷ ns) ms = with_number n (with_numbers ns ms)
