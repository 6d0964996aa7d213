-- The numbers of a line, whatever stands between them, and what can be made of them.
use Rattle.std.specs.Prelude.{ℕ, zero, suc, ◌+◌, ◌-◌, ◌*◌, ◌==◌, ℤ, pos, negsuc, int_le, Bool, true, false, ◌&&◌, if◌then◌else◌, nat_le, nat_lt, List, [], ◌∷◌, Option, Some, None}
use Rattle.std.specs.Char.{is_ascii_digit}
use Rattle.geom.specs.declared.tile.TileKey.{TileKey}
use Rattle.page_layers.specs.declared.moves.Move.{Move}

-- the next step, if there is a value
infixl 10 ◌>>=◌
abbrev pub ◌>>=◌ : {A B : Type 0} → Option A → (A → Option B) → Option B
(Some x) >>= f = f x
None >>= f = None

-- an element before a list
abbrev pub before : {A : Type 0} → Option A → Option (List A) → Option (List A)
before (Some x) (Some xs) = Some (x ∷ xs)
before (Some x) None = None
before None all = None

-- a sign and a size as a signed number of 64 bits, if they are one
abbrev pub signed : Bool → ℕ → Option ℤ
signed false n = if nat_lt n 9223372036854775808 then Some (pos n) else None
signed true zero = Some (pos zero)
signed true (suc n) = if nat_lt n 9223372036854775808 then Some (negsuc n) else None

-- the numbers of a line, up to its newline, if one with this sign and these digits has begun; any byte but a digit and `-` ends a number
unfoldable pub numbers : Bool → ℕ → List ℕ → Option (List ℤ)
numbers negative n [] = None
numbers negative n (c ∷ r) =
    if is_ascii_digit c then (if nat_le n 922337203685477580 then numbers negative (n * 10 + (c - 48)) r else None)
    else (if c == 45 then numbers true n r
    else (if c == 10 then before (signed negative n) (Some []) else before (signed negative n) (numbers false 0 r)))

-- a number as an unsigned one of 32 bits, and as a signed one
abbrev pub u32_of : ℤ → Option ℕ
u32_of (pos n) = if nat_lt n 4294967296 then Some n else None
u32_of (negsuc n) = None

abbrev pub i32_of : ℤ → Option ℤ
i32_of z = if int_le (negsuc 2147483647) z && int_le z (pos 2147483647) then Some z else None

-- four numbers as a key
unfoldable pub key_from : ℤ → ℤ → ℤ → ℤ → Option TileKey
key_from layer x y stamp = do
  l ← u32_of layer
  column ← u32_of x
  row ← u32_of y
  s ← u32_of stamp
  Some (record { layer = l; x = column; y = row; stamp = s })

unfoldable pub key_in : List ℤ → Option TileKey
key_in (layer ∷ x ∷ y ∷ stamp ∷ []) = key_from layer x y stamp
key_in _ = None

-- keys of four numbers each
unfoldable pub keys_from : List ℤ → Option (List TileKey)
keys_from [] = Some []
keys_from (layer ∷ x ∷ y ∷ stamp ∷ rest) = before (key_from layer x y stamp) (keys_from rest)
keys_from _ = None

-- three numbers as a move
unfoldable pub move_from : ℤ → ℤ → ℤ → Option Move
move_from scroller dx dy = do
  s ← u32_of scroller
  Some (record { scroller = s; dx = dx; dy = dy })

unfoldable pub move_in : List ℤ → Option Move
move_in (scroller ∷ dx ∷ dy ∷ []) = move_from scroller dx dy
move_in _ = None

-- moves of three numbers each
unfoldable pub moves_of : List ℤ → Option (List Move)
moves_of [] = Some []
moves_of (scroller ∷ dx ∷ dy ∷ rest) = before (move_from scroller dx dy) (moves_of rest)
moves_of _ = None
