-- What a handle owns.
use Rattle.std.specs.Prelude.{◌≡◌, Option, Some, None}
use mir.Syntax.{Ty}
use base.Fml.{Fml, feq}
use denote.RattleType.{RattleType}
use denote.RawPtr.{Ptr, null_ptr}
use Rattle.std.specs.Box.Ownership.{box_owns}

-- the box at the pointer, with the right to free it; nothing if the handle has none, and the pointer is null then
abbrev pub kept : (Ty → Ptr → Fml) → (R : RattleType) → Ptr → Option R.Denot → Fml
kept token R p None = feq Ptr p null_ptr
kept token R p (Some x) = box_owns token R p x
