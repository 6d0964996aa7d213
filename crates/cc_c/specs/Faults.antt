-- Faults as C sees them.
use Rattle.std.specs.Prelude.{ℕ, ◌-◌, ◌^◌, min, ℤ, pos}
use Rattle.page_display_list.specs.declared.bitmap.BitmapCause.TheVariants as bitmap
use Rattle.page_layers.specs.declared.fault.EditFault.{EditFault}
use Rattle.page_layers.specs.declared.fault.EditFault.TheVariants as kind
use Rattle.cc_c.specs.declared.bad_numbers.BadNumbers.{BadNumbers}
use Rattle.cc_c.specs.declared.bad_numbers.BadNumbers.TheVariants as cause
use Rattle.cc_c.specs.declared.fault.Fault.{Fault}

-- the number of a fault, with its numbers
abbrev pub tells_fault : EditFault → Fault
tells_fault kind.UnknownId = record { why = 1; field = 0; value = pos 0; limit = pos 0 }
tells_fault kind.IdUsed = record { why = 2; field = 0; value = pos 0; limit = pos 0 }
tells_fault kind.BadPlace = record { why = 3; field = 0; value = pos 0; limit = pos 0 }
tells_fault (kind.TooMany limit) = record { why = 4; field = 0; value = pos 0; limit = pos limit }
tells_fault (kind.OutOfRange value limit) = record { why = 5; field = 0; value = value; limit = limit }
tells_fault kind.NotNested = record { why = 6; field = 0; value = pos 0; limit = pos 0 }

-- a count, cut at the largest number of 64 bits with a sign
abbrev pub count_of : ℕ → ℤ
count_of n = pos (min n (2 ^ 63 - 1))

-- the number of a cause for which numbers mean no command, with its numbers
abbrev pub tells_bad : BadNumbers → Fault
tells_bad (cause.NoCommand op) = record { why = 7; field = 0; value = pos op; limit = pos 0 }
tells_bad (cause.Count given wanted) = record { why = 8; field = 0; value = count_of given; limit = count_of wanted }
tells_bad (cause.BelowZero field value) = record { why = 9; field = field; value = value; limit = pos 0 }
tells_bad cause.Colour = record { why = 10; field = 0; value = pos 0; limit = pos 0 }
tells_bad (cause.Bitmap (bitmap.Pixel place)) = record { why = 10; field = 0; value = count_of place; limit = pos 0 }
tells_bad (cause.Bitmap bitmap.Side) = record { why = 11; field = 0; value = pos 0; limit = pos 0 }
tells_bad (cause.Bitmap (bitmap.Length given wanted)) = record { why = 12; field = 0; value = count_of given; limit = count_of wanted }
