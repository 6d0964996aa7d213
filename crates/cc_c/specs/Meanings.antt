-- Which command numbers mean.
use Rattle.std.specs.Prelude.{⊤, ◌≡◌, ◌⊎◌, ℕ, ℤ, true, false, cond, ◌==◌, Some, None, List, Result, Ok, Err}
use Rattle.page_display_list.specs.declared.bitmap.BitmapCause.{BitmapCause}
use Rattle.page_display_list.specs.declared.item.Item.{Item}
use Rattle.page_display_list.specs.declared.item.Item.TheVariants as item
use Rattle.page_display_list.specs.Bitmaps.{BitmapModel, IsBitmap}
use Rattle.page_display_list.specs.Causes.{IsBitmapCause}
use Rattle.page_layers.specs.declared.command.Command.{Command}
use Rattle.page_layers.specs.declared.command.Command.TheVariants as command
use Rattle.cc_c.specs.declared.bad_numbers.BadNumbers.{BadNumbers}
use Rattle.cc_c.specs.declared.bad_numbers.BadNumbers.TheVariants as bad
use Rattle.cc_c.specs.declared.failure.Failure.{Failure}
use Rattle.cc_c.specs.declared.failure.Failure.TheVariants as failure
use Rattle.cc_c.specs.declared.items.ItemPlace.{ItemPlace}
use Rattle.cc_c.specs.BadNumbers.{plain_cause, place_cause}
use Rattle.cc_c.specs.Commands.{plain_command, item_place, takes_pixels}

-- 20 inserts an item, 21 replaces one
abbrev pub put : ℕ → ItemPlace → Item → Command
put op q i = cond (op == 20) (command.InsertItem (record { layer = q.layer; at = q.at; item = i })) (command.ReplaceItem (record { layer = q.layer; at = q.at; item = i }))

-- the pixels are those of a bitmap that is put in this place
pub record PutsBitmap (op : ℕ) (fields : List ℤ) (pixels : List ℕ) (c : Command) : Type 0 where
  pub place : ItemPlace
  pub picture : BitmapModel
  pub reads : item_place fields ≡ Some place
  pub holds : picture ≡ record { rect = place.rect; pixels = pixels }
  pub right : IsBitmap picture
  pub is : c ≡ put op place (item.Bitmap picture)

-- the fields name no place, or the pixels are no bitmap there, for this cause
pub record PutsNone (fields : List ℤ) (pixels : List ℕ) (cause : BadNumbers) : Type 0 where
  pub why : ((item_place fields ≡ None) × (cause ≡ place_cause fields))
      ⊎ ((q : ItemPlace) × (wrong : BitmapCause) × (item_place fields ≡ Some q) × IsBitmapCause q.rect pixels wrong × (cause ≡ bad.Bitmap wrong))

-- a bitmap was put; or the fields name no place, or the pixels are no bitmap there; or memory ran out
abbrev pub Puts : ℕ → List ℤ → List ℕ → Result Command Failure → Type 0
Puts op fields pixels (Ok c) = PutsBitmap op fields pixels c
Puts op fields pixels (Err (failure.Bad cause)) = PutsNone fields pixels cause
Puts op fields pixels (Err failure.Memory) = ⊤
Puts op fields pixels (Err (failure.Refused fault)) = ⊥

-- the command that a number means, with these fields, this colour and these pixels
abbrev pub Means : ℕ → List ℤ → ℕ → List ℕ → Command → Type 0
Means op fields rgba pixels c =
    ((takes_pixels op ≡ false) × (plain_command op fields rgba ≡ Some c)) ⊎ ((takes_pixels op ≡ true) × PutsBitmap op fields pixels c)

-- they mean none, for this cause
abbrev pub MeansNone : ℕ → List ℤ → ℕ → List ℕ → BadNumbers → Type 0
MeansNone op fields rgba pixels cause =
    ((takes_pixels op ≡ false) × (plain_command op fields rgba ≡ None) × (cause ≡ plain_cause op fields)) ⊎ ((takes_pixels op ≡ true) × PutsNone fields pixels cause)

-- the command was made; or the numbers mean none; or memory ran out
abbrev pub Built : ℕ → List ℤ → ℕ → List ℕ → Result Command Failure → Type 0
Built op fields rgba pixels (Ok c) = Means op fields rgba pixels c
Built op fields rgba pixels (Err (failure.Bad cause)) = MeansNone op fields rgba pixels cause
Built op fields rgba pixels (Err failure.Memory) = ⊤
Built op fields rgba pixels (Err (failure.Refused fault)) = ⊥
