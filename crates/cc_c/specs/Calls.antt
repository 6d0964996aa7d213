-- What a call of C makes of a handle.
use Rattle.std.specs.Prelude.{◌≡◌, ◌⊎◌, ℕ, Option, Some, None}
use Rattle.pixel.specs.Colours.{Parts}
use Rattle.page_layers.specs.declared.view.View.{View}
use Rattle.page_layers.specs.Pages.{IsView}
use Rattle.cc.specs.Compositors.{CompositorView}
use Rattle.cc_c.specs.Commands.{colour_of}
use Rattle.cc_c.specs.declared.held.Held.{Held}
use Rattle.cc_c.specs.Answers.{IsNew}

-- the compositor of the handle was the first and is the second, and `Does` holds of them; or the handle has none, as before, the status is 5, and `Else` holds
abbrev pub OnHandle : Option Held → Option Held → ℕ → Type 0 → (CompositorView → CompositorView → Type 0) → Type 0
OnHandle None new status Else Does = (new ≡ None) × (status ≡ 5) × Else
OnHandle (Some old) None status Else Does = ⊥
OnHandle (Some old) (Some new) status Else Does = Does old.compositor new.compositor

-- the handle has a compositor of an empty page
abbrev pub HasNew : View → Parts → Option Held → Type 0
HasNew view background None = ⊥
HasNew view background (Some new) = IsNew view background new.compositor

-- 0: the handle, which had none, has a compositor of an empty page; 1: the view is out of its ranges, or the background is not premultiplied; 6: the handle has a compositor already; 11: memory ran out; after any but 0 the handle has what it had
pub record TellsNew (old : Option Held) (view : View) (colour : ℕ) (new : Option Held) (status : ℕ) : Type 0 where
  pub done : status ≡ 0 → (background : Parts) × (old ≡ None) × IsView view × (colour_of colour ≡ Some background) × HasNew view background new
  pub bad : status ≡ 1 → (old ≡ None) × ((IsView view → ⊥) ⊎ (colour_of colour ≡ None)) × (new ≡ old)
  pub taken : status ≡ 6 → (old ≡ None → ⊥) × (new ≡ old)
  pub memory : status ≡ 11 → (old ≡ None) × (new ≡ old)
  pub answers : (status ≡ 0) ⊎ (status ≡ 1) ⊎ (status ≡ 6) ⊎ (status ≡ 11)
