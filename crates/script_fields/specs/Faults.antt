-- A value that is read from JSON, or the fault that stands first.
use Rattle.std.specs.Prelude.{◌≡◌, ℕ, Result, Ok, Err, Option, Some, None, ⊤}
use Rattle.script_fields.specs.declared.fault.FieldFault.{FieldFault}
use Rattle.script_fields.specs.declared.fault.Trouble.{Trouble}
use Rattle.script_fields.specs.declared.fault.Trouble.TheVariants as trouble

infixl 10 ◌>>=◌
-- what comes next, unless a fault came before
abbrev pub ◌>>=◌ : {A B E : Type 0} → Result A E → (A → Result B E) → Result B E
(Ok x) >>= f = f x
(Err e) >>= f = Err e

-- the fault of a field; the value, or that fault if there is none
abbrev pub fault : ℕ → FieldFault
fault field = record { field = field }

abbrev pub or_fault : {A : Type 0} → ℕ → Option A → Result A FieldFault
or_fault field (Some x) = Ok x
or_fault field None = Err (fault field)

-- the value as contracts see it, or the same fault
abbrev pub viewed_or_fault : {A B E : Type 0} → (A → B) → Result A E → Result B E
viewed_or_fault f (Ok x) = Ok (f x)
viewed_or_fault f (Err e) = Err e

-- what a reader that takes memory tells of a value that has this reading: the reading, unless memory ran out
abbrev pub Gives : {X Y : Type 0} → (X → Y) → Result X Trouble → Result Y FieldFault → Type 0
Gives view (Ok x) reading = reading ≡ Ok (view x)
Gives view (Err (trouble.Fault f)) reading = reading ≡ Err f
Gives view (Err (trouble.Memory e)) reading = ⊤
