-- What was read of a list, before what the rest of it gives.
use Rattle.std.specs.Prelude.{List, ◌++◌, Option, Some, None}

abbrev pub after : {X : Type 0} → List X → Option (List X) → Option (List X)
after front (Some xs) = Some (front ++ xs)
after front None = None
