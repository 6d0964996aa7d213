-- What was read of a list, before the reading of the rest.
use Rattle.std.specs.Prelude.{List, ◌++◌, Result, Ok, Err}
use Rattle.script_json.specs.declared.fault.ShapeFault.{ShapeFault}

abbrev pub behind : {X : Type 0} → List X → Result (List X) ShapeFault → Result (List X) ShapeFault
behind front (Ok xs) = Ok (front ++ xs)
behind front (Err e) = Err e
