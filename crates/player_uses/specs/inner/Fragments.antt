-- Lines made of texts and numbers.
use Rattle.std.specs.Prelude.{ℕ, List, decimal}
use Rattle.std.specs.Fmt.{signed_decimal}
use Rattle.player_uses.specs.declared.fragments.Fragment.{Fragment}
use Rattle.player_uses.specs.declared.fragments.Fragment.TheVariants.{Text, Number, Count}

-- the bytes of a fragment of a line
abbrev pub fragment_text : Fragment → List ℕ
fragment_text (Text text) = text.now
fragment_text (Number number) = signed_decimal number
fragment_text (Count number) = decimal number
