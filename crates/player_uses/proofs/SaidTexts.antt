-- Text of the last line of an answer.
use Rattle.std.specs.Prelude.{◌≡◌, ℕ, List, ◌++◌, Option, Some, None, Result, Ok}
use Rattle.std.proofs.Common.{subst}
use Rattle.player_lines.specs.Sessions.{Act}
use Rattle.player_lines.specs.inner.Pasts.{Said, SaidAll}
use Rattle.player_lines.proofs.Telling.{said_then}

-- text that was taken went, and no piece of data after it
pub said_all : {X : Type 0} (E : Type 0) (old new : Option (List Act)) (text : List ℕ) (u : X) → Said {X = X} {E = E} old new text (Ok u) → SaidAll old new text
said_all E None new text u said = tt
said_all E (Some h) new text u said = said

pub all_then : {X : Type 0} (E : Type 0) (old mid new : Option (List Act)) (a b : List ℕ) (u : X) → SaidAll old mid a → Said {X = X} {E = E} mid new b (Ok u) → SaidAll old new (a ++ b)
all_then E old mid new a b u first second = said_all E old new (a ++ b) u (said_then old mid new a b (Ok u) first second)

-- the same text, told otherwise
pub said_as : {X E : Type 0} (old new : Option (List Act)) (a b : List ℕ) (r : Result X E) → a ≡ b → Said old new a r → Said old new b r
said_as old new a b r same said = subst (λ (t : List ℕ). Said old new t r) same said
