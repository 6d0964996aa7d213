-- Runs that are played while a receiver takes what was entered.
use Rattle.std.specs.Prelude.{◌≡◌, ◌<◌, ℕ, Bool, true, false, List, [], ◌++◌, length, reverse}
use Rattle.model_states.specs.declared.kind.Kind.TheVariants as kind
use Rattle.model_history.specs.declared.input.Input.{Input}
use Rattle.model_history.specs.declared.history.Entry.{Entry}
use Rattle.model_history.specs.Lockstep.{Then, Round, IsLockstep}
use Rattle.model_history.specs.Scripts.{ScriptModel}
use Rattle.model_lockstep.specs.Measures.{rounds_left}
use Rattle.model_lockstep.specs.Walks.{Way, WalkState, Follows, BeginsLockstep, entering, inputs_from, is_waited_for, rest_played, run_end}

-- what these inputs bring, and the end of the run
abbrev pub whole_played : List Input → Way
whole_played is s = Then (inputs_from is s) (run_end s)

-- what is taken at once: a round, what is left of what an input brings, or the end of the run
pub data Part : Type 0 where
  OneRound : Part
  Rest : Input → Part
  TheEnd : Part

-- the way of a part
abbrev pub part_played : Part → Way
part_played OneRound = Round
part_played (Rest i) = rest_played i
part_played TheEnd = entering kind.End 0

-- since all was taken, one part was entered
pub record Since (old now : WalkState) : Type 0 where
  pub all : old.written ≡ length old.past
  pub part : Part
  pub follows : Follows (part_played part) old now

-- the way was followed, and all that was entered was taken
pub record HasTaken (P : Way) (old new : WalkState) : Type 0 where
  pub same : new.script ≡ old.script
  pub all : new.written ≡ length new.past
  pub way : P old.script old.past new.past

-- of what an input brings all that was left was played and taken, or a round of an await that was not over
abbrev pub TakesPart : Input → Bool → WalkState → WalkState → Type 0
TakesPart i true old new = (is_waited_for i old ≡ false) × HasTaken (rest_played i) old new
TakesPart i false old new = (is_waited_for i old ≡ true) × HasTaken Round old new

-- a past that begins what the way brings
pub record Begins (P : Way) (old : WalkState) (past : List Entry) : Type 0 where
  pub end : List Entry
  pub way : P old.script old.past end
  pub newer : List Entry
  pub beginning : end ≡ newer ++ past

-- all that was entered was taken, these inputs are left, and wherever they lead, that is the lockstep history of the script
pub record OnCourse (left : List Input) (r : WalkState) : Type 0 where
  pub all : r.written ≡ length r.past
  pub end : List Entry
  pub way : whole_played left r.script r.past end
  pub leads : (g : List Entry) → whole_played left r.script r.past g → IsLockstep r.script (reverse g)

-- these inputs are left of the same script
pub record StaysOn (left : List Input) (old new : WalkState) : Type 0 where
  pub course : OnCourse left new
  pub script : new.script ≡ old.script

-- the run was played to its end, or it has fewer rounds to go
abbrev pub ReachesEnd : Bool → WalkState → WalkState → Type 0
ReachesEnd true old new = IsLockstep old.script (reverse new.past)
ReachesEnd false old new = StaysOn [] old new × (rounds_left new.script new.past < rounds_left old.script old.past)

-- it was stopped at some past of the script's lockstep history
abbrev pub StopsAt : ScriptModel → (List Entry → Type 0) → Type 0
StopsAt s stopped = (past : List Entry) × BeginsLockstep s (reverse past) × stopped past
