-- What `serve N` answers a line, and what a session with a client was.
use Rattle.std.specs.Prelude.{◌≡◌, ℕ, Bool, true, List, [], ◌++◌, flat_map, ⊤, Option, Some}
use Rattle.player_lines.specs.Sessions.{Act, AtOnce, IsAnswered, IsBegun, IsEnded, frame, Has, HasFailed, IsNew, LastReadFailed, NoReadFailed}
use Rattle.player_uses.specs.declared.outcome.Outcome.{Outcome}
use Rattle.player_uses.specs.declared.outcome.Outcome.TheVariants.{Done, Json, Shape, Script, ReadFault, WriteFault, TooLong, Memory}
use Rattle.player_uses.specs.Verdicts.{verdict}
use Rattle.player_run.specs.Runs.{CauseOf, Writes}
use Rattle.player_uses.specs.declared.words.Use.TheVariants.{Step}

-- how a line may end: it is played, refused, or there was no memory
abbrev pub EndsLine : Outcome → Type 0
EndsLine Done = ⊤
EndsLine Json = ⊤
EndsLine (Shape fault) = ⊤
EndsLine (Script frame command why) = ⊤
EndsLine (TooLong limit) = ⊤
EndsLine Memory = ⊤
EndsLine _ = ⊥

-- an answer to the line of a number: what `step N` writes if its source gives this line, in frames, and its outcome
abbrev pub IsLineAnswer : ℕ → ℕ → List ℕ → List ℕ → Type 0
IsLineAnswer workers number line text =
    (result : Outcome) × (pieces : List (List ℕ))
    × EndsLine result × CauseOf (Step workers) line result
    × Writes (Step workers) line (Some []) (Some (flat_map (λ piece. piece) pieces)) result
    × (text ≡ flat_map frame pieces ++ verdict number result)

-- what was answered, by how a session ended: all lines; all that came whole, if the client could not be read; some first ones, the last of them maybe in part, if it took no more. A read failed only if that is the answer, and then it was the last act
abbrev pub AnsweredTo : ℕ → Outcome → List Act → Type 0
AnsweredTo workers Done h = IsEnded (IsLineAnswer workers) h × NoReadFailed h
AnsweredTo workers ReadFault h = IsAnswered (IsLineAnswer workers) h × LastReadFailed h
AnsweredTo workers WriteFault h = IsBegun (IsLineAnswer workers) h × NoReadFailed h
AnsweredTo workers Memory h = IsBegun (IsLineAnswer workers) h × NoReadFailed h
AnsweredTo workers _ h = ⊥

-- a session with a client with which nothing had passed before: whenever bytes were asked for, all lines that had come were answered; and at the end what its outcome says was answered
abbrev pub Serves : ℕ → Option (List Act) → Option (List Act) → Outcome → Type 0
Serves workers old new result = IsNew old → Has (λ h. AtOnce (IsLineAnswer workers) h × AnsweredTo workers result h) new

-- a read fault is answered only if the last read of the client failed, a write fault only if a put did
abbrev pub ServeCause : Bool → ℕ → ℕ → Bool → Outcome → Type 0
ServeCause failed old new torn ReadFault = failed ≡ true
ServeCause failed old new torn WriteFault = HasFailed old new torn
ServeCause failed old new torn _ = ⊤
