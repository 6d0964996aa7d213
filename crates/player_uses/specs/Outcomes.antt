-- The status and the line of each outcome.
use Rattle.std.specs.Prelude.{Bool, true, false, ℕ, ◌⊎◌, List, [], ◌∷◌, ◌++◌, flat_map, codes, decimal, Option}
use Rattle.std.specs.Fmt.{signed_decimal}
use Rattle.std.specs.Io.KnownBytes.{Appends}
use Rattle.byte_io.specs.Counts.{Rose}
use Rattle.byte_io.specs.Pieces.{GainsPrefix}
use Rattle.byte_io.specs.declared.writing.PutFault.{PutFault}
use Rattle.byte_io.specs.declared.writing.PutFault.TheVariants as put_fault
use Rattle.page_layers.specs.declared.fault.EditFault.{EditFault}
use Rattle.page_layers.specs.declared.fault.EditFault.TheVariants as fault
use Rattle.player_uses.specs.declared.outcome.Outcome.{Outcome}
use Rattle.script_json.specs.declared.fault.ShapeFault.{ShapeFault}
use Rattle.player_uses.specs.declared.outcome.Outcome.TheVariants.{Done, Usage, Json, Shape, Script, ReadFault, WriteFault, TooLong, BadRecording, No, Memory, NoPicture}

-- how a run ends that could not put all
abbrev pub fault_outcome : PutFault → Outcome
fault_outcome put_fault.Failed = WriteFault
fault_outcome (put_fault.Memory _) = Memory

-- the status with which the program exits
abbrev pub status_of : Outcome → ℕ
status_of Done = 0
status_of (Usage word) = 2
status_of Json = 3
status_of (Shape fault) = 4
status_of (Script frame command why) = 5
status_of ReadFault = 6
status_of WriteFault = 7
status_of (TooLong limit) = 8
status_of (BadRecording place) = 9
status_of (No event) = 10
status_of Memory = 11
status_of NoPicture = 12

-- whether the sink failed
abbrev pub is_write_fault : Outcome → Bool
is_write_fault WriteFault = true
is_write_fault _ = false

-- texts, one after another
abbrev pub joined_texts : List (List ℕ) → List ℕ
joined_texts texts = flat_map (λ text. text) texts

-- why a command was refused; the line of a refused script; the line of a value that is no script
abbrev pub fault_text : EditFault → List (List ℕ)
fault_text fault.UnknownId = codes "unknown id" ∷ []
fault_text fault.IdUsed = codes "id used" ∷ []
fault_text fault.BadPlace = codes "bad place" ∷ []
fault_text (fault.TooMany limit) = codes "too many, limit " ∷ decimal limit ∷ []
fault_text (fault.OutOfRange value limit) = signed_decimal value ∷ codes " out of range, limit " ∷ signed_decimal limit ∷ []
fault_text fault.NotNested = codes "not nested" ∷ []

abbrev pub refused_text : ℕ → ℕ → EditFault → List (List ℕ)
refused_text frame command why =
    codes "cc: script: frame " ∷ decimal frame ∷ codes " command " ∷ decimal command ∷ codes ": " ∷ (fault_text why ++ codes "\n" ∷ [])

abbrev pub shape_text : ShapeFault → List (List ℕ)
shape_text f = codes "cc: shape: list " ∷ decimal f.list ∷ codes " index " ∷ decimal f.index ∷ codes " field " ∷ decimal f.field ∷ codes "\n" ∷ []

-- the line that tells of an outcome; none if all was done
abbrev pub line_of : Outcome → List ℕ
line_of Done = []
line_of (Usage word) = joined_texts (codes "cc: usage: word " ∷ decimal word ∷ codes "\n" ∷ [])
line_of Json = joined_texts (codes "cc: not JSON\n" ∷ [])
line_of (Shape fault) = joined_texts (shape_text fault)
line_of (Script frame command why) = joined_texts (refused_text frame command why)
line_of ReadFault = joined_texts (codes "cc: read fault\n" ∷ [])
line_of WriteFault = joined_texts (codes "cc: write fault\n" ∷ [])
line_of (TooLong limit) = joined_texts (codes "cc: too long, limit " ∷ decimal limit ∷ codes "\n" ∷ [])
line_of (BadRecording place) = joined_texts (codes "cc: bad recording at " ∷ decimal place ∷ codes "\n" ∷ [])
line_of (No event) = joined_texts (codes "cc: event " ∷ decimal event ∷ codes " is wrong\n" ∷ [])
line_of Memory = joined_texts (codes "cc: out of memory\n" ∷ [])
line_of NoPicture = joined_texts (codes "cc: no picture\n" ∷ [])

-- the notes gained the line; or a prefix of it, and one of their two counts rose
abbrev pub Told : Option (List ℕ) → Option (List ℕ) → ℕ → ℕ → ℕ → ℕ → List ℕ → Type 0
Told old new faults_old faults_new refusals_old refusals_new line =
    Appends old new line ⊎ (GainsPrefix old new line × (Rose faults_old faults_new ⊎ Rose refusals_old refusals_new))
