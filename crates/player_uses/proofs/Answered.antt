-- Which answers a use gives that has read what it takes: the source has not failed.
use Rattle.std.proofs.Common.{◌≡◌, ℕ, Bool, true, List}
use Rattle.std.specs.Prelude.{Option}
use Rattle.std.proofs.lemmas.Bool.{false≢true}
use Rattle.byte_io.specs.Counts.{Rose}
use Rattle.player_uses.specs.declared.outcome.Outcome.{Outcome}
use Rattle.player_uses.specs.declared.outcome.Outcome.TheVariants.{Usage, Json, Shape, Script, ReadFault, WriteFault, TooLong, BadRecording, No, NoPicture}
use Rattle.player_uses.specs.Answers.{AnswersScript, AnswersImages}
use Rattle.player_uses.specs.Faults.{Causes, StopsAtFault}
use Rattle.player_uses.specs.Outcomes.{is_write_fault}
use Rattle.player_uses.specs.Outputs.{WritesSome, WritesOrBegins}
use Rattle.player_uses.specs.inner.Recordings.{WritesImages}

pub some_script : (P : List ℕ → Type 0) (old new : Option (List ℕ)) (o : Outcome) → WritesSome P old new o → AnswersScript o
some_script P old new (Usage word) wrote = absurd wrote
some_script P old new (TooLong limit) wrote = absurd wrote
some_script P old new (BadRecording place) wrote = absurd wrote
some_script P old new (No event) wrote = absurd wrote
some_script P old new NoPicture wrote = absurd wrote
some_script P old new _ wrote = tt

pub some_stops : (P : List ℕ → Type 0) (old new : Option (List ℕ)) (faults_old faults_new : ℕ) (failed : Bool) (o : Outcome) → WritesSome P old new o → faults_new ≡ faults_old → StopsAtFault faults_old faults_new failed o
some_stops P old new faults_old faults_new failed ReadFault wrote same = absurd wrote
some_stops P old new faults_old faults_new failed _ wrote same = same

pub begun_script : (P Q : List ℕ → Type 0) (old new : Option (List ℕ)) (o : Outcome) → WritesOrBegins P Q old new o → AnswersScript o
begun_script P Q old new (Usage word) wrote = absurd wrote
begun_script P Q old new (TooLong limit) wrote = absurd wrote
begun_script P Q old new (BadRecording place) wrote = absurd wrote
begun_script P Q old new (No event) wrote = absurd wrote
begun_script P Q old new NoPicture wrote = absurd wrote
begun_script P Q old new _ wrote = tt

pub begun_stops : (P Q : List ℕ → Type 0) (old new : Option (List ℕ)) (faults_old faults_new : ℕ) (failed : Bool) (o : Outcome) → WritesOrBegins P Q old new o → faults_new ≡ faults_old → StopsAtFault faults_old faults_new failed o
begun_stops P Q old new faults_old faults_new failed ReadFault wrote same = absurd wrote
begun_stops P Q old new faults_old faults_new failed _ wrote same = same

pub images_answers : (old new : Option (List ℕ)) (whole : List ℕ) (o : Outcome) → WritesImages old new whole o → AnswersImages o
images_answers old new whole (Usage word) wrote = absurd wrote
images_answers old new whole Json wrote = absurd wrote
images_answers old new whole (Shape fault) wrote = absurd wrote
images_answers old new whole (Script frame command why) wrote = absurd wrote
images_answers old new whole (TooLong limit) wrote = absurd wrote
images_answers old new whole (No event) wrote = absurd wrote
images_answers old new whole NoPicture wrote = absurd wrote
images_answers old new whole _ wrote = tt

pub images_stops : (old new : Option (List ℕ)) (whole : List ℕ) (faults_old faults_new : ℕ) (failed : Bool) (o : Outcome) → WritesImages old new whole o → faults_new ≡ faults_old → StopsAtFault faults_old faults_new failed o
images_stops old new whole faults_old faults_new failed ReadFault wrote same = absurd wrote
images_stops old new whole faults_old faults_new failed _ wrote same = same

-- ---- faults

-- a fault of the sink has its cause
pub fault_rose : (a b : ℕ) (o : Outcome) → is_write_fault o ≡ true → Causes 0 0 a b o → Rose a b
fault_rose a b WriteFault is cause = cause
fault_rose a b _ is cause = absurd (false≢true is)
