-- What was written of a recording is its images, and its source had it.
use Rattle.std.proofs.Common.{◌≡◌, ℕ, List, Ok, inr, sym, subst}
use Rattle.std.specs.Prelude.{Option}
use Rattle.player_uses.specs.declared.images.Images.{Images}
use Rattle.player_uses.specs.declared.outcome.Outcome.{Outcome}
use Rattle.player_uses.specs.declared.outcome.Outcome.TheVariants.{Done, Usage, WriteFault, Memory}
use Rattle.player_uses.specs.declared.words.Use.TheVariants.{Frames}
use Rattle.player_uses.specs.inner.Recordings.{HasImages, WritesImages, images_of}
use Rattle.player_uses.specs.Answers.{TellsMisfit}
use Rattle.player_uses.specs.Outputs.{AreImagesFrom, DeliversImages}
use Rattle.player_uses.specs.Refusals.{ExplainsImages, TakesRecording}

output_of : (i : Images) (bytes : List ℕ) → HasImages i → bytes ≡ i.bytes.items → AreImagesFrom bytes (images_of i)
output_of i bytes has had = subst (λ (xs : List ℕ). AreImagesFrom xs (images_of i)) (sym had) has.recording

-- the sink gained the images
pub images_output : (i : Images) (bytes : List ℕ) (old new : Option (List ℕ)) (o : Outcome) → HasImages i → bytes ≡ i.bytes.items → WritesImages old new (images_of i) o → DeliversImages bytes old new o
images_output i bytes old new Done has had wrote = (_, output_of i bytes has had, wrote)
images_output i bytes old new WriteFault has had wrote = (_, output_of i bytes has had, wrote)
images_output i bytes old new Memory has had wrote = inr (_, output_of i bytes has had, wrote)
images_output i bytes old new _ has had wrote = absurd wrote

taken : (i : Images) (bytes : List ℕ) → HasImages i → bytes ≡ i.bytes.items → TakesRecording bytes
taken i bytes has had = subst TakesRecording (sym had) (has.few, (has.recording.0, has.recording.1, has.recording.2))

-- the source gave a recording
pub images_cause : (i : Images) (bytes : List ℕ) (old new : Option (List ℕ)) (o : Outcome) → HasImages i → bytes ≡ i.bytes.items → WritesImages old new (images_of i) o → ExplainsImages bytes o
images_cause i bytes old new Done has had wrote = taken i bytes has had
images_cause i bytes old new WriteFault has had wrote = taken i bytes has had
images_cause i bytes old new Memory has had wrote = tt
images_cause i bytes old new _ has had wrote = absurd wrote

-- the words are no matter of it
pub images_words : (old new : Option (List ℕ)) (whole : List ℕ) (o : Outcome) → WritesImages old new whole o → TellsMisfit (Ok Frames) o
images_words old new whole (Usage word) wrote = absurd wrote
images_words old new whole _ wrote = tt
