-- What was read so far, before what is read from a place on, is all that is read.
use Rattle.std.proofs.Common.{◌≡◌, ℕ, false, List, [], ◌∷◌, ◌++◌, refl, ap, sym, ◌∙◌, append_assoc}
use Rattle.std.specs.Prelude.{Result, Ok, Err, if◌then◌else◌, option_to_list}
use Rattle.model_history.specs.declared.history.Entry.{Entry}
use Rattle.recording_text.specs.declared.cursor.Cursor.{Cursor}
use Rattle.recording_text.specs.declared.cursor.ImageSpan.{ImageSpan}
use Rattle.recording_text.specs.declared.cursor.EventSpan.{EventSpan}
use Rattle.recording_text.specs.Views.{ViewTable}
use Rattle.recording_text.specs.inner.Parts.{Body, no_more, behind, read_from}
use Rattle.recording_text.specs.Pieces.{entry_of, is_end}
use Rattle.recording_text.specs.inner.Steps.{Steps}

behind_both : (es fs : List Entry) (ms ns : List ImageSpan) (r : Result Body ℕ) → behind es ms (behind fs ns r) ≡ behind (es ++ fs) (ms ++ ns) r
behind_both es fs ms ns (Ok r) =
    ap (λ (xs : List Entry). Ok (record { entries = xs; images = ms ++ (ns ++ r.images) })) (sym (append_assoc es fs r.entries))
    ∙ ap (λ (ys : List ImageSpan). Ok (record { entries = (es ++ fs) ++ r.entries; images = ys })) (sym (append_assoc ms ns r.images))
behind_both es fs ms ns (Err place) = refl

-- a part more is read
pub goes_on : (bytes : List ℕ) (t : ViewTable) (old new : Cursor) (step : EventSpan) (es : List Entry) (ms : List ImageSpan) (all : Result Body ℕ)
    → behind es ms (read_from bytes t old) ≡ all → Steps bytes t old new (Ok step) → is_end step.event ≡ false
    → behind (es ++ (entry_of step.event ∷ [])) (ms ++ option_to_list step.image) (read_from bytes t new) ≡ all
goes_on bytes t old new step es ms all so one more =
    let next : read_from bytes t old ≡ behind (entry_of step.event ∷ []) (option_to_list step.image) (read_from bytes t new) =
    one ∙ ap (λ (b : _). behind (entry_of step.event ∷ []) (option_to_list step.image) (if b then no_more else read_from bytes t new)) more in
    sym (behind_both es (entry_of step.event ∷ []) ms (option_to_list step.image) (read_from bytes t new)) ∙ ap (behind es ms) (sym next) ∙ so

-- a bad part is met
pub stops : (bytes : List ℕ) (t : ViewTable) (old new : Cursor) (place : ℕ) (es : List Entry) (ms : List ImageSpan) (all : Result Body ℕ)
    → behind es ms (read_from bytes t old) ≡ all → Steps bytes t old new (Err place) → Err place ≡ all
stops bytes t old new place es ms all so one = ap (behind es ms) (sym one) ∙ so
