-- What comparing bytes with an event's line tells.
use Rattle.std.proofs.Common.{◌≡◌, ℕ, ◌<◌, ◌≤◌, true, false, List, [], ◌∷◌, length, refl, ap, sym, ◌∙◌, arith, None, Some, length-append}
use Rattle.std.specs.Prelude.{nat_eq}
use Rattle.std.specs.List.{starts_with}
use Rattle.model_history.specs.declared.event.Event.{Event}
use Rattle.model_history.specs.Texts.{event_line, event_text}
use Rattle.recording_text.specs.declared.read.Line.{Line}
use Rattle.recording_text.specs.Lines.{checked}
use Rattle.recording_text.specs.Taken.{TakesLine}

-- a line has a byte at least
pub line_has_some : (e : Event) → 0 < length (event_line e)
unfolding event_line
line_has_some e = omega (arith, length-append (event_text e) (10 ∷ []))

-- bytes that begin with the line
pub taken_line : (bytes line : List ℕ) (l : Line) → line ≡ event_line l.event → l.size ≡ length line → starts_with nat_eq bytes line ≡ true → length line ≤ length bytes → TakesLine bytes (checked bytes l.event) (Some l)
unfolding checked
taken_line bytes line l is size begins short =
    let there : starts_with nat_eq bytes (event_line l.event) ≡ true = ap (λ (xs : List ℕ). starts_with nat_eq bytes xs) (sym is) ∙ begins in
    let some = line_has_some l.event in
    let one : length line ≡ length (event_line l.event) = ap length is in
    (rw there refl, size ∙ one, omega (arith, one), omega (arith, one))

-- and bytes that do not
pub not_taken : (bytes line : List ℕ) (e : Event) → line ≡ event_line e → starts_with nat_eq bytes line ≡ false → TakesLine bytes (checked bytes e) None
unfolding checked
not_taken bytes line e is begins =
    let there : starts_with nat_eq bytes (event_line e) ≡ false = ap (λ (xs : List ℕ). starts_with nat_eq bytes xs) (sym is) ∙ begins in
    rw there refl
