-- What an event's line reads back as, and what reads as an event is its line.
use Rattle.std.proofs.Common.{◌≡◌, ℕ, ◌<◌, ◌≤◌, true, false, List, [], ◌++◌, length, drop, refl, ap, sym, ◌∙◌, append-nil, arith, None, Some, subst}
use Rattle.std.proofs.lemmas.Bool.Decides.{Decides-eqb}
use Rattle.std.proofs.lemmas.List.{drop_all}
use Rattle.std.specs.Prelude.{Bool, Option, nat_eq, if◌then◌else◌}
use Rattle.std.specs.List.{starts_with}
use Rattle.std.proofs.lemmas.Slice.Eq.{starts_is}
use Rattle.model_history.specs.declared.event.Event.{Event}
use Rattle.model_history.specs.Texts.{event_line}
use Rattle.recording_text.specs.Fits.{FitsEvent}
use Rattle.recording_text.specs.Numbers.{◌>>=◌}
use Rattle.recording_text.specs.Guesses.{guess}
use Rattle.recording_text.specs.Lines.{checked, event_at, ReadsLine}
use Rattle.recording_text.proofs.EventFits.{event_fits}
use Rattle.recording_text.proofs.LineRuns.{guess_again}

-- bytes begin with a text that stands before others
pub starts_again : (xs rest : List ℕ) → starts_with nat_eq (xs ++ rest) xs ≡ true
starts_again xs rest = (starts_is Decides-eqb (xs ++ rest) xs _ refl).1 rest refl

-- where bytes begin with a text, they are that text and what stands after it
pub starts_exact : (xs front : List ℕ) → starts_with nat_eq xs front ≡ true → xs ≡ front ++ drop (length front) xs
starts_exact xs front is = (starts_is Decides-eqb xs front _ refl).0 is

checked_again : (e : Event) (rest : List ℕ) → checked (event_line e ++ rest) e ≡ Some e
unfolding checked
checked_again e rest = rw (starts_again (event_line e) rest) refl

-- the line of an event, with anything after it, begins with that event's line
pub event_again : (e : Event) (rest : List ℕ) → FitsEvent e → event_at (event_line e ++ rest) ≡ Some e
unfolding event_at
event_again e rest fits = rw (guess_again e rest fits) (checked_again e rest)

-- two events that fit and have the same line are one
pub line_injective : (e f : Event) → FitsEvent e → FitsEvent f → event_line e ≡ event_line f → e ≡ f
line_injective e f fits fit same =
    let first = event_again e [] fits in
    let second = event_again f [] fit in
    let line : event_at (event_line e ++ []) ≡ event_at (event_line f ++ []) = ap (λ (xs : List ℕ). event_at (xs ++ [])) same in
    cc (first, second, line)

checked_exact : (b : Bool) (xs : List ℕ) (e f : Event) → starts_with nat_eq xs (event_line e) ≡ b → (if b then Some e else None) ≡ Some f → xs ≡ event_line f ++ drop (length (event_line f)) xs
checked_exact true xs e f is same =
    let one : e ≡ f = cc (same) in
    subst (λ (g : Event). xs ≡ event_line g ++ drop (length (event_line g)) xs) one (starts_exact xs (event_line e) is)
checked_exact false xs e f is same = absurd (cc (same))

guessed_exact : (o : Option Event) (xs : List ℕ) (f : Event) → (o >>= checked xs) ≡ Some f → xs ≡ event_line f ++ drop (length (event_line f)) xs
unfolding checked
guessed_exact None xs f is = absurd (cc (is))
guessed_exact (Some e) xs f is = checked_exact (starts_with nat_eq xs (event_line e)) xs e f refl is

-- bytes that begin with an event's line are that line and what stands after it
pub event_exact : (xs : List ℕ) (e : Event) → event_at xs ≡ Some e → xs ≡ event_line e ++ drop (length (event_line e)) xs
unfolding event_at
event_exact xs e is = guessed_exact (guess xs) xs e is

-- a line that is an event's from end to end
pub read_whole : (line : List ℕ) (e : Event) (size : ℕ) → event_at line ≡ Some e → size ≡ length (event_line e) → length line ≤ size → ReadsLine line (Some e)
read_whole line e size is long whole =
    let parts = event_exact line e is in
    let none : drop (length (event_line e)) line ≡ [] = drop_all (length (event_line e)) line (omega arith) in
    let one : line ≡ event_line e = parts ∙ ap (λ (r : List ℕ). event_line e ++ r) none ∙ append-nil (event_line e) in
    ((event_fits line e is, one), λ f fits same. sym is ∙ ap event_at (same ∙ sym (append-nil (event_line f))) ∙ event_again f [] fits)

-- a line that goes on after an event's is none
pub read_longer : (line : List ℕ) (e : Event) (size : ℕ) → event_at line ≡ Some e → size ≡ length (event_line e) → size < length line → ReadsLine line None
read_longer line e size is long less = (
  tt,
  λ f fits same.
      let there : event_at line ≡ Some f = ap event_at (same ∙ sym (append-nil (event_line f))) ∙ event_again f [] fits in
      let one : e ≡ f = cc (is, there) in
      let equal : length line ≡ length (event_line e) = ap length same ∙ ap (λ (g : Event). length (event_line g)) (sym one) in
      absurd (omega (arith, equal)),
)

-- a line that begins with no event's is none
pub read_none : (line : List ℕ) → event_at line ≡ None → ReadsLine line None
read_none line is = (
  tt,
  λ f fits same.
      let there : event_at line ≡ Some f = ap event_at (same ∙ sym (append-nil (event_line f))) ∙ event_again f [] fits in
      absurd (cc (is, there)),
)
