-- One part of a recording and what is read after it.
use Rattle.std.proofs.Common.{◌≡◌, ℕ, zero, suc, ◌+◌, ◌-◌, ◌<◌, List, [], ◌∷◌, drop, refl, ap, sym, ◌∙◌, arith}
use Rattle.std.specs.Prelude.{Option, Result, Ok, Err, if◌then◌else◌}
use Rattle.std.proofs.lemmas.List.{drop-drop}
use Rattle.recording_text.specs.Lines.{event_at}
use Rattle.recording_text.specs.Guesses.{guess, word_at}
use Rattle.recording_text.specs.declared.cursor.Cursor.{Cursor}
use Rattle.recording_text.specs.declared.cursor.EventSpan.{EventSpan}
use Rattle.recording_text.specs.declared.part.RecordingPart.{RecordingPart}
use Rattle.recording_text.specs.Views.{ViewTable, view_at}
use Rattle.recording_text.specs.inner.Parts.{part_at, images_in, Body, no_more, behind, led, body}
use Rattle.recording_text.specs.Pieces.{entry_of, shown_after, is_end}
use Rattle.recording_text.specs.inner.Steps.{Moves, Steps}

-- bytes of a part before are passed over
pub skipped : (xs : List ℕ) (t : ViewTable) (shown : Option ℕ) (index at k : ℕ) → body xs t shown index at k ≡ body (drop k xs) t shown index at 0
unfolding body
skipped [] t shown index at zero = refl
skipped [] t shown index at (suc k) = refl
skipped (c ∷ xs) t shown index at zero = refl
skipped (c ∷ xs) t shown index at (suc k) = skipped xs t shown index at k

pub drop_past : (n c : ℕ) (xs : List ℕ) → 0 < n → drop n (c ∷ xs) ≡ drop (n - 1) xs
drop_past zero c xs some = absurd (omega arith)
drop_past (suc m) c xs some = let one : suc m - 1 ≡ m = omega arith in ap (λ (k : ℕ). drop k xs) (sym one)

-- no part stands in nothing
pub part_none : (v : _) → part_at v [] ≡ Err 0
unfolding part_at event_at guess word_at
part_none v = refl

-- a part that is bad
pub body_bad : (xs : List ℕ) (t : ViewTable) (shown : Option ℕ) (index at place : ℕ) → part_at (view_at t shown) xs ≡ Err place → body xs t shown index at 0 ≡ Err (at + place)
unfolding body
body_bad [] t shown index at place is =
    let none : place ≡ 0 = cc (is, part_none (view_at t shown)) in
    let one : at ≡ at + place = omega arith in
    ap (λ (n : ℕ). Err n) one
body_bad (c ∷ xs) t shown index at place is = ap (λ (r : Result RecordingPart ℕ). led shown index at r (λ now size. body xs t now (index + 1) (at + size) (size - 1))) is

-- a part of its form
pub body_good : (xs : List ℕ) (t : ViewTable) (shown : Option ℕ) (index at : ℕ) (p : RecordingPart) → part_at (view_at t shown) xs ≡ Ok p → 0 < p.size
    → body xs t shown index at 0 ≡ behind (entry_of p.event ∷ []) (images_in index at p.size p.image) (if is_end p.event then no_more else body (drop p.size xs) t (shown_after shown p.event) (index + 1) (at + p.size) 0)
unfolding body
body_good [] t shown index at p is some = absurd (cc (is, part_none (view_at t shown)))
body_good (c ∷ xs) t shown index at p is some =
    let rest : body xs t (shown_after shown p.event) (index + 1) (at + p.size) (p.size - 1) ≡ body (drop p.size (c ∷ xs)) t (shown_after shown p.event) (index + 1) (at + p.size) 0 =
    skipped xs t (shown_after shown p.event) (index + 1) (at + p.size) (p.size - 1)
    ∙ ap (λ (ys : List ℕ). body ys t (shown_after shown p.event) (index + 1) (at + p.size) 0) (sym (drop_past p.size c xs some)) in
    ap (λ (r : Result RecordingPart ℕ). led shown index at r (λ now size. body xs t now (index + 1) (at + size) (size - 1))) is
    ∙ ap (λ (b : Result Body ℕ). behind (entry_of p.event ∷ []) (images_in index at p.size p.image) (if is_end p.event then no_more else b)) rest

-- the same for a cursor
pub step_bad : (bytes : List ℕ) (t : ViewTable) (old new : Cursor) (place : ℕ) → part_at (view_at t old.shown) (drop old.at bytes) ≡ Err place → Steps bytes t old new (Err (old.at + place))
step_bad bytes t old new place is = body_bad (drop old.at bytes) t old.shown old.index old.at place is

pub step_good : (bytes : List ℕ) (t : ViewTable) (old new : Cursor) (p : RecordingPart) (step : EventSpan) → part_at (view_at t old.shown) (drop old.at bytes) ≡ Ok p → 0 < p.size → Moves p old new step → Steps bytes t old new (Ok step)
step_good bytes t old new p step is some moved =
    let first = body_good (drop old.at bytes) t old.shown old.index old.at p is some in
    let rest : drop p.size (drop old.at bytes) ≡ drop new.at bytes = drop-drop p.size old.at bytes ∙ ap (λ (n : ℕ). drop n bytes) (sym moved.at) in
    cc (first, rest, moved.event, moved.image, moved.at, moved.index, moved.shown)
