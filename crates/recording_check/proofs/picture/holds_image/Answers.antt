-- No head, no rows, or whether anything stands after them.
use Rattle.std.proofs.Common.{rules, ◌≡◌, ◌==◌, ℕ, false, List, length, Some, None, sym, ◌∙◌, ap, subst}
use Rattle.std.specs.Prelude.{option_copied}
use Rattle.std.specs.Bool.{Decides}
use Rattle.pixel.specs.Colours.{Parts}
use Rattle.model_history.specs.Recordings.{joined_to, image_head}
use Rattle.recording_check.specs.inner.Behind.{behind, pixel_of, row_text}
use Rattle.recording_check.proofs.FrontFacts.{no_head, no_body, at_end, rows_behind, image_is}
use Rattle.recording_check.proofs.picture.holds_image.Goals as goal

pub returns-in_default : goal.returns-in_default
returns-in_default c = λ p offset missing shows.
    let pixel : ℕ → ℕ → Parts = pixel_of p offset missing c.args.painting.now.background in
    let bytes = c.args.bytes.now in
    let none : behind (image_head c.args.painting.now.view.w c.args.painting.now.view.h) bytes ≡ None =
    ap (λ (l : List ℕ). behind l bytes) (sym c.requires.head) ∙ (sym c.behind_front.ensures ∙ ap option_copied c.in_default.is) in
    subst (λ (i : List ℕ). Decides false (bytes ≡ i)) (sym (image_is pixel c.args.painting.now.view.w c.args.painting.now.view.h))
    (no_head (image_head c.args.painting.now.view.w c.args.painting.now.view.h) (joined_to c.args.painting.now.view.h (row_text pixel c.args.painting.now.view.w)) bytes none)

pub returns-in-None : goal.returns-in-None
returns-in-None c = λ p offset missing shows.
    let pixel : ℕ → ℕ → Parts = pixel_of p offset missing c.args.painting.now.background in
    let bytes = c.args.bytes.now in
    let pixels = c.in-Some.pixels.now in
    let body : List ℕ = joined_to c.args.painting.now.view.h (row_text pixel c.args.painting.now.view.w) in
    let there : behind (image_head c.args.painting.now.view.w c.args.painting.now.view.h) bytes ≡ Some pixels =
    ap (λ (l : List ℕ). behind l bytes) (sym c.requires.head) ∙ (sym c.behind_front.ensures ∙ ap option_copied c.in-Some.is) in
    let none : behind body pixels ≡ None =
    sym (rows_behind pixel c.args.painting.now.view.w c.args.painting.now.view.h pixels) ∙ (sym (c.in_ok-behind.ensures p offset missing shows) ∙ ap option_copied c.in-None.is) in
    subst (λ (i : List ℕ). Decides false (bytes ≡ i)) (sym (image_is pixel c.args.painting.now.view.w c.args.painting.now.view.h))
    (no_body (image_head c.args.painting.now.view.w c.args.painting.now.view.h) body bytes pixels there none)

pub returns-in-Some-behind : goal.returns-in-Some-behind
returns-in-Some-behind c = λ p offset missing shows.
    let pixel : ℕ → ℕ → Parts = pixel_of p offset missing c.args.painting.now.background in
    let bytes = c.args.bytes.now in
    let pixels = c.in-Some.pixels.now in
    let rest = c.in-Some-behind.rest.now in
    let body : List ℕ = joined_to c.args.painting.now.view.h (row_text pixel c.args.painting.now.view.w) in
    let there : behind (image_head c.args.painting.now.view.w c.args.painting.now.view.h) bytes ≡ Some pixels =
    ap (λ (l : List ℕ). behind l bytes) (sym c.requires.head) ∙ (sym c.behind_front.ensures ∙ ap option_copied c.in-Some.is) in
    let left : behind body pixels ≡ Some rest =
    sym (rows_behind pixel c.args.painting.now.view.w c.args.painting.now.view.h pixels) ∙ (sym (c.in_ok-behind.ensures p offset missing shows) ∙ ap option_copied c.in-Some-behind.is) in
    let empty : c.is_empty.result ≡ (length rest == 0) = search rules in
    subst (λ (i : List ℕ). Decides c.is_empty.result (bytes ≡ i)) (sym (image_is pixel c.args.painting.now.view.w c.args.painting.now.view.h))
    (at_end (image_head c.args.painting.now.view.w c.args.painting.now.view.h) body bytes pixels there rest c.is_empty.result left empty)
