-- The guess at an event's line is that event.
use Rattle.std.proofs.Common.{◌≡◌, ℕ, ◌<◌, ◌^◌, false, List, [], ◌∷◌, ◌++◌, refl, ap, ◌∙◌, arith, Some, ◌+◌, ◌%◌}
use Rattle.std.proofs.lemmas.Bool.Decides.{nat_tests}
use Rattle.std.proofs.lemmas.Fmt.{decimal_by_steps}
use Rattle.std.specs.Prelude.{pos, decimal, ◌==◌}
use Rattle.model_history.specs.declared.event.Event.{Event}
use Rattle.model_history.specs.declared.event.Event.TheVariants as event
use Rattle.model_history.specs.Texts.{event_line, event_text, pair_fields, key_fields, move_fields, spaced}
use Rattle.std.specs.List.{flat_map}
use Rattle.recording_text.specs.Fits.{FitsEvent}
use Rattle.recording_text.specs.Guesses.{hit_in, rest_in, has_plain_dash, guess, guess_of, word_at, word_by, word_a, word_s, word_d, head, event_of, plain_of, send_of, activate_of, scroll_of, wheel_of, start_of, done_of, draw_of}
use Rattle.recording_text.proofs.FieldRuns.{body, wide, wide_signed, u32_again, i32_again, key_again, keys_again, keys_read, moves_again, moves_read}

-- the text of a number begins with a byte other than `-`
begins_plain : (n : ℕ) → n < 2 ^ 32 → (c : ℕ) × (rest : List ℕ) × (decimal n ≡ c ∷ rest) × ((c == 45) ≡ false)
begins_plain n few = decimal_by_steps (λ m ds. (c : ℕ) × (rest : List ℕ) × (ds ≡ c ∷ rest) × ((c == 45) ≡ false))
    (λ m l. (48 + m, [], refl, grind (arith, nat_tests)))
    (λ m ds l h. (h.0, h.1 ++ ((48 + m % 10) ∷ []), ap (λ (z : List ℕ). z ++ ((48 + m % 10) ∷ [])) h.2, h.3))
    n (omega arith)

no_dash : (n : ℕ) (r : List ℕ) → n < 2 ^ 32 → has_plain_dash (98 ∷ 101 ∷ 103 ∷ 105 ∷ 110 ∷ 32 ∷ (((decimal n ++ []) ++ (10 ∷ [])) ++ r)) ≡ false
no_dash n r few = let first = begins_plain n few in
    ap (λ (ds : List ℕ). has_plain_dash (98 ∷ 101 ∷ 103 ∷ 105 ∷ 110 ∷ 32 ∷ (((ds ++ []) ++ (10 ∷ [])) ++ r))) first.2 ∙ first.3

pub guess_again : (e : Event) (r : List ℕ) → FitsEvent e → guess (event_line e ++ r) ≡ Some e
unfolding hit_in rest_in guess guess_of word_at word_by word_a word_s word_d head event_of plain_of send_of activate_of scroll_of wheel_of start_of done_of draw_of event_line event_text
guess_again (event.Begin i) r h = rw (no_dash i r h) (rw (body (pos i) [] r (wide i h) tt) (rw (u32_again i h) refl))
guess_again event.BeginPlain r h = refl
guess_again (event.Send k ms) r h = rw (body (pos k) (flat_map move_fields ms) r (wide k h.0) (moves_read ms h.1)) (rw (u32_again k h.0) (rw (moves_again ms h.1) refl))
guess_again (event.Ready k) r h = rw (body (pos k) [] r (wide k h) tt) (rw (u32_again k h) refl)
guess_again (event.Abort k) r h = rw (body (pos k) [] r (wide k h) tt) (rw (u32_again k h) refl)
guess_again (event.Commit k) r h = rw (body (pos k) [] r (wide k h) tt) (rw (u32_again k h) refl)
guess_again (event.Activate k ms) r h = rw (body (pos k) (flat_map move_fields ms) r (wide k h.0) (moves_read ms h.1)) (rw (u32_again k h.0) (rw (moves_again ms h.1) refl))
guess_again (event.Scroll i dx dy) r h =
    rw (body (pos i) (pair_fields dx dy) r (wide i h.0) ((refl, refl, refl), wide_signed dx h.1, ((refl, refl, refl), wide_signed dy h.2, tt)))
    (rw (u32_again i h.0) (rw (i32_again dx h.1) (rw (i32_again dy h.2) refl)))
guess_again (event.Wheel i t x y ms) r h =
    rw (body (pos i) (spaced t ++ (pair_fields x y ++ flat_map move_fields ms)) r (wide i h.0)
    ((refl, refl, refl), wide t h.1, ((refl, refl, refl), wide_signed x h.2, ((refl, refl, refl), wide_signed y h.3, moves_read ms h.4))))
    (rw (u32_again i h.0) (rw (u32_again t h.1) (rw (i32_again x h.2) (rw (i32_again y h.3) (rw (moves_again ms h.4) refl)))))
guess_again (event.Start w k ks) r h =
    rw (body (pos w) (key_fields k ++ flat_map key_fields ks) r (wide w h.0)
    ((refl, refl, refl), wide k.layer h.1.0, ((refl, refl, refl), wide k.x h.1.1, ((refl, refl, refl), wide k.y h.1.2, ((refl, refl, refl), wide k.stamp h.1.3, keys_read ks h.2)))))
    (rw (u32_again w h.0) (rw (key_again k h.1) (rw (keys_again ks h.2) refl)))
guess_again (event.DoneTile w k) r h =
    rw (body (pos w) (key_fields k) r (wide w h.0)
    ((refl, refl, refl), wide k.layer h.1.0, ((refl, refl, refl), wide k.x h.1.1, ((refl, refl, refl), wide k.y h.1.2, ((refl, refl, refl), wide k.stamp h.1.3, tt)))))
    (rw (u32_again w h.0) (rw (key_again k h.1) refl))
guess_again (event.Draw i ks) r h = rw (body (pos i) (flat_map key_fields ks) r (wide i h.0) (keys_read ks h.1)) (rw (u32_again i h.0) (rw (keys_again ks h.1) refl))
guess_again (event.Skip i) r h = rw (body (pos i) [] r (wide i h) tt) (rw (u32_again i h) refl)
guess_again event.NoDraw r h = refl
guess_again event.Finish r h = refl
guess_again (event.Await i) r h = rw (body (pos i) [] r (wide i h) tt) (rw (u32_again i h) refl)
guess_again (event.Settle i) r h = rw (body (pos i) [] r (wide i h) tt) (rw (u32_again i h) refl)
guess_again event.End r h = refl
guess_again (event.Stop a) r h = rw (body (pos a) [] r (wide a h) tt) (rw (u32_again a h) refl)
