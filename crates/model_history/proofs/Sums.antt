-- Sums of the moves of any past, legal or not.
use Rattle.std.proofs.Common.{ℕ, ℤ, ◌==◌, pos, ◌+ℤ◌, ◌≡◌, Bool, true, false, cond, not, ◌||◌, List, [], ◌∷◌, Option, Some, None, refl, ap, sym, ◌∙◌, arith}
use Rattle.std.specs.Option.{option_or}
use Rattle.std.proofs.lemmas.Int.{ints}
use Rattle.std.proofs.lemmas.Bool.Decides.{nat_tests}
use Rattle.page_layers.specs.declared.moves.Move.{Move}
use Rattle.model_history.specs.declared.history.Entry.{Entry}
use Rattle.model_history.specs.Scripts.{ScriptModel}
use Rattle.model_history.specs.EventFields.{sends, moves}
use Rattle.model_history.specs.Scans.{names, was_named}
use Rattle.page_layers.specs.Axes.{Axis, amount_in}
use Rattle.model_history.specs.Frames.{active, up_to, pulls_of}
use Rattle.model_history.specs.EventFields.{commits, retires}
use Rattle.model_history.specs.Scrolls.{plus_counted, sum_of_moves, main_moves, in_base, in_delta, any_carrier, offset, all_moved}

-- what an event adds to a sum
pub added_is : (sc : ℕ) (ax : Axis) (ms : List Move) (b : Bool) (z : ℤ) → plus_counted sc ax ms b z ≡ cond b (amount_in sc ax ms) (pos 0) +ℤ z
added_is sc ax [] true z = omega (arith, ints)
added_is sc ax [] false z = omega (arith, ints)
added_is sc ax (m ∷ ms) b z = refl

-- moves that do not count change no sum
pub added_not : (sc : ℕ) (ax : Axis) (ms : List Move) (z : ℤ) → plus_counted sc ax ms false z ≡ z
added_not sc ax ms z = added_is sc ax ms false z ∙ plain z
  where
    plain : (y : ℤ) → pos 0 +ℤ y ≡ y
    plain y = omega (arith, ints)

-- two tests agree at the carrier of the moves before an event, where they agree at the one after it and at the frame that it sends
next_alike : (f g : Option ℕ → Bool) (m o p : Option ℕ) → f o ≡ g p → ((k : ℕ) → names m k ≡ true → f (Some k) ≡ g (Some k)) → f (option_or m o) ≡ g (option_or m p)
next_alike f g None o p e frames = e
next_alike f g (Some k) o p e frames = frames k same
  where
    same : (k == k) ≡ true
    same = grind (arith, nat_tests)

stands_first : (a b : Bool) → a ≡ true → (a || b) ≡ true
stands_first true b h = refl
stands_first false b h = absurd (cc)

stands_later : (a b : Bool) → b ≡ true → (a || b) ≡ true
stands_later true b h = refl
stands_later false b h = h

-- two tests that agree at the first carrier and at each frame that the past sends have equal sums
pub moved_alike : (s : ScriptModel) (sc : ℕ) (ax : Axis) (f g : Option ℕ → Bool) (o p : Option ℕ) (h : List Entry)
    → f o ≡ g p → ((k : ℕ) → was_named sends h k ≡ true → f (Some k) ≡ g (Some k)) → sum_of_moves s sc ax f o h ≡ sum_of_moves s sc ax g p h
moved_alike s sc ax f g o p [] e frames = refl
moved_alike s sc ax f g o p (x ∷ h) e frames =
    ap (λ (b : Bool). plus_counted sc ax (moves s x.event) b (sum_of_moves s sc ax f (option_or (sends x.event) o) h)) e
    ∙ ap (λ (z : ℤ). plus_counted sc ax (moves s x.event) (g p) z)
    (moved_alike s sc ax f g (option_or (sends x.event) o) (option_or (sends x.event) p) h
    (next_alike f g (sends x.event) o p e (λ k n. frames k (stands_first (names (sends x.event) k) (was_named sends h k) n)))
    (λ k n. frames k (stands_later (names (sends x.event) k) (was_named sends h k) n)))

four : (a b c x y z : ℤ) → a ≡ b +ℤ c → z ≡ x +ℤ y → a +ℤ z ≡ (b +ℤ x) +ℤ (c +ℤ y)
four a b c x y z e f = omega (arith, ints, e, f)

-- a test that is one of two others at each carrier has the sum of their two sums
pub moved_both : (s : ScriptModel) (sc : ℕ) (ax : Axis) (f g r : Option ℕ → Bool) (o : Option ℕ) (h : List Entry)
    → ((o : Option ℕ) (z : ℤ) → cond (f o) z (pos 0) ≡ cond (g o) z (pos 0) +ℤ cond (r o) z (pos 0))
    → sum_of_moves s sc ax f o h ≡ sum_of_moves s sc ax g o h +ℤ sum_of_moves s sc ax r o h
moved_both s sc ax f g r o [] parts = refl
moved_both s sc ax f g r o (x ∷ h) parts =
    let q : Option ℕ = option_or (sends x.event) o in
    let z = moved_both s sc ax f g r q h parts in
    added_is sc ax (moves s x.event) (f o) (sum_of_moves s sc ax f q h)
    ∙ (four (cond (f o) (amount_in sc ax (moves s x.event)) (pos 0)) (cond (g o) (amount_in sc ax (moves s x.event)) (pos 0)) (cond (r o) (amount_in sc ax (moves s x.event)) (pos 0))
    (sum_of_moves s sc ax g q h) (sum_of_moves s sc ax r q h) (sum_of_moves s sc ax f q h) (parts o (amount_in sc ax (moves s x.event))) z
    ∙ (ap (λ (y : ℤ). y +ℤ (cond (r o) (amount_in sc ax (moves s x.event)) (pos 0) +ℤ sum_of_moves s sc ax r q h)) (sym (added_is sc ax (moves s x.event) (g o) (sum_of_moves s sc ax g q h)))
    ∙ ap (λ (y : ℤ). plus_counted sc ax (moves s x.event) (g o) (sum_of_moves s sc ax g q h) +ℤ y) (sym (added_is sc ax (moves s x.event) (r o) (sum_of_moves s sc ax r q h)))))

-- where no carrier counts, the sum is 0
pub moved_none : (s : ScriptModel) (sc : ℕ) (ax : Axis) (f : Option ℕ → Bool) (o : Option ℕ) (h : List Entry)
    → f o ≡ false → ((k : ℕ) → was_named sends h k ≡ true → f (Some k) ≡ false) → sum_of_moves s sc ax f o h ≡ pos 0
moved_none s sc ax f o h e frames = moved_alike s sc ax f (λ p. false) o o h e frames ∙ nothing o h
  where
    nothing : (p : Option ℕ) (g : List Entry) → sum_of_moves s sc ax (λ c. false) p g ≡ pos 0
    nothing p [] = refl
    nothing p (x ∷ g) = added_not sc ax (moves s x.event) (sum_of_moves s sc ax (λ c. false) (option_or (sends x.event) p) g) ∙ nothing (option_or (sends x.event) p) g

-- no event has a move of the scroller along the axis
abbrev pub Stays : ScriptModel → ℕ → Axis → List Entry → Type 0
Stays s sc ax [] = Unit {0}
Stays s sc ax (x ∷ h) = (amount_in sc ax (moves s x.event) ≡ pos 0) × Stays s sc ax h

same_zero : (b : Bool) (z : ℤ) → z ≡ pos 0 → cond b z (pos 0) ≡ pos 0
same_zero true z e = e
same_zero false z e = refl

zero_more : (y z : ℤ) → y ≡ pos 0 → z ≡ pos 0 → y +ℤ z ≡ pos 0
zero_more y z e f = omega (arith, ints, e, f)

-- a scroller that no event moves has only sums of 0
pub moved_nothing : (s : ScriptModel) (sc : ℕ) (ax : Axis) (f : Option ℕ → Bool) (o : Option ℕ) (h : List Entry) → Stays s sc ax h → sum_of_moves s sc ax f o h ≡ pos 0
moved_nothing s sc ax f o [] still = refl
moved_nothing s sc ax f o (x ∷ h) still =
    added_is sc ax (moves s x.event) (f o) (sum_of_moves s sc ax f (option_or (sends x.event) o) h)
    ∙ zero_more (cond (f o) (amount_in sc ax (moves s x.event)) (pos 0)) (sum_of_moves s sc ax f (option_or (sends x.event) o) h)
    (same_zero (f o) (amount_in sc ax (moves s x.event)) still.0) (moved_nothing s sc ax f (option_or (sends x.event) o) h still.1)

-- a carrier is in the base or in the delta
pub base_or_delta : (b : Bool) (z : ℤ) → z ≡ cond b z (pos 0) +ℤ cond (not b) z (pos 0)
base_or_delta true z = omega (arith, ints)
base_or_delta false z = omega (arith, ints)

-- base and delta together are all moves
pub moves_part : (s : ScriptModel) (sc : ℕ) (ax : Axis) (retired : ℕ → Bool) (h : List Entry)
    → all_moved s h sc ax ≡ sum_of_moves s sc ax (in_base retired) None h +ℤ sum_of_moves s sc ax (in_delta retired) None h
moves_part s sc ax retired h = moved_both s sc ax any_carrier (in_base retired) (in_delta retired) None h (λ o z. base_or_delta (in_base retired o) z)

regroup : (a b c d : ℤ) → d ≡ b +ℤ c → (a +ℤ b) +ℤ c ≡ a +ℤ d
regroup a b c d e = omega (arith, ints, e)

pub offset_is : (s : ScriptModel) (h : List Entry) (sc : ℕ) (ax : Axis)
    → offset s h sc ax ≡ main_moves s (pulls_of h) (was_named commits h) sc ax (up_to (active h)) +ℤ all_moved s h sc ax
offset_is s h sc ax =
    regroup (main_moves s (pulls_of h) (was_named commits h) sc ax (up_to (active h))) (sum_of_moves s sc ax (in_base (was_named retires h)) None h)
    (sum_of_moves s sc ax (in_delta (was_named retires h)) None h) (all_moved s h sc ax) (moves_part s sc ax (was_named retires h) h)

-- the sum of all moves grows by those of each event
pub all_more : (s : ScriptModel) (h : List Entry) (e : Entry) (sc : ℕ) (ax : Axis) → all_moved s (e ∷ h) sc ax ≡ amount_in sc ax (moves s e.event) +ℤ all_moved s h sc ax
all_more s h e sc ax =
    added_is sc ax (moves s e.event) true (sum_of_moves s sc ax any_carrier (option_or (sends e.event) None) h)
    ∙ ap (λ (z : ℤ). amount_in sc ax (moves s e.event) +ℤ z) (moved_alike s sc ax any_carrier any_carrier (option_or (sends e.event) None) None h refl (λ k t. refl))
