-- Each accepted move counts once: it is unsent, or in the pulls of one send.
use Rattle.std.proofs.Common.{ℕ, ℤ, ◌≡◌, zero, suc, ◌+◌, ◌<◌, ◌==◌, nat_lt, pos, ◌+ℤ◌, Bool, true, false, cond, List, Option, Some, None, refl, sym, ◌∙◌, ap, arith}
use Rattle.std.proofs.lemmas.Int.{ints}
use Rattle.std.proofs.lemmas.Bool.Decides.{nat_tests}
use Rattle.model_history.specs.declared.history.Entry.{Entry}
use Rattle.model_history.specs.Scripts.{ScriptModel}
use Rattle.model_history.specs.EventFields.{sends}
use Rattle.model_history.specs.Scans.{was_named, counted}
use Rattle.page_layers.specs.Axes.{Axis, amount_in}
use Rattle.model_history.specs.Frames.{pulls_of}
use Rattle.model_history.specs.Scrolls.{sum_of_moves, not_sent, by_send, any_carrier, unsent, carried, all_moved}
use Rattle.model_history.specs.ScrollLaws.{pulled_by}
use Rattle.model_history.specs.Legal.{Legal}
use Rattle.model_history.proofs.BoolFacts.{same_number}
use Rattle.model_history.proofs.Course.{course}
use Rattle.model_history.proofs.Sums.{moved_alike, moved_both}
use Rattle.model_history.proofs.ValueSums.{sums}

-- no send carries the move, or that of one of the first n frames
sent_within : ℕ → Option ℕ → Bool
sent_within n None = true
sent_within n (Some k) = nat_lt k n

-- what the sends of the first n frames carry together
carried_to : ScriptModel → List Entry → ℕ → Axis → ℕ → ℤ
carried_to s h sc ax zero = pos 0
carried_to s h sc ax (suc n) = carried_to s h sc ax n +ℤ carried s h n sc ax

plain : (z : ℤ) → z ≡ z +ℤ pos 0
plain z = omega (arith, ints)

first : (z : ℤ) → z ≡ pos 0 +ℤ z
first z = omega (arith, ints)

one_more : (k n : ℕ) (z : ℤ) → cond (nat_lt k (suc n)) z (pos 0) ≡ cond (nat_lt k n) z (pos 0) +ℤ cond (k == n) z (pos 0)
one_more k n z = go (nat_lt k n) (k == n) (nat_lt k (suc n)) refl refl refl
  where
    go : (a b c : Bool) → nat_lt k n ≡ a → (k == n) ≡ b → nat_lt k (suc n) ≡ c → cond c z (pos 0) ≡ cond a z (pos 0) +ℤ cond b z (pos 0)
    go true true c e f g = absurd (grind (arith, nat_tests, e, f))
    go true false true e f g = plain z
    go true false false e f g = absurd (grind (arith, nat_tests, e, g))
    go false true true e f g = first z
    go false true false e f g = absurd (grind (arith, nat_tests, f, g))
    go false false true e f g = absurd (grind (arith, nat_tests, e, f, g))
    go false false false e f g = refl

parts : (n : ℕ) (o : Option ℕ) (z : ℤ) → cond (sent_within (suc n) o) z (pos 0) ≡ cond (sent_within n o) z (pos 0) +ℤ cond (by_send n o) z (pos 0)
unfolding sent_within
parts n None z = plain z
parts n (Some k) z = one_more k n z

regroup : (a b c d : ℤ) → a ≡ b +ℤ c → a +ℤ d ≡ b +ℤ (c +ℤ d)
regroup a b c d e = omega (arith, ints, e)

none_below : (k : ℕ) → nat_lt k 0 ≡ false
none_below k = grind (arith, nat_tests)

within_is : (s : ScriptModel) (h : List Entry) (sc : ℕ) (ax : Axis) (n : ℕ) → sum_of_moves s sc ax (sent_within n) None h ≡ unsent s h sc ax +ℤ carried_to s h sc ax n
unfolding sent_within carried_to
within_is s h sc ax zero = moved_alike s sc ax (sent_within zero) not_sent None None h refl (λ k t. none_below k) ∙ plain (unsent s h sc ax)
within_is s h sc ax (suc n) =
    moved_both s sc ax (sent_within (suc n)) (sent_within n) (by_send n) None h (parts n)
    ∙ regroup (sum_of_moves s sc ax (sent_within n) None h) (unsent s h sc ax) (carried_to s h sc ax n) (carried s h n sc ax) (within_is s h sc ax n)

-- where all sends are of the first n frames, all moves are unsent or carried by one of them
all_carried : (s : ScriptModel) (h : List Entry) (sc : ℕ) (ax : Axis) (n : ℕ) → ((k : ℕ) → was_named sends h k ≡ true → k < n)
    → all_moved s h sc ax ≡ unsent s h sc ax +ℤ carried_to s h sc ax n
unfolding sent_within
all_carried s h sc ax n below =
    moved_alike s sc ax any_carrier (sent_within n) None None h refl (λ k t. let l = below k t in is_within k l) ∙ within_is s h sc ax n
  where
    is_within : (k : ℕ) → k < n → true ≡ nat_lt k n
    is_within k l = grind (arith, nat_tests)

pulled_is : (s : ScriptModel) (h : List Entry) (sc : ℕ) (ax : Axis) (n : ℕ) → ((k : ℕ) → k < n → amount_in sc ax (pulls_of h k) ≡ carried s h k sc ax)
    → carried_to s h sc ax n ≡ pulled_by (pulls_of h) sc ax n
unfolding carried_to
pulled_is s h sc ax zero same = refl
pulled_is s h sc ax (suc n) same =
    let a : carried_to s h sc ax n ≡ pulled_by (pulls_of h) sc ax n = pulled_is s h sc ax n (λ k l. same k (omega arith)) in
    let b : amount_in sc ax (pulls_of h n) ≡ carried s h n sc ax = same n (omega arith) in
    λ i. a i +ℤ sym b i

-- the pulls of a send are what it carries
pub pulls_are : (s : ScriptModel) (n : ℕ) (h : List Entry) (k sc : ℕ) (ax : Axis) → Legal s n h → was_named sends h k ≡ true → amount_in sc ax (pulls_of h k) ≡ carried s h k sc ax
pulls_are s n h k sc ax l t = (sums s n sc ax h l).pulls k t

-- all accepted moves are those that are unsent and those in the pulls of the frames that were sent
pub moves_once : (s : ScriptModel) (n : ℕ) (h : List Entry) (sc : ℕ) (ax : Axis) → Legal s n h
    → all_moved s h sc ax ≡ unsent s h sc ax +ℤ pulled_by (pulls_of h) sc ax (counted sends h)
moves_once s n h sc ax l =
    let c = course s n h l in
    all_carried s h sc ax (counted sends h) c.sent_below
    ∙ ap (λ (z : ℤ). unsent s h sc ax +ℤ z) (pulled_is s h sc ax (counted sends h) (λ k b. pulls_are s n h k sc ax l (c.below_sent k b)))

-- a move has one carrier at most
pub one_carrier : (j k : ℕ) (c : Option ℕ) → by_send j c ≡ true → by_send k c ≡ true → j ≡ k
one_carrier j k None e f = cc
one_carrier j k (Some m) e f = sym (same_number m j e) ∙ same_number m k f
