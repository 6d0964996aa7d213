-- Sums over frames: which of them count, and what a frame that is retired takes from the delta to the base.
use Rattle.std.proofs.Common.{ℕ, ℤ, ◌≡◌, ◌⊎◌, inl, inr, zero, suc, ◌<◌, ◌≤◌, ◌==◌, pos, ◌+ℤ◌, ◌-ℤ◌, Bool, true, false, cond, not, ◌||◌, List, Option, Some, None, refl, sym, ◌∙◌, ap, arith}
use Rattle.std.proofs.lemmas.Int.{ints}
use Rattle.page_layers.specs.declared.moves.Move.{Move}
use Rattle.model_history.specs.declared.history.Entry.{Entry}
use Rattle.model_history.specs.Scripts.{ScriptModel}
use Rattle.model_history.specs.EventFields.{sends}
use Rattle.model_history.specs.Scans.{was_named}
use Rattle.page_layers.specs.Axes.{Axis, amount_in}
use Rattle.page_layers.specs.Scrollers.{main_value}
use Rattle.model_history.specs.Frames.{page, main_move}
use Rattle.model_history.specs.Scrolls.{sum_of_moves, main_moves, in_base, in_delta, by_send, not_sent}
use Rattle.model_history.proofs.BoolFacts.{same_number, other_number, is_same, is_other, by_test}
use Rattle.model_history.proofs.PageFacts.{main_move_alike}
use Rattle.model_history.proofs.Sums.{moved_alike, moved_both, moved_none}

-- the main moves of the first n frames depend on their pulls, and on which of them are committed
pub main_moves_alike : (s : ScriptModel) (ps qs : ℕ → List Move) (f g : ℕ → Bool) (sc : ℕ) (ax : Axis) (n : ℕ)
    → ((k : ℕ) → k < n → ps k ≡ qs k) → ((k : ℕ) → k < n → f k ≡ g k) → main_moves s ps f sc ax n ≡ main_moves s qs g sc ax n
main_moves_alike s ps qs f g sc ax zero p q = refl
main_moves_alike s ps qs f g sc ax (suc n) p q =
    let e : main_moves s ps f sc ax n ≡ main_moves s qs g sc ax n = main_moves_alike s ps qs f g sc ax n (λ k l. p k (omega arith)) (λ k l. q k (omega arith)) in
    let m : main_move s ps n sc ax ≡ main_move s qs n sc ax = main_move_alike s ps qs n sc ax p in
    let c : f n ≡ g n = q n (omega arith) in
    λ i. e i +ℤ cond (c i) (m i) (pos 0)

plain : (z : ℤ) → z +ℤ pos 0 ≡ z
plain z = omega (arith, ints)

-- frames that are not committed add nothing
pub main_moves_stop : (s : ScriptModel) (ps : ℕ → List Move) (f : ℕ → Bool) (sc : ℕ) (ax : Axis) (m n : ℕ)
    → m ≤ n → ((k : ℕ) → m ≤ k → k < n → f k ≡ false) → main_moves s ps f sc ax n ≡ main_moves s ps f sc ax m
main_moves_stop s ps f sc ax m zero l none = let e : m ≡ 0 = omega arith in ap (main_moves s ps f sc ax) (sym e)
main_moves_stop s ps f sc ax m (suc n) l none = go (cases_last m n l) (λ k. main_moves_stop s ps f sc ax m n k (λ j a b. none j a (omega arith)))
  where
    cases_last : (a b : ℕ) → a ≤ suc b → (a ≡ suc b) ⊎ (a ≤ b)
    cases_last a b h = by_test (a == suc b) (λ t. inl (same_number a (suc b) t)) (λ t. inr (below (other_number a (suc b) t)))
      where
        below : (a ≡ suc b → ⊥) → a ≤ b
        below f = omega arith

    go : (m ≡ suc n) ⊎ (m ≤ n) → (m ≤ n → main_moves s ps f sc ax n ≡ main_moves s ps f sc ax m) → main_moves s ps f sc ax (suc n) ≡ main_moves s ps f sc ax m
    go (inl e) rest = ap (main_moves s ps f sc ax) (sym e)
    go (inr a) rest =
        ap (λ (b : Bool). main_moves s ps f sc ax n +ℤ cond b (main_move s ps n sc ax) (pos 0)) (none n a (omega arith))
        ∙ (plain (main_moves s ps f sc ax n) ∙ rest a)

-- a main value after a frame
value_parts : (new old pull move : ℤ) → move ≡ (new -ℤ old) -ℤ pull → new ≡ (old +ℤ move) +ℤ pull
value_parts new old pull move e = omega (arith, ints, e)

pub main_value_after : (s : ScriptModel) (ps : ℕ → List Move) (k sc : ℕ) (ax : Axis)
    → main_value (page s ps (suc k)) sc ax ≡ (main_value (page s ps k) sc ax +ℤ main_move s ps k sc ax) +ℤ amount_in sc ax (ps k)
main_value_after s ps k sc ax = value_parts (main_value (page s ps (suc k)) sc ax) (main_value (page s ps k) sc ax) (amount_in sc ax (ps k)) (main_move s ps k sc ax) refl

-- a frame that is retired

base_parts : (f new : ℕ → Bool) (k : ℕ) → ((j : ℕ) → new j ≡ ((k == j) || f j)) → f k ≡ false → (o : Option ℕ) (z : ℤ)
    → cond (in_base new o) z (pos 0) ≡ cond (in_base f o) z (pos 0) +ℤ cond (by_send k o) z (pos 0)
base_parts f new k e apart None z = refl
base_parts f new k e apart (Some j) z = ap (λ b. cond b z (pos 0)) (e j) ∙ by_test (k == j) same other
  where
    first : (y : ℤ) → y ≡ pos 0 +ℤ y
    first y = omega (arith, ints)

    last : (y : ℤ) → y ≡ y +ℤ pos 0
    last y = omega (arith, ints)

    same : (k == j) ≡ true → cond ((k == j) || f j) z (pos 0) ≡ cond (f j) z (pos 0) +ℤ cond (j == k) z (pos 0)
    same t =
        let i : k ≡ j = same_number k j t in
        let a : f j ≡ false = ap f (sym i) ∙ apart in
        let b : (j == k) ≡ true = is_same j k (sym i) in
        rw (t, a, b) (first z)

    other : (k == j) ≡ false → cond ((k == j) || f j) z (pos 0) ≡ cond (f j) z (pos 0) +ℤ cond (j == k) z (pos 0)
    other t =
        let b : (j == k) ≡ false = is_other j k (λ i. other_number k j t (sym i)) in
        rw (t, b) (last (cond (f j) z (pos 0)))

delta_parts : (f new : ℕ → Bool) (k : ℕ) → ((j : ℕ) → new j ≡ ((k == j) || f j)) → f k ≡ false → (o : Option ℕ) (z : ℤ)
    → cond (in_delta f o) z (pos 0) ≡ cond (in_delta new o) z (pos 0) +ℤ cond (by_send k o) z (pos 0)
delta_parts f new k e apart None z = plain' z
  where
    plain' : (y : ℤ) → y ≡ y +ℤ pos 0
    plain' y = omega (arith, ints)
delta_parts f new k e apart (Some j) z = by_test (k == j) same other ∙ ap (λ b. cond (not b) z (pos 0) +ℤ cond (j == k) z (pos 0)) (sym (e j))
  where
    first : (y : ℤ) → y ≡ pos 0 +ℤ y
    first y = omega (arith, ints)

    last : (y : ℤ) → y ≡ y +ℤ pos 0
    last y = omega (arith, ints)

    same : (k == j) ≡ true → cond (not (f j)) z (pos 0) ≡ cond (not ((k == j) || f j)) z (pos 0) +ℤ cond (j == k) z (pos 0)
    same t =
        let i : k ≡ j = same_number k j t in
        let a : f j ≡ false = ap f (sym i) ∙ apart in
        let b : (j == k) ≡ true = is_same j k (sym i) in
        rw (t, a, b) (first z)

    other : (k == j) ≡ false → cond (not (f j)) z (pos 0) ≡ cond (not ((k == j) || f j)) z (pos 0) +ℤ cond (j == k) z (pos 0)
    other t =
        let b : (j == k) ≡ false = is_other j k (λ i. other_number k j t (sym i)) in
        rw (t, b) (last (cond (not (f j)) z (pos 0)))

-- what its send carries is then in the base
pub retired_base : (s : ScriptModel) (h : List Entry) (sc : ℕ) (ax : Axis) (f new : ℕ → Bool) (k : ℕ) → ((j : ℕ) → new j ≡ ((k == j) || f j)) → f k ≡ false
    → sum_of_moves s sc ax (in_base new) None h ≡ sum_of_moves s sc ax (in_base f) None h +ℤ sum_of_moves s sc ax (by_send k) None h
retired_base s h sc ax f new k e apart = moved_both s sc ax (in_base new) (in_base f) (by_send k) None h (base_parts f new k e apart)

-- and no longer in the delta
pub retired_delta : (s : ScriptModel) (h : List Entry) (sc : ℕ) (ax : Axis) (f new : ℕ → Bool) (k : ℕ) → ((j : ℕ) → new j ≡ ((k == j) || f j)) → f k ≡ false
    → sum_of_moves s sc ax (in_delta f) None h ≡ sum_of_moves s sc ax (in_delta new) None h +ℤ sum_of_moves s sc ax (by_send k) None h
retired_delta s h sc ax f new k e apart = moved_both s sc ax (in_delta f) (in_delta new) (by_send k) None h (delta_parts f new k e apart)

-- a new send

-- it takes nothing into the base
pub sent_base : (s : ScriptModel) (h : List Entry) (sc : ℕ) (ax : Axis) (f : ℕ → Bool) (k : ℕ) → f k ≡ false
    → sum_of_moves s sc ax (in_base f) (Some k) h ≡ sum_of_moves s sc ax (in_base f) None h
sent_base s h sc ax f k apart = moved_alike s sc ax (in_base f) (in_base f) (Some k) None h apart (λ j t. refl)

pub sent_delta : (s : ScriptModel) (h : List Entry) (sc : ℕ) (ax : Axis) (f : ℕ → Bool) (k : ℕ) → f k ≡ false
    → sum_of_moves s sc ax (in_delta f) (Some k) h ≡ sum_of_moves s sc ax (in_delta f) None h
sent_delta s h sc ax f k apart = moved_alike s sc ax (in_delta f) (in_delta f) (Some k) None h (ap not apart) (λ j t. refl)

-- after it nothing is unsent
pub sent_unsent : (s : ScriptModel) (h : List Entry) (sc : ℕ) (ax : Axis) (k : ℕ) → sum_of_moves s sc ax not_sent (Some k) h ≡ pos 0
sent_unsent s h sc ax k = moved_none s sc ax not_sent (Some k) h refl (λ j t. refl)

-- it carries what was unsent
pub sent_carried : (s : ScriptModel) (h : List Entry) (sc : ℕ) (ax : Axis) (k : ℕ) → ((j : ℕ) → was_named sends h j ≡ true → j < k)
    → sum_of_moves s sc ax (by_send k) (Some k) h ≡ sum_of_moves s sc ax not_sent None h
sent_carried s h sc ax k below = moved_alike s sc ax (by_send k) not_sent (Some k) None h (is_same k k refl) (λ j t. below_other j (below j t))
  where
    below_other : (j : ℕ) → j < k → (j == k) ≡ false
    below_other j l = is_other j k (λ e. absurd (omega arith))

-- the others carry what they did
pub sent_others : (s : ScriptModel) (h : List Entry) (sc : ℕ) (ax : Axis) (k j : ℕ) → (k == j) ≡ false
    → sum_of_moves s sc ax (by_send j) (Some k) h ≡ sum_of_moves s sc ax (by_send j) None h
sent_others s h sc ax k j t = moved_alike s sc ax (by_send j) (by_send j) (Some k) None h t (λ i e. refl)
