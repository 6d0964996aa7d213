-- Pages: a page depends on the pulls below it alone, and other pulls leave all of it but the main values as it is.
use Rattle.std.proofs.Common.{◌≡◌, ℕ, zero, suc, ◌<◌, pos, ◌-ℤ◌, not, ◌&&◌, ◌||◌, List, [], ◌∷◌, ◌++◌, drop, slice_index_or, refl, sym, ◌∙◌, ap, subst, arith}
use Rattle.std.specs.List.{list_any}
use Rattle.std.specs.Ordering.{int_eq}
use Rattle.geom.specs.declared.rect.Point.{Point}
use Rattle.page_layers.specs.declared.command.Command.{Command}
use Rattle.page_layers.specs.declared.command.Command.TheVariants as command
use Rattle.page_layers.specs.Pages.{Page}
use Rattle.page_layers.specs.Effects.{scrolled_by, page_after_command, page_after_pulls, commanded}
use Rattle.page_layers.specs.Outcomes.{Accepts, StandTogether}
use Rattle.page_layers.proofs.TestFacts.{test_values}
use Rattle.page_layers.specs.declared.moves.Move.{Move}
use Rattle.model_history.specs.Scripts.{ScriptModel}
use Rattle.page_layers.specs.Axes.{Axis, across, down, amount_in, named_in}
use Rattle.page_layers.specs.Scrollers.{scrollers, main_value}
use Rattle.model_history.specs.Frames.{commands_of, page, page_before, main_move, changes, is_empty}
use Rattle.model_history.specs.Accepted.{TakesAll, TakesFrames, IsPlayable}

-- a page depends on the pulls of the frames before it alone
pub page_alike : (s : ScriptModel) (ps qs : ℕ → List Move) (n : ℕ) → ((k : ℕ) → k < n → ps k ≡ qs k) → page s ps n ≡ page s qs n
page_alike s ps qs zero f = refl
page_alike s ps qs (suc n) f =
    let p : page s ps n ≡ page s qs n = page_alike s ps qs n (λ k l. f k (omega arith)) in
    let q : ps n ≡ qs n = f n (omega arith) in
    λ i. commanded (commands_of s n) (page_after_pulls (q i) (p i))

pub page_before_alike : (s : ScriptModel) (ps qs : ℕ → List Move) (n : ℕ) → ((k : ℕ) → k < suc n → ps k ≡ qs k) → page_before s ps n ≡ page_before s qs n
page_before_alike s ps qs n f =
    let p : page s ps n ≡ page s qs n = page_alike s ps qs n (λ k l. f k (omega arith)) in
    let q : ps n ≡ qs n = f n (omega arith) in
    λ i. page_after_pulls (q i) (p i)

pub main_move_alike : (s : ScriptModel) (ps qs : ℕ → List Move) (k sc : ℕ) (ax : Axis) → ((j : ℕ) → j < suc k → ps j ≡ qs j)
    → main_move s ps k sc ax ≡ main_move s qs k sc ax
main_move_alike s ps qs k sc ax f =
    let p : page s ps (suc k) ≡ page s qs (suc k) = page_alike s ps qs (suc k) f in
    let q : page s ps k ≡ page s qs k = page_alike s ps qs k (λ j l. f j (omega arith)) in
    let r : ps k ≡ qs k = f k (omega arith) in
    λ i. (main_value (p i) sc ax -ℤ main_value (q i) sc ax) -ℤ amount_in sc ax (r i)

pub changes_alike : (s : ScriptModel) (ps qs : ℕ → List Move) (k : ℕ) → ((j : ℕ) → j < suc k → ps j ≡ qs j) → changes s ps k ≡ changes s qs k
changes_alike s ps qs k f =
    let p : page s ps (suc k) ≡ page s qs (suc k) = page_alike s ps qs (suc k) f in
    let q : page s ps k ≡ page s qs k = page_alike s ps qs k (λ j l. f j (omega arith)) in
    let r : ps k ≡ qs k = f k (omega arith) in
    λ i. not (is_empty (commands_of s k)) || list_any (λ sc. not (
    int_eq ((main_value (p i) sc across -ℤ main_value (q i) sc across) -ℤ amount_in sc across (r i)) (pos 0)
    && int_eq ((main_value (p i) sc down -ℤ main_value (q i) sc down) -ℤ amount_in sc down (r i)) (pos 0))) (scrollers (p i) ++ named_in (r i))

-- a page with other main values
abbrev pub with_values : Page → List (ℕ × Point) → Page
with_values p vs = record p { values = vs }

pub pulled_values : (ms : List Move) (p : Page) → page_after_pulls ms p ≡ with_values p (page_after_pulls ms p).values
pulled_values [] p = refl
pulled_values (m ∷ ms) p = pulled_values ms (scrolled_by p m.scroller m.dx m.dy)

pub after_values : (p : Page) (vs : List (ℕ × Point)) (c : Command) → page_after_command (with_values p vs) c ≡ with_values (page_after_command p c) (page_after_command (with_values p vs) c).values
after_values p vs (command.AddTransform c) = refl
after_values p vs _ = refl

pub commanded_values : (cs : List Command) (p : Page) (vs : List (ℕ × Point))
    → commanded cs (with_values p vs) ≡ with_values (commanded cs p) (commanded cs (with_values p vs)).values
commanded_values [] p vs = refl
commanded_values (c ∷ cs) p vs =
    let us : List (ℕ × Point) = (page_after_command (with_values p vs) c).values in
    subst (λ (q : Page). commanded cs q ≡ with_values (commanded cs (page_after_command p c)) (commanded cs q).values) (sym (after_values p vs c)) (commanded_values cs (page_after_command p c) us)

commanded_alike : (cs : List Command) (p q : Page) → p ≡ with_values q p.values → commanded cs p ≡ with_values (commanded cs q) (commanded cs p).values
commanded_alike cs p q e = subst (λ (x : Page). commanded cs x ≡ with_values (commanded cs q) (commanded cs x).values) (sym e) (commanded_values cs q p.values)

before_values : (s : ScriptModel) (ps qs : ℕ → List Move) (n : ℕ) → page s ps n ≡ with_values (page s qs n) (page s ps n).values
    → page_before s ps n ≡ with_values (page_before s qs n) (page_before s ps n).values
before_values s ps qs n e =
    let vs : List (ℕ × Point) = (page_before s ps n).values in
    pulled_values (ps n) (page s ps n) ∙ (ap (λ (p : Page). with_values p vs) e ∙ sym (ap (λ (p : Page). with_values p vs) (pulled_values (qs n) (page s qs n))))

-- pages of other pulls differ in their main values alone
pub page_values : (s : ScriptModel) (ps qs : ℕ → List Move) (n : ℕ) → page s ps n ≡ with_values (page s qs n) (page s ps n).values
page_values s ps qs zero = refl
page_values s ps qs (suc n) = commanded_alike (commands_of s n) (page_before s ps n) (page_before s qs n) (before_values s ps qs n (page_values s ps qs n))

pub page_before_values : (s : ScriptModel) (ps qs : ℕ → List Move) (n : ℕ) → page_before s ps n ≡ with_values (page_before s qs n) (page_before s ps n).values
page_before_values s ps qs n = before_values s ps qs n (page_values s ps qs n)

-- a page takes the same commands whatever its main values are

accepts_values : (p : Page) (vs : List (ℕ × Point)) (c : Command) → Accepts p c → Accepts (with_values p vs) c
accepts_values p vs c a = record {
  passes = test_values p vs c ∙ a.passes;
  together = subst StandTogether (sym (after_values p vs c)) a.together;
}

pub takes_values : (cs : List Command) (p : Page) (vs : List (ℕ × Point)) → TakesAll p cs → TakesAll (with_values p vs) cs
takes_values [] p vs t = tt
takes_values (c ∷ cs) p vs t =
    (accepts_values p vs c t.0, subst (λ (q : Page). TakesAll q cs) (sym (after_values p vs c)) (takes_values cs (page_after_command p c) (page_after_command (with_values p vs) c).values t.1))

-- pages without pulls take the commands of a playable script

takes_first : (p : Page) (fs : List (List Command)) (k : ℕ) → TakesFrames p (drop k fs) → TakesAll p (slice_index_or fs k [])
takes_first p [] k t = tt
takes_first p (f ∷ fs) zero t = t.0
takes_first p (f ∷ fs) (suc k) t = takes_first p fs k t

takes_rest : (p : Page) (fs : List (List Command)) (k : ℕ) → TakesFrames p (drop k fs) → TakesFrames (commanded (slice_index_or fs k []) p) (drop (suc k) fs)
takes_rest p [] k t = tt
takes_rest p (f ∷ fs) zero t = t.1
takes_rest p (f ∷ fs) (suc k) t = takes_rest p fs k t

takes_from : (s : ScriptModel) → IsPlayable s → (k : ℕ) → TakesFrames (page s (λ _. []) k) (drop k s.main)
takes_from s a zero = a.commands
takes_from s a (suc k) = takes_rest (page s (λ _. []) k) s.main k (takes_from s a k)

-- each frame of a playable script is taken, whatever was pulled
pub takes_frame : (s : ScriptModel) → IsPlayable s → (ps : ℕ → List Move) (k : ℕ) → TakesAll (page_before s ps k) (commands_of s k)
takes_frame s a ps k =
    let t : TakesAll (page s (λ _. []) k) (commands_of s k) = takes_first (page s (λ _. []) k) s.main k (takes_from s a k) in
    subst (λ (p : Page). TakesAll p (commands_of s k)) (sym (page_before_values s ps (λ _. []) k)) (takes_values (commands_of s k) (page s (λ _. []) k) (page_before s ps k).values t)
