-- How many entries may be forgotten.
use Rattle.std.proofs.Common.{◌≡◌, ℕ, ◌+◌, ◌-◌, ◌≤◌, List, [], ◌∷◌, ◌++◌, length, reverse, Option, Some, None, subst, arith}
use Rattle.std.proofs.lemmas.List.{length-reverse}
use Rattle.model_history.specs.declared.history.Entry.{Entry}
use Rattle.model_history.specs.Scans.{one_more, counted}
use Rattle.impl_log.specs.declared.milestones.Milestones.{Milestones}
use Rattle.impl_log.specs.Kept.{before_milestone, before_newest, forgettable, milestones}
use Rattle.impl_log.specs.inner.Steps.{placed}

-- ---- what came before a milestone is shorter

milestone_longer : (o : Option ℕ) (h earlier : List Entry) → length earlier ≤ length h → length (before_milestone o h earlier) ≤ length h
milestone_longer None h earlier l = l
milestone_longer (Some i) h earlier l = omega arith

pub before_shorter : (h : List Entry) → length (before_newest h) ≤ length h
before_shorter [] = omega arith
before_shorter (e ∷ h) = let l = milestone_longer (milestones e.event) h (before_newest h) (before_shorter h) in omega (arith, l)

-- the newest entry is kept
pub forgets_older : (h : List Entry) → forgettable h ≤ length h - 1
forgets_older [] = omega arith
forgets_older (e ∷ h) =
    let twice = before_shorter (before_newest (e ∷ h)) in
    let once = milestone_longer (milestones e.event) h (before_newest h) (before_shorter h) in
    omega (arith, twice, once)

pub forgets_before_last : (es : List Entry) → forgettable (reverse es) ≤ length es - 1
forgets_before_last es = subst (λ (n : ℕ). forgettable (reverse es) ≤ n - 1) (length-reverse es) (forgets_older (reverse es))

-- ---- one entry more

pub newest_placed : (o : Option ℕ) (h earlier : List Entry) (n : ℕ) (p : Milestones) → n ≡ length h → p.newest ≡ length earlier → (placed o n p).newest ≡ length (before_milestone o h earlier)
newest_placed None h earlier n p there newest = newest
newest_placed (Some i) h earlier n p there newest = there

pub older_placed : (o : Option ℕ) (h : List Entry) (n : ℕ) (p : Milestones) → p.newest ≡ length (before_newest h) → p.older ≡ forgettable h → (placed o n p).older ≡ length (before_newest (before_milestone o h (before_newest h)))
older_placed None h n p newest older = older
older_placed (Some i) h n p newest older = newest

more_forgettable : (o : Option ℕ) (h : List Entry) → forgettable h ≤ length (before_newest (before_milestone o h (before_newest h)))
more_forgettable None h = omega arith
more_forgettable (Some i) h = before_shorter (before_newest h)

-- what may be forgotten may be later
pub still_forgettable : (h : List Entry) (e : Entry) (n : ℕ) → n ≤ forgettable h → n ≤ forgettable (e ∷ h)
still_forgettable h e n few = let more = more_forgettable (milestones e.event) h in omega (arith, few, more)

-- what may be forgotten came before the newest milestone
pub newest_front : (h : List Entry) → forgettable h ≤ length (before_newest h)
newest_front h = before_shorter (before_newest h)

later_milestone : (o : Option ℕ) (h : List Entry) → length (before_newest (before_milestone o h (before_newest h))) ≤ length (before_newest h)
later_milestone None h = newest_front h
later_milestone (Some i) h = omega arith

pub newest_front_more : (h : List Entry) (e : Entry) → forgettable (e ∷ h) ≤ length (before_newest h)
newest_front_more h e = later_milestone (milestones e.event) h

-- ---- several entries more, of which one at most is a milestone

more_passed : (o : Option ℕ) (m n : ℕ) → m ≤ n → m ≤ one_more o n
more_passed None m n l = l
more_passed (Some i) m n l = omega (arith, l)

milestones_grow : (more h : List Entry) → counted milestones h ≤ counted milestones (more ++ h)
milestones_grow [] h = omega arith
milestones_grow (e ∷ more) h = more_passed (milestones e.event) (counted milestones h) (counted milestones (more ++ h)) (milestones_grow more h)

-- where none is
none_by : (o : Option ℕ) (h more : List Entry) → (counted milestones more ≤ counted milestones h → length (before_newest more) ≤ length h) → counted milestones h ≤ counted milestones more
    → one_more o (counted milestones more) ≤ counted milestones h → length (before_milestone o more (before_newest more)) ≤ length h
none_by None h more earlier grown few = earlier few
none_by (Some i) h more earlier grown few = absurd (omega (arith, few, grown))

none_more : (more h : List Entry) → counted milestones (more ++ h) ≤ counted milestones h → length (before_newest (more ++ h)) ≤ length h
none_more [] h few = before_shorter h
none_more (e ∷ more) h few = none_by (milestones e.event) h (more ++ h) (none_more more h) (milestones_grow more h) few

-- they are all kept
one_by : (o : Option ℕ) (h more : List Entry) → (counted milestones more ≤ 1 + counted milestones h → forgettable more ≤ length h) → (counted milestones more ≤ counted milestones h → length (before_newest more) ≤ length h)
    → one_more o (counted milestones more) ≤ 1 + counted milestones h → length (before_newest (before_milestone o more (before_newest more))) ≤ length h
one_by None h more earlier none few = earlier few
one_by (Some i) h more earlier none few = none (omega (arith, few))

pub one_more_kept : (more h : List Entry) → counted milestones (more ++ h) ≤ 1 + counted milestones h → forgettable (more ++ h) ≤ length h
one_more_kept [] h few = let twice = newest_front h in let once = before_shorter h in omega (arith, twice, once)
one_more_kept (e ∷ more) h few = one_by (milestones e.event) h (more ++ h) (one_more_kept more h) (none_more more h) few
