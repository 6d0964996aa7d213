-- What others entered since the compositor wrote last is no milestone: so all of it is kept until it is written.
use Rattle.std.proofs.Common.{◌≡◌, ◌≢◌, inl, inr, ℕ, ◌+◌, ◌≤◌, List, [], ◌∷◌, ◌++◌, length, min, take, drop, Option, None, refl, sym, ◌∙◌, ap, subst, arith, append_assoc}
use Rattle.std.proofs.lemmas.List.{take-append-drop, length-take, length-reverse, length-map}
use Rattle.thread_lock.specs.Lists.{entries_by}
use Rattle.model_history.specs.declared.event.Event.{Event}
use Rattle.model_history.specs.declared.event.Event.TheVariants as event
use Rattle.model_history.specs.declared.history.Entry.{Entry}
use Rattle.model_history.specs.EventFields.{actor_of}
use Rattle.model_history.specs.Legal.{Legal}
use Rattle.model_history.proofs.DueFacts.{entry}
use Rattle.impl_log.specs.Kept.{before_milestone, before_newest, forgettable, milestones}
use Rattle.impl_log.specs.Runs.{Run, past, with_entry}
use Rattle.impl_log.proofs.Forgetting.{before_shorter, newest_front, newest_front_more}
use Rattle.impl_log.proofs.LogSteps.{past_more}
use Rattle.proxy_threads.specs.Seats.{Seat, entry_of_pair, entries_of, pairs, past_of}
use Rattle.proxy_threads.specs.Writing.{HasWritten}
use Rattle.proxy_threads.specs.inner.Holdings.{Steps, Sees}
use Rattle.proxy_threads.proofs.Holds.{past_pairs}
use Rattle.proxy_threads.proofs.Others.{grown, past_longer, others_since, kept_by_others}

-- an event that is not the compositor's is no milestone
no_milestone : (e : Event) → actor_of e ≢ 0 → milestones e ≡ None
no_milestone (event.Begin i) other = absurd (other refl)
no_milestone event.BeginPlain other = absurd (other refl)
no_milestone (event.Scroll i dx dy) other = absurd (other refl)
no_milestone (event.Wheel i target rest_x rest_y parts) other = absurd (other refl)
no_milestone (event.Await i) other = absurd (other refl)
no_milestone (event.Settle i) other = absurd (other refl)
no_milestone _ other = refl

long_past : (ps : List (ℕ × Event)) → length (past_of ps) ≡ length ps
long_past ps = length-reverse (entries_of ps) ∙ length-map ps entry_of_pair

module _ (p : Seat) (written : ℕ) (have : HasWritten p written) (r : Run) (actor : p.actor ≡ 0) (sees : Sees p r) where
  abbrev before : List (ℕ × Event)
  before = take written p.seen

  -- what came since
  abbrev more : List (ℕ × Event)
  more = drop written p.seen ++ sees.began.0

  split : before ++ more ≡ pairs r.entries
  split = sym (append_assoc before (drop written p.seen) sees.began.0) ∙ (ap (λ (xs : List (ℕ × Event)). xs ++ sees.began.0) (take-append-drop written p.seen) ∙ sees.began.1)

  none : entries_by 0 more ≡ []
  none =
      let own : entries_by 0 (pairs r.entries) ≡ p.mine = ap (λ (a : ℕ). entries_by a (pairs r.entries)) (sym actor) ∙ sees.own in
      others_since 0 before more (ap (λ (xs : List (ℕ × Event)). entries_by 0 xs) split ∙ (own ∙ sym have.own))

  grown_is : grown (past_of before) more ≡ past r
  grown_is = sym (past_longer before more) ∙ (ap (λ (xs : List (ℕ × Event)). past_of xs) split ∙ past_pairs r.entries)

  -- the newest milestone was written
  abbrev IsOld : List Entry → Type 0
  IsOld h = length (before_newest h) ≤ written

  first_old : IsOld (past_of before)
  first_old =
      let few = have.few in
      let size : length before ≡ min written (length p.seen) = length-take written p.seen in
      let long = long_past before in
      let shorter = before_shorter (past_of before) in
      omega (arith, few, size, long, shorter)

  other_old : (h : List Entry) (x : ℕ × Event) → Legal r.script r.workers (entry_of_pair x ∷ h) → x.0 ≢ 0 → IsOld h → IsOld (entry_of_pair x ∷ h)
  other_old h x legal other old =
      let is_actor : x.0 ≡ actor_of x.1 = legal.1.actor in
      let unused : milestones x.1 ≡ None = no_milestone x.1 (λ zero. other (is_actor ∙ zero)) in
      subst (λ (o : Option ℕ). length (before_milestone o h (before_newest h)) ≤ written) (sym unused) old

  pub found_old : length (before_newest (past r)) ≤ written
  found_old =
      let legal : Legal r.script r.workers (grown (past_of before) more) = subst (Legal r.script r.workers) (sym grown_is) sees.legal in
      subst IsOld grown_is (kept_by_others r.script r.workers 0 IsOld other_old more (past_of before) none legal first_old)

-- one event more is one milestone at most
pub kept_since : (a : ℕ) (old new : Run) (written : ℕ) → length (before_newest (past old)) ≤ written → Steps a old new → forgettable (past new) ≤ written
kept_since a old new written few (inl same) =
    let before = newest_front (past old) in
    subst (λ (r : Run). forgettable (past r) ≤ written) (sym same) (omega (arith, few, before))
kept_since a old new written few (inr (e, is)) =
    let before = newest_front_more (past old) (entry a e) in
    let past_is : past (with_entry old a e) ≡ entry a e ∷ past old = past_more old.entries (old.entries ++ entry a e ∷ []) (entry a e) refl in
    subst (λ (r : Run). forgettable (past r) ≤ written) (sym is) (subst (λ (h : List Entry). forgettable h ≤ written) (sym past_is) (omega (arith, few, before)))
