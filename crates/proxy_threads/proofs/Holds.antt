-- What a pass tells of the run after it took the turn once.
use Rattle.std.proofs.Common.{◌≡◌, ◌⊎◌, inl, inr, ℕ, false, List, [], ◌∷◌, ◌++◌, length, drop, Some, refl, sym, ◌∙◌, ap, subst, arith, append-nil, append_assoc}
use Rattle.std.specs.Prelude.{reverse}
use mathlib.Core.List.{IsPrefix}
use Rattle.thread_lock.specs.Lists.{entries_by, gained}
use Rattle.thread_lock.proofs.Histories.{own_here, prefix_more}
use Rattle.model_history.specs.declared.event.Event.{Event}
use Rattle.model_history.specs.declared.history.Entry.{Entry}
use Rattle.model_history.specs.Scans.{has_ended}
use Rattle.model_history.specs.Legal.{Legal}
use Rattle.model_history.proofs.DueFacts.{entry}
use Rattle.impl_log.specs.Runs.{Run, past, with_entry}
use Rattle.impl_core.specs.Origins.{Origin, origin_of, pair_of}
use Rattle.proxy_threads.specs.Seats.{Seat, SamePass, HasSeenRun, entry_of_pair, entries_of, pairs, past_of}
use Rattle.proxy_threads.specs.Causes.{is_stop, EnteredLast, EnteredOne}
use Rattle.proxy_threads.specs.inner.Holdings.{Steps, Finds, CanPut, Puts, Holding}

-- entries as a pass sees them, and back
pub entries_pairs : (es : List Entry) → entries_of (pairs es) ≡ es
entries_pairs [] = refl
entries_pairs (e ∷ es) = ap (λ (xs : List Entry). e ∷ xs) (entries_pairs es)

pub past_pairs : (es : List Entry) → past_of (pairs es) ≡ reverse es
past_pairs es = ap (λ (xs : List Entry). reverse xs) (entries_pairs es)

pub pairs_more : (es fs : List Entry) → pairs (es ++ fs) ≡ pairs es ++ pairs fs
pairs_more [] fs = refl
pairs_more (e ∷ es) fs = ap (λ (xs : List (ℕ × Event)). pair_of e ∷ xs) (pairs_more es fs)

pub entries_more : (xs ys : List (ℕ × Event)) → entries_of (xs ++ ys) ≡ entries_of xs ++ entries_of ys
entries_more [] ys = refl
entries_more (x ∷ xs) ys = ap (λ (es : List Entry). entry_of_pair x ∷ es) (entries_more xs ys)

pub drop_front : {X : Type 0} (xs ys : List X) → drop (length xs) (xs ++ ys) ≡ ys
drop_front [] ys = refl
drop_front (x ∷ xs) ys = drop_front xs ys

-- the pass as it puts a run back
abbrev pub put_of : Seat → Run → Seat
put_of e left = record e { seen = pairs left.entries; mine = e.mine ++ gained e.seen (pairs left.entries) }

-- what is put back of a run that was found
pub can_put : (p e : Seat) (found left : Run) → Finds p e found → Steps p.actor found left → CanPut e left
can_put p e found left f steps = record { found = found; seen = f.seen; stem = f.stem ∙ f.sees.origin; steps = subst (λ (a : ℕ). Steps a found left) (sym f.actor) steps }

module _ (p e : Seat) (found : Run) (f : Finds p e found) where
  -- nothing was entered
  kept_gains : e.mine ++ gained e.seen (pairs found.entries) ≡ entries_by p.actor (pairs found.entries)
  kept_gains =
      ap (λ (xs : List (ℕ × Event)). e.mine ++ gained e.seen xs) (sym f.seen ∙ sym (append-nil e.seen))
      ∙ ap (λ (xs : List (ℕ × Event)). e.mine ++ xs) (drop_front e.seen [])
      ∙ (append-nil e.mine ∙ (f.mine ∙ sym f.sees.own))

  -- one event was entered
  more_gains : (ev : Event) → e.mine ++ gained e.seen (pairs (found.entries ++ entry p.actor ev ∷ [])) ≡ entries_by p.actor (pairs (found.entries ++ entry p.actor ev ∷ []))
  more_gains ev =
      let one : List (ℕ × Event) = (p.actor, ev) ∷ [] in
      let more : pairs (found.entries ++ entry p.actor ev ∷ []) ≡ e.seen ++ one = pairs_more found.entries (entry p.actor ev ∷ []) ∙ ap (λ (xs : List (ℕ × Event)). xs ++ one) (sym f.seen) in
      let mine : e.mine ≡ entries_by p.actor e.seen = f.mine ∙ (sym f.sees.own ∙ ap (λ (xs : List (ℕ × Event)). entries_by p.actor xs) (sym f.seen)) in
      ap (λ (xs : List (ℕ × Event)). e.mine ++ gained e.seen xs) more
      ∙ ap (λ (xs : List (ℕ × Event)). e.mine ++ xs) (drop_front e.seen one)
      ∙ (ap (λ (xs : List (ℕ × Event)). xs ++ one) mine ∙ (sym (own_here p.actor ev e.seen) ∙ ap (λ (xs : List (ℕ × Event)). entries_by p.actor xs) (sym more)))

  mine_put : (left : Run) → Steps p.actor found left → e.mine ++ gained e.seen (pairs left.entries) ≡ entries_by p.actor (pairs left.entries)
  mine_put left (inl kept) = subst (λ (r : Run). e.mine ++ gained e.seen (pairs r.entries) ≡ entries_by p.actor (pairs r.entries)) (sym kept) kept_gains
  mine_put left (inr more) = subst (λ (r : Run). e.mine ++ gained e.seen (pairs r.entries) ≡ entries_by p.actor (pairs r.entries)) (sym more.1) (more_gains more.0)

  seen_put : (left : Run) → Steps p.actor found left → IsPrefix p.seen (pairs left.entries)
  seen_put left (inl kept) = subst (λ (r : Run). IsPrefix p.seen (pairs r.entries)) (sym kept) f.sees.began
  seen_put left (inr more) =
      subst (λ (r : Run). IsPrefix p.seen (pairs r.entries)) (sym more.1)
      (subst (IsPrefix p.seen) (sym (pairs_more found.entries (entry p.actor more.0 ∷ []))) (prefix_more p.seen (pairs found.entries) ((p.actor, more.0) ∷ []) f.sees.began))

  origin_put : (left : Run) → Steps p.actor found left → origin_of found ≡ origin_of left
  origin_put left (inl kept) = ap (λ (r : Run). origin_of r) (sym kept)
  origin_put left (inr more) = ap (λ (r : Run). origin_of r) (sym more.1)

  put_holds : (left : Run) (Acts : Run → Run → Type 0) → Steps p.actor found left → Legal left.script left.workers (past left) → Acts found left → Holding p (put_of e left) Acts
  put_holds left Acts steps legal acts = record {
    found = found;
    left = left;
    same = record { lock = f.lock; actor = f.actor; stem = f.stem; most = f.most; taken = f.taken; seen = seen_put left steps };
    sees = f.sees;
    stands = record {
      seen = refl;
      stem = f.stem ∙ (f.sees.origin ∙ ap (λ (o : Origin). Some o) (origin_put left steps));
      mine = mine_put left steps ∙ ap (λ (a : ℕ). entries_by a (pairs left.entries)) (sym f.actor);
      legal = legal;
    };
    acts = acts;
  }

-- a pass that found a run and put another back has taken the turn once
pub holds : (p e q : Seat) (found left : Run) (Acts : Run → Run → Type 0) → Finds p e found → Steps p.actor found left → Puts e left q → Acts found left → Holding p q Acts
holds p e q found left Acts f steps puts acts = subst (λ (z : Seat). Holding p z Acts) (sym puts.pass) (put_holds p e found f left Acts steps puts.legal acts)

-- ---- what one holding tells

pub some_same : {X : Type 0} (x y : X) → Some x ≡ Some y → x ≡ y
some_same x y e = cc

-- taken once, and once more
pub same_since : (p q r : Seat) → SamePass p q → SamePass q r → SamePass p r
same_since p q r a b = let first = a.taken in let second = b.taken in record {
  lock = b.lock ∙ a.lock;
  actor = b.actor ∙ a.actor;
  stem = b.stem ∙ a.stem;
  most = b.most ∙ a.most;
  taken = omega (arith, first, second);
  seen = (a.seen.0 ++ b.seen.0, sym (append_assoc p.seen a.seen.0 b.seen.0) ∙ (ap (λ (xs : List (ℕ × Event)). xs ++ b.seen.0) a.seen.1 ∙ b.seen.1));
}

module _ (p q : Seat) (Acts : Run → Run → Type 0) (hold : Holding p q Acts) where
  -- where it has entered nothing, the pass has what it had
  pub mine_kept : hold.left ≡ hold.found → q.mine ≡ p.mine
  mine_kept is =
      hold.stands.mine
      ∙ (ap (λ (a : ℕ). entries_by a q.seen) hold.same.actor ∙ (ap (λ (xs : List (ℕ × Event)). entries_by p.actor xs) (hold.stands.seen ∙ ap (λ (r : Run). pairs r.entries) is) ∙ hold.sees.own))

  seen_more : (e : Event) → hold.left ≡ with_entry hold.found p.actor e → q.seen ≡ pairs hold.found.entries ++ (p.actor, e) ∷ []
  seen_more e is = hold.stands.seen ∙ (ap (λ (r : Run). pairs r.entries) is ∙ pairs_more hold.found.entries (entry p.actor e ∷ []))

  -- where it has entered an event, that is the last it has
  pub mine_more : (e : Event) → hold.left ≡ with_entry hold.found p.actor e → q.mine ≡ p.mine ++ (q.actor, e) ∷ []
  mine_more e is =
      hold.stands.mine
      ∙ (ap (λ (a : ℕ). entries_by a q.seen) hold.same.actor
      ∙ (ap (λ (xs : List (ℕ × Event)). entries_by p.actor xs) (seen_more e is)
      ∙ (own_here p.actor e (pairs hold.found.entries)
      ∙ (ap (λ (xs : List (ℕ × Event)). xs ++ (p.actor, e) ∷ []) hold.sees.own ∙ ap (λ (a : ℕ). p.mine ++ (a, e) ∷ []) (sym hold.same.actor)))))

  pub entered_last : (e : Event) → hold.left ≡ with_entry hold.found p.actor e → has_ended (past hold.found) ≡ false → EnteredLast q
  entered_last e is going = record {
    before = pairs hold.found.entries;
    event = e;
    seen = seen_more e is ∙ ap (λ (a : ℕ). pairs hold.found.entries ++ (a, e) ∷ []) (sym hold.same.actor);
    going = ap (λ (h : List Entry). has_ended h) (past_pairs hold.found.entries) ∙ going;
  }

  -- and where that is no giving up, it is the one event since
  pub entered_one : (e : Event) → hold.left ≡ with_entry hold.found p.actor e → has_ended (past hold.found) ≡ false → is_stop e ≡ false → EnteredOne p q
  unfolding entered_last
  entered_one e is going stays = record { last = entered_last e is going; mine = mine_more e is; stays = stays }

  -- what it has seen last is the run that it left
  pub past_left : past_of q.seen ≡ past hold.left
  past_left = ap (λ (xs : List (ℕ × Event)). past_of xs) hold.stands.seen ∙ past_pairs hold.left.entries

  -- it is of the run that another holding before has left
  pub same_origin : (r : Run) → HasSeenRun p r → origin_of hold.left ≡ origin_of r
  same_origin r stands = some_same (origin_of hold.left) (origin_of r) (sym hold.stands.stem ∙ (hold.same.stem ∙ stands.stem))

-- ---- what is put back has the stem, and the history or one event more

origin_kept : (a : ℕ) (found left : Run) → Steps a found left → origin_of found ≡ origin_of left
origin_kept a found left (inl kept) = ap (λ (r : Run). origin_of r) (sym kept)
origin_kept a found left (inr more) = ap (λ (r : Run). origin_of r) (sym more.1)

pub put_stem : (e : Seat) (left : Run) → CanPut e left → e.stem ≡ Some (origin_of left)
put_stem e left can = can.stem ∙ ap (λ (o : Origin). Some o) (origin_kept e.actor can.found left can.steps)

pub put_history : (e : Seat) (left : Run) → CanPut e left → (pairs left.entries ≡ e.seen) ⊎ ((ev : Event) × (pairs left.entries ≡ e.seen ++ (e.actor, ev) ∷ []))
put_history e left can = by_steps can.steps
  where
    by_steps : Steps e.actor can.found left → (pairs left.entries ≡ e.seen) ⊎ ((ev : Event) × (pairs left.entries ≡ e.seen ++ (e.actor, ev) ∷ []))
    by_steps (inl kept) = inl (ap (λ (r : Run). pairs r.entries) kept ∙ sym can.seen)
    by_steps (inr more) =
        inr (more.0, ap (λ (r : Run). pairs r.entries) more.1 ∙ (pairs_more can.found.entries (entry e.actor more.0 ∷ []) ∙ ap (λ (xs : List (ℕ × Event)). xs ++ (e.actor, more.0) ∷ []) (sym can.seen)))
