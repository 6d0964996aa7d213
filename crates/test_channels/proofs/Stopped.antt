-- What a pass tells after the stop of its actor.
use Rattle.std.proofs.Common.{◌≡◌, ℕ, List, [], ◌∷◌, ◌++◌, None, sym, ◌∙◌, ap}
use Rattle.thread_lock.specs.Lists.{gained}
use Rattle.model_history.specs.declared.event.Event.{Event}
use Rattle.model_history.specs.declared.event.Event.TheVariants as event
use Rattle.model_history.specs.Scans.{held}
use Rattle.model_history.proofs.DueFacts.{entry}
use Rattle.impl_log.specs.Runs.{Run, with_entry}
use Rattle.proxy_threads.specs.Seats.{Seat, pairs, past_of}
use Rattle.proxy_threads.proofs.Holds.{pairs_more, drop_front}

-- it has one entry more, the stop
pub seen_stopped : (seen : List (ℕ × Event)) (actor : ℕ) (old new : Run) → pairs old.entries ≡ seen → actor ≡ 2 → new ≡ with_entry old 2 (event.Stop 2) → pairs new.entries ≡ seen ++ (actor, event.Stop 2) ∷ []
seen_stopped seen actor old new is number stopped =
    ap (λ (r : Run). pairs r.entries) stopped
    ∙ (pairs_more old.entries (entry 2 (event.Stop 2) ∷ [])
    ∙ (ap (λ (xs : List (ℕ × Event)). xs ++ (2, event.Stop 2) ∷ []) is ∙ ap (λ (a : ℕ). seen ++ (a, event.Stop 2) ∷ []) (sym number)))

-- it holds no tile
pub free_stopped : (e q : Seat) (new : Run) → e.mine ≡ [] → pairs new.entries ≡ e.seen ++ (e.actor, event.Stop 2) ∷ [] → q ≡ record e { seen = pairs new.entries; mine = e.mine ++ gained e.seen (pairs new.entries) } → held 0 (past_of q.mine) ≡ None
free_stopped e q new fresh more put =
    ap (λ (z : Seat). held 0 (past_of z.mine)) put
    ∙ (ap (λ (xs : List (ℕ × Event)). held 0 (past_of (xs ++ gained e.seen (pairs new.entries)))) fresh
    ∙ (ap (λ (xs : List (ℕ × Event)). held 0 (past_of (gained e.seen xs))) more
    ∙ ap (λ (xs : List (ℕ × Event)). held 0 (past_of xs)) (drop_front e.seen ((e.actor, event.Stop 2) ∷ []))))
