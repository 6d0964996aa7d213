-- Pieces that are dealt among hands.
use Rattle.std.proofs.Common.{◌≡◌, List, [], ◌∷◌, ◌++◌, append-nil, append_assoc, ap, sym, ◌∙◌}
use Rattle.std.specs.Prelude.{Result, Ok, Err, IfOk}
use Rattle.thread_pieces.specs.declared.hands.Hand.{Hand}
use Rattle.thread_pieces.specs.declared.shot.Shot.{Shot}
use Rattle.thread_pieces.specs.Shots.{all_due, all_shown, due_of, shown}
use Rattle.thread_pieces.proofs.Parts.{one_more}

-- a hand with nothing to do, beside the hands that there were
pub free_beside : {P E : Type 0} (old new : List (Hand P)) (got : Result (Hand P) E) → new ≡ old → IfOk got (λ hand. due_of hand ≡ [])
    → IfOk got (λ hand. all_due new ++ due_of hand ≡ all_due old)
free_beside {P = P} old new (Ok hand) same free =
    ap (λ (hands : List (Hand P)). all_due hands ++ due_of hand) same ∙ ap (λ due. all_due old ++ due) free ∙ append-nil (all_due old)
free_beside old new (Err e) same free = tt

-- the last hand, taken from the others
pub last_taken : {P : Type 0} (old new : List (Hand P)) (hand : Hand P) → old ≡ new ++ hand ∷ [] → all_due new ++ due_of hand ≡ all_due old
last_taken old new hand taken = sym (ap all_due taken ∙ one_more due_of new hand)

-- a hand that was taken from the others gets a piece more, and goes back
pub piece_dealt : {P : Type 0} (old others new : List (Hand P)) (before after : Hand P) (shot : Shot) → all_due others ++ due_of before ≡ all_due old
    → after.due.items ≡ before.due.items ++ shot ∷ [] → new ≡ others ++ after ∷ [] → all_due new ≡ all_due old ++ shown shot
piece_dealt old others new before after shot taken more back =
    ap all_due back ∙ one_more due_of others after
    ∙ ap (λ due. all_due others ++ due) (ap all_shown more ∙ one_more shown before.due.items shot)
    ∙ sym (append_assoc (all_due others) (due_of before) (shown shot))
    ∙ ap (λ due. due ++ shown shot) taken
