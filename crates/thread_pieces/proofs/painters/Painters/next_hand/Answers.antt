-- The hand, beside the others, has what all had to paint.
use Rattle.std.proofs.Common.{append-nil, ap, sym, ◌∙◌}
use Rattle.thread_pieces.proofs.Dealing.{free_beside, last_taken}
use Rattle.thread_pieces.proofs.painters.Painters.next_hand.Goals as goal

pub returns-then-not-has_room-clause-due : goal.returns-then-not-has_room-clause-due
returns-then-not-has_room-clause-due g c =
    free_beside c.args.self.now.hands.items c.free_hand.new.self.hands.items c.free_hand.result
    (ap (λ hands. hands.items) c.free_hand.ensures.others) c.free_hand.ensures.free

pub returns-in-Some-pop-clause-due : goal.returns-in-Some-pop-clause-due
returns-in-Some-pop-clause-due g c = last_taken c.args.self.now.hands.items c.pop.new.self.items c.in-Some-pop.hand c.in-Some-pop.ensures.items

pub returns-in-None-pop-clause-due : goal.returns-in-None-pop-clause-due
returns-in-None-pop-clause-due g c =
    free_beside c.args.self.now.hands.items c.free_hand-in-None-pop.new.self.hands.items c.free_hand-in-None-pop.result
    (ap (λ hands. hands.items) c.free_hand-in-None-pop.ensures.others ∙ sym (c.in-None-pop.ensures.items ∙ append-nil c.pop.new.self.items))
    c.free_hand-in-None-pop.ensures.free
