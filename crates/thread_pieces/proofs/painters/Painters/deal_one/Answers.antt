-- The hand has a piece more.
use Rattle.thread_pieces.proofs.Dealing.{piece_dealt}
use Rattle.thread_pieces.proofs.painters.Painters.deal_one.Goals as goal

pub returns-clause-due : goal.returns-clause-due
returns-clause-due g c =
    piece_dealt c.args.self.now.hands.items c.next_hand.new.self.hands.items c.push-2.new.self.items c.in_ok-hand.hand _ c.args.shot
    c.in_ok-hand.ensures.due c.in_ok-push.ensures.items c.in_ok-push-2.ensures.items
