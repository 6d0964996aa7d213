-- What the first hand and the others are to paint is what all are.
use Rattle.std.proofs.Common.{[], ap, sym, ◌∙◌, rules}
use Rattle.thread_pieces.specs.Shots.{due_of}
use Rattle.thread_pieces.proofs.Parts.{first_and_rest, none_joined, one_joined}
use Rattle.thread_pieces.proofs.PutSteps.{puts_as, puts_none}
use Rattle.thread_pieces.proofs.hands.put_hands.Goals as goal

pub returns-in-len1-up : goal.returns-in-len1-up
returns-in-len1-up g c = puts_as g.K.Sink _ _ _ _ _ (first_and_rest due_of c.args.hands.now c.result-item.result (search rules) c.result-item.is) c.put_beside.ensures

pub returns-in-empty : goal.returns-in-empty
returns-in-empty g c = puts_as g.K.Sink _ _ [] _ _ (sym (none_joined due_of c.args.hands.now c.in-empty.len_below)) (puts_none g.K.Sink c.args.out.now)

pub returns-in-len1 : goal.returns-in-len1
returns-in-len1 g c =
    let hand = c.index-hands-0 in
    puts_as g.K.Sink _ _ _ _ _ (ap due_of (sym hand.is) ∙ one_joined due_of c.args.hands.now hand.result c.in-len1.len_at_least c.in-len1.len_below hand.is) c.put_due.ensures
