-- What was taken is the batch.
use Rattle.std.proofs.Common.{◌≡◌, ◌-◌, ◌++◌, length}
use Rattle.thread_pieces.specs.Shots.{all_shown}
use Rattle.thread_pieces.specs.Ring.{SamePresenter, bytes_taken}
use Rattle.thread_pieces.proofs.ends.Presenter.take_batch.Given as goal

abbrev pub invariant-loop-batch : goal.invariant-loop-batch
invariant-loop-batch l = record {
  ring : SamePresenter l.fn.self l.self;
  bytes : bytes_taken l.self ≡ bytes_taken l.fn.self ++ all_shown l.batch.items;
}

abbrev pub decreases-loop-batch : goal.decreases-loop-batch
decreases-loop-batch l = l.most - length l.batch.items
