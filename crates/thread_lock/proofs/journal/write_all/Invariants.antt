use Rattle.std.proofs.Common.{◌≡◌, ◌++◌, take}
use Rattle.thread_lock.specs.Journals.{notes_of}
use Rattle.thread_lock.proofs.journal.write_all.Given as goal

abbrev pub invariant-loop-number : goal.invariant-loop-number
invariant-loop-number g l = record {
  same : (l.pass.lock ≡ l.fn.pass.lock) × (l.pass.actor ≡ l.fn.pass.actor) × (l.pass.stem ≡ l.fn.pass.stem) × (l.pass.most ≡ l.fn.pass.most);
  wrote : l.pass.mine ≡ l.fn.pass.mine ++ notes_of l.fn.pass.actor (take l.number-index l.numbers);
}
