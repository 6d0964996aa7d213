use Rattle.std.proofs.Common.{◌≡◌, ◌++◌, map, vec_len}
use Rattle.std.specs.List.{All}
use Rattle.thread_lock.specs.PassModels.{old_of}
use Rattle.thread_lock.proofs.close.join_all.Given as goal

abbrev pub invariant-loop-pass : goal.invariant-loop-pass
invariant-loop-pass g l = record {
  table : (l.place.table_id ≡ l.fn.place.table_id) × (l.place.id ≡ l.fn.place.id) × (l.place.me.1 ≡ l.fn.place.me.1);
  passes : All (λ pass. pass.lock ≡ l.table.shared.table_id) l.passes.items;
  olds : map old_of l.passes.items ++ l.place.me.0.olds ≡ map old_of l.fn.passes.items ++ l.fn.place.me.0.olds;
  took : l.place.me.0 ≡ record l.fn.place.me.0 { known = l.place.me.0.known; olds = l.place.me.0.olds };
}

abbrev pub decreases-loop-pass : goal.decreases-loop-pass
decreases-loop-pass g l = vec_len l.passes
