-- Activated values are within the bounds of every step.
use Rattle.std.proofs.Common.{ℕ, ℤ, ◌*◌, ◌-◌, ◌^◌, ◌<◌, ◌+ℤ◌, ◌-ℤ◌, List, arith}
use Rattle.std.proofs.lemmas.Int.{ints}
use Rattle.model_states.specs.declared.Synced.{Synced}
use Rattle.model_states.specs.Table.{activated, active_value}
use Rattle.model_states.specs.Bounds.{IsBoundedNumber, IsBounded}
use Rattle.page_layers.specs.Axes.{Axis}
use Rattle.model_history.specs.declared.history.Entry.{Entry}
use Rattle.model_history.specs.Scripts.{ScriptModel}
use Rattle.model_history.specs.EventFields.{sends}
use Rattle.model_history.specs.Scans.{counted}
use Rattle.model_history.specs.Values.{values}
use Rattle.model_history.specs.Accepted.{IsPlayable}
use Rattle.model_history.specs.Legal.{Legal}
use Rattle.model_history.proofs.Bounds.{Within, IsPlace, NearOf, near, offset_place, base_place, values_bounded}
use Rattle.model_history.proofs.RangeBounds.{sent_few}
use Rattle.model_history.proofs.ValueSums.{sums}
use Rattle.model_history.proofs.Offsets.{offset_is_value}
use Rattle.std.proofs.Common.{subst}

-- what of the delta is not in the pending base
rest_bounded : (b d pb p : ℤ) (t : ℕ) → t < 2 ^ 32 → IsPlace (b +ℤ d) → IsPlace pb → Within 1048576 (b -ℤ pb) → Within (2097152 * t) p → IsBoundedNumber (d -ℤ p)
rest_bounded b d pb p t l o q n w = record {
  above = omega (arith, ints, l, o.low, o.high, q.low, q.high, n.low, n.high, w.low, w.high);
  below = omega (arith, ints, l, o.low, o.high, q.low, q.high, n.low, n.high, w.low, w.high);
}

pub activated_bounded : (s : ScriptModel) (n : ℕ) (h : List Entry) (sc : ℕ) (ax : Axis) → IsPlayable s → Legal s n h → IsBounded (activated (values s sc ax h))
activated_bounded s n h sc ax acc l =
    let v : Synced = values s sc ax h in
    let old : IsBounded v = values_bounded s n h sc ax acc l in
    let r : NearOf v (counted sends h) = near s n sc ax h acc l in
    let few = acc.few_frames in
    let total = sent_few s n h l in
    let o : IsPlace (active_value v) = subst IsPlace (offset_is_value s h sc ax (sums s n sc ax h l)) (offset_place s n h sc ax acc l) in
    record {
      active_base = old.pending_base;
      active_delta = rest_bounded v.active_base v.active_delta v.pending_base v.reflected_pending (counted sends h) (omega arith) o (base_place s n h sc ax acc l) r.near r.waiting;
      pending_base = old.pending_base;
      reflected_main = old.reflected_main;
      reflected_pending = record { above = omega (arith, ints); below = omega (arith, ints) };
    }
