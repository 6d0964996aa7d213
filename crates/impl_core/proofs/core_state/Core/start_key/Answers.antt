-- The next key is started, with what is evicted for it.
use Rattle.std.proofs.Common.{◌≡◌, ℕ, ◌+◌, ◌<◌, ◌∷◌, List, None, Some, refl, sym, ◌∙◌, subst, arith}
use Rattle.geom.specs.declared.tile.TileKey.{TileKey}
use Rattle.model_states.specs.declared.kind.Kind.TheVariants as kind
use Rattle.model_history.specs.declared.event.Event.TheVariants as event
use Rattle.model_history.specs.Scans.{held}
use Rattle.model_history.specs.Legal.{Legal}
use Rattle.model_history.specs.Scripts.{ScriptModel}
use Rattle.model_steps.specs.Events.{start}
use Rattle.impl_tiles.specs.Managers.{Manages, TellsNext}
use Rattle.impl_log.specs.Runs.{Run, past, now, with_entry}
use Rattle.impl_core.specs.Replies.{next_key, StartsKey}
use Rattle.impl_core.specs.inner.Outlooks.{LooksNow}
use Rattle.impl_core.specs.declared.drawn.Drawn.TheVariants as drawn
use Rattle.impl_core.specs.declared.needs.Needs.{Needs}
use Rattle.impl_core.specs.inner.Cores.{IsCore}
use Rattle.impl_core.proofs.CoreSteps.{with_tiles, start_core, one_more, refused}
use Rattle.impl_core.proofs.MayCome.{IsFirst, next_first, start_now, comes_next}
use Rattle.impl_core.proofs.core_state.Core.start_key.Goals as goal

pub look_for_next-requires : goal.look_for_next-requires
look_for_next-requires c =
    let r : Run = c.self.inside.log in
    subst (λ (s : ScriptModel). LooksNow s c.self.inside.host) (sym c.plan.ensures) (record { past = past r; hosts = c.self.invariant.host })

pub invariant_of-self : goal.invariant_of-self
invariant_of-self c =
    let r : Run = c.self.inside.log in
    with_tiles r.script (past r) (record { host = c.self.inside.host; tiles = c.self.inside.tiles; told = c.self.inside.told; prepared = c.self.inside.prepared; required = c.self.inside.required; drawn = c.self.inside.drawn }) c.look_for_next.new.tiles c.self.invariant
    (c.look_for_next.ensures.same r.script r.workers (past r) c.plan.ensures c.is_legal.ensures.legal c.self.invariant.host c.self.invariant.tiles)

pub invariant_of-self-in_err-evicted : goal.invariant_of-self-in_err-evicted
invariant_of-self-in_err-evicted c =
    let r : Run = c.self.inside.log in
    with_tiles r.script (past r) (record { host = c.self.inside.host; tiles = c.self.inside.tiles; told = c.self.inside.told; prepared = c.self.inside.prepared; required = c.self.inside.required; drawn = c.self.inside.drawn }) c.look_for_next.new.tiles c.self.invariant
    (c.look_for_next.ensures.same r.script r.workers (past r) c.plan.ensures c.is_legal.ensures.legal c.self.invariant.host c.self.invariant.tiles)

pub invariant_of-self-in_err-evicted_keys : goal.invariant_of-self-in_err-evicted_keys
invariant_of-self-in_err-evicted_keys c =
    let r : Run = c.self.inside.log in
    with_tiles r.script (past r) (record { host = c.self.inside.host; tiles = c.self.inside.tiles; told = c.self.inside.told; prepared = c.self.inside.prepared; required = c.self.inside.required; drawn = c.self.inside.drawn }) c.look_for_next.new.tiles c.self.invariant
    (c.look_for_next.ensures.same r.script r.workers (past r) c.plan.ensures c.is_legal.ensures.legal c.self.invariant.host c.self.invariant.tiles)

pub invariant_of-self-in_err-reserve : goal.invariant_of-self-in_err-reserve
invariant_of-self-in_err-reserve c =
    let r : Run = c.self.inside.log in
    with_tiles r.script (past r) (record { host = c.self.inside.host; tiles = c.self.inside.tiles; told = c.self.inside.told; prepared = c.self.inside.prepared; required = c.self.inside.required; drawn = c.self.inside.drawn }) c.reserve.new.self c.self.invariant
    (c.reserve.ensures.same r.script (past r) (c.look_for_next.ensures.same r.script r.workers (past r) c.plan.ensures c.is_legal.ensures.legal c.self.invariant.host c.self.invariant.tiles))

pub invariant_of-self-in_err-enter : goal.invariant_of-self-in_err-enter
invariant_of-self-in_err-enter c =
    let r : Run = c.self.inside.log in
    refused (record { host = c.self.inside.host; tiles = c.reserve.new.self; told = c.self.inside.told; prepared = c.self.inside.prepared; required = c.self.inside.required; drawn = c.self.inside.drawn }) r c.enter.new.self c.in_err-enter.ensures.err
    (with_tiles r.script (past r) (record { host = c.self.inside.host; tiles = c.self.inside.tiles; told = c.self.inside.told; prepared = c.self.inside.prepared; required = c.self.inside.required; drawn = c.self.inside.drawn }) c.reserve.new.self c.self.invariant (c.reserve.ensures.same r.script (past r) (c.look_for_next.ensures.same r.script r.workers (past r) c.plan.ensures c.is_legal.ensures.legal c.self.invariant.host c.self.invariant.tiles)))

pub enter-requires-clause-is_now : goal.enter-requires-clause-is_now
enter-requires-clause-is_now c =
    let r : Run = c.self.inside.log in
    let w : ℕ = c.args.worker in
    let q : TileKey = c.args.key in
    let ks : List TileKey = c.in_ok-evicted.evicted in
    let free : held w (past r) ≡ None = subst (λ (z : Run). held w (past z) ≡ None) (sym c.self.view_is) c.requires.free in
    let first : IsFirst r.script (past r) q = next_first r.script (past r) q (subst (λ (z : Run). next_key z ≡ Some q) (sym c.self.view_is) c.requires.next) in
    let gone = c.in_ok-evicted.ensures r.script r.workers (past r) first.rank c.is_legal.ensures.legal (c.look_for_next.ensures.same r.script r.workers (past r) c.plan.ensures c.is_legal.ensures.legal c.self.invariant.host c.self.invariant.tiles) first.is_first first.key in
    let may_come : now r kind.Start (2 + w) ≡ Some (event.Start w q ks) = start_now r.script (past r) first.going w free first.rank first.is_first q first.key ks gone in
    subst (λ (z : List TileKey). now r kind.Start (2 + w) ≡ Some (event.Start w q z)) (sym c.in_ok-evicted_keys.ensures) may_come

pub start-requires-clause-told : goal.start-requires-clause-told
start-requires-clause-told c = subst TellsNext (sym c.reserve.ensures.outlook) c.in_ok-look_for_next.ensures.told

pub start-requires-clause-next : goal.start-requires-clause-next
start-requires-clause-next c =
    let r : Run = c.self.inside.log in
    let w : ℕ = c.args.worker in
    let q : TileKey = c.args.key in
    let ks : List TileKey = c.in_ok-evicted.evicted in
    let free : held w (past r) ≡ None = subst (λ (z : Run). held w (past z) ≡ None) (sym c.self.view_is) c.requires.free in
    let first : IsFirst r.script (past r) q = next_first r.script (past r) q (subst (λ (z : Run). next_key z ≡ Some q) (sym c.self.view_is) c.requires.next) in
    let within : w < r.workers = subst (λ (z : Run). w < z.workers) (sym c.self.view_is) c.requires.worker in
    let gone = c.in_ok-evicted.ensures r.script r.workers (past r) first.rank c.is_legal.ensures.legal (c.look_for_next.ensures.same r.script r.workers (past r) c.plan.ensures c.is_legal.ensures.legal c.self.invariant.host c.self.invariant.tiles) first.is_first first.key in
    record {
      script = r.script;
      workers = r.workers;
      past = past r;
      actor = 2 + w;
      worker = w;
      manages = c.reserve.ensures.same r.script (past r) (c.look_for_next.ensures.same r.script r.workers (past r) c.plan.ensures c.is_legal.ensures.legal c.self.invariant.host c.self.invariant.tiles);
      legal =
          comes_next r.script r.workers (past r) (2 + w) (event.Start w q ks) c.is_legal.ensures.legal (start_now r.script (past r) first.going w free first.rank first.is_first q first.key ks gone) refl (omega (arith, within));
    }

pub invariant_of-self-2 : goal.invariant_of-self-2
invariant_of-self-2 c =
    let r : Run = c.self.inside.log in
    let w : ℕ = c.args.worker in
    let q : TileKey = c.args.key in
    let ks : List TileKey = c.in_ok-evicted.evicted in
    let free : held w (past r) ≡ None = subst (λ (z : Run). held w (past z) ≡ None) (sym c.self.view_is) c.requires.free in
    let first : IsFirst r.script (past r) q = next_first r.script (past r) q (subst (λ (z : Run). next_key z ≡ Some q) (sym c.self.view_is) c.requires.next) in
    let within : w < r.workers = subst (λ (z : Run). w < z.workers) (sym c.self.view_is) c.requires.worker in
    let gone = c.in_ok-evicted.ensures r.script r.workers (past r) first.rank c.is_legal.ensures.legal (c.look_for_next.ensures.same r.script r.workers (past r) c.plan.ensures c.is_legal.ensures.legal c.self.invariant.host c.self.invariant.tiles) first.is_first first.key in
    let legal : Legal r.script r.workers (start (2 + w) w q ks ∷ past r) =
    comes_next r.script r.workers (past r) (2 + w) (event.Start w q ks) c.is_legal.ensures.legal (start_now r.script (past r) first.going w free first.rank first.is_first q first.key ks gone) refl (omega (arith, within)) in
    let started : Manages r.script (start (2 + w) w q ks ∷ past r) c.start.new.self =
    c.start.ensures.tiles r.script r.workers (past r) (2 + w) w (c.reserve.ensures.same r.script (past r) (c.look_for_next.ensures.same r.script r.workers (past r) c.plan.ensures c.is_legal.ensures.legal c.self.invariant.host c.self.invariant.tiles)) legal in
    let entered : c.enter.new.self ≡ with_entry r (2 + w) (event.Start w q ks) =
    subst (λ (z : List TileKey). c.enter.new.self ≡ with_entry r (2 + w) (event.Start w q z)) c.in_ok-evicted_keys.ensures c.in_ok-enter.ensures.ok in
    one_more (record { host = c.self.inside.host; tiles = c.start.new.self; told = c.self.inside.told; prepared = c.self.inside.prepared; required = c.evict.new.self; drawn = drawn.Nothing }) r c.enter.new.self (2 + w) (event.Start w q ks) entered
    (subst (λ (n : Needs). IsCore r.script (start (2 + w) w q ks ∷ past r) (record { host = c.self.inside.host; tiles = c.start.new.self; told = c.self.inside.told; prepared = c.self.inside.prepared; required = n; drawn = drawn.Nothing })) (sym c.evict.ensures)
    (start_core r.script (past r) (2 + w) w q ks (record { host = c.self.inside.host; tiles = c.self.inside.tiles; told = c.self.inside.told; prepared = c.self.inside.prepared; required = c.self.inside.required; drawn = c.self.inside.drawn }) c.start.new.self c.self.invariant started))

pub returns-clause-ok : goal.returns-clause-ok
returns-clause-ok c =
    let r : Run = c.self.inside.log in
    let w : ℕ = c.args.worker in
    let q : TileKey = c.args.key in
    let ks : List TileKey = c.in_ok-evicted.evicted in
    let free : held w (past r) ≡ None = subst (λ (z : Run). held w (past z) ≡ None) (sym c.self.view_is) c.requires.free in
    let first : IsFirst r.script (past r) q = next_first r.script (past r) q (subst (λ (z : Run). next_key z ≡ Some q) (sym c.self.view_is) c.requires.next) in
    let gone = c.in_ok-evicted.ensures r.script r.workers (past r) first.rank c.is_legal.ensures.legal (c.look_for_next.ensures.same r.script r.workers (past r) c.plan.ensures c.is_legal.ensures.legal c.self.invariant.host c.self.invariant.tiles) first.is_first first.key in
    let may_come : now r kind.Start (2 + w) ≡ Some (event.Start w q ks) = start_now r.script (past r) first.going w free first.rank first.is_first q first.key ks gone in
    let entered : c.enter.new.self ≡ with_entry r (2 + w) (event.Start w q ks) =
    subst (λ (z : List TileKey). c.enter.new.self ≡ with_entry r (2 + w) (event.Start w q z)) c.in_ok-evicted_keys.ensures c.in_ok-enter.ensures.ok in
    let next : next_key r ≡ Some q = subst (λ (z : Run). next_key z ≡ Some q) (sym c.self.view_is) c.requires.next in
    subst (λ (z : Run). StartsKey z w q c.enter.new.self) c.self.view_is (record { evicted = ks; is_next = next; is_now = may_come; is_entered = entered })
