-- The image comes where it is live; else its key goes.
use Rattle.std.proofs.Common.{◌≡◌, true, false, sym, ap, ◌∙◌, subst}
use Rattle.std.specs.FinMap as fin
use Rattle.std.specs.FinSet as set
use Rattle.impl_tiles.specs.Stores.{Store, done_with, is_in_flight}
use Rattle.impl_tiles.specs.inner.Rows.{ready_of, flying_of}
use Rattle.impl_tiles.proofs.Parts.{contains_flying}
use Rattle.impl_tiles.proofs.StoreSteps.{held_in_flight, done_ready, done_flying, dropped_ready, dropped_flying}
use Rattle.impl_tiles.proofs.store.TileStore.done.Goals as goal

pub set-requires : goal.set-requires
set-requires c =
    let m = c.self.inside.table.held in
    let key = c.args.image.value.key in
    let flying = subst (λ s. is_in_flight s key ≡ true) (sym c.self.view_is) c.requires in
    held_in_flight (fin.get m key) (sym (contains_flying m key) ∙ flying)

pub returns-then-live-clause-store : goal.returns-then-live-clause-store
returns-then-live-clause-store c =
    let m = c.self.inside.table.held in
    let image = c.args.image.value in
    let spare = c.set.new.self.spare in
    let ready = ap ready_of c.set.ensures.held ∙ done_ready m image.key image in
    let flying = ap flying_of c.set.ensures.held ∙ done_flying m image.key image in
    let made : ◌≡◌ {A = Store} (record { ready = ready_of c.set.new.self.held; in_flight = flying_of c.set.new.self.held; spare = spare })
    (record { ready = fin.insert (ready_of m) image.key image; in_flight = set.remove (flying_of m) image.key; spare = spare })
    = λ i. record { ready = ready i; in_flight = flying i; spare = spare } in
    made ∙ ap (λ s. done_with s image true spare) c.self.view_is ∙ ap (λ b. done_with c.args.self.now image b spare) (sym c.if-live.true)

pub returns-else-live-clause-store : goal.returns-else-live-clause-store
returns-else-live-clause-store c =
    let m = c.self.inside.table.held in
    let image = c.args.image.value in
    let spare = c.remove.new.self.spare in
    let key : c.key.result ≡ image.key = c.key.ensures ∙ ap (λ i. i.key) c.deref.ensures in
    let held = c.remove.ensures.held ∙ ap (fin.remove m) key in
    let flies = sym (contains_flying m image.key) ∙ subst (λ s. is_in_flight s image.key ≡ true) (sym c.self.view_is) c.requires in
    let ready = ap ready_of held ∙ dropped_ready m image.key flies in
    let flying = ap flying_of held ∙ dropped_flying m image.key in
    let made : ◌≡◌ {A = Store} (record { ready = ready_of c.remove.new.self.held; in_flight = flying_of c.remove.new.self.held; spare = spare })
    (record { ready = ready_of m; in_flight = set.remove (flying_of m) image.key; spare = spare })
    = λ i. record { ready = ready i; in_flight = flying i; spare = spare } in
    made ∙ ap (λ s. done_with s image false spare) c.self.view_is ∙ ap (λ b. done_with c.args.self.now image b spare) (sym c.if-live.false)
