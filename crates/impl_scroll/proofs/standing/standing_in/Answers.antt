-- The rows have the values of the run, and the pages are its pages.
use Rattle.std.specs.Prelude.{option_copied}
use Rattle.impl_scroll.proofs.Amounts.{bounded}
use Rattle.impl_scroll.proofs.PagePlaces.{active_in_range, pending_range, stand_in}
use Rattle.impl_scroll.proofs.standing.standing_in.Goals as goal

pub active_offsets-requires-clause-bounded : goal.active_offsets-requires-clause-bounded
active_offsets-requires-clause-bounded c = let r = c.requires in bounded r.script r.workers r.past c.args.rows r.playable r.legal r.rows

pub active_offsets-requires-clause-in_range : goal.active_offsets-requires-clause-in_range
active_offsets-requires-clause-in_range c =
    let r = c.requires in
    active_in_range r.script r.workers r.past c.args.rows r.legal r.rows (option_copied c.args.pages.active) r.playable r.pages.active

pub pending_offsets-requires-clause-bounded : goal.pending_offsets-requires-clause-bounded
pending_offsets-requires-clause-bounded c = let r = c.requires in bounded r.script r.workers r.past c.args.rows r.playable r.legal r.rows

pub pending_offsets-requires-clause-in_range : goal.pending_offsets-requires-clause-in_range
pending_offsets-requires-clause-in_range c =
    let r = c.requires in
    pending_range r.script r.workers r.past c.args.rows r.legal r.rows c.args.pages.outright.now r.pages.outright (option_copied c.args.pages.pending) r.playable r.pages.pending

pub returns : goal.returns
returns c = λ s n h legal is are.
    stand_in s n h c.args.pages (record { rows = c.args.rows; active = c.in_ok-active.active; pending = c.in_ok-pending.pending }) legal is are c.in_ok-active.ensures.value c.in_ok-pending.ensures.value
