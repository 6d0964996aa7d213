-- The moves are added to the values, and both pages stay.
use Rattle.std.proofs.Common.{◌∷◌}
use Rattle.page_layers.proofs.KeptPages.{weaken}
use Rattle.impl_scroll.proofs.Amounts.{bounded, moves_bounded}
use Rattle.impl_scroll.proofs.PagePlaces.{copied_values}
use Rattle.impl_scroll.proofs.AfterEvents.{moved_values, moved_pages}
use Rattle.impl_scroll.proofs.standing.Standing.moved.Goals as goal

pub add-requires-clause-bounded : goal.add-requires-clause-bounded
add-requires-clause-bounded c =
    let r = c.requires in
    bounded r.script r.workers r.past c.in_ok-rows.rows r.playable r.legal.0 (copied_values r.script r.past _ _ c.in_ok-rows.rows c.self.view_is c.in_ok-rows.ensures r.stands)

pub add-requires-clause-amounts : goal.add-requires-clause-amounts
add-requires-clause-amounts c = let r = c.requires in moves_bounded r.script r.workers r.past r.entry c.args.moves.now r.playable r.legal r.moves

pub standing_in-requires : goal.standing_in-requires
standing_in-requires c =
    let r = c.requires in
    record {
      script = r.script;
      workers = r.workers;
      past = r.entry ∷ r.past;
      playable = r.playable;
      legal = r.legal;
      rows = moved_values r.script r.past r.entry c.args.moves.now c.in_ok-rows.rows c.add.new.self r.scroll r.moves (copied_values r.script r.past _ _ c.in_ok-rows.rows c.self.view_is c.in_ok-rows.ensures r.stands) c.in_ok-add.ensures.ok;
      pages = moved_pages r.script r.past r.entry c.args.pages r.scroll r.pages;
    }

pub returns : goal.returns
returns c =
    weaken c.standing_in.result
    (λ st stands s n h e legal t m is are.
    stands s n (e ∷ h) legal
    (moved_values s h e c.args.moves.now c.in_ok-rows.rows c.add.new.self t m (copied_values s h _ _ c.in_ok-rows.rows c.self.view_is c.in_ok-rows.ensures is) c.in_ok-add.ensures.ok)
    (moved_pages s h e c.args.pages t are))
    c.standing_in.ensures
