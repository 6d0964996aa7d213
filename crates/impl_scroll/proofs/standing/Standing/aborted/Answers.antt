-- The values are stepped, and both pages stay.
use Rattle.std.proofs.Common.{◌∷◌}
use Rattle.page_layers.proofs.KeptPages.{weaken}
use Rattle.model_steps.specs.Events.{abort}
use Rattle.impl_scroll.proofs.Amounts.{bounded}
use Rattle.impl_scroll.proofs.PagePlaces.{copied_values}
use Rattle.impl_scroll.proofs.AfterEvents.{aborted_values, aborted_pages}
use Rattle.impl_scroll.proofs.standing.Standing.aborted.Goals as goal

pub abort-requires : goal.abort-requires
abort-requires c =
    let r = c.requires in
    bounded r.script r.workers r.past c.in_ok-rows.rows r.playable r.legal.0 (copied_values r.script r.past _ _ c.in_ok-rows.rows c.self.view_is c.in_ok-rows.ensures r.stands)

pub standing_in-requires : goal.standing_in-requires
standing_in-requires c =
    let r = c.requires in
    record {
      script = r.script;
      workers = r.workers;
      past = abort r.actor r.frame ∷ r.past;
      playable = r.playable;
      legal = r.legal;
      rows = aborted_values r.script r.past r.actor r.frame c.in_ok-rows.rows c.abort.new.self (copied_values r.script r.past _ _ c.in_ok-rows.rows c.self.view_is c.in_ok-rows.ensures r.stands) c.abort.ensures;
      pages = aborted_pages r.script r.past r.actor r.frame c.args.pages r.pages;
    }

pub returns : goal.returns
returns c =
    weaken c.standing_in.result
    (λ st stands s n h a k legal is are.
    stands s n (abort a k ∷ h) legal
    (aborted_values s h a k c.in_ok-rows.rows c.abort.new.self (copied_values s h _ _ c.in_ok-rows.rows c.self.view_is c.in_ok-rows.ensures is) c.abort.ensures)
    (aborted_pages s h a k c.args.pages are))
    c.standing_in.ensures
