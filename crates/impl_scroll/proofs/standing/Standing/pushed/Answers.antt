-- The main values of the page are pushed, and it is pending then.
use Rattle.std.proofs.Common.{◌∷◌, refl}
use Rattle.page_layers.proofs.KeptPages.{weaken}
use Rattle.model_steps.specs.Events.{commit}
use Rattle.impl_scroll.proofs.Amounts.{bounded}
use Rattle.impl_scroll.proofs.PagePlaces.{copied_values}
use Rattle.impl_scroll.proofs.AfterEvents.{none_waits, pushed_values, pushed_pages}
use Rattle.impl_scroll.proofs.standing.Standing.pushed.Goals as goal

pub push-requires-clause-bounded : goal.push-requires-clause-bounded
push-requires-clause-bounded c =
    let r = c.requires in
    bounded r.script r.workers r.past c.in_ok-rows.rows r.playable r.legal.0 (copied_values r.script r.past _ _ c.in_ok-rows.rows c.self.view_is c.in_ok-rows.ensures r.stands)

pub push-requires-clause-none_pending : goal.push-requires-clause-none_pending
push-requires-clause-none_pending c =
    let r = c.requires in
    none_waits r.script r.workers r.past r.actor r.frame c.in_ok-rows.rows r.legal (copied_values r.script r.past _ _ c.in_ok-rows.rows c.self.view_is c.in_ok-rows.ensures r.stands)

pub standing_in-requires : goal.standing_in-requires
standing_in-requires c =
    let r = c.requires in
    record {
      script = r.script;
      workers = r.workers;
      past = commit r.actor r.frame ∷ r.past;
      playable = r.playable;
      legal = r.legal;
      rows = pushed_values r.script r.past r.actor r.frame c.args.page.now c.in_ok-rows.rows c.push.new.self r.page_is
          (copied_values r.script r.past _ _ c.in_ok-rows.rows c.self.view_is c.in_ok-rows.ensures r.stands) c.in_ok-push.ensures.ok;
      pages = pushed_pages r.script r.workers r.past r.actor r.frame _ c.args.page.now r.legal r.active_page refl r.page_is r.outright;
    }

pub returns : goal.returns
returns c =
    weaken c.standing_in.result
    (λ st stands s n h a k legal is act page outright.
    stands s n (commit a k ∷ h) legal
    (pushed_values s h a k c.args.page.now c.in_ok-rows.rows c.push.new.self page (copied_values s h _ _ c.in_ok-rows.rows c.self.view_is c.in_ok-rows.ensures is) c.in_ok-push.ensures.ok)
    (pushed_pages s n h a k _ c.args.page.now legal act refl page outright))
    c.standing_in.ensures
