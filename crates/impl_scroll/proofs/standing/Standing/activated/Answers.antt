-- The pending bases become the active ones, the moves are added, and nothing is pending then.
use Rattle.std.proofs.Common.{◌∷◌, refl, sym, ◌∙◌, ap, subst}
use Rattle.model_states.specs.Table as table
use Rattle.model_states.specs.Bounds.{IsBounded}
use Rattle.page_layers.proofs.KeptPages.{weaken}
use Rattle.model_steps.specs.Events.{activate}
use Rattle.impl_scroll.proofs.Activated.{activated_bounded}
use Rattle.impl_scroll.proofs.Amounts.{bounded, moves_bounded}
use Rattle.impl_scroll.proofs.PagePlaces.{copied_values}
use Rattle.impl_scroll.proofs.AfterEvents.{activated_values, activated_pages}
use Rattle.impl_scroll.proofs.standing.Standing.activated.Goals as goal

pub activate-requires : goal.activate-requires
activate-requires c =
    let r = c.requires in
    bounded r.script r.workers r.past c.in_ok-rows.rows r.playable r.legal.0 (copied_values r.script r.past _ _ c.in_ok-rows.rows c.self.view_is c.in_ok-rows.ensures r.stands)

pub add-requires-clause-bounded : goal.add-requires-clause-bounded
add-requires-clause-bounded c = λ sc ax.
    let r = c.requires in
    subst IsBounded (sym (c.activate.ensures sc ax ∙ ap table.activated (copied_values r.script r.past _ _ c.in_ok-rows.rows c.self.view_is c.in_ok-rows.ensures r.stands sc ax)))
    (activated_bounded r.script r.workers r.past sc ax r.playable r.legal.0)

pub add-requires-clause-amounts : goal.add-requires-clause-amounts
add-requires-clause-amounts c = let r = c.requires in moves_bounded r.script r.workers r.past (activate r.actor r.frame c.args.clamps.now) c.args.clamps.now r.playable r.legal refl

pub standing_in-requires : goal.standing_in-requires
standing_in-requires c =
    let r = c.requires in
    record {
      script = r.script;
      workers = r.workers;
      past = activate r.actor r.frame c.args.clamps.now ∷ r.past;
      playable = r.playable;
      legal = r.legal;
      rows = activated_values r.script r.past r.actor r.frame c.args.clamps.now c.in_ok-rows.rows c.activate.new.self c.add.new.self
          (copied_values r.script r.past _ _ c.in_ok-rows.rows c.self.view_is c.in_ok-rows.ensures r.stands) c.activate.ensures c.in_ok-add.ensures.ok;
      pages = activated_pages r.script r.workers r.past r.actor r.frame c.args.clamps.now _ c.args.page.now r.legal refl refl refl r.page_is;
    }

pub returns : goal.returns
returns c =
    weaken c.standing_in.result
    (λ st stands s n h a k legal is page.
    stands s n (activate a k c.args.clamps.now ∷ h) legal
    (activated_values s h a k c.args.clamps.now c.in_ok-rows.rows c.activate.new.self c.add.new.self (copied_values s h _ _ c.in_ok-rows.rows c.self.view_is c.in_ok-rows.ensures is) c.activate.ensures c.in_ok-add.ensures.ok)
    (activated_pages s n h a k c.args.clamps.now _ c.args.page.now legal refl refl refl page))
    c.standing_in.ensures
