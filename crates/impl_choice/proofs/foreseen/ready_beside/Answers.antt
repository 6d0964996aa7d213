-- Those that are left out are among the others.
use Rattle.std.proofs.Common.{filter, sym, ◌∙◌, ap}
use Rattle.geom.specs.KeyLists.{has_key}
use Rattle.page_layers.proofs.KeptPages.{weaken}
use Rattle.impl_choice.proofs.foreseen.ready_beside.Goals as goal

pub returns : goal.returns
returns c =
    weaken c.without-2.result
    (λ ks same. record {
      kept = c.in_ok-ready.ready;
      once = c.in_ok-ready.ensures.once;
      ready = c.in_ok-ready.ensures.keys;
      same = λ f shown needed.
          same f (λ q t. needed q (ap (λ xs. has_key xs q) (sym c.as_slice-4.ensures) ∙ t))
          ∙ (ap (filter f) c.as_slice-3.ensures
          ∙ (c.in_ok-left.ensures f (λ q t. shown q (ap (λ xs. has_key xs q) (sym c.as_slice-2.ensures) ∙ t)) ∙ ap (filter f) c.as_slice.ensures));
    })
    c.without-2.ensures
