-- Where the scrollers of both pages stand, by the values of the rows.
use Rattle.std.proofs.Common.{◌≡◌, ℕ, List, Option, Some, None, refl, sym, ◌∙◌, ap, subst}
use Rattle.std.specs.Prelude.{option_copied}
use Rattle.geom.specs.declared.rect.Point.{Point}
use Rattle.model_states.specs.declared.Synced.{Synced}
use Rattle.page_properties.specs.OffsetMap.{offset_at}
use Rattle.page_layers.specs.Pages.{Page}
use Rattle.page_layers.specs.Axes.{Axis}
use Rattle.page_layers.specs.Scrolls.{IsInRange}
use Rattle.page_layers.specs.Scrollers.{most, offsets_in}
use Rattle.model_history.specs.declared.history.Entry.{Entry}
use Rattle.model_history.specs.Scripts.{ScriptModel}
use Rattle.model_history.specs.Frames.{page, pulls_of, active, pending, up_to, active_page, pending_page}
use Rattle.model_history.specs.Scrolls.{clobbers, active_offsets, pending_offsets}
use Rattle.model_history.specs.Values.{values}
use Rattle.model_history.specs.Accepted.{IsPlayable}
use Rattle.model_history.specs.Legal.{Legal}
use Rattle.model_history.proofs.ValueReadings.{active_is_value, offset_in_range, pending_in_range}
use Rattle.model_steps.specs.Standing.{active_at, pending_at}
use Rattle.model_steps.proofs.StandingFacts.{active_offsets_are, pending_offsets_are, pending_is}
use Rattle.impl_scroll.specs.declared.row.Row.{Row}
use Rattle.impl_scroll.specs.Rows.{row_value, has_number}
use Rattle.impl_scroll.specs.declared.pages.Pages.{Pages}
use Rattle.impl_scroll.specs.Standings.{StandingModel, StandsForPast, page_at, ArePages}
use Rattle.impl_scroll.specs.inner.Places.{Places, at_active, at_pending, offsets_where, AreInRange, AreValues}

-- the page of a frame, and the blank page where there is no frame

where_is : (s : ScriptModel) (h : List Entry) (o : Option ℕ) (at : Places) (sc : ℕ) → offsets_where at (page_at s h o) sc ≡ offsets_in (page s (pulls_of h) (up_to o)) (at (page s (pulls_of h) (up_to o))) sc
where_is s h None at sc = refl
where_is s h (Some k) at sc = refl

range_where : (s : ScriptModel) (h : List Entry) (o : Option ℕ) (at : Places) → ((sc : ℕ) (ax : Axis) → IsInRange (most (page s (pulls_of h) (up_to o)) sc ax) (at (page s (pulls_of h) (up_to o)) sc ax)) → AreInRange at (page_at s h o)
range_where s h None at r = tt
range_where s h (Some k) at r = r

module _ (s : ScriptModel) (n : ℕ) (h : List Entry) (rs : List Row) (legal : Legal s n h) (is : AreValues s h rs) where
  abbrev value : ℕ → Axis → Synced
  value sc ax = values s sc ax h

  all_values : row_value rs ≡ value
  all_values = λ i sc ax. is sc ax i

  -- the active page

  pub active_where : (p : Option Page) → p ≡ page_at s h (active h) → (sc : ℕ) → offsets_where (at_active rs) p sc ≡ active_offsets s h sc
  active_where p e sc =
      ap (λ (q : Option Page). offsets_where (at_active rs) q sc) e
      ∙ (where_is s h (active h) (at_active rs) sc
      ∙ (ap (λ (v : ℕ → Axis → Synced). offsets_in (active_page s h) (active_at v) sc) all_values
      ∙ sym (ap (λ (f : ℕ → Point). f sc) (active_offsets_are s n h legal))))

  pub active_in_range : (p : Option Page) → IsPlayable s → p ≡ page_at s h (active h) → AreInRange (at_active rs) p
  active_in_range p acc e =
      subst (AreInRange (at_active rs)) (sym e)
      (range_where s h (active h) (at_active rs) (λ sc ax.
      subst (IsInRange (most (active_page s h) sc ax)) (active_is_value s n h sc ax legal ∙ sym (ap (λ (v : ℕ → Axis → Synced). active_at v sc ax) all_values)) (offset_in_range s n h sc ax acc legal)))

  -- the pending page

  module _ (ids : List ℕ) (outright : (sc : ℕ) → has_number ids sc ≡ clobbers s (pending h) sc) where
    all_outright : has_number ids ≡ clobbers s (pending h)
    all_outright = λ i sc. outright sc i

    pub pending_where : (p : Option Page) → p ≡ page_at s h (pending h) → (sc : ℕ) → offsets_where (at_pending ids rs) p sc ≡ pending_offsets s h sc
    pending_where p e sc =
        ap (λ (q : Option Page). offsets_where (at_pending ids rs) q sc) e
        ∙ (where_is s h (pending h) (at_pending ids rs) sc
        ∙ ((λ i. offsets_in (pending_page s h) (pending_at (all_outright i) (pending_page s h) (all_values i)) sc)
        ∙ sym (ap (λ (f : ℕ → Point). f sc) (pending_offsets_are s n h legal))))

    pub pending_range : (p : Option Page) → IsPlayable s → p ≡ page_at s h (pending h) → AreInRange (at_pending ids rs) p
    pending_range p acc e =
        subst (AreInRange (at_pending ids rs)) (sym e)
        (range_where s h (pending h) (at_pending ids rs) (λ sc ax.
        subst (IsInRange (most (pending_page s h) sc ax)) (pending_is s n h legal sc ax ∙ sym (λ i. pending_at (all_outright i) (pending_page s h) (all_values i) sc ax)) (pending_in_range s n h sc ax acc legal)))

-- rows with the offsets that follow from them represent the run
pub stand_in : (s : ScriptModel) (n : ℕ) (h : List Entry) (pages : Pages) (st : StandingModel) → Legal s n h → AreValues s h st.rows → ArePages s h pages
    → ((sc : ℕ) → offset_at st.active sc ≡ offsets_where (at_active st.rows) (option_copied pages.active) sc)
    → ((sc : ℕ) → offset_at st.pending sc ≡ offsets_where (at_pending pages.outright.now st.rows) (option_copied pages.pending) sc) → StandsForPast s h st
stand_in s n h pages st legal is are a p = record {
  rows = is;
  active = λ sc. a sc ∙ active_where s n h st.rows legal is (option_copied pages.active) are.active sc;
  pending = λ sc. p sc ∙ pending_where s n h st.rows legal is pages.outright.now are.outright (option_copied pages.pending) are.pending sc;
}

-- a copy of the rows has the values of the run
pub copied_values : (s : ScriptModel) (h : List Entry) (st now : StandingModel) (rs : List Row) → st ≡ now → rs ≡ st.rows → StandsForPast s h now → AreValues s h rs
copied_values s h st now rs v e is = subst (AreValues s h) (sym e) (subst (StandsForPast s h) (sym v) is).rows
