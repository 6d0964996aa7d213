-- The page that is shown, and the offsets of its scrollers.
use Rattle.std.proofs.Common.{◌≡◌, ℕ, List, Option, Some, None, refl, ◌∙◌, ap}
use Rattle.geom.specs.declared.rect.Point.{Point}
use Rattle.page_properties.specs.OffsetMap.{offset_at}
use Rattle.page_layers.specs.Pages.{Page}
use Rattle.model_history.specs.declared.history.Entry.{Entry}
use Rattle.model_history.specs.Frames.{active, active_page}
use Rattle.model_history.specs.Scripts.{ScriptModel}
use Rattle.model_history.specs.Scrolls.{active_offsets}
use Rattle.impl_scroll.specs.Standings.{StandingModel, page_at}
use Rattle.impl_scroll.proofs.InputFacts.{page_is}
use Rattle.impl_host.specs.Hosts.{ImplHostModel, Hosts}

-- no page is active where there is none
pub none_active : (s : ScriptModel) (h : List Entry) (o : Option ℕ) → None ≡ page_at s h o → o ≡ None
none_active s h None e = refl
none_active s h (Some k) e = absurd (cc (e))

pub active_is : (s : ScriptModel) (h : List Entry) (p : Page) → Some p ≡ page_at s h (active h) → p ≡ active_page s h
active_is s h p e = page_is s h p (active h) e

-- the offsets are those of the host's scrollers
pub offsets_are : (s : ScriptModel) (h : List Entry) (m : ImplHostModel) (st : StandingModel) (offsets : List (ℕ × Point)) → Hosts s h m → st ≡ m.standing → offsets ≡ st.active → offset_at offsets ≡ active_offsets s h
offsets_are s h m st offsets hosts is at = ap offset_at (at ∙ ap (λ (z : StandingModel). z.active) is) ∙ (λ i sc. hosts.standing.active sc i)
