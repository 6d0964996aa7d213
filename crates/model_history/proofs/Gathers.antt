-- Commands that are applied one after another: what they changed together, so far and in the end.
use Rattle.std.proofs.Common.{◌≡◌, ◌⊎◌, inl, inr, ℕ, ◌+◌, ◌<◌, List, [], ◌∷◌, ◌++◌, Ok, Err, length, refl, sym, ap, ◌∙◌, get_or, take, drop, subst, arith}
use Rattle.std.proofs.lemmas.List.{drop_more, take_more}
use Rattle.region.specs.Lists.{Changed}
use Rattle.page_layers.specs.declared.command.Command.{Command}
use Rattle.page_layers.specs.declared.fault.EditError.{EditError}
use Rattle.page_layers.specs.declared.fault.EditError.TheVariants.{Refused, Memory}
use Rattle.page_layers.specs.Pages.{Page}
use Rattle.page_layers.specs.Effects.{page_after_command, scrolled_by, page_after_pulls, commanded}
use Rattle.page_layers.specs.declared.moves.Move.{Move}
use Rattle.model_history.specs.Stamps.{changed_by, unchanged}
use Rattle.model_history.specs.Judging.{RefusedIn}
use Rattle.model_history.specs.SameChanges.{SameChanges}
use Rattle.model_history.specs.Ended.{AreBounded, HasTaken, TookCommands}
use Rattle.model_history.specs.inner.Ending.{with_next, TookCommand}
use Rattle.model_history.proofs.Leads.{Leads, rest_at, leads_on}

-- the pulls from place i on lead from the page now to where all lead from the first one
pub record Pulls (first : Page) (all : List Move) (now : Page) (rest : List Move) : Type 0 where
  pub page : page_after_pulls rest now ≡ page_after_pulls all first
  pub bounded : AreBounded rest

commanded_append : (cs ds : List Command) (p : Page) → commanded (cs ++ ds) p ≡ commanded ds (commanded cs p)
commanded_append [] ds p = refl
commanded_append (c ∷ cs) ds p = commanded_append cs ds (page_after_command p c)

-- one command more
taken_more : (first : Page) (all : List Command) (i : ℕ) (now : Page) (c : Command) → c ≡ get_or all i c → i < length all → HasTaken first all i now → HasTaken first all (i + 1) (page_after_command now c)
taken_more first all i now c is lt h =
    ap (λ (p : Page). page_after_command p c) h
    ∙ sym (commanded_append (take i all) (c ∷ []) first)
    ∙ ap (λ (d : Command). commanded (take i all ++ d ∷ []) first) is
    ∙ ap (λ (cs : List Command). commanded cs first) (sym (take_more all i c lt))

-- the commands so far were noted; with the rest of them it is what all of them changed
pub record Gathers (first : Page) (all : List Command) (i : ℕ) (now : Page) (changes : Changed) (rest : List Command) : Type 0 where
  pub leads : Leads first all i now rest
  pub taken : HasTaken first all i now
  pub done : Changed
  pub same : SameChanges changes done
  pub total : changed_by now rest done ≡ changed_by first all unchanged

gathers_next : (first : Page) (all : List Command) (i : ℕ) (now : Page) (c : Command) (rest : List Command) (old new : Changed) (q : Page) → c ≡ get_or all i c → i < length all
    → TookCommand now c old q new (Ok tt) → Gathers first all i now old (c ∷ rest) → Gathers first all (i + 1) q new rest
gathers_next first all i now c rest old new q is lt t g =
    let step : Gathers first all (i + 1) (page_after_command now c) new rest = record {
      leads = leads_on first all i now c rest t.0 g.leads;
      taken = taken_more first all i now c is lt g.taken;
      done = with_next now c g.done;
      same = t.2 g.done g.same;
      total = g.total;
    } in
    subst (λ (p : Page). Gathers first all (i + 1) p new rest) (sym t.1) step

-- one command on
pub gathers_on : (first : Page) (all : List Command) (i : ℕ) (now : Page) (c : Command) (old new : Changed) (q : Page) → c ≡ get_or all i c → i < length all
    → TookCommand now c old q new (Ok tt) → Gathers first all i now old (drop i all) → Gathers first all (i + 1) q new (drop (i + 1) all)
gathers_on first all i now c old new q e lt t g =
    gathers_next first all i now c (drop (i + 1) all) old new q e lt t (subst (λ (cs : List Command). Gathers first all i now old cs) (rest_at all i c e lt) g)

-- what stops one command stops all of them
pub gathers_stop : (first : Page) (all : List Command) (i : ℕ) (now : Page) (c : Command) (old new : Changed) (q : Page) (e : EditError) → c ≡ get_or all i c → i < length all
    → TookCommand now c old q new (Err e) → Gathers first all i now old (drop i all) → TookCommands first all q (Err e)
gathers_stop first all i now c old new q (Refused fault) is lt t g =
    let l : Leads first all i now (c ∷ drop (i + 1) all) = subst (λ (cs : List Command). Leads first all i now cs) (rest_at all i c is lt) g.leads in
    let still : i + 0 ≡ i = omega arith in
    (i, subst (λ (n : ℕ). RefusedIn first all n fault) still (l.refused 0 fault t.0), t.1 ∙ g.taken)
gathers_stop first all i now c old new q (Memory e) is lt t g = by_half t
  where
    by_half : (q ≡ now) ⊎ (q ≡ page_after_command now c) → (n : ℕ) × HasTaken first all n q
    by_half (inl same) = (i, same ∙ g.taken)
    by_half (inr next) = (i + 1, next ∙ taken_more first all i now c is lt g.taken)

pulls_next : (first : Page) (all : List Move) (now q : Page) (m : Move) (rest : List Move) → q ≡ scrolled_by now m.scroller m.dx m.dy → Pulls first all now (m ∷ rest) → Pulls first all q rest
pulls_next first all now q m rest e p = record { page = ap (λ (x : Page). page_after_pulls rest x) e ∙ p.page; bounded = p.bounded.2 }

-- one pull on
pub pulls_on : (first : Page) (all : List Move) (i : ℕ) (now q : Page) (d : Move) → i < length all → q ≡ scrolled_by now (get_or all i d).scroller (get_or all i d).dx (get_or all i d).dy
    → Pulls first all now (drop i all) → Pulls first all q (drop (i + 1) all)
pulls_on first all i now q d lt e p =
    pulls_next first all now q (get_or all i d) (drop (i + 1) all) e (subst (λ (ms : List Move). Pulls first all now ms) (drop_more all i d lt) p)
