-- What is known of the needed keys stays right.
use Rattle.std.proofs.Common.{◌≡◌, ℕ, ◌==◌, Bool, true, false, cond, ◌&&◌, List, [], ◌∷◌, length, filter, Some, refl, sym, ◌∙◌, ap, subst, arith}
use Rattle.std.specs.List.{list_all}
use Rattle.geom.specs.declared.tile.TileKey.{TileKey}
use Rattle.geom.specs.KeyLists.{same_key, has_key}
use Rattle.model_history.specs.Tiles.{without_keys}
use Rattle.model_history.proofs.BoolFacts.{same_number, and_left, and_right, or_right}
use Rattle.impl_core.specs.declared.needs.Needs.{Needs}
use Rattle.impl_core.specs.inner.Needed.{KnowsNeeds, no_needs, after_evicting}

-- nothing is known
pub forgotten : (n : Needs) (needed ready : List TileKey) → n ≡ no_needs → KnowsNeeds n needed ready
forgotten n needed ready is = subst (λ z. KnowsNeeds z needed ready) (sym is) (record { keys = tt; all_ready = λ e. absurd cc })

-- the keys were found, and it was asked whether all are ready
pub found : (ks needed ready : List TileKey) (b : Bool) (waits_at : ℕ) → ks ≡ needed → b ≡ list_all (has_key ready) ks → KnowsNeeds (record { keys = Some ks; all_ready = b; waits_at = waits_at }) needed ready
found ks needed ready b waits_at is are = record { keys = is; all_ready = λ e. ap (list_all (has_key ready)) (sym is) ∙ (sym are ∙ e) }

-- the same keys are needed, and the same are ready
pub same_needs : (n : Needs) (needed needed_now ready ready_now : List TileKey) → needed_now ≡ needed → ready_now ≡ ready → KnowsNeeds n needed ready → KnowsNeeds n needed_now ready_now
same_needs n needed needed_now ready ready_now same alike known = subst (λ ks. KnowsNeeds n ks ready_now) (sym same) (subst (λ ks. KnowsNeeds n needed ks) (sym alike) known)

-- some of the ready keys are evicted
pub fewer_ready : (n : Needs) (needed : List TileKey) (f : TileKey → Bool) (made evicted : List TileKey) → KnowsNeeds n needed (filter f made) → KnowsNeeds (after_evicting n evicted) needed (filter f (without_keys made evicted))
fewer_ready n needed f made [] known = record { keys = known.keys; all_ready = λ e. known.all_ready (and_left n.all_ready true e) }
fewer_ready n needed f made (k ∷ ks) known = record {
  keys = known.keys;
  all_ready = λ e. let none : length (k ∷ ks) ≡ 0 = same_number (length (k ∷ ks)) 0 (and_right n.all_ready (length (k ∷ ks) == 0) e) in absurd (omega (arith, none));
}

-- one more key may be ready
all_still : (ready : List TileKey) (k : TileKey) (needed : List TileKey) → list_all (has_key ready) needed ≡ true → list_all (has_key (k ∷ ready)) needed ≡ true
all_still ready k [] all = refl
all_still ready k (q ∷ qs) all =
    let first : has_key (k ∷ ready) q ≡ true = or_right (same_key k q) (has_key ready q) (and_left (has_key ready q) (list_all (has_key ready) qs) all) in
    let rest : list_all (has_key (k ∷ ready)) qs ≡ true = all_still ready k qs (and_right (has_key ready q) (list_all (has_key ready) qs) all) in
    λ i. first i && rest i

pub one_more_ready : (n : Needs) (needed ready : List TileKey) (k : TileKey) (b : Bool) → KnowsNeeds n needed ready → KnowsNeeds n needed (cond b (k ∷ ready) ready)
one_more_ready n needed ready k true known = record { keys = known.keys; all_ready = λ e. all_still ready k needed (known.all_ready e) }
one_more_ready n needed ready k false known = known
