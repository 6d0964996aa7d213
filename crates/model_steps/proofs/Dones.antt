-- The choice after the end of a start.
use Rattle.std.proofs.Common.{◌≡◌, ℕ, ◌-◌, Bool, true, false, cond, not, ◌&&◌, ◌||◌, Some, None, List, [], ◌∷◌, length, filter, map, refl, sym, ◌∙◌, ap, subst, arith}
use Rattle.std.specs.Prelude.{filter_map}
use Rattle.geom.specs.declared.tile.TileKey.{TileKey}
use Rattle.geom.specs.KeyLists.{same_key, has_key}
use Rattle.geom.proofs.KeyLists.{one_key}
use Rattle.tile_priority.specs.Ordered.{In, SameMembers}
use Rattle.tile_priority.specs.Alike.{Alike, finished}
use Rattle.tile_priority.proofs.Members.{same_itself}
use Rattle.model_history.specs.declared.history.Entry.{Entry}
use Rattle.model_history.specs.Scripts.{ScriptModel}
use Rattle.model_history.specs.Legal.{Legal}
use Rattle.model_history.specs.Tiles.{live_keys, in_flight, ready}
use Rattle.model_history.specs.Ranking.{rank, is_unmade, wanted, ready_tile, choice}
use Rattle.model_history.proofs.DueFacts.{at_done}
use Rattle.model_history.proofs.KeyFacts.{has_in, has_without}
use Rattle.model_history.proofs.TileCourse.{tile_course}
use Rattle.model_steps.specs.Events.{done}
use Rattle.model_steps.proofs.Picks.{filter_same, shorter}

and_false : (a : Bool) → a && false ≡ false
and_false true = refl
and_false false = refl

and_true : (a : Bool) → a && true ≡ a
and_true true = refl
and_true false = refl

module _ (s : ScriptModel) (n : ℕ) (h : List Entry) (actor w : ℕ) (q : TileKey) (legal : Legal s n (done actor w q ∷ h)) where
  abbrev next : List Entry
  next = done actor w q ∷ h

  pub flies : has_key (in_flight h) q ≡ true
  flies = (tile_course s n h legal.0).held_in_flight w q (at_done s n h actor w q legal.1)

  -- one fewer is in flight
  one_fewer : length (in_flight h) - 1 ≡ length (in_flight next)
  one_fewer = let e = shorter (in_flight h) q (tile_course s n h legal.0).in_flight_once flies in omega arith

  -- the key is ready then where it is live
  pub ready_done : (k : TileKey) → has_key (ready s next) k ≡ ((has_key (live_keys s h) q && same_key q k) || has_key (ready s h) k)
  ready_done k = by_live (has_key (live_keys s h) q)
    where
      by_live : (b : Bool) → has_key (cond b (q ∷ ready s h) (ready s h)) k ≡ ((b && same_key q k) || has_key (ready s h) k)
      by_live true = refl
      by_live false = refl

  -- which keys are unmade stays the same among the live ones
  same_unmade : (k : TileKey) → In k (live_keys s h) → is_unmade s next k ≡ is_unmade s h k
  same_unmade k i = by_key (same_key q k) refl
    where
      live : has_key (live_keys s h) k ≡ true
      live = has_in (live_keys s h) k i

      by_key : (b : Bool) → same_key q k ≡ b → is_unmade s next k ≡ is_unmade s h k
      by_key true e =
          let d : q ≡ k = one_key q k e in
          let l : has_key (live_keys s h) q ≡ true = ap (has_key (live_keys s h)) d ∙ live in
          let f : has_key (in_flight h) k ≡ true = ap (has_key (in_flight h)) (sym d) ∙ flies in
          let r : has_key (ready s next) k ≡ true = ready_done k ∙ (λ j. (l j && e j) || has_key (ready s h) k) in
          ap (λ b. not b && not (has_key (in_flight next) k)) r ∙ sym (ap (λ b. not (has_key (ready s h) k) && not b) f ∙ and_false (not (has_key (ready s h) k)))
      by_key false e =
          let r : has_key (ready s next) k ≡ has_key (ready s h) k = ready_done k ∙ ap (λ b. (has_key (live_keys s h) q && b) || has_key (ready s h) k) e ∙ ap (λ b. b || has_key (ready s h) k) (and_false (has_key (live_keys s h) q)) in
          let f : has_key (in_flight next) k ≡ has_key (in_flight h) k = has_without (in_flight h) (q ∷ []) k ∙ ap (λ b. has_key (in_flight h) k && not (b || false)) e ∙ and_true (has_key (in_flight h) k) in
          λ j. not (r j) && not (f j)

  same_wanted : wanted s next ≡ wanted s h
  same_wanted = ap (filter_map (rank s h)) (filter_same (is_unmade s next) (is_unmade s h) (live_keys s h) same_unmade)

  pub done_live : has_key (live_keys s h) q ≡ true → Alike (finished (choice s h) (Some (ready_tile s h q))) (choice s next)
  done_live e =
      let r : (ready_tile s h q ∷ map (ready_tile s h) (ready s h)) ≡ map (ready_tile s h) (ready s next) = ap (λ b. map (ready_tile s h) (cond b (q ∷ ready s h) (ready s h))) (sym e) in
      record {
        wanted = subst (λ rs. SameMembers (wanted s h) rs) (sym same_wanted) (same_itself (wanted s h));
        ready = subst (SameMembers (ready_tile s h q ∷ map (ready_tile s h) (ready s h))) r (same_itself (ready_tile s h q ∷ map (ready_tile s h) (ready s h)));
        as_many = λ f. ap (λ ts. length (filter f ts)) r;
        in_flight = one_fewer;
        budget = refl;
      }

  pub done_dead : has_key (live_keys s h) q ≡ false → Alike (finished (choice s h) None) (choice s next)
  done_dead e =
      let r : map (ready_tile s h) (ready s h) ≡ map (ready_tile s h) (ready s next) = ap (λ b. map (ready_tile s h) (cond b (q ∷ ready s h) (ready s h))) (sym e) in
      record {
        wanted = subst (λ rs. SameMembers (wanted s h) rs) (sym same_wanted) (same_itself (wanted s h));
        ready = subst (SameMembers (map (ready_tile s h) (ready s h))) r (same_itself (map (ready_tile s h) (ready s h)));
        as_many = λ f. ap (λ ts. length (filter f ts)) r;
        in_flight = one_fewer;
        budget = refl;
      }
