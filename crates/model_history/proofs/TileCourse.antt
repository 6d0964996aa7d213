-- The course of tiles: a key is made or in flight once, and what is in flight is held by one worker.
use Rattle.std.proofs.Common.{◌≡◌, ◌⊎◌, inl, inr, ℕ, ◌<◌, ◌==◌, Bool, true, false, cond, not, ◌&&◌, List, [], ◌∷◌, Option, Some, None, refl, sym, ◌∙◌, ap, arith}
use Rattle.geom.specs.declared.tile.TileKey.{TileKey}
use Rattle.model_history.specs.declared.event.Event.{Event}
use Rattle.model_history.specs.declared.event.Event.TheVariants as event
use Rattle.model_history.specs.declared.history.Entry.{Entry}
use Rattle.model_history.specs.Scripts.{ScriptModel}
use Rattle.model_history.specs.Scans.{held}
use Rattle.geom.specs.KeyLists.{same_key, has_key, AreDistinctKeys}
use Rattle.model_history.specs.Tiles.{without_keys, live_keys, made_so_far, in_flight, ready}
use Rattle.model_history.specs.Legal.{Next, Legal}
use Rattle.model_history.proofs.BoolFacts.{not_both, is_false, and_left, and_right, and_both, or_either, or_left, or_right, same_number, other_number, is_same, is_other, not_true}
use Rattle.model_history.proofs.DueFacts.{entry, at_start, at_done}
use Rattle.model_history.proofs.KeyFacts.{one_key, same_from, has_one, has_filter, has_without, distinct_without}
use Rattle.model_history.proofs.RankFacts.{first_unmade}

-- the keys that are made, those in flight, and what each worker holds
pub record TilesOf (done flying : List TileKey) (holds : ℕ → Option TileKey) : Type 0 where
  pub made_once : AreDistinctKeys done
  pub in_flight_once : AreDistinctKeys flying
  pub apart : (q : TileKey) → has_key flying q ≡ true → has_key done q ≡ false
  pub held_in_flight : (w : ℕ) (q : TileKey) → holds w ≡ Some q → has_key flying q ≡ true
  pub in_flight_held : (q : TileKey) → has_key flying q ≡ true → (w : ℕ) × (holds w ≡ Some q)
  pub one_holder : (v w : ℕ) (q : TileKey) → holds v ≡ Some q → holds w ≡ Some q → v ≡ w

abbrev pub TileCourse : List Entry → Type 0
TileCourse h = TilesOf (made_so_far h) (in_flight h) (λ w. held w h)

-- a key of some taken from others is one of these
fewer : (ks qs : List TileKey) (q : TileKey) → has_key ks q ≡ false → has_key (without_keys ks qs) q ≡ false
fewer ks qs q h = has_without ks qs q ∙ ap (λ b. b && not (has_key qs q)) h

-- a key before others
first_or_later : (k : TileKey) (ks : List TileKey) (q : TileKey) → has_key (k ∷ ks) q ≡ true → (k ≡ q) ⊎ (has_key ks q ≡ true)
first_or_later k ks q t = by_or (or_either (same_key k q) (has_key ks q) t)
  where
    by_or : (same_key k q ≡ true) ⊎ (has_key ks q ≡ true) → (k ≡ q) ⊎ (has_key ks q ≡ true)
    by_or (inl s) = inl (one_key k q s)
    by_or (inr s) = inr s

has_first : (k : TileKey) (ks : List TileKey) (q : TileKey) → k ≡ q → has_key (k ∷ ks) q ≡ true
has_first k ks q e = or_left (same_key k q) (has_key ks q) (same_from k q e)

has_later : (k : TileKey) (ks : List TileKey) (q : TileKey) → has_key ks q ≡ true → has_key (k ∷ ks) q ≡ true
has_later k ks q t = or_right (same_key k q) (has_key ks q) t

module _ {done flying : List TileKey} {holds : ℕ → Option TileKey} where
  -- a worker starts a key that is neither made nor in flight
  start_step : TilesOf done flying holds → (w : ℕ) (q : TileKey) (evicted : List TileKey) → holds w ≡ None → has_key done q ≡ false → has_key flying q ≡ false
      → TilesOf (without_keys done evicted) (q ∷ flying) (λ v. cond (w == v) (Some q) (holds v))
  start_step c w q evicted idle new unstarted = record {
    made_once = distinct_without done evicted c.made_once;
    in_flight_once = (unstarted, c.in_flight_once);
    apart = λ p t. fewer done evicted p (by_key p (first_or_later q flying p t));
    held_in_flight = λ v p e. by_worker v p (w == v) e;
    in_flight_held = λ p t. who p (first_or_later q flying p t);
    one_holder = λ u v p e f. same_worker u v p (w == u) (w == v) refl refl e f;
  }
    where
      by_key : (p : TileKey) → (q ≡ p) ⊎ (has_key flying p ≡ true) → has_key done p ≡ false
      by_key p (inl e) = ap (has_key done) (sym e) ∙ new
      by_key p (inr t) = c.apart p t

      by_worker : (v : ℕ) (p : TileKey) (b : Bool) → cond b (Some q) (holds v) ≡ Some p → has_key (q ∷ flying) p ≡ true
      by_worker v p true e = let i : q ≡ p = cc in has_first q flying p i
      by_worker v p false e = has_later q flying p (c.held_in_flight v p e)

      who : (p : TileKey) → (q ≡ p) ⊎ (has_key flying p ≡ true) → (v : ℕ) × (cond (w == v) (Some q) (holds v) ≡ Some p)
      who p (inl e) = (w, ap (λ b. cond b (Some q) (holds w)) (is_same w w refl) ∙ ap Some e)
      who p (inr t) =
          let (v, e) = c.in_flight_held p t in
          let n : (w == v) ≡ false = is_other w v (λ (i : w ≡ v). let f : holds v ≡ None = ap holds (sym i) ∙ idle in cc) in
          (v, ap (λ b. cond b (Some q) (holds v)) n ∙ e)

      not_flying : (v : ℕ) → holds v ≡ Some q → ⊥
      not_flying v e = not_both (has_key flying q) (c.held_in_flight v q e) unstarted

      same_worker : (u v : ℕ) (p : TileKey) (b d : Bool) → (w == u) ≡ b → (w == v) ≡ d → cond b (Some q) (holds u) ≡ Some p → cond d (Some q) (holds v) ≡ Some p → u ≡ v
      same_worker u v p true true i j e f = sym (same_number w u i) ∙ same_number w v j
      same_worker u v p true false i j e f = let k : q ≡ p = cc in absurd (not_flying v (f ∙ ap Some (sym k)))
      same_worker u v p false true i j e f = let k : q ≡ p = cc in absurd (not_flying u (e ∙ ap Some (sym k)))
      same_worker u v p false false i j e f = c.one_holder u v p e f

  -- a worker is done with the key that it holds
  done_step : TilesOf done flying holds → (w : ℕ) (q : TileKey) → holds w ≡ Some q
      → TilesOf (q ∷ done) (without_keys flying (q ∷ [])) (λ v. cond (w == v) None (holds v))
  done_step c w q e = record {
    made_once = (c.apart q (c.held_in_flight w q e), c.made_once);
    in_flight_once = distinct_without flying (q ∷ []) c.in_flight_once;
    apart = λ p t. let x = left p t in is_false (has_key (q ∷ done) p) (λ m. by_key p x.0 x.1 (first_or_later q done p m));
    held_in_flight = λ v p f. by_worker v p (w == v) refl f;
    in_flight_held = λ p t. let x = left p t in let (v, f) = c.in_flight_held p x.0 in (v, ap (λ b. cond b None (holds v)) (other_worker v p x.1 f) ∙ f);
    one_holder = λ u v p f g. same_worker u v p (w == u) (w == v) f g;
  }
    where
      left : (p : TileKey) → has_key (without_keys flying (q ∷ [])) p ≡ true → (has_key flying p ≡ true) × (q ≡ p → ⊥)
      left p t =
          let s = sym (has_without flying (q ∷ []) p) ∙ t in (
            and_left (has_key flying p) (not (has_key (q ∷ []) p)) s,
            λ i. not_both (has_key (q ∷ []) p) (has_first q [] p i) (not_true (has_key (q ∷ []) p) (and_right (has_key flying p) (not (has_key (q ∷ []) p)) s)),
          )

      by_key : (p : TileKey) → has_key flying p ≡ true → (q ≡ p → ⊥) → (q ≡ p) ⊎ (has_key done p ≡ true) → ⊥
      by_key p t n (inl i) = n i
      by_key p t n (inr m) = not_both (has_key done p) m (c.apart p t)

      other_worker : (v : ℕ) (p : TileKey) → (q ≡ p → ⊥) → holds v ≡ Some p → (w == v) ≡ false
      other_worker v p n f = is_other w v (λ (i : w ≡ v). n (let g : holds v ≡ Some q = ap holds (sym i) ∙ e in cc))

      by_worker : (v : ℕ) (p : TileKey) (b : Bool) → (w == v) ≡ b → cond b None (holds v) ≡ Some p → has_key (without_keys flying (q ∷ [])) p ≡ true
      by_worker v p true i f = absurd cc
      by_worker v p false i f =
          let n : has_key (q ∷ []) p ≡ false = is_false (has_key (q ∷ []) p) (λ t. other_number w v i (c.one_holder w v p (e ∙ ap Some (has_one q p t)) f)) in
          has_without flying (q ∷ []) p ∙ and_both (has_key flying p) (not (has_key (q ∷ []) p)) (c.held_in_flight v p f) (ap not n)

      same_worker : (u v : ℕ) (p : TileKey) (b d : Bool) → cond b None (holds u) ≡ Some p → cond d None (holds v) ≡ Some p → u ≡ v
      same_worker u v p false false f g = c.one_holder u v p f g
      same_worker u v p true d f g = absurd cc
      same_worker u v p false true f g = absurd cc

-- what starts is not made: it is live, and not ready
starts_unmade : (s : ScriptModel) (h : List Entry) (q : TileKey) → has_key (live_keys s h) q ≡ true → has_key (ready s h) q ≡ false → has_key (made_so_far h) q ≡ false
starts_unmade s h q l r =
    is_false (has_key (made_so_far h) q) (λ m. not_both (has_key (ready s h) q)
    (has_filter (has_key (live_keys s h)) (made_so_far h) q ∙ and_both (has_key (made_so_far h) q) (has_key (live_keys s h) q) m l) r)

one_step : (s : ScriptModel) (n : ℕ) (h : List Entry) (a : ℕ) (e : Event) → TileCourse h → Next s n h (entry a e) → TileCourse (entry a e ∷ h)
one_step s n h a (event.Start w q evicted) c x =
    let d = at_start s n h a w q evicted x in
    let u = first_unmade s h d.rank d.is_first in
    let k : d.rank.key ≡ q = sym d.key in
    let fresh : has_key (made_so_far h) q ≡ false = ap (has_key (made_so_far h)) (sym k) ∙ starts_unmade s h d.rank.key u.live u.not_ready in
    let unstarted : has_key (in_flight h) q ≡ false = ap (has_key (in_flight h)) (sym k) ∙ u.not_in_flight in
    start_step c w q evicted d.idle fresh unstarted
one_step s n h a (event.DoneTile w q) c x = done_step c w q (at_done s n h a w q x)
one_step s n h a _ c x = c

none_yet : TileCourse []
none_yet = record {
  made_once = tt;
  in_flight_once = tt;
  apart = λ q t. refl;
  held_in_flight = λ w q e. absurd cc;
  in_flight_held = λ q t. absurd cc;
  one_holder = λ v w q e f. absurd cc;
}

-- the course of tiles in every legal past
pub tile_course : (s : ScriptModel) (n : ℕ) (h : List Entry) → Legal s n h → TileCourse h
tile_course s n [] l = none_yet
tile_course s n (e ∷ h) l = one_step s n h e.actor e.event (tile_course s n h l.0) l.1

-- who holds a tile is one of the workers
holder_step : (s : ScriptModel) (n : ℕ) (h : List Entry) (a : ℕ) (e : Event) → Next s n h (entry a e) → ((w : ℕ) (q : TileKey) → held w h ≡ Some q → w < n)
    → (w : ℕ) (q : TileKey) → held w (entry a e ∷ h) ≡ Some q → w < n
holder_step s n h a (event.Start v p evicted) x c w q e = by_worker (v == w) refl e
  where
    by_worker : (b : Bool) → (v == w) ≡ b → cond b (Some p) (held w h) ≡ Some q → w < n
    by_worker true i f = let j = same_number v w i in let k = x.actor in let l = x.within in omega arith
    by_worker false i f = c w q f
holder_step s n h a (event.DoneTile v p) x c w q e = by_worker (v == w) e
  where
    by_worker : (b : Bool) → cond b None (held w h) ≡ Some q → w < n
    by_worker true f = absurd cc
    by_worker false f = c w q f
holder_step s n h a _ x c w q e = c w q e

pub holder_is_worker : (s : ScriptModel) (n : ℕ) (h : List Entry) → Legal s n h → (w : ℕ) (q : TileKey) → held w h ≡ Some q → w < n
holder_is_worker s n [] l w q e = absurd cc
holder_is_worker s n (e ∷ h) l w q i = holder_step s n h e.actor e.event l.1 (holder_is_worker s n h l.0) w q i

-- what is in flight is held by one of the workers
pub holder : (s : ScriptModel) (n : ℕ) (h : List Entry) → Legal s n h → (q : TileKey) → has_key (in_flight h) q ≡ true → (w : ℕ) × (w < n) × (held w h ≡ Some q)
holder s n h l q t =
    let (w, e) = (tile_course s n h l).in_flight_held q t in
    (w, holder_is_worker s n h l w q e, e)
