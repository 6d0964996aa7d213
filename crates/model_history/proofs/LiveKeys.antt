-- A key that was live and is no longer live is never live again.
use Rattle.std.proofs.Common.{ℕ, zero, suc, ◌≡◌, ◌⊎◌, inl, inr, ◌≤◌, Bool, true, false, ◌||◌, Option, Some, None, List, [], ◌∷◌, ◌++◌, refl, ap, sym, ◌∙◌, subst, arith}
use Rattle.std.specs.Option.{option_or}
use Rattle.std.proofs.lemmas.List.Folds.{list_any-append}
use Rattle.geom.specs.declared.tile.TileKey.{TileKey}
use Rattle.model_history.specs.declared.event.Event.{Event}
use Rattle.model_history.specs.declared.event.Event.TheVariants as event
use Rattle.model_history.specs.declared.history.Entry.{Entry}
use Rattle.model_history.specs.Scripts.{ScriptModel}
use Rattle.model_history.specs.Frames.{pulls_of, active, pending, up_to}
use Rattle.model_history.specs.Accepted.{IsPlayable}
use Rattle.model_history.specs.Scrolls.{active_then}
use Rattle.geom.specs.KeyLists.{same_key, has_key}
use Rattle.model_history.specs.Tiles.{keys_of, active_tree, pending_tree, live_keys}
use Rattle.model_history.specs.Legal.{Next, Legal}
use Rattle.model_history.specs.Sharing.{was_live}
use Rattle.model_history.proofs.BoolFacts.{or_either, or_left, or_right, is_false, not_both, none_where}
use Rattle.model_history.proofs.DueFacts.{entry, at_commit, at_activate}
use Rattle.model_history.proofs.Course.{Course, course}
use Rattle.model_history.proofs.KeptStamps.{plain_key, keys_plain}
use Rattle.model_history.proofs.SharedPages.{kept}

-- ---- live keys by the numbers of their pages

abbrev live_at : ScriptModel → List Entry → TileKey → Bool
live_at s h q = plain_key s (up_to (active h)) q || plain_key s (up_to (pending h)) q

abbrev was_at : ScriptModel → List Entry → TileKey → Bool
was_at s [] q = live_at s [] q
was_at s (e ∷ h) q = live_at s (e ∷ h) q || was_at s h q

live_is : (s : ScriptModel) → IsPlayable s → (h : List Entry) (q : TileKey) → has_key (live_keys s h) q ≡ live_at s h q
live_is s a h q =
    list_any-append (λ k. same_key k q) (keys_of (active_tree s h)) (keys_of (pending_tree s h))
    ∙ ap (λ (b : Bool). b || has_key (keys_of (pending_tree s h)) q) (keys_plain s a (pulls_of h) (up_to (active h)) q)
    ∙ ap (λ (b : Bool). plain_key s (up_to (active h)) q || b) (keys_plain s a (pulls_of h) (up_to (pending h)) q)

was_is : (s : ScriptModel) → IsPlayable s → (h : List Entry) (q : TileKey) → was_live s h q ≡ was_at s h q
was_is s a [] q = live_is s a [] q
was_is s a (e ∷ h) q = ap (λ (b : Bool). b || was_live s h q) (live_is s a (e ∷ h) q) ∙ ap (λ (b : Bool). live_at s (e ∷ h) q || b) (was_is s a h q)

-- ---- the newest page

-- how many frames the newest of the pages has
abbrev top : List Entry → ℕ
top h = up_to (active_then h)

active_to : (h : List Entry) → Course h → up_to (active h) ≤ top h
active_to h c = go (pending h) refl
  where
    go : (o : Option ℕ) → pending h ≡ o → up_to (active h) ≤ up_to (option_or o (active h))
    go None e = omega arith
    go (Some k) e = let le : up_to (active h) ≤ k = c.pending_from k e in omega (arith, le)

pending_to : (h : List Entry) → up_to (pending h) ≤ top h
pending_to h = go (pending h)
  where
    go : (o : Option ℕ) → up_to o ≤ up_to (option_or o (active h))
    go None = omega arith
    go (Some k) = omega arith

-- where nothing is pending the newest page is the active one
top_active : (h : List Entry) → pending h ≡ None → top h ≡ up_to (active h)
top_active h e = ap (λ (o : Option ℕ). up_to (option_or o (active h))) e

top_pending : (h : List Entry) (k : ℕ) → pending h ≡ Some k → top h ≡ suc k
top_pending h k e = ap (λ (o : Option ℕ). up_to (option_or o (active h))) e

none_pending : (s : ScriptModel) (n : ℕ) (h : List Entry) (a k : ℕ) → Course h → Next s n h (entry a (event.Commit k)) → pending h ≡ None
none_pending s n h a k c x = none_where (pending h) (sym c.pending_state ∙ (at_commit s n h a k x).none_pending)

-- the newest page stays or is followed by a newer one
top_step : (s : ScriptModel) (n : ℕ) (h : List Entry) (a : ℕ) (e : Event) → Course h → Course (entry a e ∷ h) → Next s n h (entry a e) → top h ≤ top (entry a e ∷ h)
top_step s n h a (event.Commit k) c d x =
    let is : top h ≡ up_to (active h) = top_active h (none_pending s n h a k c x) in
    let le : up_to (active h) ≤ top (entry a (event.Commit k) ∷ h) = active_to (entry a (event.Commit k) ∷ h) d in
    omega (arith, is, le)
top_step s n h a (event.Activate k ms) c d x =
    let is : top h ≡ suc k = top_pending h k (at_activate s n h a k ms x).frame in
    let le : suc k ≤ top (entry a (event.Activate k ms) ∷ h) = active_to (entry a (event.Activate k ms) ∷ h) d in
    omega (arith, is, le)
top_step s n h a _ c d x = omega arith

-- ---- keys that were live

-- a key that was live is one of a page up to the newest
abbrev Reached : ScriptModel → ℕ → TileKey → Type 0
Reached s m q = (i : ℕ) × (i ≤ m) × (plain_key s i q ≡ true)

live_reached : (s : ScriptModel) (h : List Entry) (q : TileKey) → Course h → live_at s h q ≡ true → Reached s (top h) q
live_reached s h q c live = go (or_either (plain_key s (up_to (active h)) q) (plain_key s (up_to (pending h)) q) live)
  where
    go : (plain_key s (up_to (active h)) q ≡ true) ⊎ (plain_key s (up_to (pending h)) q ≡ true) → Reached s (top h) q
    go (inl t) = (up_to (active h), active_to h c, t)
    go (inr t) = (up_to (pending h), pending_to h, t)

reached : (s : ScriptModel) (n : ℕ) (h : List Entry) (q : TileKey) → Legal s n h → was_at s h q ≡ true → Reached s (top h) q
reached s n [] q l was = live_reached s [] q (course s n [] l) was
reached s n (e ∷ h) q l was = go (or_either (live_at s (e ∷ h) q) (was_at s h q) was) (reached s n h q l.0)
  where
    go : (live_at s (e ∷ h) q ≡ true) ⊎ (was_at s h q ≡ true) → (was_at s h q ≡ true → Reached s (top h) q) → Reached s (top (e ∷ h)) q
    go (inl t) rest = live_reached s (e ∷ h) q (course s n (e ∷ h) l) t
    go (inr t) rest =
        let (i, le, key) = rest t in
        let more : top h ≤ top (e ∷ h) = top_step s n h e.actor e.event (course s n h l.0) (course s n (e ∷ h) l) l.1 in
        (i, omega (arith, le, more), key)

-- page 0 has no key
no_key : (s : ScriptModel) (q : TileKey) → plain_key s zero q ≡ false
no_key s q = refl

-- a key of the committed page that was live before is one of the active page
at_the_commit : (s : ScriptModel) → IsPlayable s → (h g : List Entry) (q : TileKey) → Course g → active g ≡ active h → Reached s (up_to (active h)) q → (o : Option ℕ) → pending g ≡ o → plain_key s (up_to o) q ≡ true → plain_key s (up_to (active h)) q ≡ true
at_the_commit s a h g q c same r None e key = absurd (cc)
at_the_commit s a h g q c same r (Some k) e key =
    let (i, le, first) = r in
    let from : up_to (active g) ≤ k = c.pending_from k e in
    let from_h : up_to (active h) ≤ k = subst (λ (o : Option ℕ). up_to o ≤ k) same from in
    (kept s a q i (up_to (active h)) (suc k) le (omega (arith, from_h)) first key).key

live_step : (s : ScriptModel) (n : ℕ) → IsPlayable s → (h : List Entry) (q : TileKey) (a : ℕ) (e : Event) → Course h → Course (entry a e ∷ h) → Next s n h (entry a e) → Reached s (top h) q → live_at s (entry a e ∷ h) q ≡ true → live_at s h q ≡ true
live_step s n ok h q a (event.Commit k) c d x r live = go (or_either (plain_key s (up_to (active h)) q) (plain_key s (up_to (pending (entry a (event.Commit k) ∷ h))) q) live)
  where
    to_active : Reached s (up_to (active h)) q
    to_active = subst (λ (m : ℕ). Reached s m q) (top_active h (none_pending s n h a k c x)) r

    go : (plain_key s (up_to (active h)) q ≡ true) ⊎ (plain_key s (up_to (pending (entry a (event.Commit k) ∷ h))) q ≡ true) → live_at s h q ≡ true
    go (inl t) = or_left (plain_key s (up_to (active h)) q) (plain_key s (up_to (pending h)) q) t
    go (inr t) = or_left (plain_key s (up_to (active h)) q) (plain_key s (up_to (pending h)) q) (at_the_commit s ok h (entry a (event.Commit k) ∷ h) q d refl to_active (pending (entry a (event.Commit k) ∷ h)) refl t)
live_step s n ok h q a (event.Activate k ms) c d x r live = go (or_either (plain_key s (suc k) q) (plain_key s (up_to (pending (entry a (event.Activate k ms) ∷ h))) q) live)
  where
    was_pending : pending h ≡ Some k
    was_pending = (at_activate s n h a k ms x).frame

    none_now : pending (entry a (event.Activate k ms) ∷ h) ≡ None
    none_now = none_where (pending (entry a (event.Activate k ms) ∷ h)) (sym d.pending_state)

    go : (plain_key s (suc k) q ≡ true) ⊎ (plain_key s (up_to (pending (entry a (event.Activate k ms) ∷ h))) q ≡ true) → live_at s h q ≡ true
    go (inl t) = or_right (plain_key s (up_to (active h)) q) (plain_key s (up_to (pending h)) q) (ap (λ (o : Option ℕ). plain_key s (up_to o) q) was_pending ∙ t)
    go (inr t) = let out : plain_key s zero q ≡ true = ap (λ (o : Option ℕ). plain_key s (up_to o) q) (sym none_now) ∙ t in absurd (not_both (plain_key s zero q) out (no_key s q))
live_step s n ok h q a _ c d x r live = live

-- what was live and is live after an entry was live before it
pub still_live : (s : ScriptModel) (workers : ℕ) (h : List Entry) (e : Entry) (q : TileKey) → IsPlayable s → Legal s workers (e ∷ h) → was_live s h q ≡ true → has_key (live_keys s (e ∷ h)) q ≡ true → has_key (live_keys s h) q ≡ true
still_live s n h e q a l was live =
    live_is s a h q ∙ live_step s n a h q e.actor e.event (course s n h l.0) (course s n (e ∷ h) l) l.1 (reached s n h q l.0 (sym (was_is s a h q) ∙ was)) (sym (live_is s a (e ∷ h) q) ∙ live)

-- ---- dead keys

was_later : (s : ScriptModel) (later h : List Entry) (q : TileKey) → was_live s h q ≡ true → was_live s (later ++ h) q ≡ true
was_later s [] h q was = was
was_later s (e ∷ later) h q was = or_right (has_key (live_keys s (e ∷ (later ++ h))) q) (was_live s (later ++ h) q) (was_later s later h q was)

live_was : (s : ScriptModel) (h : List Entry) (q : TileKey) → has_key (live_keys s h) q ≡ true → was_live s h q ≡ true
live_was s [] q live = live
live_was s (e ∷ h) q live = or_left (has_key (live_keys s (e ∷ h)) q) (was_live s h q) live

dead_from : (s : ScriptModel) (workers : ℕ) (later h : List Entry) (q : TileKey) → IsPlayable s → Legal s workers (later ++ h) → was_live s h q ≡ true → has_key (live_keys s h) q ≡ false → has_key (live_keys s (later ++ h)) q ≡ false
dead_from s n [] h q a l was dead = dead
dead_from s n (e ∷ later) h q a l was dead =
    is_false (has_key (live_keys s (e ∷ (later ++ h))) q)
    (λ live. not_both (has_key (live_keys s (later ++ h)) q) (still_live s n (later ++ h) e q a l (was_later s later h q was) live) (dead_from s n later h q a l.0 was dead))

pub stays_dead : (s : ScriptModel) (workers : ℕ) (later between h : List Entry) (q : TileKey) → IsPlayable s → Legal s workers (later ++ (between ++ h)) → has_key (live_keys s h) q ≡ true → has_key (live_keys s (between ++ h)) q ≡ false → has_key (live_keys s (later ++ (between ++ h))) q ≡ false
stays_dead s n later between h q a l live dead = dead_from s n later (between ++ h) q a l (was_later s between h q (live_was s h q live)) dead
