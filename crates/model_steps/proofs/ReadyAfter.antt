-- The ready keys after a commit and an activation.
use Rattle.std.proofs.Common.{◌≡◌, ◌⊎◌, inl, inr, ℕ, Bool, true, false, ◌&&◌, List, [], ◌∷◌, ◌++◌, filter, None, refl, sym, ◌∙◌, ap}
use Rattle.geom.specs.declared.tile.TileKey.{TileKey}
use Rattle.geom.specs.KeyLists.{same_key, has_key}
use Rattle.geom.proofs.KeyLists.{one_key}
use Rattle.tile_priority.specs.Ordered.{In}
use Rattle.tile_priority.proofs.StayAlike.{filter_both}
use Rattle.page_layers.specs.declared.moves.Move.{Move}
use Rattle.model_history.specs.declared.event.Event.{Event}
use Rattle.model_history.specs.declared.event.Event.TheVariants as event
use Rattle.model_history.specs.declared.history.Entry.{Entry}
use Rattle.model_history.specs.Scripts.{ScriptModel}
use Rattle.model_history.specs.Accepted.{IsPlayable}
use Rattle.model_history.specs.Stamps.{stamp_in}
use Rattle.model_history.specs.Tiles.{page_keys, without_keys, active_tree, pending_tree, keys_of, live_keys, made_so_far, in_flight, ready}
use Rattle.model_history.specs.Frames.{page, pulls_of, pending, up_to}
use Rattle.model_history.specs.Sharing.{was_live}
use Rattle.model_history.specs.Legal.{Next, Legal}
use Rattle.model_history.proofs.BoolFacts.{not_both, is_false, none_where, and_left, and_right, and_both, or_either, or_left, or_right}
use Rattle.model_history.proofs.Course.{course}
use Rattle.model_history.proofs.DueFacts.{entry, at_start, at_done, at_commit}
use Rattle.model_history.proofs.KeyFacts.{has_in, has_without, has_append}
use Rattle.model_history.proofs.LiveKeys.{still_live}
use Rattle.model_history.proofs.RankFacts.{first_unmade}
use Rattle.model_history.proofs.TileCourse.{tile_course}
use Rattle.model_steps.specs.Events.{commit, activate}
use Rattle.model_steps.proofs.Picks.{filter_same}
use Rattle.model_steps.proofs.TreesAfter.{commit_active, activate_active, none_is_pending}

-- what is made or in flight was live

pub record WereOf (done flying : List TileKey) (was : TileKey → Bool) : Type 0 where
  pub of_made : (q : TileKey) → has_key done q ≡ true → was q ≡ true
  pub of_flying : (q : TileKey) → has_key flying q ≡ true → was q ≡ true

abbrev pub Were : ScriptModel → List Entry → Type 0
Were s h = WereOf (made_so_far h) (in_flight h) (was_live s h)

-- a key that is there once some were taken away was there before
stood : (ks qs : List TileKey) (q : TileKey) → has_key (without_keys ks qs) q ≡ true → has_key ks q ≡ true
stood ks qs q t = and_left (has_key ks q) _ (sym (has_without ks qs q) ∙ t)

one_step : (s : ScriptModel) (n : ℕ) (h : List Entry) (a : ℕ) (e : Event) → Legal s n h → Were s h → Next s n h (entry a e) → Were s (entry a e ∷ h)
one_step s n h a (event.Start w k evicted) l r x = record {
  of_made = λ q t. later q (r.of_made q (stood (made_so_far h) evicted q t));
  of_flying = λ q t. by_or q (or_either (same_key k q) (has_key (in_flight h) q) t);
}
  where
    later : (q : TileKey) → was_live s h q ≡ true → was_live s (entry a (event.Start w k evicted) ∷ h) q ≡ true
    later q t = or_right (has_key (live_keys s (entry a (event.Start w k evicted) ∷ h)) q) (was_live s h q) t

    live_now : has_key (live_keys s h) k ≡ true
    live_now =
        let d = at_start s n h a w k evicted x in
        ap (has_key (live_keys s h)) d.key ∙ (first_unmade s h d.rank d.is_first).live

    by_or : (q : TileKey) → (same_key k q ≡ true) ⊎ (has_key (in_flight h) q ≡ true) → was_live s (entry a (event.Start w k evicted) ∷ h) q ≡ true
    by_or q (inl t) =
        or_left (has_key (live_keys s (entry a (event.Start w k evicted) ∷ h)) q) (was_live s h q) (ap (has_key (live_keys s h)) (sym (one_key k q t)) ∙ live_now)
    by_or q (inr t) = later q (r.of_flying q t)
one_step s n h a (event.DoneTile w k) l r x = record {
  of_made = λ q t. by_or q (or_either (same_key k q) (has_key (made_so_far h) q) t);
  of_flying = λ q t. later q (r.of_flying q (stood (in_flight h) (k ∷ []) q t));
}
  where
    later : (q : TileKey) → was_live s h q ≡ true → was_live s (entry a (event.DoneTile w k) ∷ h) q ≡ true
    later q t = or_right (has_key (live_keys s (entry a (event.DoneTile w k) ∷ h)) q) (was_live s h q) t

    by_or : (q : TileKey) → (same_key k q ≡ true) ⊎ (has_key (made_so_far h) q ≡ true) → was_live s (entry a (event.DoneTile w k) ∷ h) q ≡ true
    by_or q (inl t) =
        later q (ap (was_live s h) (sym (one_key k q t)) ∙ r.of_flying k ((tile_course s n h l).held_in_flight w k (at_done s n h a w k x)))
    by_or q (inr t) = later q (r.of_made q t)
one_step s n h a e l r x = record {
  of_made = λ q t. or_right (has_key (live_keys s (entry a e ∷ h)) q) (was_live s h q) (r.of_made q t);
  of_flying = λ q t. or_right (has_key (live_keys s (entry a e ∷ h)) q) (was_live s h q) (r.of_flying q t);
}

pub were : (s : ScriptModel) (n : ℕ) (h : List Entry) → Legal s n h → Were s h
were s n [] l = record { of_made = λ q t. absurd cc; of_flying = λ q t. absurd cc }
were s n (e ∷ h) l = one_step s n h e.actor e.event l.0 (were s n h l.0) l.1

-- where nothing is made, what was ready and is live stays ready

same_test : (a b : Bool) → (a ≡ true → b ≡ true) → (b ≡ true → a ≡ true) → a ≡ b
same_test true b f g = sym (f refl)
same_test false b f g = sym (is_false b (λ t. not_both false (g t) refl))

pub ready_kept : (s : ScriptModel) (n : ℕ) (h : List Entry) (e : Entry) → IsPlayable s → Legal s n (e ∷ h) → made_so_far (e ∷ h) ≡ made_so_far h
    → ready s (e ∷ h) ≡ filter (has_key (live_keys s (e ∷ h))) (ready s h)
ready_kept s n h e acc legal same =
    ap (filter now) same
    ∙ (filter_same now (λ q. before q && now q) (made_so_far h) (λ q i. same_test (now q) (before q && now q) (λ t. and_both (before q) (now q) (was q i t) t) (λ t. and_right (before q) (now q) t))
    ∙ sym (filter_both now before (made_so_far h)))
  where
    now : TileKey → Bool
    now = has_key (live_keys s (e ∷ h))

    before : TileKey → Bool
    before = has_key (live_keys s h)

    was : (q : TileKey) → In q (made_so_far h) → now q ≡ true → before q ≡ true
    was q i t = still_live s n h e q acc legal ((were s n h legal.0).of_made q (has_in (made_so_far h) q i)) t

-- a tree of no commit has no keys

no_keys : (s : ScriptModel) (h : List Entry) → pending h ≡ None → keys_of (pending_tree s h) ≡ []
unfolding page_keys
no_keys s h e = ap (λ o. page_keys (page s (pulls_of h) (up_to o)) (stamp_in s (pulls_of h) (up_to o))) e

-- after a commit the same keys are ready

none_before : (s : ScriptModel) (n : ℕ) (h : List Entry) (a k : ℕ) → Legal s n (commit a k ∷ h) → pending h ≡ None
none_before s n h a k legal = none_where (pending h) (sym (course s n h legal.0).pending_state ∙ (at_commit s n h a k legal.1).none_pending)

pub commit_ready : (s : ScriptModel) (n : ℕ) (h : List Entry) (a k : ℕ) → IsPlayable s → Legal s n (commit a k ∷ h) → ready s (commit a k ∷ h) ≡ ready s h
commit_ready s n h a k acc legal = filter_same now before (made_so_far h) (λ q i. same_test (now q) (before q) (was q i) (still q))
  where
    now : TileKey → Bool
    now = has_key (live_keys s (commit a k ∷ h))

    before : TileKey → Bool
    before = has_key (live_keys s h)

    was : (q : TileKey) → In q (made_so_far h) → now q ≡ true → before q ≡ true
    was q i t = still_live s n h (commit a k) q acc legal ((were s n h legal.0).of_made q (has_in (made_so_far h) q i)) t

    of_active : (q : TileKey) → (has_key (keys_of (active_tree s h)) q ≡ true) ⊎ (has_key (keys_of (pending_tree s h)) q ≡ true) → now q ≡ true
    of_active q (inl t) =
        has_append (keys_of (active_tree s (commit a k ∷ h))) (keys_of (pending_tree s (commit a k ∷ h))) q
        ∙ or_left (has_key (keys_of (active_tree s (commit a k ∷ h))) q) (has_key (keys_of (pending_tree s (commit a k ∷ h))) q) (ap (λ z. has_key (keys_of z) q) (commit_active s n h a k legal) ∙ t)
    of_active q (inr t) = absurd (not_both (has_key (keys_of (pending_tree s h)) q) t (ap (λ ks. has_key ks q) (no_keys s h (none_before s n h a k legal))))

    still : (q : TileKey) → before q ≡ true → now q ≡ true
    still q t =
        of_active q (or_either (has_key (keys_of (active_tree s h)) q) (has_key (keys_of (pending_tree s h)) q)
        (sym (has_append (keys_of (active_tree s h)) (keys_of (pending_tree s h)) q) ∙ t))

-- after an activation the live keys are those of the tree that was pending

all_of : (ks : List TileKey) → ks ++ [] ≡ ks
all_of [] = refl
all_of (k ∷ ks) = ap (λ ls. k ∷ ls) (all_of ks)

pub activate_live : (s : ScriptModel) (n : ℕ) (h : List Entry) (a k : ℕ) (ms : List Move) → Legal s n (activate a k ms ∷ h) → live_keys s (activate a k ms ∷ h) ≡ keys_of (pending_tree s h)
activate_live s n h a k ms legal =
    let p = activate_active s n h a k ms legal in
    let o = no_keys s (activate a k ms ∷ h) (none_is_pending s n h a k ms legal) in
    (λ i. keys_of (p i) ++ o i) ∙ all_of (keys_of (pending_tree s h))

pub activate_ready : (s : ScriptModel) (n : ℕ) (h : List Entry) (a k : ℕ) (ms : List Move) → IsPlayable s → Legal s n (activate a k ms ∷ h)
    → ready s (activate a k ms ∷ h) ≡ filter (has_key (keys_of (pending_tree s h))) (ready s h)
activate_ready s n h a k ms acc legal =
    ready_kept s n h (activate a k ms) acc legal refl ∙ ap (λ ks. filter (has_key ks) (ready s h)) (activate_live s n h a k ms legal)
