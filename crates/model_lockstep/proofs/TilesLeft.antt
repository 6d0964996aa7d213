-- A pair leaves fewer tiles to make: the key that was first is ready, and what was evicted for it is of a worse bin.
use Rattle.std.proofs.Common.{◌≡◌, ◌<◌, ◌≤◌, Bool, true, false, not, ◌&&◌, Some, None, List, Option, filter, length, refl, ap, sym, ◌∙◌, subst, arith}
use Rattle.geom.specs.declared.tile.TileKey.{TileKey}
use Rattle.tile_priority.specs.declared.rank.Bin.{Bin}
use Rattle.tile_priority.specs.declared.rank.Bin.TheVariants as bin
use Rattle.tile_priority.specs.declared.rank.Rank.{Rank}
use Rattle.tile_priority.specs.Ranks.{bin_number}
use Rattle.tile_priority.specs.Tiles.{Tile}
use Rattle.tile_priority.specs.Choice.{evictable_key, evictable_of, evicted, is_worse}
use Rattle.tile_priority.proofs.InOrder.{in_map}
use Rattle.tile_priority.proofs.Choosing.{first_is_one, evicted_give_way}
use Rattle.model_history.specs.declared.history.Entry.{Entry}
use Rattle.model_history.specs.Scripts.{ScriptModel}
use Rattle.geom.specs.KeyLists.{same_key, has_key}
use Rattle.geom.proofs.KeyLists.{key_itself}
use Rattle.model_history.specs.Tiles.{without_keys, live_keys, made_so_far, ready}
use Rattle.model_history.specs.Ranking.{rank, is_unmade, ready_tile, choice, rank_to_start, evicted_for}
use Rattle.model_history.proofs.BoolFacts.{and_left, and_right, and_both, or_left, or_right, is_false, not_both, not_true, same_number, is_same, is_below}
use Rattle.model_history.proofs.KeyFacts.{has_filter, has_without, has_in, in_has}
use Rattle.model_history.proofs.RankFacts.{rank_key, key_of_rank, in_filter_map, first_unmade, key_of_evictable}
use Rattle.model_lockstep.specs.Measures.{is_of_bin, is_to_make, to_make, tiles_left}
use Rattle.model_lockstep.proofs.Entering.{after_pair}
use Rattle.model_lockstep.proofs.Counts.{no_more_pass, fewer_pass, filter_short, now_falls, soon_falls, last_falls}

-- ---- what is ready after a pair

ready_is : (s : ScriptModel) (h : List Entry) (q : TileKey) → has_key (ready s h) q ≡ (has_key (made_so_far h) q && has_key (live_keys s h) q)
ready_is s h q = has_filter (has_key (live_keys s h)) (made_so_far h) q

-- a live key that is not ready then was not ready before, or was evicted
was_unready : (s : ScriptModel) (h : List Entry) (r : Rank) (q : TileKey) → has_key (live_keys s h) q ≡ true → has_key (evicted_for s h r) q ≡ false
    → has_key (ready s (after_pair s h r)) q ≡ false → has_key (ready s h) q ≡ false
was_unready s h r q live stays out =
    is_false (has_key (ready s h) q)
    (λ t.
    let was : has_key (made_so_far h) q ≡ true = and_left (has_key (made_so_far h) q) (has_key (live_keys s h) q) (sym (ready_is s h q) ∙ t) in
    let left : has_key (without_keys (made_so_far h) (evicted_for s h r)) q ≡ true =
    has_without (made_so_far h) (evicted_for s h r) q ∙ and_both (has_key (made_so_far h) q) (not (has_key (evicted_for s h r) q)) was (ap not stays) in
    let now : has_key (made_so_far (after_pair s h r)) q ≡ true = or_right (same_key r.key q) (has_key (without_keys (made_so_far h) (evicted_for s h r)) q) left in
    not_both (has_key (ready s (after_pair s h r)) q) (ready_is s (after_pair s h r) q ∙ and_both (has_key (made_so_far (after_pair s h r)) q) (has_key (live_keys s h) q) now live) out)

-- the key that was started is ready
is_made : (s : ScriptModel) (h : List Entry) (r : Rank) → has_key (live_keys s h) r.key ≡ true → has_key (ready s (after_pair s h r)) r.key ≡ true
is_made s h r live =
    ready_is s (after_pair s h r) r.key
    ∙ and_both (has_key (made_so_far (after_pair s h r)) r.key) (has_key (live_keys s h) r.key) (or_left (same_key r.key r.key) (has_key (without_keys (made_so_far h) (evicted_for s h r)) r.key) (key_itself r.key)) live

-- ---- what is evicted

-- it is of a worse bin, or of none
evicted_worse : (s : ScriptModel) (h : List Entry) (r : Rank) (q : TileKey) → has_key (evicted_for s h r) q ≡ true → is_worse (rank s h q) r.bin ≡ true
evicted_worse s h r q t =
    let (v, i, e) = in_map evictable_key q (evicted (choice s h) r) (in_has (evicted_for s h r) q t) in
    let (tile, j, w, g) = evicted_give_way.ready (choice s h) r v i in
    let (k, l, u) = in_map (ready_tile s h) tile (ready s h) j in
    let key : k ≡ q = sym (key_of_evictable k (rank s h k) (rank_key s h k)) ∙ (ap (λ (z : Tile). evictable_key (evictable_of z)) u ∙ (ap evictable_key w ∙ e)) in
    let worse : is_worse tile.rank r.bin ≡ true = and_right (not tile.pinned) (is_worse tile.rank r.bin) g in
    ap (λ (z : TileKey). is_worse (rank s h z) r.bin) (sym key) ∙ (ap (λ (z : Tile). is_worse z.rank r.bin) u ∙ worse)

not_worse : (b c : Bin) (o : Option Rank) → bin_number b ≤ bin_number c → is_of_bin b o ≡ true → is_worse o c ≡ true → ⊥
not_worse b c None l t u = cc
not_worse b c (Some p) l t u =
    let e = same_number (bin_number p.bin) (bin_number b) t in
    let m = is_below (bin_number c) (bin_number p.bin) u in
    absurd (omega (arith, l, e, m))

-- ---- how many are left

still_to_make : (s : ScriptModel) (h : List Entry) (r : Rank) (b : Bin) (q : TileKey) → bin_number b ≤ bin_number r.bin → has_key (live_keys s h) q ≡ true
    → is_to_make s (after_pair s h r) b q ≡ true → is_to_make s h b q ≡ true
still_to_make s h r b q l live t =
    let out : has_key (ready s (after_pair s h r)) q ≡ false = not_true (has_key (ready s (after_pair s h r)) q) (and_left (not (has_key (ready s (after_pair s h r)) q)) (is_of_bin b (rank s h q)) t) in
    let of_bin : is_of_bin b (rank s h q) ≡ true = and_right (not (has_key (ready s (after_pair s h r)) q)) (is_of_bin b (rank s h q)) t in
    let stays : has_key (evicted_for s h r) q ≡ false = is_false (has_key (evicted_for s h r) q) (λ u. not_worse b r.bin (rank s h q) l of_bin (evicted_worse s h r q u)) in
    and_both (not (has_key (ready s h) q)) (is_of_bin b (rank s h q)) (ap not (was_unready s h r q live stays out)) of_bin

pub no_more_to_make : (s : ScriptModel) (h : List Entry) (r : Rank) (b : Bin) → bin_number b ≤ bin_number r.bin → to_make s (after_pair s h r) b ≤ to_make s h b
unfolding to_make
no_more_to_make s h r b l =
    no_more_pass (is_to_make s (after_pair s h r) b) (is_to_make s h b) (live_keys s h) (λ q i t. still_to_make s h r b q l (has_in (live_keys s h) q i) t)

-- the first key is to be made, by its own rank
first_ranked : (s : ScriptModel) (h : List Entry) (r : Rank) → rank_to_start s h ≡ Some r → rank s h r.key ≡ Some r
first_ranked s h r e =
    let f = first_is_one.there (choice s h) r e in
    let (q, i, o) = in_filter_map (rank s h) r (filter (is_unmade s h) (live_keys s h)) f.wanted in
    let k : r.key ≡ q = key_of_rank q (rank s h q) r (rank_key s h q) o in
    ap (λ (z : TileKey). rank s h z) k ∙ o

pub one_fewer_to_make : (s : ScriptModel) (h : List Entry) (r : Rank) → rank_to_start s h ≡ Some r → to_make s (after_pair s h r) r.bin < to_make s h r.bin
unfolding to_make
one_fewer_to_make s h r e =
    let u = first_unmade s h r e in
    let own : is_of_bin r.bin (rank s h r.key) ≡ true = ap (λ (o : Option Rank). is_of_bin r.bin o) (first_ranked s h r e) ∙ is_same (bin_number r.bin) (bin_number r.bin) refl in
    fewer_pass (is_to_make s (after_pair s h r) r.bin) (is_to_make s h r.bin) r.key (live_keys s h)
    (λ q i t. still_to_make s h r r.bin q (omega arith) (has_in (live_keys s h) q i) t)
    (in_has (live_keys s h) r.key u.live)
    (ap (λ (b : Bool). not b && is_of_bin r.bin (rank s h r.key)) (is_made s h r u.live))
    (and_both (not (has_key (ready s h) r.key)) (is_of_bin r.bin (rank s h r.key)) (ap not u.not_ready) own)

few_to_make : (s : ScriptModel) (h : List Entry) (b : Bin) → to_make s h b ≤ length (live_keys s h)
unfolding to_make
few_to_make s h b = filter_short (is_to_make s h b) (live_keys s h)

by_bin : (s : ScriptModel) (h : List Entry) (r : Rank) (b : Bin) → r.bin ≡ b → rank_to_start s h ≡ Some r → tiles_left s (after_pair s h r) < tiles_left s h
unfolding tiles_left
by_bin s h r bin.Now f e =
    let now : to_make s (after_pair s h r) bin.Now < to_make s h bin.Now = subst (λ (b : Bin). to_make s (after_pair s h r) b < to_make s h b) f (one_fewer_to_make s h r e) in
    now_falls (length (live_keys s h)) (to_make s (after_pair s h r) bin.Now) (to_make s (after_pair s h r) bin.Soon) (to_make s (after_pair s h r) bin.Eventually)
    (to_make s h bin.Now) (to_make s h bin.Soon) (to_make s h bin.Eventually) now (few_to_make s (after_pair s h r) bin.Soon) (few_to_make s (after_pair s h r) bin.Eventually)
by_bin s h r bin.Soon f e =
    let number : bin_number r.bin ≡ 1 = ap bin_number f in
    let soon : to_make s (after_pair s h r) bin.Soon < to_make s h bin.Soon = subst (λ (b : Bin). to_make s (after_pair s h r) b < to_make s h b) f (one_fewer_to_make s h r e) in
    soon_falls (length (live_keys s h)) (to_make s (after_pair s h r) bin.Now) (to_make s (after_pair s h r) bin.Soon) (to_make s (after_pair s h r) bin.Eventually)
    (to_make s h bin.Now) (to_make s h bin.Soon) (to_make s h bin.Eventually) (no_more_to_make s h r bin.Now (omega arith)) soon (few_to_make s (after_pair s h r) bin.Eventually)
by_bin s h r bin.Eventually f e =
    let number : bin_number r.bin ≡ 2 = ap bin_number f in
    let later : to_make s (after_pair s h r) bin.Eventually < to_make s h bin.Eventually = subst (λ (b : Bin). to_make s (after_pair s h r) b < to_make s h b) f (one_fewer_to_make s h r e) in
    last_falls (length (live_keys s h)) (to_make s (after_pair s h r) bin.Now) (to_make s (after_pair s h r) bin.Soon) (to_make s (after_pair s h r) bin.Eventually)
    (to_make s h bin.Now) (to_make s h bin.Soon) (to_make s h bin.Eventually) (no_more_to_make s h r bin.Now (omega arith)) (no_more_to_make s h r bin.Soon (omega (arith, number))) later

-- a pair leaves fewer tiles to make
pub fewer_left : (s : ScriptModel) (h : List Entry) (r : Rank) → rank_to_start s h ≡ Some r → tiles_left s (after_pair s h r) < tiles_left s h
fewer_left s h r e = by_bin s h r r.bin refl e
