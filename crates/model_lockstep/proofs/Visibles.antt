-- A required key that is not ready is wanted, and a visible tile is then the first.
use Rattle.std.proofs.Common.{ℕ, ◌≡◌, ◌⊎◌, inl, inr, Bool, true, false, cond, not, ◌&&◌, ◌==◌, Some, None, List, [], ◌∷◌, ◌++◌, Option, is_some, map, filter, filter_map, flat_map, find, option_map, refl, ap, sym, ◌∙◌, subst, eqb-true, eq-eqb}
use Rattle.std.specs.Prelude.{nat_lt}
use Rattle.std.specs.List.{list_all, cons_option}
use Rattle.std.specs.declared.cmp.Ordering.{Ordering}
use Rattle.std.specs.declared.cmp.Ordering.TheVariants.{Less, Equal, Greater}
use Rattle.geom.specs.declared.rect.Point.{Point}
use Rattle.geom.specs.declared.tile.Place.{Place}
use Rattle.geom.specs.declared.tile.TileKey.{TileKey}
use Rattle.geom.specs.Gaps.{distance}
use Rattle.geom.specs.Grids.{places}
use Rattle.tile_priority.specs.declared.rank.Bin.{Bin}
use Rattle.tile_priority.specs.declared.rank.Bin.TheVariants as bin
use Rattle.tile_priority.specs.declared.rank.Rank.{Rank}
use Rattle.tile_priority.specs.declared.rank.Side.{Side}
use Rattle.tile_priority.specs.declared.rank.Side.TheVariants as side
use Rattle.tile_priority.specs.declared.tile.Borders.{Borders}
use Rattle.tile_priority.specs.declared.tile.Seen.{Seen}
use Rattle.tile_priority.specs.Ordered.{In}
use Rattle.tile_priority.specs.Bins.{is_visible, bin_at, tree_number, rank_of}
use Rattle.tile_priority.specs.Ranks.{rank_cmp, least}
use Rattle.std.specs.Ordering.{match_ordering}
use Rattle.tile_priority.proofs.InOrder.{in_filter, filter_in, in_map}
use Rattle.tile_priority.proofs.Choosing.{visible_start}
use Rattle.page_layers.specs.Layers.{PageLayer, has_id}
use Rattle.page_layers.specs.Pages.{Page, viewport}
use Rattle.page_layers.specs.Refusals.{has_layer}
use Rattle.page_layers.specs.Sound.{AreDistinctLayers}
use Rattle.page_layers.specs.declared.moves.Move.{Move}
use Rattle.model_history.specs.declared.history.Entry.{Entry}
use Rattle.model_history.specs.Scripts.{ScriptModel}
use Rattle.model_history.specs.Accepted.{IsPlayable}
use Rattle.model_history.specs.Frames.{page, pulls_of, pending, up_to}
use Rattle.tile_visible.specs.Visible.{grid_of, seen, visible_places, visible_keys, put_layer, by_id, key_at}
use Rattle.geom.specs.KeyLists.{has_key}
use Rattle.model_history.specs.Tiles.{Tree, active_tree, pending_tree, keys_of, visible_in, live_keys, ready, in_flight, required, are_ready}
use Rattle.model_history.specs.Ranking.{borders, place_named, rank_on, rank_in, rank as key_rank, is_unmade, wanted, choice, rank_to_start}
use Rattle.model_history.specs.Scans.{has_ended}
use Rattle.model_history.specs.Scrolls.{next_clamps}
use Rattle.model_history.specs.Due.{on_if}
use Rattle.model_history.specs.DueParts.{due_activate}
use Rattle.model_history.specs.Legal.{sched, is_open, Legal}
use Rattle.model_history.specs.Lockstep.{is_possible}
use Rattle.model_history.specs.declared.event.Event.TheVariants as event
use Rattle.model_states.specs.declared.kind.Kind.TheVariants as kind
use Rattle.model_states.specs.Kinds.{is_inside_deadline, may}
use Rattle.model_history.proofs.Course.{course}
use Rattle.model_history.proofs.BoolFacts.{and_right, and_both, or_right, none_or_some}
use Rattle.model_history.proofs.KeyFacts.{has_append, in_has, has_in}
use Rattle.model_history.proofs.StampFacts.{visible_is_key}
use Rattle.model_history.proofs.PageFacts.{page_values}
use Rattle.model_history.proofs.BarePages.{no_pulls}
use Rattle.model_history.proofs.ScriptPages.{plain_page}

-- ---- elements of lists

pub in_append : {X : Type 0} (x : X) (xs ys : List X) → In x (xs ++ ys) → In x xs ⊎ In x ys
in_append x [] ys i = inr i
in_append x (z ∷ xs) ys (inl e) = inl (inl e)
in_append {X = X} x (z ∷ xs) ys (inr i) = by_or (in_append x xs ys i)
  where
    by_or : In x xs ⊎ In x ys → In x (z ∷ xs) ⊎ In x ys
    by_or (inl j) = inl (inr j)
    by_or (inr j) = inr j

pub in_flat_map : {X Y : Type 0} (f : X → List Y) (y : Y) (xs : List X) → In y (flat_map f xs) → (x : X) × In x xs × In y (f x)
in_flat_map f y [] i = absurd i
in_flat_map {X = X} f y (x ∷ xs) i = by_or (in_append y (f x) (flat_map f xs) i) (in_flat_map f y xs)
  where
    by_or : In y (f x) ⊎ In y (flat_map f xs) → (In y (flat_map f xs) → (z : X) × In z xs × In y (f z)) → (z : X) × In z (x ∷ xs) × In y (f z)
    by_or (inl j) r = (x, inl refl, j)
    by_or (inr j) r = let k = r j in (k.0, inr k.1, k.2)

pub option_in : {Y : Type 0} (y : Y) (o : Option Y) (ys : List Y) → (o ≡ Some y) ⊎ In y ys → In y (cons_option o ys)
option_in y None ys (inl e) = absurd cc
option_in y None ys (inr i) = i
option_in y (Some x) ys (inl e) = inl cc
option_in y (Some x) ys (inr i) = inr i

pub filter_map_in : {X Y : Type 0} (f : X → Option Y) (x : X) (y : Y) (xs : List X) → In x xs → f x ≡ Some y → In y (filter_map f xs)
filter_map_in f x y [] i e = absurd i
filter_map_in f x y (z ∷ xs) (inl j) e = option_in y (f z) (filter_map f xs) (inl (ap f (sym j) ∙ e))
filter_map_in f x y (z ∷ xs) (inr i) e = option_in y (f z) (filter_map f xs) (inr (filter_map_in f x y xs i e))

-- a key of a list that fails a test, where not all pass
pub not_all : (f : TileKey → Bool) (ks : List TileKey) → list_all f ks ≡ false → (q : TileKey) × In q ks × (f q ≡ false)
not_all f [] e = absurd cc
not_all f (k ∷ ks) e = by_head (f k) refl e (not_all f ks)
  where
    by_head : (b : Bool) → f k ≡ b → b && list_all f ks ≡ false → (list_all f ks ≡ false → (q : TileKey) × In q ks × (f q ≡ false)) → (q : TileKey) × In q (k ∷ ks) × (f q ≡ false)
    by_head true e g r = let x = r g in (x.0, inr x.1, x.2)
    by_head false e g r = (k, inl refl, e)

-- ---- layers

in_put : (x l : PageLayer) (ls : List PageLayer) → In x (put_layer l ls) → In x (l ∷ ls)
in_put x l [] i = i
in_put x l (k ∷ ks) i = by_test (nat_lt k.id l.id) i (in_put x l ks)
  where
    later : In x (k ∷ put_layer l ks) → (In x (put_layer l ks) → In x (l ∷ ks)) → In x (l ∷ k ∷ ks)
    later (inl e) r = inr (inl e)
    later (inr j) r = by_or (r j)
      where
        by_or : In x (l ∷ ks) → In x (l ∷ k ∷ ks)
        by_or (inl e) = inl e
        by_or (inr m) = inr (inr m)

    by_test : (b : Bool) → In x (cond b (k ∷ put_layer l ks) (l ∷ k ∷ ks)) → (In x (put_layer l ks) → In x (l ∷ ks)) → In x (l ∷ k ∷ ks)
    by_test true j r = later j r
    by_test false j r = j

pub in_by_id : (x : PageLayer) (ls : List PageLayer) → In x (by_id ls) → In x ls
in_by_id x [] i = i
in_by_id x (l ∷ ls) i = by_or (in_put x l (by_id ls) i) (in_by_id x ls)
  where
    by_or : In x (l ∷ by_id ls) → (In x (by_id ls) → In x ls) → In x (l ∷ ls)
    by_or (inl e) r = inl e
    by_or (inr j) r = inr (r j)

-- a layer of a list is there by its id
pub has_its_id : (l : PageLayer) (ls : List PageLayer) → In l ls → has_layer l.id ls ≡ true
has_its_id l [] i = absurd i
has_its_id l (k ∷ ks) (inl e) = ap (λ (b : Bool). is_some (cond b (Some k) (find (has_id l.id) ks))) (eq-eqb k.id l.id (ap (λ (z : PageLayer). z.id) (sym e)))
has_its_id l (k ∷ ks) (inr i) = by_test (k.id == l.id) (has_its_id l ks i)
  where
    by_test : (b : Bool) → has_layer l.id ks ≡ true → is_some (cond b (Some k) (find (has_id l.id) ks)) ≡ true
    by_test true r = refl
    by_test false r = r

-- of layers with ids of their own each is found by its id
pub found_by_id : (l : PageLayer) (ls : List PageLayer) → AreDistinctLayers ls → In l ls → find (has_id l.id) ls ≡ Some l
found_by_id l [] d i = absurd i
found_by_id l (k ∷ ks) d (inl e) =
    ap (λ (b : Bool). cond b (Some k) (find (has_id l.id) ks)) (eq-eqb k.id l.id (ap (λ (z : PageLayer). z.id) (sym e))) ∙ ap Some (sym e)
found_by_id l (k ∷ ks) d (inr i) = by_test (k.id == l.id) refl (found_by_id l ks d.1 i)
  where
    by_test : (b : Bool) → (k.id == l.id) ≡ b → find (has_id l.id) ks ≡ Some l → cond b (Some k) (find (has_id l.id) ks) ≡ Some l
    by_test true e r =
        let t : has_layer k.id ks ≡ true = ap (λ n. has_layer n ks) (eqb-true k.id l.id e) ∙ has_its_id l ks i in
        let f : has_layer k.id ks ≡ false = d.0 in
        absurd cc
    by_test false e r = r

pub layers_distinct : (s : ScriptModel) → IsPlayable s → (ps : ℕ → List Move) (n : ℕ) → AreDistinctLayers (page s ps n).layers
layers_distinct s a ps n = subst (λ (p : Page). AreDistinctLayers p.layers) (sym (page_values s ps no_pulls n)) (plain_page s a n).distinct

-- ---- ranks of visible tiles

-- a visible tile is NOW
rank_where_visible : (b : Borders) (a : Side) (v : Seen) (q : TileKey) → is_visible v ≡ true
    → rank_of b a v q ≡ Some (record { bin = bin.Now; tree = tree_number b.priority a; distance = distance v.screen b.viewport; key = q })
rank_where_visible b a v q t = ap (λ (t : Bool). option_map (λ bin. record { bin = bin; tree = tree_number b.priority a; distance = distance v.screen b.viewport; key = q }) (cond t (Some bin.Now) (bin_at b (distance v.screen b.viewport)))) t

-- a visible key of a page is that of a visible place of one of its layers
pub record Shown (p : Page) (offset : ℕ → Point) (stamp : ℕ → Place → ℕ) (q : TileKey) : Type 0 where
  pub layer : PageLayer
  pub place : Place
  pub among : In layer p.layers
  pub visible : is_visible (seen p offset layer place) ≡ true
  pub key : key_at stamp layer.id place ≡ q

pub shown : (p : Page) (offset : ℕ → Point) (stamp : ℕ → Place → ℕ) (q : TileKey) → In q (visible_keys p offset stamp) → Shown p offset stamp q
unfolding visible_keys visible_places
shown p offset stamp q i =
    let (l, il, j) = in_flat_map (λ (l : PageLayer). map (key_at stamp l.id) (visible_places p offset l)) q (by_id p.layers) i in
    let (place, k, e) = in_map (key_at stamp l.id) q (visible_places p offset l) j in
    let v = in_filter (λ (z : Place). is_visible (seen p offset l z)) place (places (grid_of p l)) k in
    record { layer = l; place = place; among = in_by_id l p.layers il; visible = v.1; key = e }

-- the rank of a visible key in a tree
abbrev pub seen_rank : ScriptModel → Side → Tree → PageLayer → Place → TileKey → Rank
seen_rank s a t l place q =
    record { bin = bin.Now; tree = tree_number s.priority a; distance = distance (seen t.page t.offset l place).screen (viewport t.page); key = q }

pub rank_of_shown : (s : ScriptModel) (a : Side) (t : Tree) (q : TileKey) → AreDistinctLayers t.page.layers → In q (visible_in t) → (x : Shown t.page t.offset t.stamp q) → rank_in s a t q ≡ Some (seen_rank s a t x.layer x.place q)
unfolding rank_in
rank_of_shown s a t q d i x =
    let b : Borders = borders s t.page in
    let v : Seen = seen t.page t.offset x.layer x.place in
    let has : has_key (keys_of t) q ≡ true = visible_is_key t.page t.offset t.stamp q (has_in (visible_in t) q i) in
    let is_layer : q.layer ≡ x.layer.id = ap (λ (k : TileKey). k.layer) (sym x.key) in
    let found : find (has_id q.layer) t.page.layers ≡ Some x.layer = ap (λ (n : ℕ). find (has_id n) t.page.layers) is_layer ∙ found_by_id x.layer t.page.layers d x.among in
    let is_place : place_named q ≡ x.place = ap (λ (k : TileKey). place_named k) (sym x.key) in
    let now : rank_on s a t q (Some x.layer) ≡ Some (seen_rank s a t x.layer x.place q) = ap (λ (z : Place). rank_of b a (seen t.page t.offset x.layer z) q) is_place ∙ rank_where_visible b a v q x.visible in
    ap (λ (z : Bool). cond z (rank_on s a t q (find (has_id q.layer) t.page.layers)) None) has ∙ (ap (λ (o : Option PageLayer). rank_on s a t q o) found ∙ now)

now_in_tree : (s : ScriptModel) (a : Side) (t : Tree) (q : TileKey) → AreDistinctLayers t.page.layers → In q (visible_in t) → (r : Rank) × (rank_in s a t q ≡ Some r) × (r.bin ≡ bin.Now)
now_in_tree s a t q d i =
    let x = shown t.page t.offset t.stamp q i in
    (seen_rank s a t x.layer x.place q, rank_of_shown s a t q d i x, refl)

-- the better of two ranks is NOW where the second is
better_now : (o : Option Rank) (r : Rank) → r.bin ≡ bin.Now → (z : Rank) × (least o (Some r) ≡ Some z) × (z.bin ≡ bin.Now)
better_now None r e = (r, refl, e)
better_now (Some a) r e = by_bin a.bin refl
  where
    by_order : (t : Ordering) → a.bin ≡ bin.Now → (z : Rank) × (match_ordering t (Some r) (Some a) (Some a) ≡ Some z) × (z.bin ≡ bin.Now)
    by_order Less f = (r, refl, e)
    by_order Equal f = (a, refl, f)
    by_order Greater f = (a, refl, f)

    by_bin : (b : Bin) → a.bin ≡ b → (z : Rank) × (least (Some a) (Some r) ≡ Some z) × (z.bin ≡ bin.Now)
    by_bin bin.Now f = by_order (rank_cmp r a) f
    by_bin bin.Soon f = (r, rw (e, f) refl, e)
    by_bin bin.Eventually f = (r, rw (e, f) refl, e)

-- ---- what an activation needs

-- a required key that is not ready, with its rank
pub record IsWanted (s : ScriptModel) (h : List Entry) (q : TileKey) : Type 0 where
  pub rank : Rank
  pub ranked : key_rank s h q ≡ Some rank
  pub now : rank.bin ≡ bin.Now
  pub wanted : In rank (wanted s h)

pub required_wanted : (s : ScriptModel) → IsPlayable s → (h : List Entry) (q : TileKey) → in_flight h ≡ [] → In q (required s h) → has_key (ready s h) q ≡ false → IsWanted s h q
required_wanted s a h q flies i out =
    let (p, is_p, p_now) = now_in_tree s side.Pending (pending_tree s h) q (layers_distinct s a (pulls_of h) (up_to (pending h))) i in
    let (r, is_r, r_now) = better_now (rank_in s side.Active (active_tree s h) q) p p_now in
    let e : key_rank s h q ≡ Some r = ap (λ (o : Option Rank). least (rank_in s side.Active (active_tree s h) q) o) is_p ∙ is_r in
    let key : has_key (keys_of (pending_tree s h)) q ≡ true = visible_is_key (pending_tree s h).page (pending_tree s h).offset (pending_tree s h).stamp q (has_in (required s h) q i) in
    let live : has_key (live_keys s h) q ≡ true = has_append (keys_of (active_tree s h)) (keys_of (pending_tree s h)) q ∙ or_right (has_key (keys_of (active_tree s h)) q) (has_key (keys_of (pending_tree s h)) q) key in
    let unmade : is_unmade s h q ≡ true = and_both (not (has_key (ready s h) q)) (not (has_key (in_flight h) q)) (ap not out) (ap (λ (ks : List TileKey). not (has_key ks q)) flies) in
    let among : In q (filter (is_unmade s h) (live_keys s h)) = filter_in (is_unmade s h) q (live_keys s h) (in_has (live_keys s h) q live) unmade in
    record { rank = r; ranked = e; now = r_now; wanted = filter_map_in (key_rank s h) q r (filter (is_unmade s h) (live_keys s h)) among e }

-- where not all that an activation needs is ready, a visible tile is the first
pub required_first : (s : ScriptModel) → IsPlayable s → (h : List Entry) → in_flight h ≡ [] → are_ready s h (required s h) ≡ false → (r : Rank) × (rank_to_start s h ≡ Some r) × (r.bin ≡ bin.Now)
required_first s a h flies out =
    let (q, i, lacks) = not_all (has_key (ready s h)) (required s h) out in
    let w = required_wanted s a h q flies i lacks in
    visible_start.goes_first (choice s h) w.rank w.wanted w.now

-- so where the pending commit can't be activated, though the state allows it
stuck : (s : ScriptModel) (h : List Entry) (k : ℕ) → is_open h kind.Activate ≡ true → pending h ≡ Some k → is_possible s kind.Activate 0 h ≡ false → are_ready s h (required s h) ≡ false
stuck s h k o e f = by_ready (are_ready s h (required s h)) refl
  where
    by_ready : (b : Bool) → are_ready s h (required s h) ≡ b → are_ready s h (required s h) ≡ false
    by_ready false r = r
    by_ready true r =
        let d : due_activate s h (pending h) ≡ Some (event.Activate k (next_clamps s h)) = ap (due_activate s h) e ∙ ap (λ (b : Bool). on_if b (event.Activate k (next_clamps s h))) r in
        let t : is_possible s kind.Activate 0 h ≡ true = ap (λ (b : Bool). is_some (cond b (due_activate s h (pending h)) None)) o ∙ ap is_some d in
        absurd cc

pub stuck_first : (s : ScriptModel) (n : ℕ) (h : List Entry) → IsPlayable s → Legal s n h → in_flight h ≡ [] → is_open h kind.Activate ≡ true → is_possible s kind.Activate 0 h ≡ false
    → (r : Rank) × (rank_to_start s h ≡ Some r) × (r.bin ≡ bin.Now)
stuck_first s n h a l flies o f =
    let state : may (sched h) kind.Activate ≡ true = and_right (not (has_ended h)) (may (sched h) kind.Activate) o in
    let pend : (sched h).has_pending ≡ true = and_right (not (is_inside_deadline (sched h).impl_state)) (sched h).has_pending state in
    let (k, e) = none_or_some (pending h) (sym (course s n h l).pending_state ∙ pend) in
    required_first s a h flies (stuck s h k o e f)
