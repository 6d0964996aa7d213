-- A choice of which the visible tiles alone are looked at tells what the whole choice does.
use Rattle.std.proofs.Common.{◌≡◌, inl, inr, ℕ, suc, ◌+◌, ◌-◌, ◌≤◌, nat_le, nat_lt, Bool, true, false, cond, not, ◌&&◌, ◌||◌, Option, Some, None, List, [], ◌∷◌, ◌++◌, length, map, filter, refl, sym, ◌∙◌, ap, subst, arith}
use Rattle.std.specs.Prelude.{filter_map, take}
use Rattle.std.specs.declared.cmp.Ordering.TheVariants.{Less, Greater}
use Rattle.geom.specs.declared.tile.TileKey.{TileKey}
use Rattle.tile_priority.specs.declared.rank.Bin.{Bin}
use Rattle.tile_priority.specs.declared.rank.Bin.TheVariants as bin
use Rattle.tile_priority.specs.declared.rank.Rank.{Rank}
use Rattle.tile_priority.specs.Ranks.{bin_number, rank_cmp}
use Rattle.tile_priority.specs.Tiles.{Tile}
use Rattle.tile_priority.specs.Ordered.{In, SameMembers}
use Rattle.tile_priority.specs.Choice.{Choice, used, evictable_of, gives_way, is_worse, evictables, worst_cmp, worst_first, is_now, may_start, least_of, first, IsFirst, evicted, is_visible_rank}
use Rattle.tile_priority.specs.Ordered.{in_order}
use Rattle.tile_priority.specs.Alike.{Alike, is_of, is_among, tile_rank, choice_after_start, finished}
use Rattle.tile_priority.proofs.InOrder.{in_filter, filter_in, same_filter, same_trans}
use Rattle.tile_priority.proofs.Members.{in_append, in_append_left, in_append_right, same_itself, same_filter_map}
use Rattle.tile_priority.proofs.Choosing.{first_is_one, visible_start, order_is_free}
use Rattle.tile_priority.proofs.StayAlike.{alike_stay, filter_both, as_many_filter, as_many_cons}
use Rattle.model_steps.proofs.Picks.{filter_same, filter_swap}
use Rattle.impl_tiles.specs.Visible.{is_shown, is_hidden, without_shown, WantsVisible, Shows, TellsFirst, finished_hidden}

-- ---- ready tiles that are visible are never evicted

hidden_way : (o : Option Rank) (p : Bool) (b : Bin) → (not (is_visible_rank o) && (not p && is_worse o b)) ≡ (not p && is_worse o b)
hidden_way None p b = refl
hidden_way (Some r) p b = by_bin r.bin p b
  where
    by_bin : (x : Bin) (p : Bool) (b : Bin) → (not (is_now x) && (not p && nat_lt (bin_number b) (bin_number x))) ≡ (not p && nat_lt (bin_number b) (bin_number x))
    by_bin bin.Now true b = refl
    by_bin bin.Now false bin.Now = refl
    by_bin bin.Now false bin.Soon = refl
    by_bin bin.Now false bin.Eventually = refl
    by_bin bin.Soon p b = refl
    by_bin bin.Eventually p b = refl

and_first : (a b : Bool) → (a && b) ≡ b → b ≡ true → a ≡ true
and_first true b e t = refl
and_first false b e t = absurd (let f : false ≡ true = e ∙ t in cc)

-- what gives way is not visible
pub way_hidden : (b : Bin) (t : Tile) → gives_way b t ≡ true → is_hidden t ≡ true
way_hidden b t g = and_first (is_hidden t) (gives_way b t) (hidden_way t.rank t.pinned b) g

same_evictables : (c : Choice) (q : Rank) → evictables (without_shown c) q ≡ evictables c q
same_evictables c q =
    ap (map evictable_of)
    (filter_both (gives_way q.bin) is_hidden c.ready
    ∙ filter_same (λ t. is_hidden t && gives_way q.bin t) (gives_way q.bin) c.ready (λ t i. hidden_way t.rank t.pinned q.bin))

pub both_parts : (xs : List Tile) → length (filter is_hidden xs) + length (filter (λ t. is_visible_rank t.rank) xs) ≡ length xs
both_parts [] = refl
both_parts (t ∷ xs) = by_test (is_visible_rank t.rank) (both_parts xs)
  where
    by_test : (b : Bool) → length (filter is_hidden xs) + length (filter (λ t. is_visible_rank t.rank) xs) ≡ length xs
        → length (cond (not b) (t ∷ filter is_hidden xs) (filter is_hidden xs)) + length (cond b (t ∷ filter (λ t. is_visible_rank t.rank) xs) (filter (λ t. is_visible_rank t.rank) xs)) ≡ suc (length xs)
    by_test true e = omega (arith, e)
    by_test false e = omega (arith, e)

same_used : (c : Choice) → used (without_shown c) ≡ used c
same_used c = let e = both_parts c.ready in omega (arith, e)

same_worst : (c : Choice) (q : Rank) → worst_first (without_shown c) q ≡ worst_first c q
unfolding worst_first
same_worst c q = ap (in_order worst_cmp) (same_evictables c q)

pub same_may_start : (c : Choice) (q : Rank) → may_start (without_shown c) q ≡ may_start c q
unfolding may_start
same_may_start c q =
    let w = same_worst c q in
    let u = same_used c in
    λ i. is_now q.bin || nat_le ((u i + 1) - length (w i)) c.budget

pub same_evicted : (c : Choice) (q : Rank) → evicted (without_shown c) q ≡ evicted c q
unfolding evicted
same_evicted c q =
    let w = same_worst c q in
    let u = same_used c in
    λ i. take ((u i + 1) - c.budget) (w i)

pub same_first : (c : Choice) → first (without_shown c) ≡ first c
unfolding first
same_first c = let e : may_start (without_shown c) ≡ may_start c = λ i q. same_may_start c q i in ap (λ f. least_of (filter f c.wanted)) e

-- ---- a choice that wants some of what another wants

now_is : (b : Bin) → is_now b ≡ true → b ≡ bin.Now
now_is bin.Now t = refl
now_is bin.Soon t = absurd cc
now_is bin.Eventually t = absurd cc

-- what comes before a visible tile is visible
before_now : (p q : Rank) → rank_cmp p q ≡ Less → q.bin ≡ bin.Now → p.bin ≡ bin.Now
before_now p q l e = by_bin p.bin refl
  where
    not_less : rank_cmp p q ≡ Greater → p.bin ≡ bin.Now
    not_less g = absurd (let f : Less ≡ Greater = sym l ∙ g in cc)

    by_bin : (b : Bin) → p.bin ≡ b → p.bin ≡ bin.Now
    by_bin bin.Now f = f
    by_bin bin.Soon f = not_less (rw (f, e) refl)
    by_bin bin.Eventually f = not_less (rw (f, e) refl)

module _ (part whole : Choice) (w : WantsVisible part whole) where
  -- the part, with all that is wanted
  abbrev filled : Choice
  filled = record { wanted = whole.wanted; ready = part.ready; in_flight = part.in_flight; budget = part.budget }

  filled_alike : Alike filled whole
  filled_alike = record { wanted = same_itself whole.wanted; ready = w.ready; as_many = w.as_many; in_flight = w.in_flight; budget = w.budget }

  part_may_start : (q : Rank) → may_start part q ≡ may_start whole q
  unfolding may_start worst_first
  part_may_start q = order_is_free.may_start filled whole q (alike_stay.same_choice filled whole filled_alike)

  part_evicted : (q : Rank) → evicted part q ≡ evicted whole q
  unfolding evicted worst_first
  part_evicted q = order_is_free.evicted filled whole q (alike_stay.same_choice filled whole filled_alike)

  -- a visible tile that starts first in the part is the first in the whole
  first_visible : (r : Rank) → first part ≡ Some r → r.bin ≡ bin.Now → first whole ≡ Some r
  first_visible r e now =
      let a : IsFirst part r = first_is_one.there part r e in
      first_is_one.only whole r (record {
        wanted = w.among r a.wanted;
        starts = visible_start.may whole r now;
        none_better = λ p i t l. let n : p.bin ≡ bin.Now = before_now p r l now in a.none_better p (w.visible p i n) (visible_start.may part p n) l;
      })

  first_shown : (o : Option Rank) → first part ≡ o → is_visible_rank o ≡ true → first part ≡ first whole
  first_shown None e t = absurd cc
  first_shown (Some r) e t = e ∙ sym (first_visible r e (now_is r.bin t))

  -- a visible tile that is wanted starts first
  shown_where : (p : Rank) → In p part.wanted → is_now p.bin ≡ true → is_visible_rank (first part) ≡ true
  shown_where p i t =
      let (r, e, n) = visible_start.goes_first part p i (now_is p.bin t) in
      ap is_visible_rank e ∙ ap is_now n

  none_by : (none : (q : Rank) → is_now q.bin ≡ false → may_start part q ≡ false) → is_visible_rank (first part) ≡ false → first part ≡ first whole
  none_by none e =
      first_is_one.none_only part (λ p i. by_bin p i (is_now p.bin) refl)
      ∙ sym (first_is_one.none_only whole (λ p i. by_bin_whole p i (is_now p.bin) refl))
    where
      by_bin : (p : Rank) → In p part.wanted → (b : Bool) → is_now p.bin ≡ b → may_start part p ≡ false
      by_bin p i false n = none p n
      by_bin p i true n = absurd (let f : true ≡ false = sym (shown_where p i n) ∙ e in cc)

      by_bin_whole : (p : Rank) → In p whole.wanted → (b : Bool) → is_now p.bin ≡ b → may_start whole p ≡ false
      by_bin_whole p i false n = sym (part_may_start p) ∙ none p n
      by_bin_whole p i true n = absurd (let f : true ≡ false = sym (shown_where p (w.visible p i (now_is p.bin n)) n) ∙ e in cc)

  told_first : TellsFirst part → first part ≡ first whole
  told_first (inl t) = first_shown (first part) refl t
  told_first (inr none) = by_shown (is_visible_rank (first part)) refl
    where
      by_shown : (b : Bool) → is_visible_rank (first part) ≡ b → first part ≡ first whole
      by_shown true e = first_shown (first part) refl e
      by_shown false e = none_by none e

  -- the same key starts in both
  wants_started : (q : TileKey) (ks : List TileKey) → WantsVisible (choice_after_start part q ks) (choice_after_start whole q ks)
  wants_started q ks =
      let again : SameMembers (filter_map tile_rank (filter (is_among ks) part.ready)) (filter_map tile_rank (filter (is_among ks) whole.ready)) =
      same_filter_map tile_rank (filter (is_among ks) part.ready) (filter (is_among ks) whole.ready) (same_filter (is_among ks) part.ready whole.ready w.ready) in
      record {
        among = λ r i. elim (in_append r (filter (λ r. not (is_of q r)) part.wanted) (filter_map tile_rank (filter (is_among ks) part.ready)) i) [
          | inl j ↦ in_append_left r (filter (λ r. not (is_of q r)) whole.wanted) (filter_map tile_rank (filter (is_among ks) whole.ready)) (still_among r j)
          | inr j ↦ in_append_right r (filter (λ r. not (is_of q r)) whole.wanted) (filter_map tile_rank (filter (is_among ks) whole.ready)) (again.there r j)
        ];
        visible = λ r i n. elim (in_append r (filter (λ r. not (is_of q r)) whole.wanted) (filter_map tile_rank (filter (is_among ks) whole.ready)) i) [
          | inl j ↦ in_append_left r (filter (λ r. not (is_of q r)) part.wanted) (filter_map tile_rank (filter (is_among ks) part.ready)) (still_visible r j n)
          | inr j ↦ in_append_right r (filter (λ r. not (is_of q r)) part.wanted) (filter_map tile_rank (filter (is_among ks) part.ready)) (again.back r j)
        ];
        ready = same_filter (λ t. not (is_among ks t)) part.ready whole.ready w.ready;
        as_many = as_many_filter (λ t. not (is_among ks t)) part.ready whole.ready w.as_many;
        in_flight = ap (λ n. n + 1) w.in_flight;
        budget = w.budget;
      }
    where
      still_among : (r : Rank) → In r (filter (λ r. not (is_of q r)) part.wanted) → In r (filter (λ r. not (is_of q r)) whole.wanted)
      still_among r i = let k = in_filter (λ r. not (is_of q r)) r part.wanted i in filter_in (λ r. not (is_of q r)) r whole.wanted (w.among r k.0) k.1

      still_visible : (r : Rank) → In r (filter (λ r. not (is_of q r)) whole.wanted) → r.bin ≡ bin.Now → In r (filter (λ r. not (is_of q r)) part.wanted)
      still_visible r i n = let k = in_filter (λ r. not (is_of q r)) r whole.wanted i in filter_in (λ r. not (is_of q r)) r part.wanted (w.visible r k.0 n) k.1

  -- the same tile is made in both
  wants_finished : (tile : Option Tile) → WantsVisible (finished part tile) (finished whole tile)
  wants_finished None = record { among = w.among; visible = w.visible; ready = w.ready; as_many = w.as_many; in_flight = ap (λ n. n - 1) w.in_flight; budget = w.budget }
  wants_finished (Some t) = record {
    among = w.among;
    visible = w.visible;
    ready = record { there = λ x i. elim i [ inl e ↦ inl e | inr j ↦ inr (w.ready.there x j) ]; back = λ x i. elim i [ inl e ↦ inl e | inr j ↦ inr (w.ready.back x j) ] };
    as_many = as_many_cons t part.ready whole.ready w.as_many;
    in_flight = ap (λ n. n - 1) w.in_flight;
    budget = w.budget;
  }

-- alike choices are parts of the same, and have the same parts

pub alike_part : (c part whole : Choice) → Alike c part → WantsVisible part whole → WantsVisible c whole
alike_part c part whole a w = record {
  among = λ r i. w.among r (a.wanted.there r i);
  visible = λ r i n. a.wanted.back r (w.visible r i n);
  ready = same_trans c.ready part.ready whole.ready a.ready w.ready;
  as_many = λ f. a.as_many f ∙ w.as_many f;
  in_flight = a.in_flight ∙ w.in_flight;
  budget = a.budget ∙ w.budget;
}

alike_whole : (part whole d : Choice) → WantsVisible part whole → Alike whole d → WantsVisible part d
alike_whole part whole d w a = record {
  among = λ r i. a.wanted.there r (w.among r i);
  visible = λ r i n. w.visible r (a.wanted.back r i) n;
  ready = same_trans part.ready whole.ready d.ready w.ready a.ready;
  as_many = λ f. w.as_many f ∙ a.as_many f;
  in_flight = w.in_flight ∙ a.in_flight;
  budget = w.budget ∙ a.budget;
}

-- ---- the part that is looked at

without_alike : (c d : Choice) → Alike c d → Alike (without_shown c) (without_shown d)
without_alike c d a =
    let n : length (filter (λ t. is_visible_rank t.rank) c.ready) ≡ length (filter (λ t. is_visible_rank t.rank) d.ready) = a.as_many (λ t. is_visible_rank t.rank) in
    record {
      wanted = a.wanted;
      ready = same_filter is_hidden c.ready d.ready a.ready;
      as_many = as_many_filter is_hidden c.ready d.ready a.as_many;
      in_flight = λ i. a.in_flight i + n i;
      budget = a.budget;
    }

pub shows_alike : (part whole d : Choice) → Shows part whole → Alike whole d → Shows part d
shows_alike part whole d s a = alike_whole part (without_shown whole) (without_shown d) s (without_alike whole d a)

-- it tells what starts first, and what is evicted for it
pub shows_first : (part whole : Choice) → Shows part whole → TellsFirst part → first part ≡ first whole
shows_first part whole s t = told_first part (without_shown whole) s t ∙ same_first whole

pub shows_evicted : (part whole : Choice) (q : Rank) → Shows part whole → evicted part q ≡ evicted whole q
shows_evicted part whole q s = part_evicted part (without_shown whole) s q ∙ same_evicted whole q

-- where the tiles that are evicted are not visible it stays the part that is looked at

then_true : (a b : Bool) → (b ≡ true → a ≡ true) → (a && b) ≡ b
then_true true b f = refl
then_true false true f = f refl
then_true false false f = refl

other_true : (v b : Bool) → (b ≡ true → not v ≡ true) → (not b && v) ≡ v
other_true v false f = refl
other_true false true f = refl
other_true true true f = f refl

module _ (c : Choice) (q : TileKey) (ks : List TileKey) (hidden : (t : Tile) → In t c.ready → is_among ks t ≡ true → is_hidden t ≡ true) where
  same_again : filter (is_among ks) (filter is_hidden c.ready) ≡ filter (is_among ks) c.ready
  same_again =
      filter_both (is_among ks) is_hidden c.ready
      ∙ filter_same (λ t. is_hidden t && is_among ks t) (is_among ks) c.ready (λ t i. then_true (is_hidden t) (is_among ks t) (hidden t i))

  same_shown : filter (λ t. is_visible_rank t.rank) (filter (λ t. not (is_among ks t)) c.ready) ≡ filter (λ t. is_visible_rank t.rank) c.ready
  same_shown =
      filter_both (λ t. is_visible_rank t.rank) (λ t. not (is_among ks t)) c.ready
      ∙ filter_same (λ t. not (is_among ks t) && is_visible_rank t.rank) (λ t. is_visible_rank t.rank) c.ready (λ t i. other_true (is_visible_rank t.rank) (is_among ks t) (hidden t i))

  one_more : (n m k : ℕ) → k ≡ m → (n + m) + 1 ≡ (n + 1) + k
  one_more n m k e = omega (arith, e)

  without_started : choice_after_start (without_shown c) q ks ≡ without_shown (choice_after_start c q ks)
  without_started =
      let again = same_again in
      let others : filter (λ t. not (is_among ks t)) (filter is_hidden c.ready) ≡ filter is_hidden (filter (λ t. not (is_among ks t)) c.ready) = filter_swap (λ t. not (is_among ks t)) is_hidden c.ready in
      let shown = same_shown in
      let n = one_more c.in_flight (length (filter (λ t. is_visible_rank t.rank) c.ready)) (length (filter (λ t. is_visible_rank t.rank) (filter (λ t. not (is_among ks t)) c.ready))) (ap length shown) in
      λ i. record {
        wanted = filter (λ r. not (is_of q r)) c.wanted ++ filter_map tile_rank (again i);
        ready = others i;
        in_flight = n i;
        budget = c.budget;
      }

  pub shows_started : (part : Choice) → Shows part c → Shows (choice_after_start part q ks) (choice_after_start c q ks)
  shows_started part s = subst (WantsVisible (choice_after_start part q ks)) without_started (wants_started part (without_shown c) s q ks)

-- a tile in flight that is made

module _ (c : Choice) (flies : 1 ≤ c.in_flight) where
  without_none : without_shown (finished c None) ≡ finished (without_shown c) None
  without_none =
      let k : ℕ = length (filter (λ t. is_visible_rank t.rank) c.ready) in
      let n : (c.in_flight - 1) + k ≡ (c.in_flight + k) - 1 = omega (arith, flies) in
      λ i. record { wanted = c.wanted; ready = filter is_hidden c.ready; in_flight = n i; budget = c.budget }

  without_hidden : (t : Tile) (b : Bool) → is_visible_rank t.rank ≡ b → b ≡ false → without_shown (finished c (Some t)) ≡ finished (without_shown c) (Some t)
  without_hidden t b e f =
      let g : is_visible_rank t.rank ≡ false = e ∙ f in
      let r : filter is_hidden (t ∷ c.ready) ≡ t ∷ filter is_hidden c.ready = ap (λ x. cond (not x) (t ∷ filter is_hidden c.ready) (filter is_hidden c.ready)) g in
      let v : length (filter (λ t. is_visible_rank t.rank) (t ∷ c.ready)) ≡ length (filter (λ t. is_visible_rank t.rank) c.ready) =
      ap (λ x. length (cond x (t ∷ filter (λ t. is_visible_rank t.rank) c.ready) (filter (λ t. is_visible_rank t.rank) c.ready))) g in
      let n : (c.in_flight - 1) + length (filter (λ t. is_visible_rank t.rank) (t ∷ c.ready)) ≡ (c.in_flight + length (filter (λ t. is_visible_rank t.rank) c.ready)) - 1 = omega (arith, flies, v) in
      λ i. record { wanted = c.wanted; ready = r i; in_flight = n i; budget = c.budget }

  without_visible : (t : Tile) → is_visible_rank t.rank ≡ true → without_shown (finished c (Some t)) ≡ without_shown c
  without_visible t g =
      let r : filter is_hidden (t ∷ c.ready) ≡ filter is_hidden c.ready = ap (λ x. cond (not x) (t ∷ filter is_hidden c.ready) (filter is_hidden c.ready)) g in
      let v : length (filter (λ t. is_visible_rank t.rank) (t ∷ c.ready)) ≡ suc (length (filter (λ t. is_visible_rank t.rank) c.ready)) =
      ap (λ x. length (cond x (t ∷ filter (λ t. is_visible_rank t.rank) c.ready) (filter (λ t. is_visible_rank t.rank) c.ready))) g in
      let n : (c.in_flight - 1) + length (filter (λ t. is_visible_rank t.rank) (t ∷ c.ready)) ≡ c.in_flight + length (filter (λ t. is_visible_rank t.rank) c.ready) = omega (arith, flies, v) in
      λ i. record { wanted = c.wanted; ready = r i; in_flight = n i; budget = c.budget }

  shows_by : (part : Choice) (tile : Option Tile) (b : Bool) → is_shown tile ≡ b → Shows part c → Shows (cond b part (finished part tile)) (finished c tile)
  shows_by part None true e s = absurd cc
  shows_by part None false e s = subst (WantsVisible (finished part None)) (sym without_none) (wants_finished part (without_shown c) s None)
  shows_by part (Some t) true e s = subst (WantsVisible part) (sym (without_visible t e)) s
  shows_by part (Some t) false e s = subst (WantsVisible (finished part (Some t))) (sym (without_hidden t false e refl)) (wants_finished part (without_shown c) s (Some t))

  pub shows_finished : (part : Choice) (tile : Option Tile) → Shows part c → Shows (finished_hidden part tile) (finished c tile)
  shows_finished part tile s = shows_by part tile (is_shown tile) refl s

-- ---- what tells it

pub none_by_bins : (c : Choice) (soon late : Bool) → ((q : Rank) → q.bin ≡ bin.Soon → soon ≡ may_start c q) → ((q : Rank) → q.bin ≡ bin.Eventually → late ≡ may_start c q)
    → soon ≡ false → late ≡ false → (q : Rank) → is_now q.bin ≡ false → may_start c q ≡ false
none_by_bins c soon late f g no_soon no_late q e = by_bin q.bin refl e
  where
    by_bin : (b : Bin) → q.bin ≡ b → is_now b ≡ false → may_start c q ≡ false
    by_bin bin.Now i e = absurd cc
    by_bin bin.Soon i e = sym (f q i) ∙ no_soon
    by_bin bin.Eventually i e = sym (g q i) ∙ no_late

-- some rank of a bin
abbrev pub rank_in_bin : Bin → Rank
rank_in_bin b = record { bin = b; tree = 0; distance = 0; key = record { layer = 0; x = 0; y = 0; stamp = 0 } }

-- where one of a bin that is not visible may start, it is not so that none may
pub one_hidden_starts : (c : Choice) (b : Bin) → is_now b ≡ false → ((q : Rank) → q.bin ≡ b → true ≡ may_start c q)
    → ((q : Rank) → is_now q.bin ≡ false → may_start c q ≡ false) → ⊥
one_hidden_starts c b hidden starts none = let f : true ≡ false = starts (rank_in_bin b) refl ∙ none (rank_in_bin b) hidden in cc
