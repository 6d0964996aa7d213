-- The keys that have an image, and those that have none.
use Rattle.std.proofs.Common.{◌≡◌, ℕ, suc, ◌+◌, Bool, true, false, ◌||◌, ◌&&◌, T, cond, List, [], ◌∷◌, map, length, Option, Some, None, refl, sym, ◌∙◌, ap, subst, arith}
use Rattle.std.specs.declared.cmp.Ordering.{Ordering}
use Rattle.std.specs.declared.cmp.Ordering.TheVariants.{Less, Equal, Greater}
use Rattle.std.specs.Ordering.{eq_by_cmp, is_lt, is_eq}
use Rattle.std.specs.Option.{option_flatten}
use Rattle.std.specs.List.{list_any}
use Rattle.std.specs.FinMap as fin
use Rattle.std.specs.FinMap.{find, is_sorted, entries, entries_sorted, entries-from_sorted, get-from_sorted, get-entries, len-entries}
use Rattle.std.specs.FinMap.Entries.{below_all}
use Rattle.std.specs.FinSet as set
use Rattle.geom.specs.declared.tile.TileKey.{TileKey}
use Rattle.geom.specs.KeyOrder.{key_cmp}
use Rattle.impl_tiles.specs.inner.Rows.{ready_rows, flying_keys, ready_of, flying_of, is_flying}
use Rattle.geom.proofs.KeyOrders.{key_total}
use Rattle.impl_tiles.proofs.StoreKeyOrders.{tied}

both : (a b : Bool) → T a → T b → T (a && b)
both true b p q = q
both false b p q = p

pub first : (a b : Bool) → T (a && b) → T a
first true b p = tt
first false b p = p

pub second : (a b : Bool) → T (a && b) → T b
second true b p = p
second false b p = absurd p

less : (o : Ordering) → T (is_lt o) → is_eq o ≡ false
less Less p = refl
less Equal p = absurd p
less Greater p = absurd p

-- a key below those of a list is not among them
pub find_below : {A : Type 0} (q : TileKey) (es : List (TileKey × A)) → T (below_all key_cmp q es) → find key_cmp q es ≡ None
find_below q [] h = refl
find_below q (e ∷ es) h =
    ap (λ b. cond b (Some e.1) (find key_cmp q es)) (less (key_cmp q e.0) (first _ _ h)) ∙ find_below q es (second _ _ h)

plus_one : (a b : ℕ) → a ≡ b → a + 1 ≡ suc b
plus_one a b e = omega arith

module _ {X : Type 0} where
  below_ready : (k : TileKey) (es : List (TileKey × Option X)) → T (below_all key_cmp k es) → T (below_all key_cmp k (ready_rows es))
  below_ready k [] h = tt
  below_ready k ((l, Some x) ∷ es) h = both _ _ (first _ _ h) (below_ready k es (second _ _ h))
  below_ready k ((l, None) ∷ es) h = below_ready k es (second _ _ h)

  pub sorted_ready : (es : List (TileKey × Option X)) → T (is_sorted key_cmp es) → T (is_sorted key_cmp (ready_rows es))
  sorted_ready [] h = tt
  sorted_ready ((l, Some x) ∷ es) h = both _ _ (below_ready l es (first _ _ h)) (sorted_ready es (second _ _ h))
  sorted_ready ((l, None) ∷ es) h = sorted_ready es (second _ _ h)

  flat : (b : Bool) (x : X) (o : Option (Option X)) → cond b (Some x) (option_flatten o) ≡ option_flatten (cond b (Some (Some x)) o)
  flat true x o = refl
  flat false x o = refl

  skip : (b : Bool) (o : Option (Option X)) → (b ≡ true → o ≡ None) → option_flatten o ≡ option_flatten (cond b (Some None) o)
  skip true o none = ap option_flatten (none refl)
  skip false o none = refl

  find_ready : (q : TileKey) (es : List (TileKey × Option X)) → T (is_sorted key_cmp es) → find key_cmp q (ready_rows es) ≡ option_flatten (find key_cmp q es)
  find_ready q [] h = refl
  find_ready q ((l, Some x) ∷ es) h =
      ap (cond (eq_by_cmp key_cmp q l) (Some x)) (find_ready q es (second _ _ h)) ∙ flat (eq_by_cmp key_cmp q l) x (find key_cmp q es)
  find_ready q ((l, None) ∷ es) h =
      find_ready q es (second _ _ h)
      ∙ skip (eq_by_cmp key_cmp q l) (find key_cmp q es) (λ e. find_below q es (subst (λ k. T (below_all key_cmp k es)) (sym (tied q l e)) (first _ _ h)))

  or_flying : (b : Bool) (o : Option (Option X)) → (b || is_flying o) ≡ is_flying (cond b (Some None) o)
  or_flying true o = refl
  or_flying false o = refl

  not_flying : (b : Bool) (x : X) (o : Option (Option X)) → (b ≡ true → o ≡ None) → is_flying o ≡ is_flying (cond b (Some (Some x)) o)
  not_flying true x o none = ap is_flying (none refl)
  not_flying false x o none = refl

  any_flying : (q : TileKey) (es : List (TileKey × Option X)) → T (is_sorted key_cmp es) → list_any (eq_by_cmp key_cmp q) (flying_keys es) ≡ is_flying (find key_cmp q es)
  any_flying q [] h = refl
  any_flying q ((l, Some x) ∷ es) h =
      any_flying q es (second _ _ h)
      ∙ not_flying (eq_by_cmp key_cmp q l) x (find key_cmp q es) (λ e. find_below q es (subst (λ k. T (below_all key_cmp k es)) (sym (tied q l e)) (first _ _ h)))
  any_flying q ((l, None) ∷ es) h =
      ap (λ b. eq_by_cmp key_cmp q l || b) (any_flying q es (second _ _ h)) ∙ or_flying (eq_by_cmp key_cmp q l) (find key_cmp q es)

  -- the image of a key, and whether it is in flight
  pub get_ready : (m : fin.FinMap key_cmp (Option X)) (q : TileKey) → fin.get (ready_of m) q ≡ option_flatten (fin.get m q)
  unfolding ready_of
  get_ready m q =
      get-from_sorted key_cmp (ready_rows (entries m)) q (sorted_ready (entries m) (entries_sorted m))
      ∙ find_ready q (entries m) (entries_sorted m)
      ∙ ap option_flatten (sym (get-entries m q))

  pub contains_flying : (m : fin.FinMap key_cmp (Option X)) (q : TileKey) → set.contains (flying_of m) q ≡ is_flying (fin.get m q)
  unfolding flying_of
  contains_flying m q =
      set.contains-from_list key_total (flying_keys (entries m)) q
      ∙ any_flying q (entries m) (entries_sorted m)
      ∙ ap is_flying (sym (get-entries m q))

  -- the ready keys, in their order
  pub keys_ready : (m : fin.FinMap key_cmp (Option X)) → fin.keys (ready_of m) ≡ map (λ e. e.0) (ready_rows (entries m))
  unfolding ready_of
  keys_ready m = ap (map (λ e. e.0)) (entries-from_sorted key_cmp (ready_rows (entries m)) (sorted_ready (entries m) (entries_sorted m)))

  len_flying : (es : List (TileKey × Option X)) → T (is_sorted key_cmp es) → set.len (set.from_list {R = key_cmp} (flying_keys es)) ≡ length (flying_keys es)
  len_flying [] h = set.len-empty key_cmp
  len_flying ((l, Some x) ∷ es) h = len_flying es (second _ _ h)
  len_flying ((l, None) ∷ es) h =
      let set_of : set.FinSet key_cmp = set.from_list (flying_keys es) in
      let rest : set.len set_of ≡ length (flying_keys es) = len_flying es (second _ _ h) in
      let fresh : set.contains set_of l ≡ false =
      set.contains-from_list key_total (flying_keys es) l ∙ any_flying l es (second _ _ h) ∙ ap is_flying (find_below l es (first _ _ h)) in
      let one_more : set.len set_of + 1 ≡ suc (length (flying_keys es)) = plus_one (set.len set_of) (length (flying_keys es)) rest in
      set.len-insert key_total set_of l ∙ ap (λ b. cond b (set.len set_of) (set.len set_of + 1)) fresh ∙ one_more

  lengths : (es : List (TileKey × Option X)) → length (ready_rows es) + length (flying_keys es) ≡ length es
  lengths [] = refl
  lengths ((l, Some x) ∷ es) = omega (arith, lengths es)
  lengths ((l, None) ∷ es) = omega (arith, lengths es)

  -- each held key is ready or in flight
  pub len_parts : (m : fin.FinMap key_cmp (Option X)) → fin.len m ≡ fin.len (ready_of m) + set.len (flying_of m)
  unfolding ready_of flying_of
  len_parts m =
      let ready : fin.len (fin.from_sorted {R = key_cmp} (ready_rows (entries m))) ≡ length (ready_rows (entries m)) =
      len-entries (fin.from_sorted {R = key_cmp} (ready_rows (entries m))) ∙ ap length (entries-from_sorted key_cmp (ready_rows (entries m)) (sorted_ready (entries m) (entries_sorted m))) in
      len-entries m ∙ sym (lengths (entries m)) ∙ (λ i. sym ready i + sym (len_flying (entries m) (entries_sorted m)) i)
