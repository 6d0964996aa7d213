-- The ids of the index are the ids by rising id.
use Rattle.std.proofs.Common.{◌≡◌, ℕ, zero, suc, ◌<◌, ◌≤◌, nat_lt, Bool, true, false, cond, List, [], ◌∷◌, length, get_or, map, slice_get, Some, None, arith, refl, sym, ◌∙◌, ap}
use Rattle.page_properties.specs.declared.index.IndexEntry.{IndexEntry}
use Rattle.page_properties.specs.Entries.{put_id, rising}
use Rattle.page_properties.specs.inner.Index.{put, index_of, IsIndex}

abbrev pub entry_ids : List IndexEntry → List ℕ
entry_ids entries = map (λ s. s.id) entries

put_by : (s x : IndexEntry) (xs : List IndexEntry) (t : Bool) → entry_ids (put s xs) ≡ put_id s.id (entry_ids xs)
    → entry_ids (cond t (x ∷ put s xs) (s ∷ x ∷ xs)) ≡ cond t (x.id ∷ put_id s.id (entry_ids xs)) (s.id ∷ x.id ∷ entry_ids xs)
put_by s x xs true e = ap (λ l. x.id ∷ l) e
put_by s x xs false e = refl

ids_put : (s : IndexEntry) (entries : List IndexEntry) → entry_ids (put s entries) ≡ put_id s.id (entry_ids entries)
ids_put s [] = refl
ids_put s (x ∷ xs) = put_by s x xs (nat_lt x.id s.id) (ids_put s xs)

-- the index lists the ids by rising id
pub ids_index : (xs : List ℕ) → entry_ids (index_of xs) ≡ rising xs
ids_index [] = refl
ids_index (x ∷ xs) = ids_put (record { id = x; place = length xs }) (index_of xs) ∙ ap (put_id x) (ids_index xs)

read_id : (entries : List IndexEntry) (k : ℕ) (d : IndexEntry) → k < length entries → slice_get (entry_ids entries) k ≡ Some (get_or entries k d).id
read_id [] k d h = absurd (omega arith)
read_id (s ∷ ss) zero d h = refl
read_id (s ∷ ss) (suc k) d h = read_id ss k d (omega arith)

past_id : (entries : List IndexEntry) (k : ℕ) → length entries ≤ k → slice_get (entry_ids entries) k ≡ None
past_id [] k h = refl
past_id (s ∷ ss) zero h = absurd (omega arith)
past_id (s ∷ ss) (suc k) h = past_id ss k (omega arith)

-- what the code reads at a place of the index
pub id_read : (xs : List ℕ) (entries : List IndexEntry) (k : ℕ) (d : IndexEntry) → IsIndex xs entries → k < length entries → Some (get_or entries k d).id ≡ slice_get (rising xs) k
id_read xs entries k d i h =
    sym (read_id entries k d h) ∙ ap (λ l. slice_get l k) (ap entry_ids i.all ∙ ids_index xs)

pub no_id : (xs : List ℕ) (entries : List IndexEntry) (k : ℕ) → IsIndex xs entries → length entries ≤ k → None ≡ slice_get (rising xs) k
no_id xs entries k i h = sym (past_id entries k h) ∙ ap (λ l. slice_get l k) (ap entry_ids i.all ∙ ids_index xs)
