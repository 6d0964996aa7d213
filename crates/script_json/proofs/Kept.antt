-- The members of an object with `null` in place of two lists.
use Rattle.std.proofs.Common.{◌≡◌, ℕ, suc, List, Bool, false, Some, Ordering, Less, Equal, Greater, nat_cmp, is_eq, codes, if◌then◌else◌, refl, sym, ap, ◌∙◌}
use Rattle.std.specs.Cmp.Lexicographic.{slice_cmp}
use Rattle.std.specs.Ordering.{match_ordering}
use Rattle.std.proofs.lemmas.Map.Text.{is_eq-slice_cmp}
use Rattle.std.proofs.lemmas.Slice.Eq.{bytes_eq-Decides}
use Rattle.serde_json.specs.Data.{Data, null, object, Members, no_members, member, put}
use Rattle.serde_json.specs.Events.{members_len}
use Rattle.serde_json.specs.Find.{get_member}
use Rattle.script_fields.specs.Fields.{object_at, number_at, sides_at, opaque_at, no_more_members}
use Rattle.script_json.specs.Reading.{priority_at, head_at}
use Rattle.script_json.specs.inner.Streamed.{is_list, kept}

equal_names : (k l : List ℕ) → slice_cmp nat_cmp k l ≡ Equal → k ≡ l
equal_names k l e = (bytes_eq-Decides k l).0 (sym (is_eq-slice_cmp k l) ∙ ap is_eq e)

abbrev instead : List ℕ → Data → Data
instead name d = if is_list name then null else d

put_at : (o : Ordering) (k l : List ℕ) (d e : Data) (ms : Members) → slice_cmp nat_cmp k l ≡ o → kept (put k d ms) ≡ put k (instead k d) (kept ms)
    → kept (match_ordering o (member k d (member l e ms)) (member l d ms) (member l e (put k d ms)))
    ≡ match_ordering o (member k (instead k d) (member l (instead l e) (kept ms))) (member l (instead k d) (kept ms)) (member l (instead l e) (put k (instead k d) (kept ms)))
put_at Less k l d e ms is later = refl
put_at Equal k l d e ms is later = ap (λ (name : List ℕ). member l (instead name d) (kept ms)) (sym (equal_names k l is))
put_at Greater k l d e ms is later = ap (member l (instead l e)) later

-- a member further
pub kept_put : (k : List ℕ) (d : Data) (ms : Members) → kept (put k d ms) ≡ put k (instead k d) (kept ms)
kept_put k d no_members = refl
kept_put k d (member l e ms) = put_at (slice_cmp nat_cmp k l) k l d e ms refl (kept_put k d ms)

pub kept_len : (ms : Members) → members_len (kept ms) ≡ members_len ms
kept_len no_members = refl
kept_len (member k d ms) = ap suc (kept_len ms)

get_at : (o : Ordering) (k l : List ℕ) (e : Data) (ms : Members) → slice_cmp nat_cmp k l ≡ o → is_list k ≡ false → get_member k (kept ms) ≡ get_member k ms
    → match_ordering o (get_member k (kept ms)) (Some (instead l e)) (get_member k (kept ms)) ≡ match_ordering o (get_member k ms) (Some e) (get_member k ms)
get_at Less k l e ms is other later = later
get_at Equal k l e ms is other later =
    let no : is_list l ≡ false = ap is_list (sym (equal_names k l is)) ∙ other in
    ap (λ (b : Bool). Some (if b then null else e)) no
get_at Greater k l e ms is other later = later

-- what has another name is kept
pub kept_get : (k : List ℕ) (ms : Members) → is_list k ≡ false → get_member k (kept ms) ≡ get_member k ms
kept_get k no_members other = refl
kept_get k (member l e ms) other = get_at (slice_cmp nat_cmp k l) k l e ms refl other (kept_get k ms other)

pub kept_no_more : (fields : ℕ) (ms : Members) → no_more_members fields (object (kept ms)) ≡ no_more_members fields (object ms)
unfolding no_more_members
kept_no_more fields ms = rw (kept_len ms) refl

-- the head of a script is kept
pub kept_head : (ms : Members) → head_at (object (kept ms)) ≡ head_at (object ms)
unfolding head_at object_at number_at sides_at opaque_at priority_at
kept_head ms =
    rw (kept_get (codes "version") ms refl)
    (rw (kept_get (codes "viewport") ms refl)
    (rw (kept_get (codes "tile") ms refl)
    (rw (kept_get (codes "background") ms refl)
    (rw (kept_get (codes "budget") ms refl)
    (rw (kept_get (codes "raster_per_frame") ms refl)
    (rw (kept_get (codes "soon") ms refl)
    (rw (kept_get (codes "eventually") ms refl)
    (rw (kept_get (codes "priority") ms refl) refl))))))))
