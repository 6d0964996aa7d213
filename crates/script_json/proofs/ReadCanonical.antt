-- What is read of a text is canonical: members go in by the order of their names, and a number with a sign is below 0.
use Rattle.std.proofs.Common.{◌≡◌, ℕ, zero, suc, ◌^◌, ◌&&◌, ◌==◌, List, drop, slice_index, Bool, true, false, nat_lt, nat_le, if◌then◌else◌, Option, Some, None, IfSome, option_map, option_and_then, Ordering, Less, Equal, Greater, nat_cmp, refl, subst}
use Rattle.std.specs.Cmp.Lexicographic.{slice_cmp}
use Rattle.std.specs.Float.{binary64, float_is_finite}
use Rattle.std.specs.Ordering.{match_ordering}
use Rattle.std.proofs.lemmas.Bool.{and_parts}
use Rattle.fast_float.specs.Text.{minus, Parts, scan, digits_of, nearest, with_sign}
use Rattle.json.specs.Json as json
use Rattle.json.specs.Lex.{tokens}
use Rattle.serde_json.specs.Data.{negative, Data, number, array, object, item, Members, no_members, member, put}
use Rattle.serde_json.specs.Read.{is_integer, float_of, number_from, number_of, of_json, of_items, of_members, read}
use Rattle.script_fields.specs.Canonical.{IsBefore, IsSigned, IsCanonical, AreCanonical, AreInOrder}
use Rattle.script_fields.proofs.Fits.{then_some, and_some, map_some}
use Rattle.script_fields.proofs.Orders.{earlier_name, before_more}

-- ---- numbers

either : {A : Type 0} (b : Bool) (x y : Option A) (P : A → Type 0) → (b ≡ true → IfSome x P) → IfSome y P → IfSome (if b then x else y) P
either true x y P h k = h refl
either false x y P h k = k

float_signed : (sign : Bool) (p : Parts) → IfSome (float_of sign p) IsSigned
float_signed sign p = either (float_is_finite (nearest binary64 sign p)) _ None IsSigned (λ e. tt) tt

below_zero : (n : ℕ) → nat_lt 0 n ≡ true → IsSigned (negative (with_sign true n))
below_zero zero h = absurd (cc)
below_zero (suc n) h = tt

from_plain : (p : Parts) → IfSome (number_from false p) IsSigned
from_plain p = either (is_integer p && nat_lt (digits_of p) (2 ^ 64)) _ (float_of false p) IsSigned (λ e. tt) (float_signed false p)

from_minus : (p : Parts) → IfSome (number_from true p) IsSigned
from_minus p =
    either (is_integer p && nat_lt 0 (digits_of p) && nat_le (digits_of p) (2 ^ 63)) (Some (negative (with_sign true (digits_of p)))) (float_of true p) IsSigned
    (λ e. below_zero (digits_of p) (and_parts (is_integer p) (nat_lt 0 (digits_of p)) (and_parts (is_integer p && nat_lt 0 (digits_of p)) (nat_le (digits_of p) (2 ^ 63)) e).0).1)
    (float_signed true p)

number_signed : (s : List ℕ) → IfSome (number_of s) IsSigned
unfolding number_of
number_signed s = either (slice_index s 0 == minus) (number_from true (scan (drop 1 s))) (number_from false (scan s)) IsSigned (λ e. from_minus (scan (drop 1 s))) (from_plain (scan s))

-- ---- members

before_put_at : (o : Ordering) (l k m : List ℕ) (d e : Data) (ms : Members) → slice_cmp nat_cmp l k ≡ Less → IsBefore l (member m e ms) → IsBefore l (put k d ms)
    → IsBefore l (match_ordering o (member k d (member m e ms)) (member m d ms) (member m e (put k d ms)))
before_put_at Less l k m d e ms first h rest = (first, h)
before_put_at Equal l k m d e ms first h rest = h
before_put_at Greater l k m d e ms first h rest = (h.0, rest)

before_put : (l k : List ℕ) (d : Data) (ms : Members) → slice_cmp nat_cmp l k ≡ Less → IsBefore l ms → IsBefore l (put k d ms)
before_put l k d no_members first h = (first, tt)
before_put l k d (member m e ms) first h = before_put_at (slice_cmp nat_cmp k m) l k m d e ms first h (before_put l k d ms first h.1)

put_in_order_at : (o : Ordering) (k m : List ℕ) (d e : Data) (ms : Members) → slice_cmp nat_cmp k m ≡ o → IsCanonical d → AreInOrder (member m e ms) → AreInOrder (put k d ms)
    → AreInOrder (match_ordering o (member k d (member m e ms)) (member m d ms) (member m e (put k d ms)))
put_in_order_at Less k m d e ms is value h rest = ((is, before_more k m ms is h.0), value, h)
put_in_order_at Equal k m d e ms is value h rest = (h.0, value, h.2)
put_in_order_at Greater k m d e ms is value h rest = (before_put m k d ms (earlier_name k m is) h.0, h.1, rest)

put_in_order : (k : List ℕ) (d : Data) (ms : Members) → IsCanonical d → AreInOrder ms → AreInOrder (put k d ms)
put_in_order k d no_members value h = (tt, value, tt)
put_in_order k d (member m e ms) value h = put_in_order_at (slice_cmp nat_cmp k m) k m d e ms refl value h (put_in_order k d ms value h.2)

-- ---- values

mutual
  json_canonical : (j : json.Json) → IfSome (of_json j) IsCanonical
  json_canonical json.null = tt
  json_canonical (json.boolean b) = tt
  json_canonical (json.number s) = map_some (number_of s) number IsSigned IsCanonical (number_signed s) (λ n h. h)
  json_canonical (json.string s) = tt
  json_canonical (json.array js) = map_some (of_items js) array AreCanonical IsCanonical (items_canonical js) (λ ds h. h)
  json_canonical (json.object ms) = map_some (of_members ms no_members) object AreInOrder IsCanonical (members_canonical ms no_members tt) (λ found h. h)

  items_canonical : (js : json.Items) → IfSome (of_items js) AreCanonical
  items_canonical json.no_items = tt
  items_canonical (json.item j js) =
      and_some (of_json j) (λ d. option_map (item d) (of_items js)) IsCanonical AreCanonical (json_canonical j)
      (λ d h. map_some (of_items js) (item d) AreCanonical AreCanonical (items_canonical js) (λ ds k. (h, k)))

  members_canonical : (ms : json.Members) (found : Members) → AreInOrder found → IfSome (of_members ms found) AreInOrder
  members_canonical json.no_members found h = h
  members_canonical (json.member k j ms) found h =
      and_some (of_json j) (λ d. of_members ms (put k d found)) IsCanonical AreInOrder (json_canonical j)
      (λ d value. members_canonical ms (put k d found) (put_in_order k d found value h))

pub read_canonical : (bytes : List ℕ) (d : Data) → read bytes ≡ Some d → IsCanonical d
read_canonical bytes d is =
    subst (λ (o : Option Data). IfSome o IsCanonical) is
    (then_some (option_and_then (λ p. json.if_last p.0 p.1) (json.value 127 (tokens bytes))) of_json IsCanonical json_canonical)
