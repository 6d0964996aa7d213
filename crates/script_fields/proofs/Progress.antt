-- A value or a member further, and the end of an array or an object.
use Rattle.std.proofs.Common.{◌≡◌, ℕ, ◌-◌, ◌<◌, List, [], ◌∷◌, length, Option, Some, None, option_map, option_and_then, refl, ap, ◌∙◌, arith}
use Rattle.json.specs.Token.{Token}
use Rattle.json.specs.Lex.{tokens}
use Rattle.json.specs.Json as json
use Rattle.json.specs.Json.{parse_map, after_end_array, read_key, items, members, if_last, value}
use Rattle.json.proofs.Grammar.{after_end_array-shorter, read_key-shorter, value-begin_array, value-begin_object}
use Rattle.serde_json.specs.Data.{Data, array, object, Items, no_items, item, Members, no_members, put}
use Rattle.serde_json.specs.Read.{of_json, of_items, converted, max_depth, read}
use Rattle.script_fields.specs.Tokens.{first_value, first_items, first_members}
use Rattle.script_fields.specs.Progress.{ItemsUpTo, MembersUpTo}
use Rattle.script_fields.proofs.Turns.{converted_some, converted-array, converted-object, item_read, item_refused, items_over, member_read, member_refused, key_refused, members_over}

-- ---- an array

same_join : (o : Option (Items × List Token)) → o ≡ parse_map (λ rest. rest) o
same_join None = refl
same_join (Some p) = refl

joined : (join : Items → Items) (d : Data) (o : Option (Items × List Token)) → parse_map join (parse_map (item d) o) ≡ parse_map (λ rest. join (item d rest)) o
joined join d None = refl
joined join d (Some p) = refl

-- nothing was read yet
pub items_begin : (depth : ℕ) (ts : List Token) → ItemsUpTo depth ts (λ rest. rest) ts
items_begin depth ts = record { turns = length ts; enough = omega arith; within = omega arith; reads = same_join (first_items depth ts) }

-- one more value was read
pub items_more : (depth : ℕ) (start : List Token) (join : Items → Items) (ts r : List Token) (d : Data) → ItemsUpTo depth start join ts → after_end_array ts ≡ None → first_value depth ts ≡ Some (d, r)
    → length r < length ts → ItemsUpTo depth start (λ rest. join (item d rest)) r
items_more depth start join ts r d so going one shorter =
    let enough = so.enough in
    let within = so.within in
    record {
      turns = so.turns - 1;
      enough = omega arith;
      within = omega arith;
      reads = so.reads ∙ ap (parse_map join) (item_read (value depth) so.turns ts r d (omega arith) going one) ∙ joined join d (converted of_items (items (value depth) (so.turns - 1) r));
    }

-- the closing bracket stands next
pub items_end : (depth : ℕ) (start : List Token) (join : Items → Items) (ts r : List Token) → ItemsUpTo depth start join ts → after_end_array ts ≡ Some r
    → (first_items depth start ≡ Some (join no_items, r)) × (length r < length start)
items_end depth start join ts r so e =
    let within = so.within in
    let less = after_end_array-shorter ts r e in
    (so.reads ∙ ap (parse_map join) (items_over (value depth) so.turns ts r so.enough e), omega arith)

-- no value stands next, and no closing bracket
pub items_refused : (depth : ℕ) (start : List Token) (join : Items → Items) (ts : List Token) → ItemsUpTo depth start join ts → after_end_array ts ≡ None → first_value depth ts ≡ None
    → first_items depth start ≡ None
items_refused depth start join ts so going none = so.reads ∙ ap (parse_map join) (item_refused (value depth) so.turns ts going none)

-- ---- an object

pub members_begin : (depth : ℕ) (ts : List Token) → MembersUpTo depth ts no_members ts
members_begin depth ts = record { turns = length ts; enough = omega arith; within = omega arith; reads = refl }

-- one more member was read
pub members_more : (depth : ℕ) (start : List Token) (found : Members) (ts s r : List Token) (k : List ℕ) (d : Data) → MembersUpTo depth start found ts → read_key ts ≡ Some (Some k, s)
    → first_value depth s ≡ Some (d, r) → length r < length s → MembersUpTo depth start (put k d found) r
members_more depth start found ts s r k d so key one shorter =
    let enough = so.enough in
    let within = so.within in
    let less = read_key-shorter ts (Some k) s key in
    record {
      turns = so.turns - 1;
      enough = omega arith;
      within = omega arith;
      reads = so.reads ∙ member_read (value depth) found so.turns k ts s r d (omega arith) key one;
    }

-- the closing brace stands next
pub members_end : (depth : ℕ) (start : List Token) (found : Members) (ts r : List Token) → MembersUpTo depth start found ts → read_key ts ≡ Some (None, r)
    → (first_members depth start ≡ Some (found, r)) × (length r < length start)
members_end depth start found ts r so e =
    let within = so.within in
    let less = read_key-shorter ts None r e in
    (so.reads ∙ members_over (value depth) found so.turns ts r so.enough e, omega arith)

-- no value stands after a name
pub members_refused : (depth : ℕ) (start : List Token) (found : Members) (ts s : List Token) (k : List ℕ) → MembersUpTo depth start found ts → read_key ts ≡ Some (Some k, s) → first_value depth s ≡ None
    → first_members depth start ≡ None
members_refused depth start found ts s k so key none = so.reads ∙ member_refused (value depth) found so.turns k ts s key none

-- no name stands next, and no closing brace
pub names_refused : (depth : ℕ) (start : List Token) (found : Members) (ts : List Token) → MembersUpTo depth start found ts → read_key ts ≡ None → first_members depth start ≡ None
names_refused depth start found ts so none = so.reads ∙ key_refused (value depth) found so.turns ts none

-- ---- a value by its brackets

pub array_read : (depth : ℕ) (ts r : List Token) (ds : Items) → 0 < depth → first_items (depth - 1) ts ≡ Some (ds, r)
    → first_value depth (Token.begin_array ∷ ts) ≡ Some (array ds, r)
array_read depth ts r ds deep e =
    ap (converted of_json) (value-begin_array depth ts deep) ∙ converted-array (items (value (depth - 1)) (length ts) ts) ∙ ap (parse_map array) e

pub object_read : (depth : ℕ) (ts r : List Token) (ms : Members) → 0 < depth → first_members (depth - 1) ts ≡ Some (ms, r)
    → first_value depth (Token.begin_object ∷ ts) ≡ Some (object ms, r)
object_read depth ts r ms deep e =
    ap (converted of_json) (value-begin_object depth ts deep) ∙ converted-object (members (value (depth - 1)) (length ts) ts) ∙ ap (parse_map object) e

pub array_refused : (depth : ℕ) (ts : List Token) → 0 < depth → first_items (depth - 1) ts ≡ None → first_value depth (Token.begin_array ∷ ts) ≡ None
array_refused depth ts deep e =
    ap (converted of_json) (value-begin_array depth ts deep) ∙ converted-array (items (value (depth - 1)) (length ts) ts) ∙ ap (parse_map array) e

pub object_refused : (depth : ℕ) (ts : List Token) → 0 < depth → first_members (depth - 1) ts ≡ None → first_value depth (Token.begin_object ∷ ts) ≡ None
object_refused depth ts deep e =
    ap (converted of_json) (value-begin_object depth ts deep) ∙ converted-object (members (value (depth - 1)) (length ts) ts) ∙ ap (parse_map object) e

-- the array that a closing bracket ends
pub array_over : (depth : ℕ) (before start : List Token) (join : Items → Items) (ts r : List Token) → 0 < depth → before ≡ Token.begin_array ∷ start → ItemsUpTo (depth - 1) start join ts
    → after_end_array ts ≡ Some r → first_value depth before ≡ Some (array (join no_items), r)
array_over depth before start join ts r deep opened so closed =
    ap (first_value depth) opened ∙ array_read depth start r (join no_items) deep (items_end (depth - 1) start join ts r so closed).0

-- no value stands next in an array, and no closing bracket
pub array_broken : (depth : ℕ) (before start : List Token) (join : Items → Items) (ts : List Token) → 0 < depth → before ≡ Token.begin_array ∷ start → ItemsUpTo (depth - 1) start join ts
    → after_end_array ts ≡ None → first_value (depth - 1) ts ≡ None → first_value depth before ≡ None
array_broken depth before start join ts deep opened so going none =
    ap (first_value depth) opened ∙ array_refused depth start deep (items_refused (depth - 1) start join ts so going none)

-- ---- a whole text

abbrev whole : Option (json.Json × List Token) → Option Data
whole o = option_and_then of_json (option_and_then (λ p. if_last p.0 p.1) o)

-- a value after which no token stands is what the text reads as
pub text_read : (text : List ℕ) (d : Data) → first_value max_depth (tokens text) ≡ Some (d, []) → read text ≡ Some d
text_read text d e = let j = converted_some of_json (value max_depth (tokens text)) d [] e in ap whole j.1 ∙ j.2

unread : {B : Type 0} (r : List Token) (x : Option B) → option_map {U = B × List Token} (λ y. (y, r)) x ≡ None → x ≡ None
unread r None e = refl
unread r (Some y) e = absurd (cc)

whole_unread : (o : Option (json.Json × List Token)) → converted of_json o ≡ None → whole o ≡ None
whole_unread None e = refl
whole_unread (Some (j, [])) e = unread [] (of_json j) e
whole_unread (Some (j, t ∷ r)) e = refl

-- tokens that do not begin with a value are no text
pub text_refused : (text : List ℕ) → first_value max_depth (tokens text) ≡ None → read text ≡ None
text_refused text e = whole_unread (value max_depth (tokens text)) e

-- nor are those of a value and more
pub text_and_more : (text : List ℕ) (d : Data) (t : Token) (r : List Token) → first_value max_depth (tokens text) ≡ Some (d, t ∷ r) → read text ≡ None
text_and_more text d t r e = ap whole (converted_some of_json (value max_depth (tokens text)) d (t ∷ r) e).1
