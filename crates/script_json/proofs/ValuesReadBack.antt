-- A plain value whose names rise reads back from its text, which is UTF-8.
use Rattle.std.proofs.Common.{◌≡◌, ℕ, suc, max, ◌^◌, ◌<◌, ◌≤◌, pos, negsuc, List, [], ◌∷◌, ◌++◌, Bool, true, false, ◌&&◌, Option, Some, option_and_then, option_map, IsUtf8, decimal, refl, sym, ap, ap₂, ◌∙◌, subst, arith, append-nil}
use Rattle.std.specs.Prelude.{⊤}
use Rattle.std.proofs.lemmas.Bool.{and_parts}
use Rattle.std.proofs.lemmas.Fmt.{IsAscii-decimal}
use Rattle.std.proofs.lemmas.Str.{IsUtf8-append, IsUtf8-from_ascii}
use Rattle.json.specs.Token.{Token}
use Rattle.json.specs.Lex.{tokens}
use Rattle.json.specs.Print.{quoted}
use Rattle.json.specs.Json as json
use Rattle.json.specs.Tree as tree
use Rattle.json.proofs.Printed.Decimals.{IsNumber-decimal, IsNumber-signed_decimal}
use Rattle.json.proofs.Printed.Tokens.{tokens-print}
use Rattle.json.proofs.Printed.Trees.{ArePrintable-json_tokens, value-json_tokens}
use Rattle.json.proofs.Printed.Utf8.{are_ascii, IsUtf8-are_ascii, IsUtf8-quoted, IsUtf8-boolean}
use Rattle.serde_json.specs.Data.{Num, unsigned, negative, float, Data, null, boolean, number, string, array, object, Items, no_items, item, Members, no_members, member, put, depth, items_depth, members_depth}
use Rattle.serde_json.specs.Read.{of_json, of_items, of_members, read}
use Rattle.serde_json.specs.Written.{outline, items_outline, members_outline, comma_if, compact_text, items_text, members_text}
use Rattle.serde_json.proofs.Numbers.{number_of-decimal, number_of-negative}
use Rattle.serde_json.proofs.Texts.{print-outline}
use Rattle.script_fields.specs.Canonical.{IsBefore}
use Rattle.script_fields.proofs.Orders.{is_before, is_rising, before_is, later_name}

-- a whole number of 64 bits
abbrev pub PrintsNumber : Num → Type 0
PrintsNumber (unsigned n) = n < 2 ^ 64
PrintsNumber (negative (pos n)) = ⊥
PrintsNumber (negative (negsuc n)) = suc n < 2 ^ 63
PrintsNumber (float x) = ⊥

-- whole numbers, texts of UTF-8 and names that rise
abbrev mutual
  pub Prints : Data → Type 0
  Prints null = ⊤
  Prints (boolean b) = ⊤
  Prints (number n) = PrintsNumber n
  Prints (string s) = IsUtf8 s
  Prints (array ds) = PrintsItems ds
  Prints (object ms) = PrintsMembers ms

  pub PrintsItems : Items → Type 0
  PrintsItems no_items = ⊤
  PrintsItems (item d ds) = Prints d × PrintsItems ds

  pub PrintsMembers : Members → Type 0
  PrintsMembers no_members = ⊤
  PrintsMembers (member k d ms) = IsUtf8 k × IsBefore k ms × Prints d × PrintsMembers ms

-- each value of the members
abbrev pub PrintsValues : Members → Type 0
PrintsValues no_members = ⊤
PrintsValues (member k d ms) = Prints d × PrintsValues ms

abbrev pub are_names : Members → Bool
are_names no_members = true
are_names (member k d ms) = are_ascii k && are_names ms

pub members_print : (ms : Members) → is_rising ms ≡ true → are_names ms ≡ true → PrintsValues ms → PrintsMembers ms
members_print no_members p q h = tt
members_print (member k d ms) p q h =
    let r = and_parts (is_before k ms) (is_rising ms) p in
    let n = and_parts (are_ascii k) (are_names ms) q in
    (IsUtf8-are_ascii k n.0, before_is k ms r.0, h.0, members_print ms r.1 n.1 h.1)

-- ---- what is read of its outline

-- members and others after them
abbrev joined : Members → Members → Members
joined no_members ms = ms
joined (member k d rest) ms = member k d (joined rest ms)

joined_none : (acc : Members) → joined acc no_members ≡ acc
joined_none no_members = refl
joined_none (member k d rest) = ap (member k d) (joined_none rest)

joined_one : (acc : Members) (k : List ℕ) (d : Data) (ms : Members) → joined (joined acc (member k d no_members)) ms ≡ joined acc (member k d ms)
joined_one no_members k d ms = refl
joined_one (member l e rest) k d ms = ap (member l e) (joined_one rest k d ms)

-- each name of the first is before those of the second
abbrev Ahead : Members → Members → Type 0
Ahead no_members ms = ⊤
Ahead (member l e rest) ms = IsBefore l ms × Ahead rest ms

put_end : (k : List ℕ) (d : Data) (acc ms : Members) → Ahead acc (member k d ms) → put k d acc ≡ joined acc (member k d no_members)
put_end k d no_members ms a = refl
put_end k d (member l e rest) ms a = rw (later_name l k a.0.0) (ap (member l e) (put_end k d rest ms a.1))

ahead_more : (k : List ℕ) (d : Data) (acc ms : Members) → IsBefore k ms → Ahead acc (member k d ms) → Ahead (joined acc (member k d no_members)) ms
ahead_more k d no_members ms b a = (b, tt)
ahead_more k d (member l e rest) ms b a = (a.0.1, ahead_more k d rest ms b a.1)

mutual
  of_outline : (d : Data) → Prints d → of_json (outline d) ≡ Some d
  of_outline null h = refl
  of_outline (boolean b) h = refl
  of_outline (number (unsigned n)) h = ap (option_map number) (number_of-decimal n h)
  of_outline (number (negative (pos n))) h = absurd h
  of_outline (number (negative (negsuc n))) h = ap (option_map number) (number_of-negative n (omega (arith, h)))
  of_outline (number (float x)) h = absurd h
  of_outline (string s) h = refl
  of_outline (array ds) h = ap (option_map array) (of_items_outline ds h)
  of_outline (object ms) h = ap (option_map object) (of_members_outline ms no_members h tt)

  of_items_outline : (ds : Items) → PrintsItems ds → of_items (items_outline ds) ≡ Some ds
  of_items_outline no_items h = refl
  of_items_outline (item d ds) h = rw (of_outline d h.0) (rw (of_items_outline ds h.1) refl)

  of_members_outline : (ms acc : Members) → PrintsMembers ms → Ahead acc ms → of_members (members_outline ms) acc ≡ Some (joined acc ms)
  of_members_outline no_members acc h a = ap Some (sym (joined_none acc))
  of_members_outline (member k d ms) acc h a =
      rw (of_outline d h.2)
      (ap (of_members (members_outline ms)) (put_end k d acc ms a)
      ∙ (of_members_outline ms (joined acc (member k d no_members)) h.3 (ahead_more k d acc ms h.1 a) ∙ ap Some (joined_one acc k d ms)))

mutual
  numbers_outline : (d : Data) → Prints d → tree.HasNumbers (outline d)
  numbers_outline null h = tt
  numbers_outline (boolean b) h = tt
  numbers_outline (number (unsigned n)) h = IsNumber-decimal n h
  numbers_outline (number (negative (pos n))) h = absurd h
  numbers_outline (number (negative (negsuc n))) h = IsNumber-signed_decimal (negsuc n) (omega (arith, h))
  numbers_outline (number (float x)) h = absurd h
  numbers_outline (string s) h = tt
  numbers_outline (array ds) h = numbers_items ds h
  numbers_outline (object ms) h = numbers_members ms h

  numbers_items : (ds : Items) → PrintsItems ds → tree.ItemsHaveNumbers (items_outline ds)
  numbers_items no_items h = tt
  numbers_items (item d ds) h = (numbers_outline d h.0, numbers_items ds h.1)

  numbers_members : (ms : Members) → PrintsMembers ms → tree.MembersHaveNumbers (members_outline ms)
  numbers_members no_members h = tt
  numbers_members (member k d ms) h = (numbers_outline d h.2, numbers_members ms h.3)

mutual
  depth_outline : (d : Data) → tree.depth (outline d) ≡ depth d
  depth_outline null = refl
  depth_outline (boolean b) = refl
  depth_outline (number n) = refl
  depth_outline (string s) = refl
  depth_outline (array ds) = ap suc (depth_items ds)
  depth_outline (object ms) = ap suc (depth_members ms)

  depth_items : (ds : Items) → tree.items_depth (items_outline ds) ≡ items_depth ds
  depth_items no_items = refl
  depth_items (item d ds) = ap₂ max (depth_outline d) (depth_items ds)

  depth_members : (ms : Members) → tree.members_depth (members_outline ms) ≡ members_depth ms
  depth_members no_members = refl
  depth_members (member k d ms) = ap₂ max (depth_outline d) (depth_members ms)

abbrev whole : Option (json.Json × List Token) → Option Data
whole o = option_and_then of_json (option_and_then (λ p. json.if_last p.0 p.1) o)

pub plain_reads : (d : Data) → Prints d → depth d ≤ 127 → read (compact_text d) ≡ Some d
plain_reads d h shallow =
    let ts : List Token = tree.json_tokens (outline d) in
    let printed : tokens (compact_text d) ≡ ts = ap tokens (sym (print-outline d)) ∙ tokens-print ts (ArePrintable-json_tokens (outline d) (numbers_outline d h)) in
    let low : tree.depth (outline d) ≤ 127 = subst (λ (n : ℕ). n ≤ 127) (sym (depth_outline d)) shallow in
    ap whole (ap (json.value 127) (printed ∙ sym (append-nil ts)) ∙ value-json_tokens (outline d) 127 [] low) ∙ of_outline d h

-- ---- its text is UTF-8

utf8_comma : (later : Bool) → IsUtf8 (comma_if later)
utf8_comma true = IsUtf8-are_ascii (44 ∷ []) refl
utf8_comma false = IsUtf8-are_ascii [] refl

mutual
  pub plain_utf8 : (d : Data) → Prints d → IsUtf8 (compact_text d)
  plain_utf8 null h = IsUtf8-are_ascii _ refl
  plain_utf8 (boolean b) h = IsUtf8-boolean b
  plain_utf8 (number (unsigned n)) h = IsUtf8-from_ascii (decimal n) (IsAscii-decimal n h)
  plain_utf8 (number (negative (pos n))) h = absurd h
  plain_utf8 (number (negative (negsuc n))) h =
      IsUtf8-append (45 ∷ []) (decimal (suc n)) (IsUtf8-are_ascii (45 ∷ []) refl) (IsUtf8-from_ascii (decimal (suc n)) (IsAscii-decimal (suc n) (omega (arith, h))))
  plain_utf8 (number (float x)) h = absurd h
  plain_utf8 (string s) h = IsUtf8-quoted s h
  plain_utf8 (array ds) h = IsUtf8-append (91 ∷ []) (items_text false ds) (IsUtf8-are_ascii (91 ∷ []) refl) (utf8_items false ds h)
  plain_utf8 (object ms) h = IsUtf8-append (123 ∷ []) (members_text false ms) (IsUtf8-are_ascii (123 ∷ []) refl) (utf8_members false ms h)

  utf8_items : (later : Bool) (ds : Items) → PrintsItems ds → IsUtf8 (items_text later ds)
  utf8_items later no_items h = IsUtf8-are_ascii (93 ∷ []) refl
  utf8_items later (item d ds) h =
      IsUtf8-append (comma_if later) (compact_text d ++ items_text true ds) (utf8_comma later)
      (IsUtf8-append (compact_text d) (items_text true ds) (plain_utf8 d h.0) (utf8_items true ds h.1))

  utf8_members : (later : Bool) (ms : Members) → PrintsMembers ms → IsUtf8 (members_text later ms)
  utf8_members later no_members h = IsUtf8-are_ascii (125 ∷ []) refl
  utf8_members later (member k d ms) h =
      IsUtf8-append (comma_if later) (quoted k ++ 58 ∷ (compact_text d ++ members_text true ms)) (utf8_comma later)
      (IsUtf8-append (quoted k) (58 ∷ (compact_text d ++ members_text true ms)) (IsUtf8-quoted k h.0)
      (IsUtf8-append (58 ∷ []) (compact_text d ++ members_text true ms) (IsUtf8-are_ascii (58 ∷ []) refl)
      (IsUtf8-append (compact_text d) (members_text true ms) (plain_utf8 d h.2) (utf8_members true ms h.3))))
