-- How much of an array or of an object was read.
use Rattle.std.specs.Prelude.{◌≡◌, ℕ, ◌≤◌, List, length}
use Rattle.json.specs.Token.{Token}
use Rattle.json.specs.Json.{parse_map, items, members, value}
use Rattle.serde_json.specs.Data.{Items, Members}
use Rattle.serde_json.specs.Read.{of_items, of_members, converted}
use Rattle.script_fields.specs.Tokens.{first_items, first_members}

-- the values of an array that begins at `start`, after its opening bracket, are what `join` makes of those from `now` on
pub record ItemsUpTo (depth : ℕ) (start : List Token) (join : Items → Items) (now : List Token) : Type 0 where
  -- a bound on how many values are left
  pub turns : ℕ
  pub enough : length now ≤ turns
  pub within : length now ≤ length start
  pub reads : first_items depth start ≡ parse_map join (converted of_items (items (value depth) turns now))

-- the members of an object that begins at `start`, after its opening brace, are those found so far with those from `now` on
pub record MembersUpTo (depth : ℕ) (start : List Token) (found : Members) (now : List Token) : Type 0 where
  -- a bound on how many members are left
  pub turns : ℕ
  pub enough : length now ≤ turns
  pub within : length now ≤ length start
  pub reads : first_members depth start ≡ converted (λ ms. of_members ms found) (members (value depth) turns now)
