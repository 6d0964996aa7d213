-- How many elements a list has, and how many members an object.
use Rattle.serde_json.proofs.Views.{items_len-items_view, members_len-members_view}

pub ruleset counts = (items_len-items_view, members_len-members_view)
