use Rattle.model_history.proofs.SharedPages.{same_commits, same_pages, key_stays}
use Rattle.model_history.proofs.laws_sharing.equal_keys_show_the_same.Goals as goal

pub returns : goal.returns
returns c = record { commits = same_commits; pages = same_pages; between = key_stays }
