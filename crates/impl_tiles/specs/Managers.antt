-- What contracts see of a tile manager, and when it represents the tiles of a run.
use Rattle.std.specs.Prelude.{◌≡◌, ⊤, ℕ, Bool, true, false, cond, Option, Some, None, List, [], ◌∷◌, filter, filter_map, refl}
use Rattle.std.specs.Coded.{Coded, code_by, coded×}
use Rattle.geom.specs.declared.tile.TileKey.{TileKey}
use Rattle.geom.specs.KeyLists.{has_key}
use Rattle.tile_priority.specs.declared.rank.Rank.{Rank}
use Rattle.tile_priority.specs.declared.rank.Bin.TheVariants as bin
use Rattle.tile_priority.specs.Ordered.{In, SameMembers}
use Rattle.tile_priority.specs.Tiles.{Tile}
use Rattle.tile_priority.specs.Choice.{Choice}
use Rattle.tile_priority.specs.Alike.{AsMany, Alike}
use Rattle.tile_raster.specs.Images.{Image}
use Rattle.impl_tiles.specs.Stores.{Store, image_of, is_ready, is_in_flight}
use Rattle.model_history.specs.declared.history.Entry.{Entry}
use Rattle.model_history.specs.Scripts.{ScriptModel}
use Rattle.model_history.specs.Legal.{Legal}
use Rattle.model_history.specs.Tiles.{live_keys, in_flight, ready, pinned}
use Rattle.model_history.specs.Ranking.{wanted, choice, rank, ready_tile}
use Rattle.model_steps.specs.Events.{start, done}
use Rattle.model_steps.specs.ShownKeys.{KeyShows}
use Rattle.impl_tiles.specs.Choices.{Ranked, choice_among}
use Rattle.impl_tiles.specs.Visible.{is_hidden, Shows, TellsFirst}
use Rattle.impl_tiles.specs.declared.outlook.Outlook.{Outlook}
use Rattle.impl_tiles.specs.declared.outlook.Outlook.TheVariants as outlook

-- the store of the tiles, the pinned keys, and what tells the next tile: a queue, or one of the visible tiles alone, or the ranks of which a queue is to be made, or nothing yet
pub record Managed : Type 0 where
  pub store : Store
  pub pinned : List TileKey
  pub outlook : Outlook

-- it is coded as the tuple of its fields
abbrev pub managed_code : Coded Store → Coded (List TileKey) → Coded Outlook → Coded Managed
managed_code store pinned outlook =
    code_by
    (Store × (List TileKey × Outlook))
    (coded× store (coded× pinned outlook))
    (λ m. (m.store, (m.pinned, m.outlook)))
    (λ p. record { store = p.0; pinned = p.1.0; outlook = p.1.1 })
    (λ _. refl)

-- the ranks of the live keys that have one
abbrev pub live_ranks : ScriptModel → List Entry → List Rank
live_ranks s h = filter_map (rank s h) (live_keys s h)

-- the ranks are these, with this budget
pub record AreRanks (r : Ranked) (live : List Rank) (budget : ℕ) : Type 0 where
  pub members : SameMembers r.ranks live
  pub budget_is : r.budget ≡ budget

-- they are those of the live keys after this past
abbrev pub AreRanksAt : ScriptModel → List Entry → Ranked → Type 0
AreRanksAt s h r = AreRanks r (live_ranks s h) s.budget

-- it was looked at all tiles that there are to choose from
abbrev pub is_seen : Outlook → Bool
is_seen outlook.Unseen = false
is_seen (outlook.Visible queue) = false
is_seen _ = true

-- it was looked at none of them
abbrev pub is_unseen : Outlook → Bool
is_unseen outlook.Unseen = true
is_unseen _ = false

-- the ranks of all tiles are known, and no queue is made of them yet
abbrev pub has_ranks_alone : Outlook → Bool
has_ranks_alone (outlook.Ranks ranks) = true
has_ranks_alone _ = false

-- it is a queue in which these ranks are wanted and these tiles are ready, of the visible tiles alone
abbrev pub IsOfVisible : Outlook → List Rank → List Tile → Type 0
IsOfVisible (outlook.Visible queue) wanted hidden = SameMembers queue.wanted wanted × SameMembers queue.ready hidden
IsOfVisible _ wanted hidden = ⊥

-- what was looked at tells which tile starts first
abbrev pub TellsNext : Outlook → Type 0
TellsNext (outlook.Queue queue) = ⊤
TellsNext (outlook.Visible queue) = TellsFirst queue
TellsNext (outlook.Ranks ranks) = ⊤
TellsNext outlook.Unseen = ⊥

-- the queue is for this choice or for its visible tiles, or a queue is to be made of these ranks; nothing is told if it was not looked
abbrev pub Foresees : Outlook → Choice → List Rank → Type 0
Foresees (outlook.Queue queue) c live = Alike queue c
Foresees (outlook.Visible queue) c live = Shows queue c
Foresees (outlook.Ranks ranks) c live = AreRanks ranks live c.budget
Foresees outlook.Unseen c live = ⊤

-- nothing to choose from
abbrev pub empty_choice : Choice
empty_choice = record { wanted = []; ready = []; in_flight = 0; budget = 0 }

-- what there is to choose from by an outlook, a store and pinned keys
abbrev pub foreseen : Store → List TileKey → Outlook → Choice
foreseen store pins (outlook.Queue queue) = queue
foreseen store pins (outlook.Visible queue) = queue
foreseen store pins (outlook.Ranks ranks) = choice_among store pins ranks
foreseen store pins outlook.Unseen = empty_choice

-- the manager has an image that shows it for each of the ready keys, these keys in flight and pinned, and a queue for this choice or for its visible tiles, or the ranks of the live keys of which one is to be made, if it was looked
pub record HoldsTiles (s : ScriptModel) (m : Managed) (made flying pins : List TileKey) (c : Choice) (live : List Rank) : Type 0 where
  pub ready : (q : TileKey) → is_ready m.store q ≡ has_key made q
  pub in_flight : (q : TileKey) → is_in_flight m.store q ≡ has_key flying q
  pub pinned : (q : TileKey) → has_key m.pinned q ≡ has_key pins q
  pub images : (q : TileKey) (i : Image) → image_of m.store q ≡ Some i → (i.key ≡ q) × KeyShows s q i.rect i.list
  pub outlook : Foresees m.outlook c live

-- it represents the tiles of a run of the script after this past
abbrev pub Manages : ScriptModel → List Entry → Managed → Type 0
Manages s h m = HoldsTiles s m (ready s h) (in_flight h) (pinned s h) (choice s h) (live_ranks s h)

-- after this past the wanted ranks of visible tiles are among these, all of which are wanted, and these are the ready tiles that are not visible
pub record AreVisibleAt (s : ScriptModel) (h : List Entry) (first : List Rank) (hidden : List Tile) : Type 0 where
  pub among : (r : Rank) → In r first → In r (wanted s h)
  pub visible : (r : Rank) → In r (wanted s h) → r.bin ≡ bin.Now → In r first
  pub ready : SameMembers hidden (filter is_hidden (choice s h).ready)
  pub as_many : AsMany hidden (filter is_hidden (choice s h).ready)

-- the manager represents a run in which a worker may start the key now, for which these keys are evicted
pub record StartsNow (m : Managed) (q : TileKey) (evicted : List TileKey) : Type 0 where
  pub script : ScriptModel
  pub workers : ℕ
  pub past : List Entry
  pub actor : ℕ
  pub worker : ℕ
  pub manages : Manages script past m
  pub legal : Legal script workers (start actor worker q evicted ∷ past)

-- the tile of a key that a worker has made: none if the key is no longer live
abbrev pub tile_made : ScriptModel → List Entry → TileKey → Option Tile
tile_made s h q = cond (has_key (live_keys s h) q) (Some (ready_tile s h q)) None

-- the manager represents a run in which a worker may be done with this image now, which shows its key, and whose tile is this
pub record DoneNow (m : Managed) (i : Image) (tile : Option Tile) : Type 0 where
  pub script : ScriptModel
  pub workers : ℕ
  pub past : List Entry
  pub actor : ℕ
  pub worker : ℕ
  pub manages : Manages script past m
  pub legal : Legal script workers (done actor worker i.key ∷ past)
  pub is_tile : tile ≡ tile_made script past i.key

-- after both pasts the same keys are ready, in flight and pinned
pub record HaveSameTiles (s : ScriptModel) (h g : List Entry) : Type 0 where
  pub ready : (q : TileKey) → has_key (ready s g) q ≡ has_key (ready s h) q
  pub in_flight : (q : TileKey) → has_key (in_flight g) q ≡ has_key (in_flight h) q
  pub pinned : (q : TileKey) → has_key (pinned s g) q ≡ has_key (pinned s h) q
