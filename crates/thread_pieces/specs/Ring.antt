-- What the two ends of a ring hold, and which ring they belong to.
use Rattle.std.specs.Prelude.{◌≡◌, ℕ, ⊤, ◌⊎◌, List, [], ◌++◌, flat_map, Result, Ok, Err}
use Rattle.std.specs.Global.{Vec}
use Rattle.rtrb.specs.Ring.{sent, received, known_free, known_items}
use Rattle.thread_pieces.specs.declared.shot.Shot.{Shot}
use Rattle.thread_pieces.specs.Shots.{all_shown}
use Rattle.thread_pieces.specs.declared.ends.RingSink.{RingSink}
use Rattle.thread_pieces.specs.declared.ends.Presenter.{Presenter}
use Rattle.thread_pieces.specs.declared.ends.Label.{Label}

-- bytes in several lists, in order
abbrev pub joined : List (Vec ℕ) → List ℕ
joined lists = flat_map (λ list. list.items) lists

-- all bytes that were put into the sink: what went into the ring, then what it kept, then what it gathered since
abbrev pub whole : RingSink → List ℕ
whole s = (all_shown (sent s.producer) ++ all_shown s.kept.items) ++ s.lines.items

-- all bytes that the presenter took out of the ring
abbrev pub bytes_taken : Presenter → List ℕ
bytes_taken p = all_shown (received p.consumer)

-- the pieces that the presenter has seen in the ring and not taken yet
abbrev pub seen : Presenter → List Shot
seen p = known_items p.consumer

-- the sink keeps no piece, or the ring was found full
abbrev pub HasMovedKept : RingSink → Type 0
HasMovedKept s = (s.kept.items ≡ []) ⊎ (known_free s.producer ≡ 0)

-- all that was put is in the ring, or the ring was found full
abbrev pub HasMovedAll : RingSink → Type 0
HasMovedAll s = ((s.kept.items ≡ []) × (s.lines.items ≡ [])) ⊎ (known_free s.producer ≡ 0)

-- the ring that a sink fills
abbrev pub ring_filled : RingSink → Label
ring_filled s = record { words = s.producer.end.words; slots = s.producer.end.slots; names = s.producer.end.names; heap = s.producer.end.heap }

-- the ring that a presenter empties
abbrev pub ring_emptied : Presenter → Label
ring_emptied p = record { words = p.consumer.end.words; slots = p.consumer.end.slots; names = p.consumer.end.names; heap = p.consumer.end.heap }

-- both ends are of one ring
abbrev pub OneRing : RingSink → Presenter → Type 0
OneRing s p = ring_filled s ≡ ring_emptied p

-- the sink's ring is still the same
abbrev pub SameSink : RingSink → RingSink → Type 0
SameSink old new = ring_filled new ≡ ring_filled old

-- pieces and lines went on towards the ring, and nothing else happened
pub record OnlyMoves (old new : RingSink) : Type 0 where
  -- it still fills the same ring
  pub ring : SameSink old new
  -- what was put is the same
  pub bytes : whole new ≡ whole old
  -- no put was refused
  pub refused : new.refused ≡ old.refused

-- the presenter's ring is still the same
abbrev pub SamePresenter : Presenter → Presenter → Type 0
SamePresenter old new = ring_emptied new ≡ ring_emptied old

-- the bytes that were taken are those before and those of the batch, or if memory ran out, those before and some more
abbrev pub TakesBatch : {E : Type 0} → List ℕ → List ℕ → Result (Vec Shot) E → Type 0
TakesBatch before after (Ok batch) = after ≡ before ++ all_shown batch.items
TakesBatch before after (Err _) = (more : List ℕ) × (after ≡ before ++ more)

-- a batch without pieces is answered only if the presenter has seen none in the ring
abbrev pub EmptyBatch : {E : Type 0} → List Shot → Result (Vec Shot) E → Type 0
EmptyBatch left (Ok batch) = batch.items ≡ [] → left ≡ []
EmptyBatch left (Err _) = ⊤
