-- What is left of the chain, with the clip of what was passed, is the clip.
use Rattle.page_properties.specs.OffsetMap.{offset_at}
use Rattle.page_properties.specs.Placement.{clip_of}
use Rattle.page_properties.proofs.Walks.{Clipped}
use Rattle.page_properties.proofs.placement.clip_in.Given as goal

abbrev pub invariant-loop : goal.invariant-loop
invariant-loop l = Clipped (offset_at l.offsets) l.transforms l.nodes (clip_of (offset_at l.offsets) l.transforms l.nodes l.fn.clip) l.clip l.inner
