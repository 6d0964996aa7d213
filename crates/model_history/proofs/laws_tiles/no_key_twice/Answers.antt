use Rattle.model_history.proofs.TileCourse.{tile_course, holder}
use Rattle.model_history.proofs.laws_tiles.no_key_twice.Goals as goal

pub returns : goal.returns
returns c = record {
  made = λ s n h l. (tile_course s n h l).made_once;
  in_flight = λ s n h l. (tile_course s n h l).in_flight_once;
  apart = λ s n h l. (tile_course s n h l).apart;
  held = λ s n h l. (tile_course s n h l).held_in_flight;
  holder = holder;
  one_holder = λ s n h l. (tile_course s n h l).one_holder;
}
