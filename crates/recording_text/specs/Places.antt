-- Places of images.
use Rattle.recording_text.specs.declared.cursor.ImageSpan.{ImageSpan}
use Rattle.recording_text.specs.declared.place.ImagePlace.{ImagePlace}

-- where an image begins
abbrev pub image_place_of : ImageSpan → ImagePlace
image_place_of m = record { event = m.event; at = m.at }
