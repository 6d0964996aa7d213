-- The moved rect is sound.
use Rattle.std.proofs.Common.{sym, subst, rules}
use Rattle.geom.specs.declared.rect.Rect.{Rect}
use Rattle.geom.specs.Covers.{IsSound}
use Rattle.geom.specs.Gaps.{shifted}
use Rattle.tile_visible.proofs.MovedPlaces.{moved_sound}
use Rattle.tile_visible.proofs.screen.moved_place.Goals as goal

pub shift-requires-clause-result_sound : goal.shift-requires-clause-result_sound
shift-requires-clause-result_sound c =
    subst (λ (r : Rect). IsSound (shifted r c.args.by)) (sym c.rect_of.ensures.value)
    (moved_sound c.args.grid c.args.place c.args.by (search rules) (search rules) c.requires.near (subst IsSound c.rect_of.ensures.value c.rect_of.ensures.sound))

pub returns-clause-sound : goal.returns-clause-sound
returns-clause-sound c =
    subst IsSound (sym c.shift.ensures.value)
    (subst (λ (r : Rect). IsSound (shifted r c.args.by)) (sym c.rect_of.ensures.value)
    (moved_sound c.args.grid c.args.place c.args.by (search rules) (search rules) c.requires.near (subst IsSound c.rect_of.ensures.value c.rect_of.ensures.sound)))
