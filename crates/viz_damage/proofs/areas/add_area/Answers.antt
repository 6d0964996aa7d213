-- What is joined holds what it was joined from.
use Rattle.std.proofs.Common.{◌+◌, List, [], ◌∷◌, ◌++◌, take, drop, sym, subst, rules}
use Rattle.std.specs.Prelude.{All}
use Rattle.std.proofs.lemmas.List.Elements.{All-append, All-take, All-drop}
use Rattle.geom.specs.declared.Rect.{Rect}
use Rattle.viz_scene.specs.Areas.{IsOnScreen}
use Rattle.viz_damage.specs.inner.Areas.{HoldAll}
use Rattle.viz_damage.proofs.AreaSteps.{joined_holds, holds_through, pushed_holds, one_on_screen}
use Rattle.viz_damage.proofs.areas.add_area.Goals as goal

pub loop-place-init : goal.loop-place-init
loop-place-init c = record { held = λ x y h. h; damage = c.requires.damage; whole = c.requires.area }

pub hull-whole-requires-clause-second : goal.hull-whole-requires-clause-second
hull-whole-requires-clause-second c =
    subst IsOnScreen (sym c.remove-other.ensures.value) (c.loop-place.invariant.damage c.in-Some.place c.remove-other.result (search rules))

pub loop-place-preserved : goal.loop-place-preserved
loop-place-preserved c =
    let rest = c.remove-other.ensures.by_index.2 in
    record {
      held =
          holds_through (c.hull-whole.result ∷ c.remove-other.new.self.items) (c.loop-place.whole ∷ c.loop-place.damage.items) (c.args.area ∷ c.args.damage.now.items)
          (joined_holds c.loop-place.damage.items c.remove-other.new.self.items c.in-Some.place c.remove-other.result c.loop-place.whole c.hull-whole.result
          (search rules) c.remove-other.ensures.value rest c.hull-whole.ensures.first c.hull-whole.ensures.second)
          c.loop-place.invariant.held;
      damage =
          subst (All IsOnScreen) (sym rest)
          (All-append IsOnScreen (take c.in-Some.place c.loop-place.damage.items) (drop (c.in-Some.place + 1) c.loop-place.damage.items) (All-take IsOnScreen c.in-Some.place c.loop-place.damage.items c.loop-place.invariant.damage)
          (All-drop IsOnScreen (c.in-Some.place + 1) c.loop-place.damage.items c.loop-place.invariant.damage));
      whole = c.hull-whole.ensures.inside;
    }

pub returns-in_err-push-clause-damage : goal.returns-in_err-push-clause-damage
returns-in_err-push-clause-damage c = subst (All IsOnScreen) (sym c.in_err-push.ensures.items) c.loop-place.invariant.damage

pub returns-clause-held : goal.returns-clause-held
returns-clause-held c =
    subst (λ (rs : List Rect). HoldAll rs (c.args.area ∷ c.args.damage.now.items)) (sym c.in_ok-push.ensures.items)
    (holds_through (c.loop-place.damage.items ++ c.loop-place.whole ∷ []) (c.loop-place.whole ∷ c.loop-place.damage.items) (c.args.area ∷ c.args.damage.now.items)
    (pushed_holds c.loop-place.damage.items c.loop-place.whole) c.loop-place.invariant.held)

pub returns-clause-damage : goal.returns-clause-damage
returns-clause-damage c =
    subst (All IsOnScreen) (sym c.in_ok-push.ensures.items)
    (All-append IsOnScreen c.loop-place.damage.items (c.loop-place.whole ∷ []) c.loop-place.invariant.damage
    (one_on_screen c.loop-place.whole c.loop-place.invariant.whole))
