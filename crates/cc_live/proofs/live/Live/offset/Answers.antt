use Rattle.std.proofs.Common.{rules, ◌≡◌, ◌∙◌, ap, w32, to_z, of_z}
use Rattle.std.proofs.lemmas.Int.{to_z-of_z}
use Rattle.page_layers.specs.Axes.{across, down}
use Rattle.model_states.specs.Table.{active_value}
use Rattle.model_history.specs.Scrolls.{active_offsets}
use Rattle.impl_log.specs.Runs.{Run, past}
use Rattle.cc_live.specs.Lives.{LiveModel}
use Rattle.cc_live.proofs.StandingScrollers.{bounded, low, high, stands}
use Rattle.cc_live.proofs.live.Live.offset.Goals as goal

pub place_of-requires-clause-bounded : goal.place_of-requires-clause-bounded
place_of-requires-clause-bounded c =
    let r : Run = c.self.inside.core in
    bounded r.script r.workers (past r) c.args.scroller across c.values.result.0 c.is_legal.ensures.playable c.is_legal.ensures.legal c.values.ensures.x

pub place_of-requires-clause-low : goal.place_of-requires-clause-low
place_of-requires-clause-low c =
    let r : Run = c.self.inside.core in
    low r.script r.workers (past r) c.args.scroller across c.values.result.0 c.is_legal.ensures.playable c.is_legal.ensures.legal c.values.ensures.x

pub place_of-requires-clause-high : goal.place_of-requires-clause-high
place_of-requires-clause-high c =
    let r : Run = c.self.inside.core in
    high r.script r.workers (past r) c.args.scroller across c.values.result.0 c.is_legal.ensures.playable c.is_legal.ensures.legal c.values.ensures.x

pub place_of-requires-2-clause-bounded : goal.place_of-requires-2-clause-bounded
place_of-requires-2-clause-bounded c =
    let r : Run = c.self.inside.core in
    bounded r.script r.workers (past r) c.args.scroller down c.values.result.1 c.is_legal.ensures.playable c.is_legal.ensures.legal c.values.ensures.y

pub place_of-requires-2-clause-low : goal.place_of-requires-2-clause-low
place_of-requires-2-clause-low c =
    let r : Run = c.self.inside.core in
    low r.script r.workers (past r) c.args.scroller down c.values.result.1 c.is_legal.ensures.playable c.is_legal.ensures.legal c.values.ensures.y

pub place_of-requires-2-clause-high : goal.place_of-requires-2-clause-high
place_of-requires-2-clause-high c =
    let r : Run = c.self.inside.core in
    high r.script r.workers (past r) c.args.scroller down c.values.result.1 c.is_legal.ensures.playable c.is_legal.ensures.legal c.values.ensures.y

pub returns : goal.returns
returns c =
    let r : Run = c.self.inside.core in
    let x : to_z w32 (of_z w32 c.place_of.result) ≡ active_value c.values.result.0 = to_z-of_z w32 c.place_of.result (search rules) ∙ c.place_of.ensures in
    let y : to_z w32 (of_z w32 c.place_of-2.result) ≡ active_value c.values.result.1 = to_z-of_z w32 c.place_of-2.result (search rules) ∙ c.place_of-2.ensures in
    stands r.script r.workers (past r) c.args.scroller c.values.result.0 c.values.result.1 (to_z w32 (of_z w32 c.place_of.result)) (to_z w32 (of_z w32 c.place_of-2.result)) c.is_legal.ensures.legal c.values.ensures.x c.values.ensures.y x y
    ∙ ap (λ (q : Run). active_offsets q.script (past q) c.args.scroller) (ap (λ (l : LiveModel). l.run) c.self.view_is)
