-- Both draws list the same keys.
use Rattle.std.proofs.Common.{◌≡◌, List, Some, rules, sym, ap, ◌∙◌}
use Rattle.std.proofs.lemmas.Slice.Eq.{slice_eq-Decides}
use Rattle.geom.specs.declared.tile.TileKey.{TileKey}
use Rattle.recording_writer.specs.Repeats.{missing_in}
use Rattle.recording_writer.proofs.last_draw.have_same_missing.Goals as goal

pub returns-in-Draw-Draw : goal.returns-in-Draw-Draw
returns-in-Draw-Draw c = λ t.
    let one : c.as_slice.result.now ≡ c.as_slice-in-Draw-Draw.result.now =
    (slice_eq-Decides {A = TileKey} (λ a b. search rules) c.as_slice.result.now c.as_slice-in-Draw-Draw.result.now _ c.eq.ensures).0 t in
    record {
      missing = c.in-Draw-Draw.missing;
      first = ap missing_in c.in-Draw-Draw.is-0;
      second = ap missing_in c.in-Draw-Draw.is-1 ∙ ap (λ (keys : List TileKey). Some keys) (sym c.as_slice-in-Draw-Draw.ensures ∙ sym one ∙ c.as_slice.ensures);
    }
