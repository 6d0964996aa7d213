-- One fragment more, or the client failed in it.
use Rattle.std.specs.Prelude.{◌≡◌, List, ◌∷◌, ◌++◌, flat_map, Err}
use Rattle.std.proofs.Common.{rules, refl, sym, ap, ◌∙◌, append_assoc, arith}
use Rattle.player_lines.proofs.Telling.{said_then, said_early}
use Rattle.player_uses.specs.declared.fragments.Fragment.{Fragment}
use Rattle.player_uses.specs.inner.Fragments.{fragment_text}
use Rattle.player_uses.proofs.SaidTexts.{said_all, said_as, all_then}
use Rattle.player_uses.proofs.verdicts.put_texts.Goals as goal

pub loop-fragment-init : goal.loop-fragment-init
loop-fragment-init g c =
    (fragment_text c.args.first.now, said_all _ _ _ _ c.in_default.field-0 c.in_default.ensures.said, refl, c.in_default.ensures.torn, c.in_default.ensures.grows)

pub loop-fragment-preserved : goal.loop-fragment-preserved
loop-fragment-preserved g c =
    let cut_off : c.loop-fragment.rest.now ≡ c.in-Some.fragment.now ∷ c.in-Some.after.now = search rules in
    let i = c.loop-fragment.invariant in
    let text = fragment_text c.in-Some.fragment.now in (
      i.0 ++ text,
      all_then _ _ _ _ i.0 text c.in_default-put_text.field-0 i.1 c.in_default-put_text.ensures.said,
      append_assoc i.0 text (flat_map fragment_text c.in-Some.after.now) ∙ ap (λ (l : List Fragment). i.0 ++ flat_map fragment_text l) (sym cut_off) ∙ i.2,
      c.in_default-put_text.ensures.torn ∙ i.3,
      omega (arith, c.in_default-put_text.ensures.grows, i.4),
    )

pub returns-in-Err-put_text-clause-said : goal.returns-in-Err-put_text-clause-said
returns-in-Err-put_text-clause-said g c =
    let cut_off : c.loop-fragment.rest.now ≡ c.in-Some.fragment.now ∷ c.in-Some.after.now = search rules in
    let i = c.loop-fragment.invariant in
    let text = fragment_text c.in-Some.fragment.now in
    let after = flat_map fragment_text c.in-Some.after.now in
    let whole = append_assoc i.0 text after ∙ ap (λ (l : List Fragment). i.0 ++ flat_map fragment_text l) (sym cut_off) ∙ i.2 in
    let said = said_then _ _ _ i.0 text (Err c.in-Err-put_text.failed) i.1 c.in-Err-put_text.ensures.said in
    said_as _ _ _ _ _ whole (said_early _ _ _ (i.0 ++ text) after c.in-Err-put_text.failed said)
