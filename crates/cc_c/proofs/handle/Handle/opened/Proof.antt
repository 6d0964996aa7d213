-- `opened` takes a handle for a box that is taken apart, or finds null.
use Rattle.std.proofs.Common.{◌≡◌, List, [], ◌∷◌, ◌++◌, refl, sym, ap, ◌∙◌, subst, lit<}
use mir.Syntax.{impl, tnil, dnil}
use mir.Val.{Val, vptr, vnull, vcons, vnil}
use base.Logic.{SProp, ent, emp, id⊢}
use base.Fml.{ftrue}
use prog.Wp.{WpFn}
use types.Kit.{‵, raw, ◌⊛◌, at_ret, ◌$◌, ◌∵◌, !, qed, by, move, keep, drop, split, fsplit, fjoin, suffices, use0, use1, feq_i, rewrite}
use types.Run.{stop, fld, lit, of_opd, bin, no_more, and_then, first, branches, exec, returns, enter}
use types.ByLocal.{alloc_all, pass_all, free_all, look_at, get, get_in, sets, sets_last, env}
use types.Part.{agg, sub, whole}
use types.Match.{live}
use contract.Monad.{fact, fact_i}
use contract.Running.{tables}
use denote.Exit.{yes, no}
use denote.RattleType.{RattleType, owns}
use denote.Signature.{types_at, type_at, plain}
use denote.RawPtr.{Ptr, block_ptr, null_ptr, ptr_val, tests_null}
use denote.Steps.{nothing}
use denote.Param.{layout}
use denote.Triple.Walked.{Stays, stay_dropped, Goes-dropped, walk_of}
use Rattle.core.proofs.alloc.Shapes.{after}
use Rattle.core.proofs.alloc.Calls.{Goes-blank, handle_tells}
use Rattle.core.proofs.cell.Inside.{Good}
use Rattle.core.proofs.option.Made.{Some-of, none_of}
use Rattle.std.specs.declared.option.Option.{Option}
use Rattle.std.specs.declared.option.Option.TheVariants.{None, Some}
use Rattle.std.proofs.raw_atomic.Walks.{proved_at, leaves}
use Rattle.std.proofs.alloc.Global.TheLaws as heap_laws
use Rattle.std.specs.contracts.impls.GlobalAllocator.TheImpl.{ghosts}
use Rattle.std_alloc.proofs.ResultValues.{and_tt}
use Rattle.cc_c.specs.Handles.{kept}
use Rattle.cc_c.specs.contracts.handle.Handle as handle
use Rattle.cc_c.proofs.Values.{both, both_tt, Loose, loose_good, loose_in, loose_out}
use Rattle.cc_c.proofs.HandleValues.{Page, Heap, al, handle_out, handle_in, kept_cases}
use Rattle.cc_c.specs.contracts.handle.Handle.opened as f
use Rattle.cc_c.proofs.handle.Handle.opened.Statement.{statement}
use Rattle.cc_c.proofs.handle.Handle.opened.Code as code

abbrev Parts : RattleType
Parts = Loose Page Heap heap_laws.the_row_laws ghosts

abbrev stayed : Stays f.ended.signature.params f.ended.kept
stayed = (stay_dropped (plain (λ _. handle.the_row)) yes, tt)

pub opened_spec : {M : Type 1} → statement M
opened_spec 𝓤 𝓛 𝓜 𝓡 wired =
    let H = 𝓛.H in let 𝓣 = tables 𝓤 H 𝓜 𝓡 𝓡.env in let fn = code.function in let c = f.clauses 𝓛 𝓜.mem 𝓡.returns in
    proved_at 𝓛 f.ended stayed c 𝓜 𝓡 (Goes-dropped 𝓛 0 (plain (λ _. handle.the_row)) yes (λ κs x w. refl), tt)
    f.Key.name fn (code.unfolded 𝓤 H 𝓜 𝓡 wired) (λ z are.
    let d = z.0.3.0 in let a = d.alloc in let vs = z.0.4.0 in let Out : RattleType = type_at f.ended.signature.result z.0.0 in
    let Post : Val → SProp 𝓤 = (walk_of 𝓛 f.ended stayed c).post z in let Run : List Val → SProp 𝓤 = λ ws. WpFn 𝓤 H 𝓣.C 𝓣.Λ fn ws Post in
    qed 𝓛 ((‵ ftrue ⊛ ‵ (owns (types_at f.ended.signature.params z.0.0) z.0.3 z.0.4)) ∷ raw ((c z.0.0 z.0.3).requires z.1) ∷ []) ∵ split ! $ move ! (1 ∷ []) $ fsplit ! $
    handle_out ! d vs (λ h is fits.
    kept_cases ! a d.at d.value
    (λ none null.
    let w : Val = both vnull h in let good : Good (layout handle.the_row) w = (and_tt _ fits.0, (record { fits = lit< tt }, (fits.1, tt))) in
    let at : vs ≡ w ∷ [] = subst (λ (p : Ptr). vs ≡ both (ptr_val p) h ∷ []) null is in
    suffices ! (Run (w ∷ [])) (subst (λ (xs : List Val). ent 𝓤 (Run (w ∷ [])) (Run xs)) (sym (λ i. at i ++ [])) (id⊢ 𝓤 (Run (w ∷ [])))) $
    enter ! 𝓣.C 𝓣.Λ fn (w ∷ []) Post $ alloc_all ! (λ l. pass_all ! refl (good, tt) $
    sets ! (of_opd ! (get_in ! (fld ! refl (stop !)) (sub ! 0 refl (whole !)))) refl (tt, record { fits = lit< tt }) $
    sets ! (of_opd ! (get_in ! (fld ! refl (stop !)) (sub ! 1 refl (whole !)))) refl fits $
    sets ! (bin ! (get ! refl) (lit ! tt) tt) refl (tt, tt) $ first ! $ branches ! (get ! refl)
    (λ _. sets_last ! (agg ! (and_then ! (lit ! tt) (no_more !))) refl (tt, (record { fits = lit< tt }, tt)) $ exec ! 𝓣.C 𝓣.Λ (env fn.locals l) (after 4 fn.body) (at_ret (env fn.locals l) Post) $
    sets ! (of_opd ! (get ! refl)) refl (tt, (record { fits = lit< tt }, tt)) $
    use0 𝓛 (‵ (Out.own_val None (live 0 vnil ∷ []))) (none_of 𝓛 Parts) $
    use0 𝓛 (raw (fact 𝓤 (d.value ≡ None))) (fact_i 𝓤 (d.value ≡ None) (emp 𝓤) none) $ nothing ! $ nothing ! $ fjoin ! $
    returns ! (look_at ! 0 refl) $ free_all ! refl $ keep ! (5 ∷ 0 ∷ 2 ∷ 1 ∷ []) $ by ! (leaves 𝓛 f.ended stayed c z (live 0 vnil) None (tt, tt) (tt, tt))) (λ wrong. absurd wrong)))
    (λ y b o one block may.
    let w : Val = both (vptr b o) h in let typed = loose_good Page Heap heap_laws.the_row_laws ghosts b o h fits in
    let at : vs ≡ w ∷ [] = subst (λ (p : Ptr). vs ≡ both (ptr_val p) h ∷ []) block is in
    let v₁ : Val = live 1 (vcons w vnil) in let made : Parts.Denot = record { at = block_ptr b o; alloc = a; value = y } in
    let good : Good (layout Out) v₁ = (and_tt _ typed.0, (record { fits = lit< tt }, (typed.1, tt))) in
    suffices ! (Run (w ∷ [])) (subst (λ (xs : List Val). ent 𝓤 (Run (w ∷ [])) (Run xs)) (sym (λ i. at i ++ [])) (id⊢ 𝓤 (Run (w ∷ [])))) $
    enter ! 𝓣.C 𝓣.Λ fn (w ∷ []) Post $ alloc_all ! (λ l. pass_all ! refl (typed, tt) $
    sets ! (of_opd ! (get_in ! (fld ! refl (stop !)) (sub ! 0 refl (whole !)))) refl (tt, tt) $
    sets ! (of_opd ! (get_in ! (fld ! refl (stop !)) (sub ! 1 refl (whole !)))) refl fits $
    sets ! (bin ! (get ! refl) (lit ! tt) (tests_null (block_ptr b o) may)) refl (tt, tt) $ first ! $ branches ! (get ! refl) (λ wrong. absurd wrong)
    (λ _. sets ! (of_opd ! (get ! refl)) refl (tt, tt) $ sets ! (agg ! (and_then ! (get ! refl) (and_then ! (get ! refl) (no_more !)))) refl typed $
    sets_last ! (agg ! (and_then ! (lit ! tt) (and_then ! (get ! refl) (no_more !)))) refl good $
    exec ! 𝓣.C 𝓣.Λ (env fn.locals l) (after 4 fn.body) (at_ret (env fn.locals l) Post) $ sets ! (of_opd ! (get ! refl)) refl good $
    loose_in Page Heap heap_laws.the_row_laws ghosts ! b o h a y $
    use1 𝓛 (‵ (Out.own_val (Some made) (v₁ ∷ []))) (Some-of 𝓛 Parts made w) $
    use0 𝓛 (raw (fact 𝓤 (d.value ≡ Some y))) (fact_i 𝓤 (d.value ≡ Some y) (emp 𝓤) one) $ nothing ! $ nothing ! $ fjoin ! $
    returns ! (look_at ! 0 refl) $ free_all ! refl $ keep ! (4 ∷ 0 ∷ 2 ∷ 1 ∷ []) $ by ! (leaves 𝓛 f.ended stayed c z v₁ (Some made) (tt, tt) (tt, tt)))))))
