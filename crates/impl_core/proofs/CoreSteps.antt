-- What a core keeps stays right with each entry.
use Rattle.std.proofs.Common.{◌≡◌, ℕ, Bool, true, false, cond, not, filter, List, [], ◌∷◌, ◌++◌, Some, None, Result, Ok, Err, refl, sym, ◌∙◌, ap, subst}
use Rattle.std.specs.Prelude.{IfOk, OnOk, OnErr, ⊤}
use Rattle.std.specs.declared.alloc.AllocError.{AllocError}
use Rattle.model_states.specs.declared.kind.Kind.{Kind}
use Rattle.geom.specs.declared.tile.TileKey.{TileKey}
use Rattle.geom.specs.KeyLists.{has_key}
use Rattle.page_layers.specs.declared.moves.Move.{Move}
use Rattle.model_history.specs.declared.event.Event.{Event}
use Rattle.model_history.specs.declared.event.Event.TheVariants as event
use Rattle.model_history.specs.declared.history.Entry.{Entry}
use Rattle.model_history.specs.Scripts.{ScriptModel}
use Rattle.model_history.specs.EventFields.{kind_of}
use Rattle.model_history.specs.Frames.{pulls_of}
use Rattle.model_history.specs.Tiles.{Tree, active_tree, live_keys, made_so_far, ready, required, visible_in}
use Rattle.model_history.specs.Legal.{Legal}
use Rattle.model_history.proofs.BoolFacts.{is_same}
use Rattle.model_history.proofs.DueFacts.{entry, at_ready}
use Rattle.model_steps.specs.Events.{send, start, done}
use Rattle.model_steps.proofs.TreesAfter.{send_active, send_pending, send_ready}
use Rattle.impl_log.specs.Runs.{Run, past, with_entry, is_plain_kind, Plays}
use Rattle.impl_log.proofs.LogSteps.{past_more, plain_row}
use Rattle.impl_tiles.specs.Managers.{Managed, Manages}
use Rattle.impl_host.specs.Hosts.{ImplHostModel, Hosts}
use Rattle.impl_core.specs.declared.drawn.Drawn.{Drawn}
use Rattle.impl_core.specs.declared.drawn.Drawn.TheVariants as drawn
use Rattle.impl_core.specs.declared.handed.Handed.{Handed}
use Rattle.impl_core.specs.declared.needs.Needs.{Needs}
use Rattle.impl_core.specs.inner.Needed.{KnowsNeeds, no_needs, after_evicting}
use Rattle.impl_core.specs.Handovers.{IsPreparedFor}
use Rattle.impl_core.specs.inner.Cores.{Kept, ShowsPage, IfKept, IsDrawnAt, IsCore}
use Rattle.impl_core.proofs.NeedSteps.{forgotten, same_needs, fewer_ready, one_more_ready}

-- a drawing that is kept, where the active tree and the ready keys are the same after another past
pub same_drawn : (s : ScriptModel) (d : Drawn) (h g : List Entry) → active_tree s g ≡ active_tree s h → ready s g ≡ ready s h → IsDrawnAt s h d → IsDrawnAt s g d
same_drawn s d h g tree made shows =
    subst (λ (t : Tree). IfKept d (ShowsPage s t.page t.offset (filter (λ q. not (has_key (ready s g) q)) (visible_in t)))) (sym tree)
    (subst (λ (ks : List TileKey). IfKept d (ShowsPage s (active_tree s h).page (active_tree s h).offset (filter (λ q. not (has_key ks q)) (visible_in (active_tree s h))))) (sym made) shows)

-- at the beginning
pub begin_core : (s : ScriptModel) (host : ImplHostModel) (m : Managed) → Hosts s [] host → Manages s [] m → IsCore s [] (record { host = host; tiles = m; told = []; prepared = None; required = no_needs; drawn = drawn.Nothing })
begin_core s host m hosts holds = record { host = hosts; tiles = holds; told = λ t k e. absurd cc; prepared = λ t k e. absurd cc; required = forgotten no_needs (required s []) (ready s []) refl; drawn = tt }

module _ (kept : Kept) where
  -- a core of a run
  abbrev Keeps : Run → Type 0
  Keeps r = IsCore r.script (past r) kept

  -- the run with one entry more
  pub one_more : (r new : Run) (a : ℕ) (e : Event) → new ≡ with_entry r a e → IsCore r.script (entry a e ∷ past r) kept → Keeps new
  one_more r new a e is c =
      subst Keeps (sym is) (subst (λ (h : List Entry). IsCore r.script h kept) (sym (past_more r.entries (r.entries ++ entry a e ∷ []) (entry a e) refl)) c)

  -- an entry that was tried
  pub tried : (r new : Run) (a : ℕ) (e : Event) (x : Result ⊤ AllocError) → OnOk x (new ≡ with_entry r a e) → OnErr x (new ≡ r) → IsCore r.script (entry a e ∷ past r) kept → Keeps r → Keeps new
  tried r new a e (Ok done) ok err next old = one_more r new a e ok next
  tried r new a e (Err full) ok err next old = subst Keeps (sym err) old

  -- an entry that was refused
  pub refused : (r new : Run) → new ≡ r → Keeps r → Keeps new
  refused r new same c = subst Keeps (sym same) c

  -- a plain event changes nothing of what is kept
  plain_keeps : (s : ScriptModel) (h : List Entry) (a : ℕ) (e : Event) → is_plain_kind (kind_of e) ≡ true → IsCore s h kept → IsCore s (entry a e ∷ h) kept
  plain_keeps s h a (event.Begin i) p c = c
  plain_keeps s h a event.BeginPlain p c = c
  plain_keeps s h a (event.Skip i) p c = c
  plain_keeps s h a event.NoDraw p c = c
  plain_keeps s h a event.Finish p c = c
  plain_keeps s h a (event.Await i) p c = c
  plain_keeps s h a event.End p c = c
  plain_keeps s h a _ p c = absurd cc

  pub played : (r new : Run) (k : Kind) (x : Result Bool AllocError) → is_plain_kind k ≡ true → IfOk x (λ p. Plays r k 0 new p) → OnErr x (new ≡ r) → Keeps r → Keeps new
  played r new k (Ok true) plain ok err c =
      let row = plain_row r.script (past r) k ok.event plain ok.is_now in
      one_more r new 0 ok.event ok.is_entered (plain_keeps r.script (past r) 0 ok.event (ap is_plain_kind row.0 ∙ plain) c)
  played r new k (Ok false) plain ok err c = refused r new ok.1 c
  played r new k (Err full) plain ok err c = refused r new err c

-- a core after a send
pub send_core : (s : ScriptModel) (n : ℕ) (h : List Entry) (a k : ℕ) (ms told : List Move) (kept : Kept) (host : ImplHostModel) → Legal s n (send a k ms ∷ h) → IsCore s h kept → Hosts s (send a k ms ∷ h) host
    → Manages s (send a k ms ∷ h) kept.tiles → told ≡ ms
    → IsCore s (send a k ms ∷ h) (record { host = host; tiles = kept.tiles; told = told; prepared = kept.prepared; required = kept.required; drawn = kept.drawn })
send_core s n h a k ms told kept host legal core hosts holds is = record {
  host = hosts;
  tiles = holds;
  told = λ t j e. let same : k ≡ j = cc in is ∙ sym (ap (λ b. cond b ms (pulls_of h j)) (is_same k j same));
  prepared = λ t j e. absurd cc;
  required = same_needs kept.required (required s h) (required s (send a k ms ∷ h)) (ready s h) (ready s (send a k ms ∷ h)) (ap (λ t. visible_in t) (send_pending s n h a k ms legal)) (send_ready s n h a k ms legal) core.required;
  drawn = same_drawn s kept.drawn h (send a k ms ∷ h) (send_active s n h a k ms legal) (send_ready s n h a k ms legal) core.drawn;
}

-- a core whose frame is ready
pub ready_core : (s : ScriptModel) (n : ℕ) (h : List Entry) (k : ℕ) (d : Handed) (kept : Kept) → Legal s n (entry 1 (event.Ready k) ∷ h) → IsCore s h kept → IsPreparedFor s (pulls_of h) k d.tree.value d.changes d.outright.items
    → IsCore s (entry 1 (event.Ready k) ∷ h) (record { host = kept.host; tiles = kept.tiles; told = kept.told; prepared = Some d; required = kept.required; drawn = kept.drawn })
ready_core s n h k d kept legal core is = record {
  host = core.host;
  tiles = core.tiles;
  told = λ t j e. absurd cc;
  prepared = λ t j e. let last = (at_ready s n h 1 k legal.1).last in let same : k ≡ j = cc in subst (λ i. IsPreparedFor s (pulls_of h) i d.tree.value d.changes d.outright.items) same is;
  required = core.required;
  drawn = core.drawn;
}

-- a core that knows something else of the keys that are needed
pub with_required : (s : ScriptModel) (h : List Entry) (kept : Kept) (n : Needs) → IsCore s h kept → KnowsNeeds n (required s h) (ready s h)
    → IsCore s h (record { host = kept.host; tiles = kept.tiles; told = kept.told; prepared = kept.prepared; required = n; drawn = kept.drawn })
with_required s h kept n core needs = record { host = core.host; tiles = core.tiles; told = core.told; prepared = core.prepared; required = needs; drawn = core.drawn }

-- a core with another drawing
pub with_drawing : (s : ScriptModel) (h : List Entry) (kept : Kept) (d : Drawn) → IsCore s h kept → IsDrawnAt s h d
    → IsCore s h (record { host = kept.host; tiles = kept.tiles; told = kept.told; prepared = kept.prepared; required = kept.required; drawn = d })
with_drawing s h kept d core shows = record { host = core.host; tiles = core.tiles; told = core.told; prepared = core.prepared; required = core.required; drawn = shows }

-- a core with other tiles
pub with_tiles : (s : ScriptModel) (h : List Entry) (kept : Kept) (m : Managed) → IsCore s h kept → Manages s h m
    → IsCore s h (record { host = kept.host; tiles = m; told = kept.told; prepared = kept.prepared; required = kept.required; drawn = kept.drawn })
with_tiles s h kept m core holds = record { host = core.host; tiles = holds; told = core.told; prepared = core.prepared; required = core.required; drawn = core.drawn }

-- a core after a start, and after its end

pub start_core : (s : ScriptModel) (h : List Entry) (a w : ℕ) (q : TileKey) (ks : List TileKey) (kept : Kept) (m : Managed) → IsCore s h kept → Manages s (start a w q ks ∷ h) m
    → IsCore s (start a w q ks ∷ h) (record { host = kept.host; tiles = m; told = kept.told; prepared = kept.prepared; required = after_evicting kept.required ks; drawn = drawn.Nothing })
start_core s h a w q ks kept m core holds = record {
  host = core.host;
  tiles = holds;
  told = core.told;
  prepared = core.prepared;
  required = fewer_ready kept.required (required s h) (has_key (live_keys s h)) (made_so_far h) ks core.required;
  drawn = tt;
}

pub done_core : (s : ScriptModel) (h : List Entry) (a w : ℕ) (q : TileKey) (kept : Kept) (m : Managed) → IsCore s h kept → Manages s (done a w q ∷ h) m
    → IsCore s (done a w q ∷ h) (record { host = kept.host; tiles = m; told = kept.told; prepared = kept.prepared; required = kept.required; drawn = drawn.Nothing })
done_core s h a w q kept m core holds = record {
  host = core.host;
  tiles = holds;
  told = core.told;
  prepared = core.prepared;
  required = one_more_ready kept.required (required s h) (ready s h) q (has_key (live_keys s h) q) core.required;
  drawn = tt;
}
