-- What a compositor knows of its pages and its frame, after each of its calls.
use Rattle.std.proofs.Common.{◌≡◌, ℕ, ℤ, pos, ◌<◌, Bool, true, false, Option, Some, None, List, [], ◌∷◌, refl, sym, ◌∙◌, ap, subst}
use Rattle.std.specs.Prelude.{IfSome}
use Rattle.std.proofs.lemmas.List.Elements.{All-nil}
use Rattle.geom.specs.declared.rect.Point.{Point}
use Rattle.geom.specs.declared.rect.Rect.{Rect}
use Rattle.region.specs.Points.{covered}
use Rattle.pixel.specs.Colours.{Parts}
use Rattle.page_layers.specs.declared.moves.Move.{Move}
use Rattle.page_layers.specs.declared.view.View.{View}
use Rattle.page_layers.specs.TreePainting.{paint}
use Rattle.page_layers.specs.Pages.{Page}
use Rattle.page_properties.specs.OffsetMap.{origin}
use Rattle.page_layers.specs.Effects.{scrolled_by, main_point, page_after_pulls}
use Rattle.viz_canvas.specs.Canvases.{CanvasView}
use Rattle.cc.specs.declared.kept_tile.KeptTile.{KeptTile}
use Rattle.cc.specs.KeptTiles.{IsKeptFor, AreKeptFor, IsCurrent, AreCurrent, HaveSameLayers}
use Rattle.cc.proofs.Images.{alike_kept, alike_current}
use Rattle.cc.specs.Compositors.{CompositorView, ShowsPage, amount_scrolled, move_by}
use Rattle.cc.specs.inner.Edits.{LookAlikeOutside, CoverBoth, IsKnownUnion}
use Rattle.cc.specs.inner.Flags.{TellsCommitted, TellsEdited, ShowsPageOutside, TellsShown}
use Rattle.cc.proofs.ItemEdits.{left_false, right_false}
use Rattle.cc.proofs.ScrollSteps.{same_scroll, still_scroll}

-- ---- at first

pub kept_none : (p : Page) → AreKeptFor p []
kept_none p = record { each = All-nil (IsKeptFor p) }

pub current_none : (p : Page) → AreCurrent p []
current_none p = record { each = All-nil (λ (k : KeptTile). k.is_stale ≡ false → IsCurrent p k) }

-- ---- commits

pub committed_itself : (flag : Bool) (p q : Page) → p ≡ q → TellsCommitted flag p q
committed_itself flag p q e = record { same = λ h. e }

pub committed_both : (flag : Bool) (p q r : Page) → p ≡ r → q ≡ r → TellsCommitted flag p q
committed_both flag p q r e f = record { same = λ h. e ∙ sym f }

pub not_committed : (p q : Page) → TellsCommitted false p q
not_committed p q = record { same = λ h. absurd (cc) }

pub committed_now : (flag : Bool) (old : CompositorView) → TellsCommitted flag old.active old.main → flag ≡ true → old ≡ record old { active = old.main }
committed_now flag old tells is = ap (λ (p : Page). record old { active = p }) (tells.same is)

-- ---- what is edited

alike_itself : (rects : List Rect) (p q : Page) → p ≡ q → LookAlikeOutside rects p q
alike_itself rects p q e = record { view = ap (λ (o : Page). o.view) e; pixels = λ background x y across down off. ap (λ (o : Page). paint o (main_point o) [] background (pos x) (pos y)) e }

pub edited_none : (p q : Page) → TellsEdited None p q
edited_none p q = record { alike = tt }

pub edited_itself : (rects : List Rect) (p q : Page) → p ≡ q → TellsEdited (Some rects) p q
edited_itself rects p q e = record { alike = alike_itself rects p q e }

-- known only where the pages are one
pub edited_committed : (edited : Option (List Rect)) (flag : Bool) (p q : Page) → IfSome edited (λ rects. flag ≡ true) → TellsCommitted flag p q → TellsEdited edited p q
edited_committed (Some rects) flag p q is tells = edited_itself rects p q (tells.same is)
edited_committed None flag p q is tells = edited_none p q

-- ---- the frame

pub shown_none : (d : ℕ) (bytes_of : Parts → List ℕ) (p : Page) (background : Parts) (f : CanvasView) → TellsShown d bytes_of None p background f
shown_none d bytes_of p background f = record { shows = tt }

-- a frame that shows a page shows it outside of any rects
pub shown_now : (d : ℕ) (bytes_of : Parts → List ℕ) (rects : List Rect) (p : Page) (background : Parts) (f : CanvasView) → ShowsPage d bytes_of p (main_point p) background f → TellsShown d bytes_of (Some rects) p background f
shown_now d bytes_of rects p background f shows = record { shows = record { size = shows.size; pixels = λ x y across down off. shows.pixels x y across down } }

-- and where there are none, it shows the page
pub shown_whole : (d : ℕ) (bytes_of : Parts → List ℕ) (unshown : Option (List Rect)) (p : Page) (background : Parts) (f : CanvasView) → unshown ≡ Some [] → TellsShown d bytes_of unshown p background f → ShowsPage d bytes_of p (main_point p) background f
shown_whole d bytes_of unshown p background f none tells =
    let shows : ShowsPageOutside d bytes_of [] p background f = subst (λ (o : Option (List Rect)). IfSome o (λ rects. ShowsPageOutside d bytes_of rects p background f)) none tells.shows in
    record { size = shows.size; pixels = λ x y across down. shows.pixels x y across down refl }

-- after a commit the frame shows the page outside of what it did not show, and of what was edited
outside_both : (d : ℕ) (bytes_of : Parts → List ℕ) (old new all : List Rect) (p q : Page) (background : Parts) (f : CanvasView) → CoverBoth old new all → ShowsPageOutside d bytes_of old p background f → LookAlikeOutside new p q
    → ShowsPageOutside d bytes_of all q background f
outside_both d bytes_of old new all p q background f both shows alike = record {
  size = record { wide = shows.size.wide ∙ ap (λ (v : View). v.w) alike.view; tall = shows.size.tall ∙ ap (λ (v : View). v.h) alike.view };
  pixels = λ x y across down off.
      let none = sym (both.points (pos x) (pos y)) ∙ off in
      shows.pixels x y across down (left_false (covered old (pos x) (pos y)) (covered new (pos x) (pos y)) none)
      ∙ ap bytes_of (alike.pixels background x y (subst (λ (n : ℕ). x < n) shows.size.wide across) (subst (λ (n : ℕ). y < n) shows.size.tall down) (right_false (covered old (pos x) (pos y)) (covered new (pos x) (pos y)) none));
}

pub shown_committed : (d : ℕ) (bytes_of : Parts → List ℕ) (unshown edited after : Option (List Rect)) (p q r : Page) (background : Parts) (f : CanvasView) → IfSome after (IsKnownUnion unshown edited) → r ≡ q
    → TellsShown d bytes_of unshown p background f → TellsEdited edited p q → TellsShown d bytes_of after r background f
shown_committed d bytes_of unshown edited (Some rects) p q r background f u e tells alike = record {
  shows =
      subst (λ (o : Page). ShowsPageOutside d bytes_of rects o background f) (sym e)
      (outside_both d bytes_of u.first u.second rects p q background f u.both (subst (λ (o : Option (List Rect)). IfSome o (λ rs. ShowsPageOutside d bytes_of rs p background f)) u.known tells.shows)
      (subst (λ (o : Option (List Rect)). IfSome o (λ rs. LookAlikeOutside rs p q)) u.also_known alike.alike));
}
shown_committed d bytes_of unshown edited None p q r background f u e tells alike = shown_none d bytes_of r background f

-- ---- scrolls

alike_pulled : (ms : List Move) (p : Page) → HaveSameLayers p (page_after_pulls ms p)
alike_pulled [] p = record { layers = refl; view = refl }
alike_pulled (m ∷ ms) p = let rest = alike_pulled ms (scrolled_by p m.scroller m.dx m.dy) in record { layers = rest.layers; view = rest.view }

pub kept_scrolled : (p q : Page) (ks : List KeptTile) (id : ℕ) (dx dy : ℤ) → q ≡ scrolled_by p id dx dy → AreKeptFor p ks → AreKeptFor q ks
kept_scrolled p q ks id dx dy e all = subst (λ (o : Page). AreKeptFor o ks) (sym e) (alike_kept p (scrolled_by p id dx dy) ks (record { layers = refl; view = refl }) all)

pub kept_moved : (p q : Page) (ks : List KeptTile) (ms : List Move) → q ≡ page_after_pulls ms p → AreKeptFor p ks → AreKeptFor q ks
kept_moved p q ks ms e all = subst (λ (o : Page). AreKeptFor o ks) (sym e) (alike_kept p (page_after_pulls ms p) ks (alike_pulled ms p) all)

pub current_moved : (p q : Page) (ks : List KeptTile) (ms : List Move) → q ≡ page_after_pulls ms p → AreCurrent p ks → AreCurrent q ks
current_moved p q ks ms e all = subst (λ (o : Page). AreCurrent o ks) (sym e) (alike_current p (page_after_pulls ms p) ks (alike_pulled ms p) all)

-- the main page takes what the active one took: where they were one, they are
pub committed_scrolled : (flag : Bool) (p q s t : Page) (id : ℕ) (dx dy : ℤ) (by : Point) → s ≡ scrolled_by p id dx dy → by ≡ amount_scrolled p id dx dy → t ≡ page_after_pulls (move_by id by ∷ []) q → TellsCommitted flag p q → TellsCommitted flag s t
committed_scrolled flag p q s t id dx dy by e is f tells = record {
  same = λ h.
      e ∙ same_scroll p id dx dy ∙ ap (λ (b : Point). scrolled_by p id b.x b.y) (sym is) ∙ ap (λ (o : Page). scrolled_by o id by.x by.y) (tells.same h) ∙ sym f;
}

pub committed_moved : (flag : Bool) (p q s t : Page) (ms : List Move) → s ≡ page_after_pulls ms p → t ≡ page_after_pulls ms q → TellsCommitted flag p q → TellsCommitted flag s t
committed_moved flag p q s t ms e f tells = record { same = λ h. e ∙ ap (page_after_pulls ms) (tells.same h) ∙ sym f }

-- a frame shows the page still where nothing moved
pub shown_scrolled : (d : ℕ) (bytes_of : Parts → List ℕ) (unshown after : Option (List Rect)) (p q : Page) (background : Parts) (f : CanvasView) (id : ℕ) (dx dy : ℤ) (by : Point) → q ≡ scrolled_by p id dx dy → by ≡ amount_scrolled p id dx dy
    → IfSome after (λ rects. (unshown ≡ Some rects) × (by ≡ origin)) → TellsShown d bytes_of unshown p background f → TellsShown d bytes_of after q background f
shown_scrolled d bytes_of unshown (Some rects) p q background f id dx dy by e is h tells =
    subst (λ (o : Page). TellsShown d bytes_of (Some rects) o background f) (sym (e ∙ still_scroll p id dx dy (sym is ∙ h.1)))
    (subst (λ (o : Option (List Rect)). TellsShown d bytes_of o p background f) h.0 tells)
shown_scrolled d bytes_of unshown None p q background f id dx dy by e is h tells = shown_none d bytes_of q background f

pub shown_moved : (d : ℕ) (bytes_of : Parts → List ℕ) (unshown after : Option (List Rect)) (p q : Page) (background : Parts) (f : CanvasView) (ms : List Move) → q ≡ page_after_pulls ms p → IfSome after (λ rects. (unshown ≡ Some rects) × (ms ≡ []))
    → TellsShown d bytes_of unshown p background f → TellsShown d bytes_of after q background f
shown_moved d bytes_of unshown (Some rects) p q background f ms e h tells =
    subst (λ (o : Page). TellsShown d bytes_of (Some rects) o background f) (sym (e ∙ ap (λ (ns : List Move). page_after_pulls ns p) h.1))
    (subst (λ (o : Option (List Rect)). TellsShown d bytes_of o p background f) h.0 tells)
shown_moved d bytes_of unshown None p q background f ms e h tells = shown_none d bytes_of q background f
