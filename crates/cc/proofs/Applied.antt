-- What applying a command to the main page is for the compositor.
use Rattle.std.proofs.Common.{Option, List, Result, Ok, Err, ap, sym, subst}
use Rattle.std.specs.Prelude.{⊤}
use Rattle.geom.specs.declared.rect.Rect.{Rect}
use Rattle.region.specs.Lists.{Changed}
use Rattle.page_layers.specs.declared.command.Command.{Command}
use Rattle.page_layers.specs.declared.fault.EditError.{EditError}
use Rattle.page_layers.specs.declared.fault.EditError.TheVariants as error
use Rattle.page_layers.specs.Pages.{Page}
use Rattle.page_layers.specs.Outcomes.{Outcome}
use Rattle.cc.specs.declared.kept_tile.KeptTile.{KeptTile}
use Rattle.cc.specs.KeptTiles.{AreCurrent}
use Rattle.cc.specs.Compositors.{CompositorView, Applied, AppliedTo}
use Rattle.cc.specs.inner.Flags.{TellsEdited}

pub ok_applied : (old : Page) (c : Command) (new : Page) (changes : Changed) → Outcome old c new (Ok changes) → AppliedTo old c new (Ok tt)
ok_applied old c new changes h = (h.0, h.1)

pub err_applied : (old : Page) (c : Command) (new : Page) (e : EditError) → Outcome old c new (Err e) → AppliedTo old c new (Err e)
err_applied old c new (error.Refused f) h = h
err_applied old c new (error.Memory e) h = h

pub err_current : (old : Page) (c : Command) (new : Page) (e : EditError) (ks : List KeptTile) → Outcome old c new (Err e) → AreCurrent old ks → AreCurrent new ks
err_current old c new (error.Refused f) ks h all = subst (λ (o : Page). AreCurrent o ks) (sym h.1) all
err_current old c new (error.Memory e) ks h all = subst (λ (o : Page). AreCurrent o ks) (sym h) all

pub err_edited : (active old : Page) (c : Command) (new : Page) (e : EditError) (edited : Option (List Rect)) → Outcome old c new (Err e) → TellsEdited edited active old → TellsEdited edited active new
err_edited active old c new (error.Refused f) edited h tells = subst (λ (o : Page). TellsEdited edited active o) (sym h.1) tells
err_edited active old c new (error.Memory e) edited h tells = subst (λ (o : Page). TellsEdited edited active o) (sym h) tells

pub lifted : (old : CompositorView) (c : Command) (new : Page) (r : Result ⊤ EditError) → AppliedTo old.main c new r → Applied old c (record old { main = new }) r
lifted old c new (Ok u) h = (h.0, ap (λ (p : Page). record old { main = p }) h.1)
lifted old c new (Err (error.Refused f)) h = (h.0, ap (λ (p : Page). record old { main = p }) h.1)
lifted old c new (Err (error.Memory e)) h = ap (λ (p : Page). record old { main = p }) h
