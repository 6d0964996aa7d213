-- The runtime may be lent to several threads.
use Rattle.proxy_single_thread.proofs.compositor.SingleThreadCompositor.make_ahead.Goals as goal

pub prepare-made-requires-sync-R : goal.prepare-made-requires-sync-R
prepare-made-requires-sync-R g c κs within = record { shared = c.requires.shared }
