-- Deliver: a thread takes its next signal. The step is the one-kernel machine's (kernel_model, Signals).
-- Source: this project's own, after the idea of IHK/McKernel.
use Rattle.hybrid_model.specs.OneProcess.{ran_last, view_here, with_view}
use Rattle.hybrid_model.specs.Pairs.{Here}
use Rattle.kernel_model.specs.Signals.{deliver}
use Rattle.std.specs.Prelude.{ℕ}

unfoldable pub after_deliver : ℕ → Here → Here
after_deliver t h = ran_last t (with_view (deliver t (view_here h)) h)
