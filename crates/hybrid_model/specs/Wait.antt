-- Wait: a thread that waits for a child does so no longer. The test and the step are the one-kernel machine's (kernel_model, Traps).
-- Source: this project's own, after the idea of IHK/McKernel.
use Rattle.hybrid_model.specs.OneProcess.{view_here, with_view}
use Rattle.hybrid_model.specs.Pairs.{Here}
use Rattle.kernel_model.specs.Traps.{waited}
use Rattle.std.specs.Prelude.{ℕ}

abbrev pub wait : ℕ → Here → Here
wait t h = with_view (waited t (view_here h)) h
