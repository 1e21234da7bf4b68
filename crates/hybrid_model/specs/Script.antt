-- Script: a line of the script sends its signal. The test and the step are the one-kernel machine's (kernel_model, Traps).
-- Source: this project's own, after the idea of IHK/McKernel.
use Rattle.hybrid_model.specs.Pairs.{Here, with_node}
use Rattle.kernel_model.specs.Traps.{script_sent}
use Rattle.std.specs.Prelude.{ℕ}

abbrev pub send_line : ℕ → Here → Here
send_line k h = with_node h (script_sent k h.node)
