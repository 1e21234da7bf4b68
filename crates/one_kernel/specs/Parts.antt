-- The one-kernel state that the parts show.
use Rattle.kernel_model.specs.OneKernel as kernel
use Rattle.kernel_model.specs.OneKernel.{CallStatus, OneHere, OneKernel, one_here}
use Rattle.kernel_model.specs.Steps.{of_thread}
use Rattle.kernel_model.specs.Progress.{Progress}
use Rattle.kernel_tables.specs.Shown.{node_of}
use Rattle.mck_word.specs.Maps.{each}
use Rattle.one_files.specs.Seen.{seen}
use Rattle.one_kernel.specs.declared.calls.Call.{Call}
use Rattle.one_kernel.specs.declared.calls.Standing.{Standing}
use Rattle.one_kernel.specs.declared.calls.Standing.TheVariants.{Active, Blocked, Over}
use Rattle.one_kernel.specs.declared.parts.One.{One}
use Rattle.one_kernel.specs.declared.parts.Own.{Own}
use Rattle.std.specs.Prelude.{None, ℕ}

abbrev pub status_by : Standing → Progress → CallStatus
status_by Active p = kernel.Active p
status_by Blocked p = kernel.Blocked p
status_by (Over answer) p = kernel.Over answer

abbrev pub shown_call : Call → kernel.Call
shown_call c = record { marked = c.marked; status = status_by c.standing c.progress.progress }

abbrev pub shown_own : Own → kernel.Own
shown_own w = record { memory = w.memory.map; calls = each shown_call w.calls.map }

unfoldable pub one_of : One → OneKernel
one_of x = record { node = node_of x.node (seen x.files); own = each shown_own x.own.map; free = x.free }

-- one process with what all share
abbrev pub here_in : One → Own → OneHere
here_in x w = record { own = shown_own w; node = node_of x.node (seen x.files); free = x.free; born = None }

-- the process of a thread with what all share
abbrev pub here_at : One → ℕ → OneHere
here_at x t = one_here (one_of x) (of_thread (one_of x).node t)
