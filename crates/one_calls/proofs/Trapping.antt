-- Traps that are local: what they come to, and steps on views as steps of a process.
use Rattle.isa_model.specs.declared.stops.Stop.{Stop}
use Rattle.isa_model.specs.declared.stops.Stop.TheVariants.{Break, Ecall, Fault, Illegal, Misaligned, On}
use Rattle.isa_model.specs.Memory.{Memory}
use Rattle.kernel_model.specs.Calls.{clone_call}
use Rattle.kernel_model.specs.CloneCalls.{are_fork_flags, clone}
use Rattle.kernel_model.specs.Nodes.{stop_in, thread_of}
use Rattle.kernel_model.specs.OneKernel.{OneHere}
use Rattle.kernel_model.specs.Signals.{View, on_node, raised, signal_of_stop}
use Rattle.kernel_model.specs.Steps.{one_trap, one_trapped, one_view, with_view}
use Rattle.kernel_model.specs.Traps.{Done, cloned, trap, trap_of_stop}
use Rattle.kernel_tables.specs.declared.tables.KernelTables.{KernelTables}
use Rattle.one_calls.specs.Here.{Rest, here}
use Rattle.one_calls.specs.Views.{Did, DidAlone}
use Rattle.std.proofs.Common.{ap, refl, sym}
use Rattle.std.specs.Prelude.{List, None, Option, Some, false, get_or, ℕ, ◌≡◌, ◌≢◌}

-- a step on a view is the step of the process
pub did-here : (before : KernelTables) (m : Memory) (after : KernelTables) (left : Memory) (word : View → View) → Did before m after left word
    → (r : Rest) → here after left r ≡ with_view (word (one_view (here before m r))) (here before m r)
did-here before m after left word d r = λ i. record {
  own = record { memory = d.memory r.files i; calls = r.calls };
  node = d.node r.files i;
  free = r.free;
  born = None;
}

-- and so is one that touches no memory
pub alone-here : (before : KernelTables) (m : Memory) (after : KernelTables) (word : View → View) → DidAlone before after word
    → (r : Rest) → here after m r ≡ with_view (word (one_view (here before m r))) (here before m r)
alone-here before m after word d r = ap (λ (v : View). with_view v (here before m r)) (d r.files m)

-- ---- a clone that is no fork

pub clone-done : (t free : ℕ) (args : List ℕ) (v : View) → are_fork_flags (get_or args 0 0) ≡ false
    → cloned (clone_call t free args v) ≡ Done (clone t (get_or args 0 0) (get_or args 1 0) (get_or args 2 0) (get_or args 3 0) (get_or args 4 0) v)
unfolding clone_call
clone-done t free args v other = rw other refl

-- ---- stops

pub raises-signal : (t free : ℕ) (v : View) (s : Stop) → s ≢ Ecall → trap_of_stop t free v (Some s) ≡ Done (on_node (raised t (signal_of_stop s)) v)
raises-signal t free v On d = refl
raises-signal t free v Ecall d = absurd (d refl)
raises-signal t free v Break d = refl
raises-signal t free v Illegal d = refl
raises-signal t free v Misaligned d = refl
raises-signal t free v (Fault lack) d = refl

-- the trap by the stop that the thread is in
pub after-stop : (p t : ℕ) (h : OneHere) (stop : Stop) → stop_in (thread_of h.node t).does ≡ Some stop → one_trapped p t (trap_of_stop t h.free (one_view h) (Some stop)) h ≡ one_trap p t h
unfolding one_trap trap
after-stop p t h stop e = ap (λ (o : Option Stop). one_trapped p t (trap_of_stop t h.free (one_view h) o) h) (sym e)
