-- Traps by their stops and calls.
use Rattle.hybrid_model.specs.OneProcess.{ran_last, view_here}
use Rattle.hybrid_model.specs.Trap.{after_trap, trapped}
use Rattle.hybrid_model.specs.Pairs.{Here}
use Rattle.kernel_model.specs.Nodes.{stop_in, thread_of}
use Rattle.kernel_model.specs.Calls.{local_call, one_of_calls}
use Rattle.kernel_model.specs.Signals.{View, on_node, raised, signal_of_stop}
use Rattle.kernel_model.specs.Traps.{Done, trap, trap_of_stop}
use Rattle.isa_model.specs.declared.stops.Stop.{Stop}
use Rattle.isa_model.specs.declared.stops.Stop.TheVariants.{Break, Ecall, Fault, Illegal, Misaligned, On}
use Rattle.std.proofs.Common.{ap, arith, refl, sym, ◌≡◌}
use Rattle.std.specs.Prelude.{List, Option, Some, false, get_or, length, true, ℕ}
use Rattle.system_calls.specs.declared.LocalCall.{LocalCall}

-- a local call, by its arguments
pub local-done : (t : ℕ) (call : LocalCall) (arguments : List ℕ) (v : View) → one_of_calls t call (λ k. get_or arguments k 0) v ≡ local_call t call arguments v
unfolding local_call
local-done t call arguments v = refl

-- a stop that is no call raises its signal
pub raises-signal : (t free : ℕ) (v : View) (stop : Stop) → (stop ≡ Ecall → false ≡ true) → trap_of_stop t free v (Some stop) ≡ Done (on_node (raised t (signal_of_stop stop)) v)
raises-signal t free v On n = refl
raises-signal t free v Ecall n = absurd (grind (arith, n refl))
raises-signal t free v Break n = refl
raises-signal t free v Illegal n = refl
raises-signal t free v Misaligned n = refl
raises-signal t free v (Fault lack) n = refl

-- the trap of a thread that is stopped so
pub after-stop : (p t : ℕ) (h : Here) (stop : Stop) → stop_in (thread_of h.node t).does ≡ Some stop
    → ran_last t (trapped p t (trap_of_stop t (length h.free) (view_here h) (Some stop)) h) ≡ after_trap p t h
unfolding after_trap trap
after-stop p t h stop e = ap (λ (o : Option Stop). ran_last t (trapped p t (trap_of_stop t (length h.free) (view_here h) o) h)) (sym e)
