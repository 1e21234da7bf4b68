-- A delegated call that begins.
use Rattle.isa_model.specs.declared.stops.Stop.{Stop}
use Rattle.isa_model.specs.declared.stops.Stop.TheVariants.{Break, Ecall, Fault, Illegal, Misaligned, On}
use Rattle.kernel_model.specs.Nodes.{Node, Thread, change_thread, set_does, set_pc, stop_in, thread_of}
use Rattle.kernel_model.specs.OneKernel as kernel
use Rattle.kernel_model.specs.OneKernel.{OneHere}
use Rattle.kernel_model.specs.CallPhases.{phases_of}
use Rattle.kernel_model.specs.Progress.{starting}
use Rattle.kernel_model.specs.Steps.{one_trap, one_trapped, one_view, set_status, with_node}
use Rattle.kernel_model.specs.Traps.{arguments_of, call_named, called, past_ecall, trap, trap_of_stop}
use Rattle.kernel_model.specs.declared.Does.TheVariants.{Called}
use Rattle.mck_word.specs.declared.Regs.{Regs}
use Rattle.one_kernel.specs.Trapping.{begins_at, begins_call}
use Rattle.std.proofs.Common.{ap, ◌∙◌}
use Rattle.std.specs.Prelude.{None, Option, Some, false, true, ℕ, ◌+◌, ◌≡◌}
use Rattle.system_calls.specs.declared.SystemCall.{SystemCall}
use Rattle.system_calls.specs.declared.SystemCall.TheVariants.{File}
use Rattle.system_calls.specs.declared.file_calls.FileCall.{FileCall}

-- the node behind the ecall
abbrev pub passed : ℕ → Node → Node
passed t node = change_thread t (λ (x : Thread). record x { regs = set_pc (x.regs.pc + 4) x.regs }) node

-- the call is Active, and its thread Called
abbrev pub begun : ℕ → Regs → FileCall → OneHere → OneHere
begun t r call h =
    set_status t false (kernel.Active (starting call (arguments_of r) (phases_of call (arguments_of r)))) (with_node (set_does t Called (passed t h.node)) h)

module _ (p t : ℕ) (h : OneHere) (r : Regs) (call : FileCall) (same : r ≡ (thread_of h.node t).regs) (named : Some (File call) ≡ call_named r) where
  by-stop : (o : Option Stop) → begins_at r o ≡ true → begun t r call h ≡ one_trapped p t (trap_of_stop t h.free (one_view h) o) h
  by-stop None e = absurd (cc)
  by-stop (Some On) e = absurd (cc)
  by-stop (Some Break) e = absurd (cc)
  by-stop (Some Illegal) e = absurd (cc)
  by-stop (Some Misaligned) e = absurd (cc)
  by-stop (Some (Fault l)) e = absurd (cc)
  by-stop (Some Ecall) e =
      ap (λ (o : Option SystemCall). one_trapped p t (called t h.free r (past_ecall t (one_view h)) o) h) named
      ∙ ap (λ (q : Regs). one_trapped p t (called t h.free q (past_ecall t (one_view h)) (call_named q)) h) same

  pub begins-to : begins_call h.node t ≡ true → begun t r call h ≡ one_trap p t h
  unfolding one_trap trap
  begins-to e = by-stop (stop_in (thread_of h.node t).does) (ap (λ (q : Regs). begins_at q (stop_in (thread_of h.node t).does)) same ∙ e)
