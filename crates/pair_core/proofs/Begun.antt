-- A trap that begins a call makes the ring of its thread longer.
use Rattle.file_model.specs.Files.{Files}
use Rattle.kernel_tables.specs.Shown.{node_of}
use Rattle.kernel_tables.specs.declared.tables.KernelTables.{KernelTables}
use Rattle.hybrid_laws.proofs.maps.Tests.{both}
use Rattle.hybrid_model.specs.OneProcess.{view_here}
use Rattle.hybrid_model.specs.Trap.{after_trap, begin_call, trapped}
use Rattle.hybrid_model.specs.Pairs.{Here, ring_of}
use Rattle.hybrid_model.specs.Rings.{ring}
use Rattle.isa_model.specs.declared.stops.Stop.{Stop}
use Rattle.isa_model.specs.declared.stops.Stop.TheVariants.{Break, Ecall, Illegal, Misaligned, On, Fault}
use Rattle.kernel_model.specs.Nodes.{has_thread, is_living, is_stopped, stop_in, thread_of}
use Rattle.kernel_model.specs.CallPhases.{phases_of}
use Rattle.kernel_model.specs.Progress.{starting}
use Rattle.kernel_model.specs.Signals.{View}
use Rattle.kernel_model.specs.Traps.{Begins, Trapped, arguments_of, call_named, called, may_trap, past_ecall, trap, trap_of_stop}
use Rattle.lwk_side.specs.Begins.{begins_at, begins_call, is_delegated}
use Rattle.mck_word.specs.declared.Regs.{Regs}
use Rattle.pair_core.proofs.KernelFacts.{post-longer}
use Rattle.pair_core.proofs.Posting.{Posts}
use Rattle.std.proofs.Common.{ap, arith, refl, ◌∙◌}
use Rattle.std.specs.Prelude.{None, Option, Some, length, true, ℕ, ◌&&◌, ◌<◌, ◌≡◌}
use Rattle.system_calls.specs.declared.SystemCall.{SystemCall}
use Rattle.system_calls.specs.declared.SystemCall.TheVariants.{Clone, File, Local, Memory}
use Rattle.system_calls.specs.declared.file_calls.FileCall.{FileCall}

module _ (t free : ℕ) (v : View) where
  abbrev regs : Regs
  regs = (thread_of v.node t).regs

  abbrev begun : FileCall → Trapped
  begun call = Begins (past_ecall t v).node (starting call (arguments_of regs) (phases_of call (arguments_of regs)))

  by-call : (o : Option SystemCall) → is_delegated o ≡ true → (call : FileCall) × (called t free regs (past_ecall t v) o ≡ begun call)
  by-call None e = absurd (grind (arith, e))
  by-call (Some Clone) e = absurd (grind (arith, e))
  by-call (Some (Local call)) e = absurd (grind (arith, e))
  by-call (Some (Memory call)) e = absurd (grind (arith, e))
  by-call (Some (File call)) e = (call, refl)

  by-stop : (o : Option Stop) → begins_at regs o ≡ true → (call : FileCall) × (trap_of_stop t free v o ≡ begun call)
  by-stop None e = absurd (grind (arith, e))
  by-stop (Some On) e = absurd (grind (arith, e))
  by-stop (Some Break) e = absurd (grind (arith, e))
  by-stop (Some Illegal) e = absurd (grind (arith, e))
  by-stop (Some Misaligned) e = absurd (grind (arith, e))
  by-stop (Some (Fault l)) e = absurd (grind (arith, e))
  by-stop (Some Ecall) e = by-call (call_named regs) e

  pub trap-begins : begins_call v.node t ≡ true → (call : FileCall) × (trap t free v ≡ begun call)
  unfolding trap
  trap-begins e = by-stop (stop_in (thread_of v.node t).does) e

-- no process begins, and the ring has one message more
pub begun-posts : (p t : ℕ) (h : Here) → h.born ≡ None → begins_call h.node t ≡ true → ring_of h t < length h.side.to_linux → Posts t h (after_trap p t h)
unfolding after_trap begin_call
begun-posts p t h none e below =
    let b = trap-begins t (length h.free) (view_here h) e in
    let is = b.1 in
    let born = ap (λ (w : Trapped). (trapped p t w h).born) is ∙ none in
    let longer = ap (λ (w : Trapped). length (ring (ring_of h t) (trapped p t w h).side.to_linux)) is ∙ post-longer (ring_of h t) _ h.side.to_linux below in
    record { longer = omega (arith, longer); unborn = born }

-- whether a call begins has nothing to do with the files
pub begins-any : (n : KernelTables) (t : ℕ) (files other : Files) → begins_call (node_of n files) t ≡ true → begins_call (node_of n other) t ≡ true
unfolding node_of
begins-any n t files other e = e

-- a thread that may trap is stopped, whatever the files are
pub stopped-any : (n : KernelTables) (t : ℕ) (files other : Files) → may_trap (node_of n files) t ≡ true → is_stopped (thread_of (node_of n other) t).does ≡ true
unfolding node_of
stopped-any n t files other e =
    let x = thread_of (node_of n files) t in
    (both (has_thread (node_of n files) t) (is_stopped x.does) (both (has_thread (node_of n files) t && is_stopped x.does) (is_living (node_of n files) x.process) e).0).1
