-- A delegated call that begins, in the parts.
use Rattle.isa_model.specs.declared.stops.Stop.{Stop}
use Rattle.isa_model.specs.declared.stops.Stop.TheVariants.{Break, Ecall, Fault, Illegal, Misaligned, On}
use Rattle.kernel_model.specs.Nodes.{set_does, thread_of}
use Rattle.kernel_model.specs.Steps.{one_trap}
use Rattle.kernel_model.specs.declared.Does.TheVariants.{Called}
use Rattle.kernel_model.specs.Progress.{starting}
use Rattle.kernel_model.specs.Traps.{arguments_of, call_named}
use Rattle.kernel_model.specs.CallPhases.{phases_of}
use Rattle.kernel_tables.specs.Shown.{node_of}
use Rattle.mck_word.specs.Maps.{put}
use Rattle.mck_word.specs.declared.Regs.{Regs}
use Rattle.one_files.specs.Seen.{seen}
use Rattle.one_kernel.proofs.Begun.{begins-to, passed}
use Rattle.one_kernel.proofs.Stepping.{own-puts}
use Rattle.one_kernel.specs.Parts.{here_in, one_of, shown_own, status_by}
use Rattle.one_kernel.specs.Trapping.{begins_at, begins_call, is_delegated}
use Rattle.one_kernel.specs.declared.calls.Call.{Call}
use Rattle.one_kernel.specs.declared.calls.Standing.TheVariants.{Active}
use Rattle.one_kernel.specs.declared.parts.One.{One}
use Rattle.one_kernel.specs.declared.parts.Own.{Own}
use Rattle.std.proofs.Common.{◌∙◌}
use Rattle.std.specs.Prelude.{false, true, None, Option, Some, ℕ, ◌≡◌}
use Rattle.system_calls.specs.declared.SystemCall.TheVariants.{File}
use Rattle.system_calls.specs.declared.file_calls.FileCall.{FileCall}

-- the trap begins a delegated call, in the node that the parts show
pub begins-seen : (x : One) (t : ℕ) → begins_call (one_of x).node t ≡ true → begins_call (node_of x.node (seen x.files)) t ≡ true
unfolding one_of
begins-seen x t e = e

-- and the registers name it
pub names-delegated : (r : Regs) (o : Option Stop) → begins_at r o ≡ true → is_delegated (call_named r) ≡ true
names-delegated r (Some Ecall) e = e
names-delegated r None e = absurd (cc)
names-delegated r (Some On) e = absurd (cc)
names-delegated r (Some Break) e = absurd (cc)
names-delegated r (Some Illegal) e = absurd (cc)
names-delegated r (Some Misaligned) e = absurd (cc)
names-delegated r (Some (Fault l)) e = absurd (cc)

-- the row has the call, which is Active, and the thread is Called behind its ecall
pub begun-here : (x y : One) (p t : ℕ) (w o : Own) (r : Regs) (call : FileCall) (d : Call) → y.files ≡ x.files → y.free ≡ x.free → o.memory ≡ w.memory → o.calls.map ≡ put w.calls.map t d
    → d.marked ≡ false → d.standing ≡ Active → d.progress.progress ≡ starting call (arguments_of r) (phases_of call (arguments_of r))
    → node_of y.node (seen y.files) ≡ set_does t Called (passed t (node_of x.node (seen x.files)))
    → r ≡ (thread_of (node_of x.node (seen x.files)) t).regs → Some (File call) ≡ call_named r → begins_call (node_of x.node (seen x.files)) t ≡ true
    → here_in y o ≡ one_trap p t (here_in x w)
begun-here x y p t w o r call d files free memory puts marked standing progress node regs named begins =
    (λ i. record { own = own-puts w o t d memory puts i; node = node i; free = free i; born = None })
    ∙ (λ i. record { own = record { memory = w.memory.map; calls = put (shown_own w).calls t (record { marked = marked i; status = status_by (standing i) (progress i) }) }; node = set_does t Called (passed t (node_of x.node (seen x.files))); free = x.free; born = None })
    ∙ begins-to p t (here_in x w) r call regs named begins
