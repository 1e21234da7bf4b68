-- A trap is a fork, a delegated call that begins, a memory call, or local: nothing is left over.
use Rattle.file_model.specs.Files.{Files}
use Rattle.isa_model.specs.declared.stops.Stop.{Stop}
use Rattle.isa_model.specs.declared.stops.Stop.TheVariants.{Break, Ecall, Fault, Illegal, Misaligned, On}
use Rattle.kernel_model.specs.Nodes.{Node, is_stopped, stop_in, thread_of}
use Rattle.kernel_model.specs.Traps.{arguments_of, call_named, may_trap}
use Rattle.kernel_model.specs.declared.Does.{Does}
use Rattle.kernel_model.specs.declared.Does.TheVariants as does
use Rattle.kernel_tables.specs.Shown.{node_of}
use Rattle.mck_word.specs.declared.Regs.{Regs}
use Rattle.one_calls.specs.LocalTraps.{calls_fork, forks_at, is_fork, is_local, stops_locally, traps_locally}
use Rattle.one_files.specs.Seen.{seen}
use Rattle.one_kernel.proofs.Calling.{both}
use Rattle.one_kernel.specs.Parts.{one_of}
use Rattle.one_kernel.specs.Trapping.{begins_at, begins_call, calls_memory, changes_at, is_delegated, is_on_memory}
use Rattle.one_kernel.specs.declared.parts.One.{One}
use Rattle.std.proofs.Common.{ap, refl}
use Rattle.std.specs.Prelude.{Bool, None, Option, Some, false, get_or, is_some, not, true, ℕ, ◌≡◌}
use Rattle.system_calls.specs.declared.SystemCall.{SystemCall}
use Rattle.system_calls.specs.declared.SystemCall.TheVariants.{Clone, File, Local, Memory}

-- what the tables tell, whatever the files are, holds of the node that the parts show
pub told-of : (x : One) (b : Bool) (test : Node → Bool) → ((files : Files) → b ≡ test (node_of x.node files)) → b ≡ test (one_of x).node
unfolding one_of
told-of x b test e = e (seen x.files)

by-name : (o : Option SystemCall) (flags : ℕ) → is_fork o flags ≡ false → is_delegated o ≡ false → is_on_memory o ≡ false → is_local o flags ≡ true
by-name None flags f b m = refl
by-name (Some (Local call)) flags f b m = refl
by-name (Some Clone) flags f b m = ap not f
by-name (Some (Memory call)) flags f b m = absurd (cc)
by-name (Some (File call)) flags f b m = absurd (cc)

by-stop : (r : Regs) (o : Option Stop) → is_some o ≡ true → forks_at r o ≡ false → begins_at r o ≡ false → changes_at r o ≡ false → stops_locally r o ≡ true
by-stop r None s f b m = absurd (cc)
by-stop r (Some Ecall) s f b m = by-name (call_named r) (get_or (arguments_of r) 0 0) f b m
by-stop r (Some On) s f b m = refl
by-stop r (Some Break) s f b m = refl
by-stop r (Some Illegal) s f b m = refl
by-stop r (Some Misaligned) s f b m = refl
by-stop r (Some (Fault lack)) s f b m = refl

stop-there : (d : Does) → is_stopped d ≡ true → is_some (stop_in d) ≡ true
stop-there (does.Stopped s) e = refl
stop-there does.Ready e = absurd (cc)
stop-there does.Called e = absurd (cc)
stop-there (does.Asleep a) e = absurd (cc)
stop-there (does.InVm c) e = absurd (cc)
stop-there (does.InWait pid status) e = absurd (cc)

pub left-local : (node : Node) (t : ℕ) → may_trap node t ≡ true → calls_fork node t ≡ false → begins_call node t ≡ false → calls_memory node t ≡ false → traps_locally node t ≡ true
left-local node t may f b m =
    let x = thread_of node t in
    by-stop x.regs (stop_in x.does) (stop-there x.does (both _ _ (both _ _ may).0).1) f b m
