-- Room for a trap is made: room for a sleeper and a thread, and then that of its kind, over the same state.
use Rattle.file_model.specs.Files.{Files}
use Rattle.kernel_model.specs.Nodes.{Node as KernelNode}
use Rattle.kernel_tables.specs.Room.{KeepsRoom}
use Rattle.kernel_tables.specs.Shown.{node_of}
use Rattle.kernel_tables.specs.declared.KernelTables.{KernelTables}
use Rattle.one_calls.specs.LocalTraps.{calls_fork}
use Rattle.one_files.specs.Seen.{seen}
use Rattle.one_kernel.proofs.TrapKinds.{told-of}
use Rattle.one_kernel.specs.Due.{HasChangeRoom}
use Rattle.one_kernel.specs.Parts.{one_of, shown_own}
use Rattle.one_kernel.specs.Rooms.{HasCallRoom, HasForkRoom}
use Rattle.one_kernel.specs.StepRooms.{HasKindRoom, HasTrapRoom}
use Rattle.one_kernel.specs.Trapping.{begins_call, calls_memory}
use Rattle.one_kernel.specs.declared.parts.One.{One}
use Rattle.mck_word.specs.Maps.{each}
use Rattle.std.proofs.Common.{ap, arith, subst, sym, ◌∙◌}
use Rattle.std.specs.Prelude.{Bool, false, true, ℕ, ◌≡◌, ◌≤◌}

-- tables that show the same, with more room, leave the state
pub node-state : (x : One) (n : KernelTables) → ((files : Files) → node_of n files ≡ node_of x.node files) → one_of (record x { node = n }) ≡ one_of x
unfolding one_of
node-state x n e = λ i. record { node = e (seen x.files) i; own = each shown_own x.own.map; free = x.free }

pub keeps : (a b : KernelTables) → b ≡ a → KeepsRoom a b
keeps a b e = subst (KeepsRoom a) (sym e) (record { processes = omega arith; threads = omega arith; sleepers = omega arith })

pub made : (z : One) (t : ℕ) (a : KernelTables) → 1 ≤ a.sleepers.spare → 1 ≤ a.threads.spare → KeepsRoom a z.node
    → HasKindRoom (calls_fork (one_of z).node t) (begins_call (one_of z).node t) (calls_memory (one_of z).node t) z t → HasTrapRoom z t
made z t a s h k kind = record {
  sleeper = let more = k.sleepers in omega (arith, s, more);
  thread = let more = k.threads in omega (arith, h, more);
  kind = kind;
}

-- what the tables tell of a state, over the same state
pub told-after : (x z : One) (b v : Bool) (test : KernelNode → Bool) → one_of z ≡ one_of x → ((files : Files) → b ≡ test (node_of x.node files)) → b ≡ v → test (one_of z).node ≡ v
told-after x z b v test same told is = ap (λ o. test o.node) same ∙ (sym (told-of x b test told) ∙ is)

module _ (z : One) (t : ℕ) where
  abbrev pub IsKind : Type 0
  IsKind = HasKindRoom (calls_fork (one_of z).node t) (begins_call (one_of z).node t) (calls_memory (one_of z).node t) z t

  pub made-fork : calls_fork (one_of z).node t ≡ true → HasForkRoom z t → IsKind
  made-fork f room = subst (λ b. HasKindRoom b (begins_call (one_of z).node t) (calls_memory (one_of z).node t) z t) (sym f) room

  made-other : calls_fork (one_of z).node t ≡ false → HasKindRoom false (begins_call (one_of z).node t) (calls_memory (one_of z).node t) z t → IsKind
  made-other f room = subst (λ b. HasKindRoom b (begins_call (one_of z).node t) (calls_memory (one_of z).node t) z t) (sym f) room

  pub made-call : calls_fork (one_of z).node t ≡ false → begins_call (one_of z).node t ≡ true → HasCallRoom z t → IsKind
  made-call f b room = made-other f (subst (λ k. HasKindRoom false k (calls_memory (one_of z).node t) z t) (sym b) room)

  made-third : calls_fork (one_of z).node t ≡ false → begins_call (one_of z).node t ≡ false → HasKindRoom false false (calls_memory (one_of z).node t) z t → IsKind
  made-third f b room = made-other f (subst (λ k. HasKindRoom false k (calls_memory (one_of z).node t) z t) (sym b) room)

  pub made-change : calls_fork (one_of z).node t ≡ false → begins_call (one_of z).node t ≡ false → calls_memory (one_of z).node t ≡ true → HasChangeRoom z t → IsKind
  made-change f b m room = made-third f b (subst (λ k. HasKindRoom false false k z t) (sym m) room)

  pub made-local : calls_fork (one_of z).node t ≡ false → begins_call (one_of z).node t ≡ false → calls_memory (one_of z).node t ≡ false → IsKind
  made-local f b m = made-third f b (subst (λ k. HasKindRoom false false k z t) (sym m) tt)
