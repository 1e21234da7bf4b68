-- The room of a trap is that of its kind.
use Rattle.one_calls.specs.LocalTraps.{calls_fork}
use Rattle.one_kernel.specs.Due.{HasChangeRoom}
use Rattle.one_kernel.specs.Parts.{one_of}
use Rattle.one_kernel.specs.Rooms.{HasCallRoom, HasForkRoom}
use Rattle.one_kernel.specs.StepRooms.{HasKindRoom, HasTrapRoom}
use Rattle.one_kernel.specs.Trapping.{begins_call, calls_memory}
use Rattle.one_kernel.specs.declared.parts.One.{One}
use Rattle.std.proofs.Common.{subst}
use Rattle.std.specs.Prelude.{Bool, false, true, ℕ, ◌≡◌}

module _ (x : One) (t : ℕ) (room : HasTrapRoom x t) where
  abbrev forks : Bool
  forks = calls_fork (one_of x).node t

  abbrev begins : Bool
  begins = begins_call (one_of x).node t

  abbrev changes : Bool
  changes = calls_memory (one_of x).node t

  pub fork-room : forks ≡ true → HasForkRoom x t
  fork-room f = subst (λ b. HasKindRoom b begins changes x t) f room.kind

  no-fork : forks ≡ false → HasKindRoom false begins changes x t
  no-fork f = subst (λ b. HasKindRoom b begins changes x t) f room.kind

  pub call-room : forks ≡ false → begins ≡ true → HasCallRoom x t
  call-room f b = subst (λ k. HasKindRoom false k changes x t) b (no-fork f)

  no-call : forks ≡ false → begins ≡ false → HasKindRoom false false changes x t
  no-call f b = subst (λ k. HasKindRoom false k changes x t) b (no-fork f)

  pub change-room : forks ≡ false → begins ≡ false → changes ≡ true → HasChangeRoom x t
  change-room f b m = subst (λ k. HasKindRoom false false k x t) m (no-call f b)
