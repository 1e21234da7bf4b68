-- The room for a trap, and for each step.
use Rattle.kernel_model.specs.declared.steps.Step.TheVariants.{FileStep, Piece, Trap, VmFinish}
use Rattle.kernel_model.specs.declared.steps.Step.{Step}
use Rattle.one_calls.specs.LocalTraps.{calls_fork}
use Rattle.one_kernel.specs.Due.{HasChangeRoom}
use Rattle.one_kernel.specs.Parts.{one_of}
use Rattle.one_kernel.specs.Rooms.{HasCallRoom, HasFileRoom, HasForkRoom, HasPieceRoom}
use Rattle.one_kernel.specs.Trapping.{begins_call, calls_memory}
use Rattle.one_kernel.specs.declared.parts.One.{One}
use Rattle.std.specs.Prelude.{Bool, false, true, ℕ, ◌≤◌}

-- what a trap takes beside room for a thread and a sleeper: that of a fork, of a delegated call that begins, of a
-- memory call
abbrev pub HasKindRoom : Bool → Bool → Bool → One → ℕ → Type 0
HasKindRoom true _ _ x t = HasForkRoom x t
HasKindRoom false true _ x t = HasCallRoom x t
HasKindRoom false false true x t = HasChangeRoom x t
HasKindRoom false false false x t = Unit

pub record HasTrapRoom (x : One) (t : ℕ) : Type 0 where
  pub sleeper : 1 ≤ x.node.sleepers.spare
  pub thread : 1 ≤ x.node.threads.spare
  pub kind : HasKindRoom (calls_fork (one_of x).node t) (begins_call (one_of x).node t) (calls_memory (one_of x).node t) x t

-- the room for a step
abbrev pub HasRoom : One → Step → Type 0
HasRoom x (FileStep t) = HasFileRoom x t.0
HasRoom x (Piece t) = HasPieceRoom x t.0
HasRoom x (Trap t) = HasTrapRoom x t.0
HasRoom x (VmFinish t) = HasChangeRoom x t.0
HasRoom x _ = Unit
