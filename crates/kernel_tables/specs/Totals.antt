-- What holds of the processes of a node: the instructions of all together are kept, and numbers are numbers of processes.
use Rattle.kernel_tables.specs.declared.process_rows.Process.{Process}
use Rattle.mck_word.specs.Maps.{Map, at, total}
use Rattle.std.specs.Prelude.{None, Option, Some, ℕ, ◌^◌, ◌≡◌, ◌≤◌}

-- the instructions of all processes
abbrev pub instructions_in : Map Process → ℕ
instructions_in m = total (λ (x : Process). x.instructions) m

-- those of one process, or 0 where there is none
abbrev pub counted : Option Process → ℕ
counted None = 0
counted (Some x) = x.instructions

-- the code that the first thread gave, or 0
abbrev pub first_code_of : Process → ℕ
first_code_of x = elim x.first_code [ None ↦ 0 | Some c ↦ c ]

-- what holds of the processes
pub record IsProcesses (instructions : ℕ) (m : Map Process) : Type 0 where
  pub kept : instructions ≡ instructions_in m
  pub small : (k : ℕ) → 2 ^ 32 ≤ k → at m k ≡ None
