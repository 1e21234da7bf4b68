-- Additions to a doubleword: what an instruction writes, what the steps of a run add to a doubleword of a process, and that they do nothing else to it.
-- Source: this project's own, over the instructions of the RISC-V Unprivileged ISA.
use Rattle.hybrid_model.specs.OneProcess.{memory_here}
use Rattle.hybrid_model.specs.Pairs.{Pair, here}
use Rattle.isa_model.specs.Arith.{add_of, store_size}
use Rattle.isa_model.specs.Atomics.{AmIns, am_decoded, am_size, is_atomic}
use Rattle.isa_model.specs.Decode.{decoded}
use Rattle.isa_model.specs.Instr.{instr, wide_of}
use Rattle.isa_model.specs.Memory.{Memory, Page, fetched, lacks, number_at}
use Rattle.isa_model.specs.Registers.{reg}
use Rattle.isa_model.specs.declared.atomics.AmOp.{AmOp}
use Rattle.isa_model.specs.declared.atomics.AmOp.TheVariants.{AddD}
use Rattle.isa_model.specs.declared.forms.Form.{Form}
use Rattle.isa_model.specs.declared.forms.Form.TheVariants.{S}
use Rattle.isa_model.specs.declared.stops.Stop.{Stop}
use Rattle.isa_model.specs.declared.stops.Stop.TheVariants.{On}
use Rattle.kernel_model.specs.Nodes.{thread_of}
use Rattle.kernel_model.specs.OneKernel.{OneKernel, one_here}
use Rattle.kernel_model.specs.Pages.{page_size}
use Rattle.kernel_model.specs.Steps.{after, of_thread, process_of_step}
use Rattle.kernel_model.specs.declared.steps.Step.{Step}
use Rattle.kernel_model.specs.declared.steps.Step.TheVariants.{Instr, Trap, Deliver, VmFinish, Piece, Wait, End}
use Rattle.mck_word.specs.Maps.{at}
use Rattle.mck_word.specs.declared.Access.TheVariants.{Read, Write}
use Rattle.mck_word.specs.declared.Regs.{Regs}
use Rattle.std.specs.Prelude.{ℕ, ◌+◌, ◌-◌, ◌/◌, ◌%◌, ◌^◌, ◌<◌, ◌==◌, ◌≡◌, Bool, true, false, not, cond, ◌&&◌, ◌||◌, List, [], ◌∷◌, Option, Some, None, Ok, length}

-- ---- what an instruction writes

-- nothing; so many bytes at an address; or what an atomic operation with a register's value makes of what stands at an address
pub data Writes : Type 0 where
  Nothing : Writes
  Bytes : (address size : ℕ) → Writes
  Atomic : (op : AmOp) (address value : ℕ) → Writes

abbrev pub form_writes : Form → Regs → Writes
form_writes (S op a b imm) r = Bytes (add_of (reg r a) (wide_of imm)) (store_size op)
form_writes _ r = Nothing

abbrev pub am_writes : Option AmIns → Regs → Writes
am_writes None r = Nothing
am_writes (Some i) r = cond (is_atomic i.op) (Atomic i.op (reg r i.rs1 % 2 ^ 64) (reg r i.rs2)) Nothing

abbrev pub word_writes : Option Form → ℕ → Regs → Writes
word_writes None w r = am_writes (am_decoded w) r
word_writes (Some form) w r = form_writes form r

abbrev pub is_on : Stop → Bool
is_on On = true
is_on _ = false

-- the instruction at the pc; one that stops writes nothing
abbrev pub writes : Regs → Memory → Writes
writes r m = let w = number_at m r.pc 4 in cond (is_on (instr r m).stop) (word_writes (decoded w) w r) Nothing

-- ---- a doubleword

abbrev pub IsDoubleword : ℕ → Type 0
IsDoubleword a = (a % 8 ≡ 0) × (a < 2 ^ 64)

-- the doubleword at an address
abbrev pub doubleword : Memory → ℕ → ℕ
doubleword m a = number_at m a 8

-- each page has its 4,096 bytes
abbrev pub HasWholePages : Memory → Type 0
HasWholePages m = (i : ℕ) (x : Page) → at m i ≡ Some x → length x.bytes ≡ page_size

-- the byte at x lies in the doubleword at a
abbrev pub lies_in : ℕ → ℕ → Bool
lies_in a x = x / 8 == a / 8

-- one of at most 8 bytes from an address on lies there: the first or the last
abbrev pub meets : ℕ → ℕ → ℕ → Bool
meets a address size = lies_in a address || lies_in a ((address + size - 1) % 2 ^ 64)

abbrev pub stores_into : ℕ → Writes → Bool
stores_into a Nothing = false
stores_into a (Bytes address size) = meets a address size
stores_into a (Atomic op address value) = meets a address (am_size op)

abbrev pub is_add : AmOp → Bool
is_add AddD = true
is_add _ = false

-- an AMOADD.D at the doubleword
abbrev pub is_addition : ℕ → Writes → Bool
is_addition a (Atomic op address value) = is_add op && address == a
is_addition a _ = false

-- what stores into the doubleword is an AMOADD.D there
abbrev pub only_adds : ℕ → Writes → Bool
only_adds a w = not (stores_into a w) || is_addition a w

-- what an AMOADD.D there adds: the value of its second register
abbrev pub added : ℕ → Writes → ℕ
added a (Atomic op address value) = cond (is_add op && address == a) value 0
added a _ = 0

-- the instruction at the pc is the AMOADD.D i at the doubleword, which it may read and write
pub record IsAmoadd (a : ℕ) (r : Regs) (m : Memory) (i : AmIns) : Type 0 where
  pub word : ℕ
  pub aligned : r.pc % 4 ≡ 0
  pub fetch : fetched m r.pc ≡ Ok word
  pub plain : decoded word ≡ None
  pub atomic : am_decoded word ≡ Some i
  pub op : i.op ≡ AddD
  pub place : reg r i.rs1 % 2 ^ 64 ≡ a
  pub reads : lacks m Read (a / 4096) ≡ false
  pub writes : lacks m Write (a / 4096) ≡ false

-- modulo 2 ^ 64, `now` is `before` and so much more
abbrev pub IsMore : (before more now : ℕ) → Type 0
IsMore before more now = now % 2 ^ 64 ≡ (before + more) % 2 ^ 64

-- ---- runs of the one-kernel machine

abbrev pub memory_of : OneKernel → ℕ → Memory
memory_of one p = (one_here one p).own.memory

-- what the next instruction of a thread writes
abbrev pub next_writes : OneKernel → ℕ → Writes
next_writes one t = writes (thread_of one.node t).regs (memory_of one (of_thread one.node t))

-- what a step adds to the doubleword of process p
abbrev pub adds_in : ℕ → ℕ → OneKernel → Step → ℕ
adds_in p a one (Instr t) = cond (of_thread one.node t.0 == p) (added a (next_writes one t.0)) 0
adds_in p a one _ = 0

-- what steps one after another add
abbrev pub adds : ℕ → ℕ → OneKernel → List Step → ℕ
adds p a one [] = 0
adds p a one (s ∷ ss) = adds_in p a one s + adds p a (after one s) ss

-- a step beside the instructions that may store into memory, or take pages away or add them
abbrev pub changes_memory : Step → Bool
changes_memory (Trap t) = true
changes_memory (Deliver t) = true
changes_memory (VmFinish t) = true
changes_memory (Piece t) = true
changes_memory (Wait t) = true
changes_memory (End p) = true
changes_memory _ = false

-- it is of process p, or may make it
abbrev pub concerns : ℕ → OneKernel → Step → Bool
concerns p one s = process_of_step one.node s == p || one.node.next_number == p

abbrev pub Leaves : ℕ → ℕ → OneKernel → Step → Type 0
Leaves p a one s = doubleword (memory_of (after one s) p) a ≡ doubleword (memory_of one p) a

-- an instruction of the process stores into the doubleword only as an AMOADD.D; another step leaves it as it is
abbrev pub StepOnlyAdds : ℕ → ℕ → OneKernel → Step → Type 0
StepOnlyAdds p a one (Instr t) = of_thread one.node t.0 ≡ p → only_adds a (next_writes one t.0) ≡ true
StepOnlyAdds p a one s = changes_memory s ≡ true → concerns p one s ≡ true → Leaves p a one s

abbrev pub OnlyAdds : ℕ → ℕ → OneKernel → List Step → Type 0
OnlyAdds p a one [] = Unit {0}
OnlyAdds p a one (s ∷ ss) = StepOnlyAdds p a one s × OnlyAdds p a (after one s) ss

-- ---- the two kernels

-- the pages of all processes are whole
abbrev pub PagesWhole : Pair → Type 0
PagesWhole pair = (p : ℕ) → HasWholePages (memory_here (here pair p))

-- the doubleword of a process, through its table
abbrev pub doubleword_of : Pair → ℕ → ℕ → ℕ
doubleword_of pair p a = doubleword (memory_here (here pair p)) a
