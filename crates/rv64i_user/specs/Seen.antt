-- What instructions do rests on the pages that they touch.
use Rattle.std.specs.Prelude.{ℕ, ◌≡◌, Some, None}
use Rattle.mck_word.specs.declared.Regs.{Regs}
use Rattle.isa_model.specs.declared.stops.Lack.{Lack}
use Rattle.isa_model.specs.declared.stops.Stop.TheVariants.{Fault}
use Rattle.isa_model.specs.Memory.{Memory, Page, page_at}
use Rattle.isa_model.specs.Instr.{instr}
use Rattle.rv64i_user.specs.Runs.{instrs}

-- the pages of one memory are those of another, which may have more
abbrev pub Extends : Memory → Memory → Type 0
Extends m w = (p : ℕ) (g : Page) → page_at m p ≡ Some g → page_at w p ≡ Some g

-- a fault on a part of the pages is one on all of them: where it names a page, that page is absent there too
abbrev pub FaultIsKnown : Regs → Memory → Memory → Type 0
FaultIsKnown r m w = (l : Lack) → (instr r m).stop ≡ Fault l → page_at w l.page ≡ page_at m l.page

-- an instruction does the same on some pages and on all of them
pub record DoesTheSame (r : Regs) (m w : Memory) : Type 0 where
  pub regs : (instr r w).regs ≡ (instr r m).regs
  pub stop : (instr r w).stop ≡ (instr r m).stop
  pub pages : Extends (instr r m).memory (instr r w).memory
  pub others : (p : ℕ) → page_at m p ≡ None → page_at (instr r w).memory p ≡ page_at w p
  pub kept : (p : ℕ) → page_at w p ≡ page_at m p → page_at (instr r w).memory p ≡ page_at (instr r m).memory p

abbrev pub RunFaultIsKnown : ℕ → Regs → Memory → Memory → Type 0
RunFaultIsKnown n r m w = (l : Lack) → (instrs n r m).stop ≡ Fault l → page_at w l.page ≡ page_at m l.page

-- the same for n instructions
pub record RunsTheSame (n : ℕ) (r : Regs) (m w : Memory) : Type 0 where
  pub regs : (instrs n r w).regs ≡ (instrs n r m).regs
  pub stop : (instrs n r w).stop ≡ (instrs n r m).stop
  pub pages : Extends (instrs n r m).memory (instrs n r w).memory
  pub others : (p : ℕ) → page_at m p ≡ None → page_at (instrs n r w).memory p ≡ page_at w p
  pub kept : (p : ℕ) → page_at w p ≡ page_at m p → page_at (instrs n r w).memory p ≡ page_at (instrs n r m).memory p
