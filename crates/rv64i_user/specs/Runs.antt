-- Several instructions, one after another.
use Rattle.std.specs.Prelude.{ℕ, zero, suc, ◌≡◌, ◌≤◌, ◌+◌}
use Rattle.mck_word.specs.declared.Regs.{Regs}
use Rattle.isa_model.specs.declared.stops.Stop.{Stop}
use Rattle.isa_model.specs.declared.stops.Stop.TheVariants.{On}
use Rattle.isa_model.specs.Memory.{Memory}
use Rattle.isa_model.specs.Instr.{Outcome, outcome, instr}

-- what follows an instruction, unless it stopped
abbrev pub then_on : Stop → (Regs → Memory → Outcome) → Outcome → Outcome
then_on On f o = f o.regs o.memory
then_on _ f o = o

-- at most n instructions, up to and with the first that stops
unfoldable pub instrs : ℕ → Regs → Memory → Outcome
instrs zero r m = outcome r m On
instrs (suc n) r m = then_on (instr r m).stop (instrs n) (instr r m)

-- one more than a count, unless the instruction stopped
abbrev pub then_count : Stop → (Regs → Memory → ℕ) → Outcome → ℕ
then_count On f o = suc (f o.regs o.memory)
then_count _ f o = 0

-- how many of at most n instructions went on, before the first that stops
unfoldable pub count_on : ℕ → Regs → Memory → ℕ
count_on zero r m = 0
count_on (suc n) r m = then_count (instr r m).stop (count_on n) (instr r m)

-- ---- a part of several instructions

-- what is left after a part, unless an instruction stopped
abbrev pub rest_of : Stop → ℕ → Regs → Memory → Outcome
rest_of On n r m = instrs n r m
rest_of s n r m = outcome r m s

abbrev pub rest_count : Stop → ℕ → Regs → Memory → ℕ
rest_count On n r m = count_on n r m
rest_count s n r m = 0

-- n instructions have come to other registers, another memory and a stop, with k of them left
pub record Leads (n : ℕ) (r : Regs) (m : Memory) (k : ℕ) (q : Regs) (w : Memory) (s : Stop) : Type 0 where
  pub few : k ≤ n
  pub did : instrs n r m ≡ rest_of s k q w
  pub count : count_on n r m + k ≡ n + rest_count s k q w
