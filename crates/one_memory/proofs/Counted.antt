-- No more instructions are executed than were asked for.
use Rattle.isa_model.specs.Instr.{Outcome, instr, outcome}
use Rattle.isa_model.specs.Memory.{Memory}
use Rattle.isa_model.specs.declared.stops.Stop.{Stop}
use Rattle.isa_model.specs.declared.stops.Stop.TheVariants.{Break, Ecall, Fault, Illegal, Misaligned, On}
use Rattle.one_memory.specs.Counts.{executed_count, stopped_one}
use Rattle.mck_word.specs.declared.Regs.{Regs}
use Rattle.rv64i_user.specs.Runs.{count_on, instrs, then_count, then_on}
use Rattle.std.proofs.Common.{arith}
use Rattle.std.specs.Prelude.{suc, zero, ℕ, ◌+◌, ◌≡◌, ◌≤◌}

one-more : (n : ℕ) (s : Stop) (e : Outcome) → executed_count n e.regs e.memory ≤ n → then_count s (count_on n) e + stopped_one (then_on s (instrs n) (outcome e.regs e.memory s)).stop ≤ suc n
one-more n On e h = omega (arith, h)
one-more n Ecall e h = omega arith
one-more n Break e h = omega arith
one-more n Illegal e h = omega arith
one-more n Misaligned e h = omega arith
one-more n (Fault l) e h = omega arith

pub count-below : (n : ℕ) (r : Regs) (m : Memory) → executed_count n r m ≤ n
unfolding instrs count_on
count-below zero r m = omega arith
count-below (suc n) r m = let e = instr r m in one-more n e.stop e (count-below n e.regs e.memory)

-- those that went on, and the one that stopped
pub executed-is : (n : ℕ) (r : Regs) (m : Memory) (o : Outcome) (k : ℕ) → o ≡ instrs n r m → k ≡ count_on n r m → k + stopped_one o.stop ≡ executed_count n r m
executed-is n r m o k did went = (λ i. went i + stopped_one (did i).stop)

pub within : (n : ℕ) (r : Regs) (m : Memory) (o : Outcome) (k s : ℕ) → o ≡ instrs n r m → k ≡ count_on n r m → s ≡ stopped_one o.stop → k + s ≤ n
within n r m o k s did went one = let e = executed-is n r m o k did went in let b = count-below n r m in omega (arith, one, e, b)
