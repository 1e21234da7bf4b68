-- A change that fits lies in its bounds, whatever the break is.
use Rattle.kernel_model.specs.MemoryCalls.{nothing}
use Rattle.kernel_model.specs.Pages.{page_end, range}
use Rattle.kernel_model.specs.declared.Change.TheVariants.{Brk, Map as ChangeMap, Protect, Unmap}
use Rattle.kernel_model.specs.declared.Change.{Change}
use Rattle.lwk_changes.specs.Conditions.{IsInBounds}
use Rattle.offer_laws.specs.ChangeFits.{ChangeFits}
use Rattle.std.proofs.Common.{arith}
use Rattle.std.specs.Prelude.{Bool, cond, false, nat_lt, true, ℕ, ◌^◌, ◌≤◌}

-- no page, or the pages up to a break
end-of : (b : Bool) (lo a : ℕ) → a ≤ 2 ^ 39 → (cond b nothing (range lo (page_end a))).hi ≤ 2 ^ 27
end-of true lo a l = omega arith
end-of false lo a l = omega (arith, l)

pub in-bounds : (program_break : ℕ) (c : Change) → ChangeFits c → IsInBounds program_break c
in-bounds program_break (ChangeMap r rights) f = record { order = f.0; below = f.1 }
in-bounds program_break (Unmap r) f = record { order = f; below = omega arith }
in-bounds program_break (Protect r rights) f = record { order = f; below = omega arith }
in-bounds program_break (Brk a) f = record { order = tt; below = end-of (nat_lt a program_break) (page_end program_break) a f }
