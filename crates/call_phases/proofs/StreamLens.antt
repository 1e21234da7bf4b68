-- The bytes of ranges that are cut.
use Rattle.call_phases.specs.StreamBytes.{total_len}
use Rattle.kernel_model.specs.Progress.{cut_ranges, without_empty}
use Rattle.kernel_model.specs.declared.ranges.Range.{Range}
use Rattle.std.proofs.Common.{◌≤◌, ◌+◌, ◌-◌, ℕ, Bool, true, false, cond, List, [], ◌∷◌, arith}
use Rattle.std.specs.Prelude.{nat_lt}

pub full-len : (rs : List Range) → total_len (without_empty rs) ≤ total_len rs
full-len [] = omega arith
full-len (r ∷ rs) = go (nat_lt 0 r.len) (full-len rs)
  where
    go : (b : Bool) → total_len (without_empty rs) ≤ total_len rs → total_len (cond b (r ∷ without_empty rs) (without_empty rs)) ≤ r.len + total_len rs
    go true h = omega arith
    go false h = omega arith

pub cut-len : (n : ℕ) (rs : List Range) → total_len (cut_ranges n rs) ≤ n
cut-len n [] = omega arith
cut-len n (r ∷ rs) = let h = cut-len (n - r.len) rs in omega arith
