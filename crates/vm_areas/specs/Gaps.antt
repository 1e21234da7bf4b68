-- Gaps between mapped pages.
use Rattle.std.specs.Prelude.{Bool, None, Option, Some, false, ℕ, ◌+◌, ◌<◌, ◌≡◌, ◌≤◌}

-- n pages from `low` on lie between the lowest address and the highest end of a gap, and none of them is covered
pub record IsGap (covered : ℕ → Bool) (n low : ℕ) : Type 0 where
  pub from : 0x10 ≤ low
  pub to : low + n ≤ 0x3f00000
  pub free : (p : ℕ) → low ≤ p → p < low + n → covered p ≡ false

-- the first page of the highest gap, if there is a gap
abbrev pub IsHighestGap : (ℕ → Bool) → ℕ → Option ℕ → Type 0
IsHighestGap covered n None = (low : ℕ) → ¬ (IsGap covered n low)
IsHighestGap covered n (Some high) = IsGap covered n high × ((low : ℕ) → IsGap covered n low → low ≤ high)
