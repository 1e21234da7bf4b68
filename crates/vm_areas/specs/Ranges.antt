-- Ranges of pages that rise and do not meet: one more is covered, or one is taken out.
use Rattle.mck_word.specs.declared.PageRange.{PageRange}
use Rattle.std.specs.Prelude.{List, [], ◌∷◌, ◌++◌, cond, flat_map, max, min, nat_lt, ℕ, ◌<◌, ◌≤◌}

-- the mapped pages, how many ranges more there is room for, and the break
pub record Mapped : Type 0 where
  pub ranges : List PageRange
  pub spare : ℕ
  pub program_break : ℕ

-- the first range begins at `low` or above, and each other one where the one before it ends, or above; none is empty
abbrev pub Rises : ℕ → List PageRange → Type 0
Rises low [] = Unit {0}
Rises low (x ∷ xs) = (low ≤ x.lo) × (x.lo < x.hi) × Rises x.hi xs

abbrev pub range : ℕ → ℕ → PageRange
range lo hi = record { lo = lo; hi = hi }

-- the range, unless it is empty
abbrev pub piece : ℕ → ℕ → List PageRange
piece lo hi = cond (nat_lt lo hi) (range lo hi ∷ []) []

-- what is left of x without r
abbrev pub minus : PageRange → PageRange → List PageRange
minus r x = piece x.lo (min x.hi r.lo) ++ piece (max x.lo r.hi) x.hi

abbrev pub without : PageRange → List PageRange → List PageRange
without r xs = flat_map (minus r) xs

-- the range from the lower beginning to the higher end
abbrev pub joined : PageRange → PageRange → PageRange
joined r x = range (min r.lo x.lo) (max r.hi x.hi)

-- the ranges with one more, which is joined with those that it meets
abbrev pub with_range : PageRange → List PageRange → List PageRange
with_range r [] = r ∷ []
with_range r (x ∷ xs) = cond (nat_lt x.hi r.lo) (x ∷ with_range r xs) (cond (nat_lt r.hi x.lo) (r ∷ x ∷ xs) (with_range (joined r x) xs))
