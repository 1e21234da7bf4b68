-- The next segment in rising order, and how much is left.
use Rattle.job_model.specs.declared.image.Segment.{Segment}
use Rattle.lwk_boot.specs.Guests.{first_page, last_end, segment_at}
use Rattle.std.specs.Prelude.{List, [], ◌∷◌, cond, length, nat_le, ℕ, ◌+◌, ◌-◌, ◌<◌, ◌≤◌}

-- the segment at the place begins at the page or above, and none of those is below it
pub record IsNext (segments : List Segment) (page k : ℕ) : Type 0 where
  pub inside : k < length segments
  pub low : page ≤ first_page (segment_at segments k)
  pub least : (j : ℕ) → j < length segments → page ≤ first_page (segment_at segments j) → first_page (segment_at segments k) ≤ first_page (segment_at segments j)

-- each segment begins below the page
abbrev pub NoneLeft : List Segment → ℕ → Type 0
NoneLeft segments page = (j : ℕ) → j < length segments → first_page (segment_at segments j) < page

-- each segment that begins below the page ends there or before
abbrev pub AreBefore : List Segment → ℕ → Type 0
AreBefore segments page = (j : ℕ) → j < length segments → first_page (segment_at segments j) < page → last_end (segment_at segments j) ≤ page

-- the weights of the segments from the page on, together
abbrev pub left : (Segment → ℕ) → ℕ → List Segment → ℕ
left weight page [] = 0
left weight page (s ∷ ss) = cond (nat_le page (first_page s)) (weight s) 0 + left weight page ss

abbrev pub one_each : Segment → ℕ
one_each s = 1

abbrev pub pages_each : Segment → ℕ
pages_each s = last_end s - first_page s
