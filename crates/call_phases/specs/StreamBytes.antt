-- How many bytes the streams of a call can still move.
use Rattle.kernel_model.specs.declared.ranges.Range.{Range}
use Rattle.kernel_model.specs.CallPhases.{Phase, Gather, Act, Scatter, Stream, most_moved}
use Rattle.std.specs.Prelude.{ℕ, ◌+◌, List, [], ◌∷◌}

abbrev pub total_len : List Range → ℕ
total_len [] = 0
total_len (r ∷ rs) = r.len + total_len rs

-- the bytes of the streams that are left, and as many as a stream may have for each phase that gathers, which may read its vectors
abbrev pub most_left : List Phase → ℕ
most_left [] = 0
most_left (Gather rs ∷ phases) = most_moved + most_left phases
most_left (Act ∷ phases) = most_left phases
most_left (Scatter rs ∷ phases) = most_left phases
most_left (Stream rs ∷ phases) = total_len rs + most_left phases
