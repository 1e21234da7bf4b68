use Rattle.std.proofs.Common.{◌≡◌, ◌≤◌, ◌<◌, ◌-◌, ℕ, length, true}
use Rattle.std.specs.Prelude.{None, is_some, slice_index_or}
use Rattle.one_files.proofs.descriptors.free_place.Given as goal

abbrev pub invariant-loop-place : goal.invariant-loop-place
invariant-loop-place l = (l.place ≤ length l.slots) × ((i : ℕ) → i < l.place → is_some (slice_index_or l.slots i None) ≡ true)

abbrev pub decreases-loop-place : goal.decreases-loop-place
decreases-loop-place l = length l.slots - l.place
