use Rattle.std.proofs.Common.{◌≡◌, ◌<◌, ℕ, true}
use Rattle.std.specs.Prelude.{None, is_some, slice_index_or}
use Rattle.linux_files.proofs.descriptors.free_place.Given as goal

abbrev pub invariant-loop-place : goal.invariant-loop-place
invariant-loop-place l = (i : ℕ) → i < l.place → is_some (slice_index_or l.slots i None) ≡ true
