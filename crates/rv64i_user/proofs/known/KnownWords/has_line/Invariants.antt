use Rattle.std.proofs.Common.{◌≡◌, ◌≤◌, ◌<◌, ◌*◌, ℕ, Some, slice_index_or}
use Rattle.rv64i_user.specs.Places.{word_in}
use Rattle.rv64i_user.specs.declared.slots.Slot.{Slot}
use Rattle.rv64i_user.proofs.known.KnownWords.has_line.Given as goal

abbrev pub invariant-loop-k : goal.invariant-loop-k
invariant-loop-k l = (j : ℕ) (d : Slot) → l.line * 16 ≤ j → j < l.k → (slice_index_or l.self.slots.items j d).word ≡ word_in (Some l.code) (4 * j)
