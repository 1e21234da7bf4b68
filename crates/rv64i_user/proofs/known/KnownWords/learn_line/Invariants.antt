use Rattle.std.proofs.Common.{◌≡◌, ◌≤◌, ◌<◌, ◌*◌, ℕ, Some, slice_index_or}
use Rattle.std.specs.Prelude.{vec_len}
use Rattle.rv64i_user.specs.Lines.{SameElsewhere}
use Rattle.rv64i_user.specs.Places.{word_in}
use Rattle.rv64i_user.specs.declared.slots.Slot.{Slot}
use Rattle.rv64i_user.proofs.known.KnownWords.learn_line.Given as goal

abbrev pub invariant-loop-k : goal.invariant-loop-k
invariant-loop-k l = record {
  long : vec_len l.self.slots ≡ 1024;
  same : SameElsewhere l.fn.self.slots.items l.self.slots.items l.line;
  known : (j : ℕ) (d : Slot) → l.line * 16 ≤ j → j < l.k → (slice_index_or l.self.slots.items j d).word ≡ word_in (Some l.code) (4 * j);
}
