use Rattle.file_tree.specs.Counting.{count_in}
use Rattle.linux_files.specs.Slotted.{slots_name}
use Rattle.std.proofs.Common.{take, ℕ, ◌-◌, ◌≡◌}
use Rattle.linux_files.proofs.names.lower_all.Given as goal

abbrev pub invariant-loop-slot : goal.invariant-loop-slot
invariant-loop-slot l = (d : ℕ) → count_in l.named.counts d ≡ count_in l.initial.named.counts d - slots_name d (take l.slot-index l.slots)
