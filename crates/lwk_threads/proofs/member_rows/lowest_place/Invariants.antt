use Rattle.std.proofs.Common.{◌-◌, ◌≡◌, false, not}
use Rattle.mck_word.specs.Lists.{count_from}
use Rattle.std.specs.Prelude.{find, slice_index_or}
use Rattle.lwk_threads.proofs.member_rows.lowest_place.Given as goal

abbrev pub invariant-loop-n : goal.invariant-loop-n
invariant-loop-n l = find (λ n. not (slice_index_or l.group.taken n false)) (count_from 0 l.group.live) ≡ find (λ n. not (slice_index_or l.group.taken n false)) (count_from l.n (l.group.live - l.n))
