use Rattle.mck_word.specs.Maps.{keys}
use Rattle.pair_core.specs.Shown.{pair_of}
use Rattle.pair_node.proofs.pair.Pair.first_between.Given as goal
use Rattle.pair_offers.specs.Seeking.{first_by, is_up_to, thread_number, threads_on}
use Rattle.run_model.specs.Walks.{core_event, is_above_last}
use Rattle.std.specs.Prelude.{filter, length, option_map, ◌≡◌}

abbrev pub invariant-loop-t : goal.invariant-loop-t
invariant-loop-t g l =
    let pair = pair_of g.T.PageTable.rows g.F.FileStore.files l.self.parts in
    first_by (core_event pair l.core) (filter (is_above_last (option_map thread_number l.fn.last)) (filter (is_up_to (option_map thread_number l.end)) (keys pair.node.threads)))
    ≡ first_by (core_event pair l.core) (filter (is_above_last (option_map thread_number l.passed)) (filter (is_up_to (option_map thread_number l.end)) (threads_on pair l.core)))

abbrev pub decreases-loop-t : goal.decreases-loop-t
decreases-loop-t g l = let pair = pair_of g.T.PageTable.rows g.F.FileStore.files l.self.parts in length (filter (is_above_last (option_map thread_number l.passed)) (filter (is_up_to (option_map thread_number l.end)) (threads_on pair l.core)))
