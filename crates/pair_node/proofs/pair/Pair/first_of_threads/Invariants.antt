use Rattle.hybrid_model.specs.Events.{may}
use Rattle.hybrid_model.specs.declared.events.Event.TheVariants.{BeginVm, Interrupt, Wait}
use Rattle.mck_word.specs.Identifiers.{tid}
use Rattle.pair_core.specs.Shown.{pair_of}
use Rattle.pair_node.proofs.pair.Pair.first_of_threads.Given as goal
use Rattle.pair_offers.proofs.Threads.{left}
use Rattle.pair_offers.specs.Seeking.{begins, interrupts, or_else, thread_number, waits}
use Rattle.run_model.specs.Walks.{is_above_last, thread_numbers}
use Rattle.std.specs.Prelude.{filter, find, length, option_map, ◌≡◌}

abbrev pub invariant-loop-t : goal.invariant-loop-t
invariant-loop-t g l =
    let pair = pair_of g.T.PageTable.rows g.F.FileStore.files l.self.parts in
    let passed = option_map thread_number l.passed in
    record {
      begin : find (may pair) (begins pair l.p) ≡ left pair l.p (λ t. BeginVm (tid t)) passed;
      interrupt : find (may pair) (interrupts pair l.p) ≡ or_else l.interrupt (left pair l.p (λ t. Interrupt (tid t)) passed);
      wait : find (may pair) (waits pair l.p) ≡ or_else l.wait (left pair l.p (λ t. Wait (tid t)) passed);
    }

abbrev pub decreases-loop-t : goal.decreases-loop-t
decreases-loop-t g l = let pair = pair_of g.T.PageTable.rows g.F.FileStore.files l.self.parts in length (filter (is_above_last (option_map thread_number l.passed)) (thread_numbers pair l.p.0))
