use Rattle.kernel_model.specs.Nodes.{Node as KernelNode, Thread, has_thread, threads_of}
use Rattle.lwk_threads.proofs.Counts.{passing-none}
use Rattle.mck_word.specs.MapLaws.{at-none}
use Rattle.std.proofs.Common.{ap, ◌==◌, ◌∙◌}
use Rattle.std.specs.Prelude.{is_some, length}
use Rattle.rows_calls.proofs.lwk_calls_tests.a_thread_tells_its_numbers.Goals as goal

pub begin_thread-requires-clause-alone : goal.begin_thread-requires-clause-alone
begin_thread-requires-clause-alone g c = λ files.
    ap (λ (k : KernelNode). length (threads_of k 1)) (c.reserve_thread.ensures.node files ∙ c.new-node.ensures files) ∙ passing-none (λ (x : Thread). x.process == 1)

pub begin_thread-requires-clause-unused : goal.begin_thread-requires-clause-unused
begin_thread-requires-clause-unused g c = λ files.
    ap (λ (k : KernelNode). has_thread k 2) (c.reserve_thread.ensures.node files ∙ c.new-node.ensures files) ∙ ap is_some (at-none {V = Thread} 2)
