-- What a trap and what a message leave of the threads.
use Rattle.hybrid_model.specs.Events.{of_thread}
use Rattle.hybrid_model.specs.Globals.{is_number}
use Rattle.kernel_model.specs.Nodes.{Node, is_living}
use Rattle.std.specs.Prelude.{None, Option, Some, cond, false, not, true, ℕ, ◌&&◌, ◌==◌, ◌||◌, ◌≡◌}
use Rattle.thread_laws.specs.Members.{StaysOrGoes, is_in, process_at}

-- the same threads, but that t may be gone
pub record OnlyOwn (t : ℕ) (before after : Node) : Type 0 where
  pub others : (u : ℕ) → (u == t) ≡ false → process_at after u ≡ process_at before u
  pub own : StaysOrGoes t before after

-- After a trap of thread t: it may be gone, and the next number may be that of a thread which is made, in the process of t or as the first one of a process with its number.
pub record TrapThreads (t : ℕ) (before after : Node) : Type 0 where
  pub others : (u : ℕ) → (u == t) ≡ false → (u == before.next_number) ≡ false → process_at after u ≡ process_at before u
  pub own : StaysOrGoes t before after
  pub unmade : process_at before before.next_number ≡ None
  pub made : (q : ℕ) → process_at after before.next_number ≡ Some q → (q == of_thread before t || q == before.next_number) ≡ true

-- After a message for process p: the thread that gets an answer, one of p's, is gone where p doesn't live, and no other.
pub record IntakeThreads (p : ℕ) (answered : Option ℕ) (before after : Node) : Type 0 where
  pub exactly : (u : ℕ) → process_at after u ≡ cond (is_number u answered && not (is_living before p)) None (process_at before u)
  pub others : (u : ℕ) → is_in p (process_at before u) ≡ false → process_at after u ≡ process_at before u
