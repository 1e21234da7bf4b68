-- A node without what no test of a process's actors reads: registers, marks of an interrupted ecall, and counts of instructions.
use Rattle.kernel_model.specs.CloneCalls.{any_selected, ended_child, is_selected, is_selected_end}
use Rattle.kernel_model.specs.Nodes.{Node, Process, Thread, has_ended, has_process, has_thread, is_called, is_there, no_process, no_regs, no_thread, process_of, thread_of}
use Rattle.kernel_model.specs.Steps.{some_called}
use Rattle.kernel_model.specs.Traps.{may_end_wait_of}
use Rattle.mck_word.specs.EachLaws.{at-each}
use Rattle.mck_word.specs.Maps.{at, each, keys}
use Rattle.quiet_laws.proofs.Seen.{first-each, keys-each, some-each}
use Rattle.std.proofs.Common.{ap, refl, sym, ◌∙◌}
use Rattle.std.specs.Prelude.{None, Option, Some, false, is_some, not, option_map, unwrap_or, ℕ, ℤ, ◌&&◌, ◌==◌, ◌||◌, ◌≡◌}

abbrev pub plain_thread : Thread → Thread
plain_thread x = record x { regs = no_regs; back = false }

abbrev pub plain_process : Process → Process
plain_process x = record x { instructions = 0 }

abbrev pub plain : Node → Node
plain node = record node { threads = each plain_thread node.threads; processes = each plain_process node.processes }

-- a map's answer in the other form, and whether there is one
found-seen : {V W : Type 0} (f : V → W) (v : V) (o : Option V) → f (unwrap_or o v) ≡ unwrap_or (option_map f o) (f v)
found-seen f v None = refl
found-seen f v (Some x) = refl

some-seen : {V W : Type 0} (f : V → W) (o : Option V) → is_some o ≡ is_some (option_map f o)
some-seen f None = refl
some-seen f (Some x) = refl

module _ (node : Node) where
  pub thread-plain : (t : ℕ) → plain_thread (thread_of node t) ≡ thread_of (plain node) t
  thread-plain t = found-seen plain_thread no_thread (at node.threads t) ∙ ap (λ o. unwrap_or o no_thread) (sym (at-each plain_thread node.threads t))

  pub process-plain : (p : ℕ) → plain_process (process_of node p) ≡ process_of (plain node) p
  process-plain p = found-seen plain_process no_process (at node.processes p) ∙ ap (λ o. unwrap_or o no_process) (sym (at-each plain_process node.processes p))

  pub has-plain : (t : ℕ) → has_thread node t ≡ has_thread (plain node) t
  has-plain t = some-seen plain_thread (at node.threads t) ∙ ap is_some (sym (at-each plain_thread node.threads t))

  made-plain : (p : ℕ) → has_process node p ≡ has_process (plain node) p
  made-plain p = some-seen plain_process (at node.processes p) ∙ ap is_some (sym (at-each plain_process node.processes p))

  pub there-plain : (p : ℕ) → is_there node p ≡ is_there (plain node) p
  there-plain p = λ i. made-plain p i && not (has_ended (process-plain p i).life)

  pub threads-plain : keys node.threads ≡ keys (plain node).threads
  threads-plain = sym (keys-each plain_thread node.threads)

  -- ---- what is looked for among all processes or threads
  ended-plain : (p : ℕ) (pid : ℤ) → ended_child node p pid ≡ ended_child (plain node) p pid
  ended-plain p pid = first-each plain_process (is_selected_end p pid) node.processes

  selected-plain : (p : ℕ) (pid : ℤ) → any_selected node p pid ≡ any_selected (plain node) p pid
  selected-plain p pid = some-each plain_process (is_selected p pid) node.processes

  pub called-plain : (p : ℕ) → some_called node p ≡ some_called (plain node) p
  called-plain p = some-each plain_thread (λ t (x : Thread). x.process == p && is_called x.does) node.threads

  pub wait-plain : (p : ℕ) (w : Option (ℤ × ℕ)) → may_end_wait_of node p w ≡ may_end_wait_of (plain node) p w
  wait-plain p None = refl
  wait-plain p (Some w) = λ i. is_some (ended-plain p w.0 i) || not (selected-plain p w.0 i)
