-- A thread or a process that begins beside its caller.
use Rattle.isa_model.specs.Memory.{Memory}
use Rattle.kernel_model.specs.CloneCalls.{cloned_thread, clones, with_child, with_thread}
use Rattle.kernel_model.specs.Nodes.{Node, answered, thread_of}
use Rattle.kernel_model.specs.Signals.{View, on_node, stored_all, view}
use Rattle.mck_word.specs.Words.{has_bit}
use Rattle.one_calls.proofs.Stores.{tells, tells-memory, tells-node, tells-stored}
use Rattle.one_calls.specs.Words.{begins_child, told}
use Rattle.std.proofs.Common.{ap, refl, ◌∙◌}
use Rattle.std.specs.Prelude.{pos, ℕ, ◌≡◌}

module _ (t flags stack parent_tid tls child_tid : ℕ) (k : Node) (m : Memory) where
  made : View
  made = on_node (with_thread (cloned_thread k (thread_of k t) flags stack tls child_tid)) (view k m)

  pub clones-node : (clones t flags stack parent_tid tls child_tid (view k m)).node ≡ answered t (pos k.next_number) (with_thread (cloned_thread k (thread_of k t) flags stack tls child_tid) k)
  unfolding made
  clones-node =
      let n = k.next_number in
      ap (answered t (pos n)) (tells-node (has_bit 24 flags) child_tid n (tells (has_bit 20 flags) parent_tid n made) ∙ tells-node (has_bit 20 flags) parent_tid n made)

  pub clones-stored : stored_all (clones t flags stack parent_tid tls child_tid (view k m)).stores m ≡ told (has_bit 24 flags) child_tid k.next_number (told (has_bit 20 flags) parent_tid k.next_number m)
  unfolding made
  clones-stored =
      let n = k.next_number in
      tells-stored (has_bit 24 flags) child_tid n (tells (has_bit 20 flags) parent_tid n made) m (tells-memory (has_bit 20 flags) parent_tid n made)
      ∙ ap (told (has_bit 24 flags) child_tid n) (tells-stored (has_bit 20 flags) parent_tid n made m refl)

  pub begins-node : (begins_child t flags stack parent_tid tls child_tid (view k m)).node ≡ answered t (pos k.next_number) (with_child t k.next_number flags stack tls child_tid k)
  begins-node =
      let n = k.next_number in
      ap (λ x. answered t (pos n) (with_child t n flags stack tls child_tid x)) (tells-node (has_bit 20 flags) parent_tid n (view k m))

  pub begins-stored : stored_all (begins_child t flags stack parent_tid tls child_tid (view k m)).stores m ≡ told (has_bit 20 flags) parent_tid k.next_number m
  begins-stored = tells-stored (has_bit 20 flags) parent_tid k.next_number (view k m) m refl
