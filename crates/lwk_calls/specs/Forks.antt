-- A fork that isn't refused, as its caller sees it, and why one is refused.
use Rattle.file_model.specs.Errno.{EAGAIN, ENOMEM}
use Rattle.kernel_model.specs.CloneCalls.{with_child}
use Rattle.kernel_model.specs.LocalCalls.{answers}
use Rattle.kernel_model.specs.Nodes.{most_processes}
use Rattle.kernel_model.specs.Signals.{View, on_node, try_store}
use Rattle.mck_word.specs.Words.{has_bit, little_endian, refused}
use Rattle.std.specs.Prelude.{None, Option, Some, cond, nat_le, nat_lt, pos, ℕ, ℤ}

-- with so many processes, where so many frames are free and the caller has so many pages
abbrev pub fork_refusal : ℕ → ℕ → ℕ → Option ℤ
fork_refusal processes free pages =
    cond (nat_le most_processes processes) (Some (refused EAGAIN))
    (cond (nat_lt free pages) (Some (refused ENOMEM)) None)

-- the child begins, and its parent is told its number
abbrev pub begins_child : ℕ → ℕ → ℕ → ℕ → ℕ → ℕ → View → View
begins_child t flags stack parent_tid tls child_tid v =
    let child = v.node.next_number in
    let told = cond (has_bit 20 flags) (try_store parent_tid (little_endian 4 child) v) v in
    answers t (pos child) (on_node (with_child t child flags stack tls child_tid) told)
